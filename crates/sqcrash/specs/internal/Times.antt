-- How long a run took (own).
use Rattle.std.specs.Prelude.{ℕ, ◌/◌, ◌%◌, List, ◌++◌, codes}
use Rattle.std.specs.Fmt.{decimal}

-- the line of how long it took, in milliseconds, and how many images there were, without its end
abbrev pub time_text : (millis images : ℕ) → List ℕ
time_text millis images =
    codes "time: " ++ (decimal (millis / 1000) ++ (codes "." ++ (decimal (millis / 100 % 10) ++ (decimal (millis / 10 % 10) ++ (decimal (millis % 10) ++ (codes " s, " ++ (decimal images ++ codes " images")))))))
