-- Names without their quotes (`sqlite3Dequote`).
use Rattle.std.specs.Prelude.{ℕ, ◌==◌, ◌||◌, cond, not, if◌then◌else◌, List, [], ◌∷◌, take_while}

-- the text between quotes, each doubled quote once
abbrev pub unquoted : (quote : ℕ) → List ℕ → List ℕ
unquoted q [] = []
unquoted q (x ∷ []) = cond (x == q) [] (x ∷ [])
unquoted q (x ∷ y ∷ s) = cond (x == q) (cond (y == q) (x ∷ unquoted q s) []) (x ∷ unquoted q (y ∷ s))

-- the name that a token is: the text between its quotes, or all of it
abbrev pub name_of : List ℕ → List ℕ
name_of [] = []
name_of (q ∷ s) =
    if q == 34 || q == 96 || q == 39 then unquoted q s
    else (if q == 91 then take_while (λ b. not (b == 93)) s
    else q ∷ s)
