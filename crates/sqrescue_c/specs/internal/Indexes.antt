-- What is read of an index (own).
use Rattle.std.specs.Prelude.{ℕ, ◌≤◌, List, length, take, Option, Some, None}
use Rattle.sqlocks.specs.Index.{IsIndex, IsIndexOf}
use Rattle.sqlocks.specs.declared.index.IndexHead.{IndexHead}

-- what the first 136 bytes say; none where there are fewer, or they begin with no valid header
abbrev pub HeadAnswer : List ℕ → Option IndexHead → Type 0
HeadAnswer index None = 136 ≤ length index → ¬ IsIndex (take 136 index)
HeadAnswer index (Some head) = (136 ≤ length index) × IsIndexOf (take 136 index) head
