-- The end of a journal, before its name is read (own).
use Rattle.std.specs.Prelude.{◌≡◌, ℕ, ◌+◌, ◌-◌, ◌≤◌, List, length, drop}
use Rattle.sqval.specs.Bytes.{word}
use Rattle.sqjournal.specs.Header.{magic}

-- the last bytes are the magic
abbrev pub Ends : List ℕ → Type 0
Ends b = drop (length b - 8) b ≡ magic

-- a name of so many bytes fits before its length, its sum and the magic
pub record HasLength (b : List ℕ) (n : ℕ) : Type 0 where
  pub some : 1 ≤ n
  pub most : n ≤ 512
  pub within : n + 16 ≤ length b
  pub is : word b (length b - 16) ≡ n
  pub ends : Ends b
