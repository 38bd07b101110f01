-- Sources of pages (own).
use Rattle.std.specs.Prelude.{ℕ, zero, suc, List, [], ◌∷◌, take, drop}
use Rattle.sqval.specs.Database.{Database}

-- the first n pages of so many bytes
abbrev pub sliced : (size n : ℕ) → List ℕ → Database
sliced size zero bytes = []
sliced size (suc n) bytes = take size bytes ∷ sliced size n (drop size bytes)
