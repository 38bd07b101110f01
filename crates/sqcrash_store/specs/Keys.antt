-- The numbers by which images are told apart (own).
use Rattle.std.specs.Prelude.{ℕ, List, [], ◌∷◌, fold, Option, Some, None}
use Rattle.std.specs.Hash.FoldHasher.{initial, write, finish}
use Rattle.std.specs.declared.hash.FoldHasher.{FoldHasher}

-- with what one name more shows: 0, or 1 and the bytes
abbrev pub hashed : FoldHasher → Option (List ℕ) → FoldHasher
hashed h None = write h (0 ∷ [])
hashed h (Some bytes) = write (write h (1 ∷ [])) bytes

-- what std's hasher makes of what the names show, one after the other
abbrev pub key_of : List (Option (List ℕ)) → ℕ
key_of image = finish (fold hashed initial image)
