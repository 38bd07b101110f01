-- A test of equal words answers as the definition does.
use Rattle.std.proofs.Common.{◌≡◌, ◌↔◌, ℕ, Bool, IsTrue, List, map}
use Rattle.std.specs.Char.{to_ascii_lowercase}
use Rattle.std.specs.Str.{bytes_eq}
use Rattle.std.proofs.lemmas.Slice.Eq.{bytes_eq-Decides}
use Rattle.std.proofs.lemmas.Bool.Decides.{same_from_decides}
use Rattle.schema_tokens.specs.Keywords.{is_same_word}

pub from_equal : (a b : List ℕ) (r : Bool) → (IsTrue r ↔ (map to_ascii_lowercase a ≡ map to_ascii_lowercase b)) → r ≡ is_same_word a b
unfolding is_same_word
from_equal a b r h =
    same_from_decides r (bytes_eq (map to_ascii_lowercase a) (map to_ascii_lowercase b)) h
    (bytes_eq-Decides (map to_ascii_lowercase a) (map to_ascii_lowercase b))
