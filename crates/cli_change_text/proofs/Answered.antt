-- What follows of an answer.
use Rattle.std.proofs.Common.{◌≡◌, ◌++◌, ℕ, List, Option, OnOk, Result, Ok, Err, refl}
use Rattle.std.specs.Io.KnownBytes.{Appends}
use Rattle.std.proofs.KnownBytes.{Appends-trans}

pub on_ok : {T E : Type 0} (answer : Result T E) (P Q : Type 0) → (P → Q) → OnOk answer P → OnOk answer Q
on_ok (Ok _) P Q follows p = follows p
on_ok (Err _) P Q follows p = tt

-- what was written behind other bytes
pub behind : {T E : Type 0} (answer : Result T E) (P : List ℕ → Type 0) (old mid new : Option (List ℕ)) (before : List ℕ) → Appends old mid before
    → OnOk answer ((own : List ℕ) × P own × Appends mid new own)
    → OnOk answer ((t : List ℕ) × ((own : List ℕ) × P own × (t ≡ before ++ own)) × Appends old new t)
behind (Ok _) P old mid new before first w = (before ++ w.0, (w.0, w.1, refl), Appends-trans old mid new before w.0 first w.2)
behind (Err _) P old mid new before first w = tt
