-- A file is ended at a length at once, in each of its values (own).
use Rattle.std.specs.Prelude.{◌≡◌, ℕ, ◌*◌, ◌<◌, min, Bool, cond, nat_lt, List, length, get_or, take}
use Rattle.crashdisk.specs.State.{Value, Same, FileState, IsImage, IsSound}
use Rattle.crashdisk.specs.Call.{DiskState}

-- the value that ends at n: zeros stand behind that
abbrev pub ended : (n : ℕ) → Value → Value
ended n v i = cond (nat_lt i n) (v i) 0

-- A file that was ended at n bytes: each value of a sector that begins below n ends there, and the others have no earlier values.
pub record IsEnded (sector n : ℕ) (old new : FileState) : Type 0 where
  pub count : (k : ℕ) → length (new.earlier k) ≡ cond (nat_lt (k * sector) n) (length (old.earlier k)) 0
  pub each : (k j : ℕ) (v : Value) → j < length (new.earlier k) → Same sector k (get_or (new.earlier k) j v) (ended n (get_or (old.earlier k) j v))
  pub present : (i : ℕ) → new.present i ≡ ended n old.present i
  pub len : new.len ≡ min old.len n
  pub least : new.least ≡ min old.least n
  pub greatest : new.greatest ≡ min old.greatest n

-- the database of a disk was ended so, and nothing else changed
pub record EndsDb (n : ℕ) (old new : DiskState) : Type 0 where
  pub db : IsEnded old.sector n old.db new.db
  pub rest : new ≡ record old { db = new.db }

-- Each image of a file that was ended at n is one of the file before it, of which no more than n bytes are left.
abbrev pub EndsEachImage : Type 0
EndsEachImage = (sector n : ℕ) (tears : Bool) (old new : FileState) (c : List ℕ) → IsSound sector old → IsEnded sector n old new → IsImage sector tears new c
    → (whole : List ℕ) × IsImage sector tears old whole × (c ≡ take n whole)
