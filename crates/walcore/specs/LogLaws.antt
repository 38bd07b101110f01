-- What is made of logs in a run (own).
use Rattle.std.specs.Prelude.{◌≡◌, ℕ, ◌^◌, ◌<◌, Bool, true, List, [], ◌∷◌, length, get_or}
use Rattle.sqval.specs.Bytes.{AreBytes}
use Rattle.sqwal.specs.Log.{IsLog}
use Rattle.walcore.specs.Machine.{Act, Opens, Commits, Restarts}
use Rattle.walcore.specs.Making.{Made}

-- a log of bytes, which has a frame where a commit isn't synced
pub record IsInForce (size : ℕ) (unsynced : Bool) (e : List ℕ) : Type 0 where
  pub bytes : AreBytes e
  pub log : (n : ℕ) × IsLog size e n
  pub frame : unsynced ≡ true → 32 < length e

-- where logs were made, the newest is one
abbrev pub HasNewest : (size : ℕ) → Made → Type 0
HasNewest size made = (e : List ℕ) (rest : List (List ℕ)) → made.logs ≡ e ∷ rest → IsInForce size made.unsynced e

-- numbers of 32 bits, and pages of bytes
abbrev pub AreWords : Act → Type 0
AreWords (Opens salts found) = (salts.0 < 2 ^ 32) × (salts.1 < 2 ^ 32)
AreWords (Restarts salt2) = salt2 < 2 ^ 32
AreWords (Commits pages size) = (size < 2 ^ 32) × ((k : ℕ) → k < length pages → ((get_or pages k (0, [])).0 < 2 ^ 32) × AreBytes (get_or pages k (0, [])).1)
AreWords _ = Unit {0}
