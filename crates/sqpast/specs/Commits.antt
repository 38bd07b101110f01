-- For which commits of a log the database is known.
use Rattle.std.specs.Prelude.{◌≡◌, ℕ, ◌-◌, ◌<◌, ◌≤◌, IsTrue, Bool, false, List, length, get_or}
use Rattle.sqval.specs.Database.{Database}
use Rattle.sqwal.specs.Frames.{IsCommit}
use Rattle.history.specs.Past.{IsUnknown}
use Rattle.sqpast.specs.Past.{ShowsAt}

-- By frame, from 1: whether it ends a commit, and the database there is known. Otherwise the file may have been two that
-- have different databases there.
pub record AreKnown (size : ℕ) (w : List ℕ) (front : ℕ) (file : List ℕ) (known : List Bool) : Type 0 where
  pub long : length known ≡ front
  pub yes : (m : ℕ) → 1 ≤ m → m ≤ front → IsTrue (get_or known (m - 1) false) → IsCommit size w m × ((d : Database) × ShowsAt front m size file w d)
  pub no : (m : ℕ) → 1 ≤ m → m ≤ front → IsCommit size w m → ¬ IsTrue (get_or known (m - 1) false) → (m < front) × IsUnknown size w front file m

-- no commit after this frame is known
abbrev pub NoneIsKnown : (known : List Bool) (after : ℕ) → Type 0
NoneIsKnown known after = (m : ℕ) → after < m → m ≤ length known → ¬ IsTrue (get_or known (m - 1) false)

-- the first one after it that is
pub record IsFirstKnown (known : List Bool) (after m : ℕ) : Type 0 where
  pub later : after < m
  pub within : m ≤ length known
  pub found : IsTrue (get_or known (m - 1) false)
  pub before : (k : ℕ) → after < k → k < m → ¬ IsTrue (get_or known (k - 1) false)
