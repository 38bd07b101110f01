-- The commits of a write-ahead log, as a caller has them.
use Rattle.std.specs.Prelude.{◌≡◌, ◌⊎◌, ℕ, ◌+◌, ◌<◌, ◌≤◌, List, ◌∷◌, length, get_or}
use Rattle.sqval.specs.Database.{Database}
use Rattle.sqwal.specs.Commits.{AreCommits}
use Rattle.sqwal.specs.Frames.{size_of, IsFront}
use Rattle.sqwal.specs.Header.{named_size}
use Rattle.history.specs.Past.{IsUnknown}
use Rattle.sqpast.specs.Past.{ShowsAt}
use Rattle.sqrescue_c.specs.declared.commits.Commit.{Commit}

-- so many commits
pub record HasCommits (w : List ℕ) (n : ℕ) : Type 0 where
  pub ends : List ℕ
  pub are : AreCommits (named_size w) w ends
  pub counted : length ends ≡ n

-- a commit that ends at frame m, and has the frames behind another one
pub record IsCommitOf (w : List ℕ) (before m : ℕ) (commit : Commit) : Type 0 where
  pub frame : commit.frame ≡ m
  pub frames : before + commit.frames ≡ m
  pub pages : commit.pages ≡ size_of (named_size w) w m

-- n commits by the frames that end them, of which the first one has all frames up to its last
abbrev pub AreCommitsOf : (w : List ℕ) (n : ℕ) (ends : List ℕ) → List Commit → Type 0
AreCommitsOf w n ends commits = (i : ℕ) (d : Commit) → i < n → IsCommitOf w (get_or (0 ∷ ends) i 0) (get_or ends i 0) (get_or commits i d)

-- the array begins with the n commits of the log, rising
pub record BeginsWithCommits (w : List ℕ) (n : ℕ) (commits : List Commit) : Type 0 where
  pub ends : List ℕ
  pub are : AreCommits (named_size w) w ends
  pub counted : length ends ≡ n
  pub long : n ≤ length commits
  pub each : AreCommitsOf w n ends commits

-- 1: the database at commit frame m is known; 0: the file may have been two that have different databases there
abbrev pub IsKnownBy : (db w : List ℕ) (front m number : ℕ) → Type 0
IsKnownBy db w front m number =
    ((number ≡ 1) × (d : Database) × ShowsAt front m (named_size w) db w d) ⊎ ((number ≡ 0) × (m < front) × IsUnknown (named_size w) w front db m)

-- the array begins with such a number of each of the n commits, rising
pub record BeginsWithKnown (db w : List ℕ) (n : ℕ) (known : List ℕ) : Type 0 where
  pub ends : List ℕ
  pub are : AreCommits (named_size w) w ends
  pub counted : length ends ≡ n
  pub long : n ≤ length known
  pub front : ℕ
  pub is_front : IsFront (named_size w) w front
  pub each : (i : ℕ) → i < n → IsKnownBy db w front (get_or ends i 0) (get_or known i 0)
