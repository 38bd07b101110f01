-- The commits of a log between two of them, and the first at which the database is known.
use Rattle.std.specs.Prelude.{◌≡◌, ◌⊎◌, ℕ, ◌<◌, Bool, false, not, cond, nat_lt, List, Option, Some, None, MatchOption}
use Rattle.std.specs.List.{filter}
use Rattle.sqval.specs.Database.{Database}
use Rattle.sqval.specs.Limits.{Bounds}
use Rattle.sqwal.specs.Commits.{AreCommits}
use Rattle.sqwal.specs.Header.{named_size}
use Rattle.sqwal.specs.Frames.{IsCommit}
use Rattle.sqpast.specs.Commits.{AreKnown, IsFirstKnown, NoneIsKnown}
use Rattle.sqpast.specs.Files.{PastRefusedWithin, PastViews}
use Rattle.sqpast.specs.declared.past_error.PastError.{PastError}
use Rattle.sqpast.specs.declared.past_error.PastError.TheVariants.{CommitOverwritten, Refused}
use Rattle.sqview.specs.declared.view_error.ViewError.{ViewError}
use Rattle.cli_history.specs.declared.files.Files.{Files}

-- a frame is behind the first one, and not behind the last one, where one is named
abbrev pub is_between : (from : ℕ) → (to : Option ℕ) → (frame : ℕ) → Bool
is_between from None frame = nat_lt from frame
is_between from (Some last) frame = cond (nat_lt from frame) (not (nat_lt last frame)) false

-- those of a log's commits that are
abbrev pub AreBetween : (size : ℕ) → (w : List ℕ) → (from : ℕ) → (to : Option ℕ) → (list : List ℕ) → Type 0
AreBetween size w from to list = (all : List ℕ) × AreCommits size w all × (list ≡ filter (is_between from to) all)

-- the databases before this commit, 0 among them, may have been changed by later checkpoints
abbrev pub AreOverwritten : (limits : Bounds) → Files (List ℕ) → (first : ℕ) → Type 0
AreOverwritten limits files first = (m : ℕ) → m < first → (m ≡ 0) ⊎ IsCommit (named_size files.wal) files.wal m
    → PastRefusedWithin limits m files.db files.wal files.journal CommitOverwritten

-- this is the first one that is known
pub record IsFirstShown (limits : Bounds) (files : Files (List ℕ)) (first : ℕ) : Type 0 where
  pub shown : (size : ℕ) × (d : Database) × PastViews first size files.db files.wal files.journal d
  pub before : AreOverwritten limits files first

-- this is the first commit behind a frame that is known, if there is one
abbrev pub IsNextKnown : (w : List ℕ) → (front : ℕ) → (file : List ℕ) → (after : ℕ) → (next : Option ℕ) → Type 0
IsNextKnown w front file after next =
    (known : List Bool) × AreKnown (named_size w) w front file known × MatchOption next (NoneIsKnown known after) (IsFirstKnown known after)

-- why the first one isn't found; never that each one may have been changed
abbrev pub IsNoneShown : (limits : Bounds) → Files (List ℕ) → PastError → Type 0
IsNoneShown limits files error =
    (cause : ViewError) × (error ≡ Refused cause) × PastRefusedWithin limits 0 files.db files.wal files.journal (Refused cause)
