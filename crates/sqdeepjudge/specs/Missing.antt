-- Which page of a database is missing: its log doesn't have it, and its file hasn't all of it (own).
use Rattle.std.specs.Prelude.{◌≡◌, ◌⊎◌, ℕ, ◌*◌, ◌<◌, ◌≤◌, List, slice_get, Option, Some, None}
use Rattle.sqwal.specs.Frames.{page_of}
use Rattle.sqjournal.specs.Journal.{IsHot}
use Rattle.sqjournal.specs.Took.{Says}
use Rattle.sqjournal.specs.declared.reading.Record.{Record}
use Rattle.sqjournal.specs.declared.replay.Stop.{Stop}
use Rattle.sqview.specs.Laid.{place_of}
use Rattle.sqview.specs.LogView.{IsLogged}
use Rattle.sqview.specs.declared.view.View.{View}
use Rattle.sqdeepjudge.specs.declared.verdict.Damage.TheVariants.{Cut}
use Rattle.sqdeepjudge.specs.declared.verdict.DeepVerdict.{DeepVerdict}
use Rattle.sqdeepjudge.specs.declared.verdict.DeepVerdict.TheVariants.{Damaged}

-- One of the frames 1 to m of a write-ahead log holds page p (fileformat2, 4.1).
pub record IsInFrames (size : ℕ) (w : List ℕ) (m p : ℕ) : Type 0 where
  pub frame : ℕ
  pub first : 1 ≤ frame
  pub within : frame ≤ m
  pub holds : page_of size w frame ≡ p

-- A valid record of a journal holds page p (fileformat2, 3).
pub record IsInRecords (journal : List ℕ) (p : ℕ) : Type 0 where
  pub records : List Record
  pub stop : Stop
  pub says : Says journal records stop
  pub place : ℕ
  pub it : Record
  pub is : slice_get records place ≡ Some it
  pub holds : it.page ≡ p

-- The current log has page p: a hot journal, or a write-ahead log up to its front.
abbrev pub IsInLog : (size : ℕ) → (wal journal : List ℕ) → (p : ℕ) → Type 0
IsInLog size wal journal p = (IsHot journal × IsInRecords journal p) ⊎ ((front : ℕ) × IsLogged wal journal front × IsInFrames size wal front p)

-- Page p is missing: the log doesn't have it, and a file of so many bytes hasn't all of it.
abbrev pub IsMissing : (InLog : ℕ → Type 0) → (size long p : ℕ) → Type 0
IsMissing InLog size long p = (¬ InLog p) × (long < p * size)

-- a page of a view is
abbrev pub IsMissingOf : {F : Type 0} → View F → (long p : ℕ) → Type 0
IsMissingOf v long p = (place_of v.places.items p ≡ 0) × (long < p * v.page_size)

-- the least of the pages 1 to n of which this holds, if there is one
abbrev pub IsLeast : (Holds : ℕ → Type 0) → (n : ℕ) → Option ℕ → Type 0
IsLeast Holds n None = (p : ℕ) → 1 ≤ p → p ≤ n → ¬ Holds p
IsLeast Holds n (Some p) = (1 ≤ p) × (p ≤ n) × Holds p × ((q : ℕ) → 1 ≤ q → q < p → ¬ Holds q)

-- the page that a deep check finds missing, where that is the fault
abbrev pub cut_of : DeepVerdict → Option ℕ
cut_of (Damaged (Cut p)) = Some p
cut_of _ = None

-- That fault is found of the least page that is missing, and no other is found if there is one.
abbrev pub FindsCut : (Missing : ℕ → Type 0) → (n : ℕ) → DeepVerdict → Type 0
FindsCut Missing n verdict = IsLeast Missing n (cut_of verdict)
