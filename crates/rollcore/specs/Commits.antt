-- What the steps of a commit promise one another (fileformat2, 3; segments are own).
use Rattle.std.specs.Prelude.{◌≡◌, ◌≢◌, ◌⊎◌, ℕ, ◌<◌, ◌≤◌, false, Result, Err, List, length, take, get_or, None, OnOk}
use Rattle.std.specs.List.{Contains}
use Rattle.sqval.specs.Database.{Pages, supplied}
use Rattle.sqval.specs.Answers.{Done}
use Rattle.crashdisk.specs.Call.{DiskState}
use Rattle.rollcore.specs.Fits.{FitsCore, Takes}
use Rattle.rollcore.specs.Refusal.{number_of}
use Rattle.rollcore.specs.Replaying.{zeroed}
use Rattle.crashdisk.specs.Keeps.{IsLogDurable}
use Rattle.sqjournal.specs.Journal.{Sizes}
use Rattle.rollcore.specs.Journaling.{sizes, HasParts, parts_of}
use Rattle.rollcore.specs.Machine.{State, Commits, recorded, segments_of}
use Rattle.rollcore.specs.declared.state.Core.{Core}
use Rattle.rollcore.specs.declared.error.RollError.{RollError}
use Rattle.rollcore.specs.declared.error.RollError.TheVariants.{Closed, Device}
use Rattle.recovery.specs.Moments.{answered}
use Rattle.recovery.specs.Histories.{newest}

-- what a core holds but its buffers stays, and so does the room of its header
pub record KeepsCore (old new : Core) : Type 0 where
  pub page_size : new.page_size ≡ old.page_size
  pub is_open : new.is_open ≡ old.is_open
  pub size : new.size ≡ old.size
  pub header_room : length new.header.items ≡ length old.header.items

-- The log is a journal of segments that have these nonces, each with its records, in order, but for 28 zeros over its first
-- header, and it is durable.
abbrev pub LeavesParts : Sizes → (parts : List (ℕ × Pages)) → DiskState → Type 0
LeavesParts z parts s = (place : ℕ) × (w : List ℕ) × HasParts z w place parts × IsLogDurable s (zeroed w)

-- these are the pages of a database of so many that a commit writes or cuts off, rising
pub record AreChanged (pages : Pages) (old_size size : ℕ) (numbers : List ℕ) : Type 0 where
  pub rising : (i j : ℕ) → i < j → j < length numbers → get_or numbers i 0 < get_or numbers j 0
  pub each : (p : ℕ) → Contains numbers p → (1 ≤ p) × (p ≤ old_size) × ((supplied pages p ≢ None) ⊎ (size < p))
  pub all : (p : ℕ) → 1 ≤ p → p ≤ old_size → (supplied pages p ≢ None) ⊎ (size < p) → Contains numbers p
  pub count : length numbers ≡ recorded pages old_size size

-- A commit that is done to a database of the history takes its nonces in order: of its segments s has nonce s. They hold
-- the old contents of the pages that it writes or cuts off, rising, each 64 of them but the last, which has the rest.
abbrev pub TakesNonces : {T : Type 0} → State → Pages → (size : ℕ) → (nonces : List ℕ) → Result T RollError → (old new : DiskState) → Type 0
TakesNonces past pages size nonces result old new =
    OnOk result ((numbers : List ℕ) × AreChanged pages (length (newest past.history)) size numbers
    × LeavesParts (sizes old.sector past.page_size) (parts_of (newest past.history) numbers (take (segments_of (length numbers)) nonces)) new)

-- Whether its disk keeps its word or not, Device closes an engine; one that was closed answers Closed, and nothing changes.
pub record ClosesOnDevice {T D : Type 0} (result : Result T RollError) (core_old core_new : Core) (old new : D) : Type 0 where
  pub device : result ≡ Err Device → core_new.is_open ≡ false
  pub closed : core_old.is_open ≡ false → (result ≡ Err Closed) × (core_new ≡ core_old) × (new ≡ old)

-- A commit takes a core from state to state of the disk, by a row of the machine. Where it is done, segment s of the journal
-- has nonce s, and the old contents of the next 64 pages.
pub record CommitsPages {T : Type 0} (pages : Pages) (size : ℕ) (nonces : List ℕ) (result : Result T RollError) (old new : Core) (before after : DiskState) : Type 0 where
  pub step : Takes (Commits pages size nonces) (answered number_of (λ _. Done) result) old new before after
  pub taken : (past : State) → FitsCore past old before → TakesNonces past pages size nonces result before after
