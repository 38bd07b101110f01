-- What the calls of a commit do to a disk, in one record each (fileformat2, 3; segments are own).
use Rattle.std.specs.Prelude.{◌≡◌, ◌⊎◌, ℕ, ◌+◌, ◌*◌, ◌<◌, ◌≤◌, List, ◌++◌, length, get_or, take, None, Some, Result, OnOk}
use Rattle.std.specs.List.{All}
use Rattle.sqval.specs.CommitFaults.{most_bytes}
use Rattle.sqval.specs.Database.{Database, apply}
use Rattle.sqval.specs.Held.{IsHeld}
use Rattle.sqval.specs.JudgedPages.{lent}
use Rattle.sqjournal.specs.declared.header.JournalHeader.{JournalHeader}
use Rattle.crashdisk.specs.Call.{DiskState}
use Rattle.crashdisk.specs.Keeps.{Suits, IsLogDurable}
use Rattle.rollcore.specs.Changes.{MayReplay, MayCommit, Asks}
use Rattle.rollcore.specs.Commits.{KeepsCore, LeavesParts}
use Rattle.rollcore.specs.internal.Commits.{Lent, IsReady, AreChanges, ArePlaced, AreWithin, PutAnswer, change_at}
use Rattle.rollcore.specs.Fits.{Rests}
use Rattle.rollcore.specs.Journaling.{sizes, parts_of}
use Rattle.rollcore.specs.internal.Journaling.{IsHeaderOf}
use Rattle.rollcore.specs.Machine.{segments_of, segment_records, refusal_of}
use Rattle.rollcore.specs.Replaying.{zeroed}
use Rattle.rollcore.specs.internal.Segments.{Recording, Prepared, Journaled, RecordStep, RecordsAnswer, PreparedAnswer, HeaderAnswer, PageStep, ArePut, pages_of, AreFresh, AreTurned, AreSome, AreOf, PutPagesAnswer, new_numbers, SegmentAnswer, Parted, PartAnswer, SegmentsAnswer}
use Rattle.rollcore.specs.declared.changes.Change.{Change}
use Rattle.rollcore.specs.declared.parts.Part.{Part}
use Rattle.rollcore.specs.declared.state.Core.{Core}
use Rattle.rollcore.specs.declared.error.RollError.{RollError}

-- ---- What the calls are given.

-- no change is of page 0
abbrev pub AreNumbered : List Change → Type 0
AreNumbered changes = (i : ℕ) → i < length changes → 1 ≤ (change_at changes i).page

-- their contents are among so many pages
abbrev pub AreAmong : (count : ℕ) → List Change → Type 0
AreAmong count changes = (i k : ℕ) → i < length changes → (change_at changes i).content ≡ Some k → k < count

-- the changes of a segment of a commit of these pages
pub record ArePart (changes : List Change) (pages : Lent) : Type 0 where
  pub few : length changes ≤ segment_records
  pub some : AreNumbered changes
  pub within : AreAmong (length pages) changes
  pub short : All (λ x. length x.1.now ≤ 65536) pages

-- a core and its disk between two commits, where the database is d
pub record RestsAt (core : Core) (d : Database) (s : DiskState) : Type 0 where
  pub suits : Suits core.page_size s
  pub held : IsHeld core.page_size d
  pub size : length d ≡ core.size
  pub header_room : length core.header.items ≡ s.sector
  pub rests : Rests core.page_size d s

-- a core keeps what it holds, and the changes that are listed
pub record KeepsChanges (old new : Core) : Type 0 where
  pub keeps : KeepsCore old new
  pub changes : new.changes ≡ old.changes

-- ---- The journal.

-- a page of the database is copied to a record at a place of the journal
pub record WritesRecord {T : Type 0} (size page nonce at : ℕ) (result : Result T RollError) (old new : DiskState) : Type 0 where
  pub asks : (sector : ℕ) → Asks (MayCommit size sector) result old new
  pub step : page * size ≤ most_bytes → RecordStep size page nonce at result old new

-- the pages of these changes are copied to records, from a place of the journal on
pub record WritesRecords (size at nonce : ℕ) (changes : List Change) (result : Result ℕ RollError) (old new : DiskState) : Type 0 where
  pub asks : (sector : ℕ) → Asks (MayCommit size sector) result old new
  pub records : (sector : ℕ) (d : Database) (named : List ℕ) (place : ℕ) (w : List ℕ) → Recording size sector d named place w old → at ≡ place + sector
      → AreFresh d named (pages_of changes) → RecordsAnswer size sector d named place w (pages_of changes) nonce result old new

-- the records of a segment are made durable, behind the place of its header
pub record PreparesSegment (size sector nonce place : ℕ) (changes : List Change) (result : Result ℕ RollError) (old new : DiskState) : Type 0 where
  pub asks : Asks (MayCommit size sector) result old new
  pub prepared : (d : Database) (named w : List ℕ) → Journaled size sector d named place w old → AreFresh d named (pages_of changes)
      → (place ≡ 0) ⊎ (1 ≤ length changes) → PreparedAnswer size sector d named place w (pages_of changes) nonce result old new

-- the header of a segment is made durable, filled up to so many bytes
pub record WritesHeader {T : Type 0} (long place : ℕ) (head : JournalHeader) (result : Result T RollError) (old new : DiskState) : Type 0 where
  pub asks : long ≡ head.sector → (size : ℕ) → Asks (MayCommit size head.sector) result old new
  pub header : (size sector : ℕ) (d : Database) (named part w : List ℕ) (nonce : ℕ) → Prepared size sector d named place part nonce w old → long ≡ sector
      → length part ≤ segment_records → IsHeaderOf size sector d part nonce head → HeaderAnswer size sector d named place w part nonce result old new

-- ---- The database.

-- a page is written to its place
pub record PutsPage {T : Type 0} (number : ℕ) (content : List ℕ) (result : Result T RollError) (old new : DiskState) : Type 0 where
  pub asks : number * length content ≤ most_bytes → Asks (MayReplay (length content)) result old new
  pub step : PageStep number content result old new

-- the pages of these changes are written, once they are in the journal
pub record PutsPages {T : Type 0} (changes : List Change) (pages : Lent) (result : Result T RollError) (old new : DiskState) : Type 0 where
  pub asks : (size : ℕ) → ArePlaced size pages → AreWithin size changes → Asks (MayReplay size) result old new
  pub put : (size sector : ℕ) (d e : Database) (named : List ℕ) (place : ℕ) (w before : List ℕ) → Journaled size sector d named place w old → 0 < place
      → AreTurned size e named (lent pages) changes → AreSome before → ArePut size e before old.db
      → PutPagesAnswer size sector d e named place w (before ++ pages_of changes) result old new

-- the pages are written that a database of so many doesn't have
pub record PutsNewPages {T : Type 0} (pages : Lent) (old_size : ℕ) (result : Result T RollError) (old new : DiskState) : Type 0 where
  pub asks : (size : ℕ) → ArePlaced size pages → Asks (MayReplay size) result old new
  pub put : (size sector : ℕ) (d e : Database) (named : List ℕ) (place : ℕ) (w before : List ℕ) → Journaled size sector d named place w old → 0 < place
      → old_size ≡ length d → AreOf size e (lent pages) → AreSome before → ArePut size e before old.db
      → PutPagesAnswer size sector d e named place w (before ++ new_numbers old_size (lent pages)) result old new

-- ---- Segments, and the whole.

-- a segment is made durable, its header at a place and filled up to so many bytes, and then its pages are put
pub record PutsSegment (size long place : ℕ) (changes : List Change) (pages : Lent) (head : JournalHeader) (result : Result ℕ RollError) (old new : DiskState) : Type 0 where
  pub asks : long ≡ head.sector → ArePlaced size pages → AreWithin size changes → Asks (MayCommit size head.sector) result old new
  pub segment : (d e : Database) (named w before : List ℕ) → Journaled size head.sector d named place w old → AreFresh d named (pages_of changes)
      → (place ≡ 0) ⊎ (1 ≤ length changes) → long ≡ head.sector → IsHeaderOf size head.sector d (pages_of changes) head.nonce head
      → AreTurned size e (named ++ pages_of changes) (lent pages) changes → AreSome before → ArePut size e before old.db
      → SegmentAnswer size head.sector d e named before place w (pages_of changes) head.nonce result old new

-- one part of a commit's changes is put as a segment
pub record PutsPart (core : Core) (pages : Lent) (sector : ℕ) (part : Part) (result : Result ℕ RollError) (old new : DiskState) : Type 0 where
  pub asks : length core.header.items ≡ sector → Asks (MayCommit core.page_size sector) result old new
  pub segment : (n count : ℕ) (d : Database) (nonces : List ℕ) → IsReady pages n count core → length d ≡ core.size → length core.header.items ≡ sector
      → part.number < length nonces → part.nonce ≡ get_or nonces part.number 0
      → Parted core.page_size sector d (apply d (lent pages) n) (pages_of core.changes.items) nonces part.number part.place old
      → PartAnswer core.page_size sector d (apply d (lent pages) n) (pages_of core.changes.items) nonces part.number result old new

-- all segments of a commit are put
pub record PutsSegments {T : Type 0} (core : Core) (pages : Lent) (nonces : List ℕ) (sector : ℕ) (result : Result T RollError) (old new : DiskState) : Type 0 where
  pub asks : length core.header.items ≡ sector → Asks (MayCommit core.page_size sector) result old new
  pub segments : (n : ℕ) (d : Database) → IsReady pages n (length nonces) core → RestsAt core d old → sector ≡ old.sector
      → SegmentsAnswer core.page_size sector d (apply d (lent pages) n) (pages_of core.changes.items) nonces result old new

-- Once the changed pages are in the journal and put: those that are new are written, the length is set, and the journal ended.
pub record EndsCommit {T : Type 0} (pages : Lent) (old_size size page_size : ℕ) (result : Result T RollError) (old new : DiskState) : Type 0 where
  pub asks : ArePlaced page_size pages → size * page_size ≤ most_bytes → Asks (MayReplay page_size) result old new
  pub ends : (sector nonces : ℕ) (d : Database) (changes : List Change) (place : ℕ) (w : List ℕ) → Journaled page_size sector d (pages_of changes) place w old
      → 0 < place → ArePut page_size (apply d (lent pages) size) (pages_of changes) old.db → old_size ≡ length d → AreChanges (lent pages) old_size size changes
      → refusal_of old_size page_size (lent pages) size nonces ≡ None
      → PutAnswer page_size d (apply d (lent pages) size) result old new × OnOk result (IsLogDurable new (zeroed w))

-- a commit that is granted is carried out: it makes another database of d, and its segments have the nonces in order
pub record PutsCommit {T : Type 0} (core : Core) (pages : Lent) (size : ℕ) (nonces : List ℕ) (result : Result T RollError) (old new : DiskState) : Type 0 where
  pub asks : length core.header.items ≡ old.sector → Asks (MayCommit core.page_size old.sector) result old new
  pub put : (d : Database) → RestsAt core d old → PutAnswer core.page_size d (apply d (lent pages) size) result old new
  pub taken : (d : Database) → RestsAt core d old
      → OnOk result (LeavesParts (sizes old.sector core.page_size) (parts_of d (pages_of core.changes.items) (take (segments_of (length (pages_of core.changes.items))) nonces)) new)
