-- The phases of a segment of the journal: in each of them all that a crash may leave shows the database from before the
-- commit (own).
use Rattle.std.specs.Prelude.{◌≡◌, ◌⊎◌, ℕ, ◌+◌, ◌-◌, ◌*◌, ◌<◌, ◌≤◌, true, List, ◌∷◌, ◌++◌, length, map, get_or, take, cond, nat_lt, Option, Some, None, Result, Ok, Err, []}
use Rattle.std.specs.List.{Contains}
use Rattle.sqval.specs.Bytes.{word}
use Rattle.sqval.specs.CommitFaults.{most_bytes}
use Rattle.sqval.specs.Database.{Database, Pages, page}
use Rattle.sqval.specs.Held.{IsHeld}
use Rattle.sqjournal.specs.Header.{HasMagic}
use Rattle.sqjournal.specs.Journal.{Sizes, records_end, AreRecords, IsHot}
use Rattle.crashdisk.specs.State.{FileState, byte, IsImage}
use Rattle.crashdisk.specs.Call.{DiskState, ArePresent, Writes}
use Rattle.crashdisk.specs.internal.Facts.{Steady}
use Rattle.crashdisk.specs.declared.file.File.TheVariants.{Db, Log}
use Rattle.crashdisk.specs.declared.error.DiskError.{DiskError}
use Rattle.crashdisk.specs.Keeps.{Suits, HadRefusal, IsLogDurable, Still}
use Rattle.crashdisk.specs.internal.Keeps.{Told}
use Rattle.rollcore.specs.Journaling.{old_pages, sizes, next_place, record_bytes, HasParts, parts_of}
use Rattle.rollcore.specs.internal.Journaling.{IsJournaled, Tells, IsPrepared}
use Rattle.rollcore.specs.internal.Commits.{change_at}
use Rattle.rollcore.specs.Machine.{segment_records, segments_of}
use Rattle.rollcore.specs.declared.changes.Change.{Change}
use Rattle.rollcore.specs.declared.error.RollError.{RollError}
use Rattle.rollcore.specs.declared.error.RollError.TheVariants.{Device}
use Rattle.recovery.specs.Logs.{MayBeRead, ShowsWhole}
use Rattle.rollcore.specs.Alone.{journal_log}

-- ---- What all phases have.

-- whatever is left shows this database; and on a disk that tears a hot journal names no smaller sectors
pub record Unharmed (size : ℕ) (d : Database) (s : DiskState) : Type 0 where
  pub shows : (w : List ℕ) → MayBeRead journal_log s w → (db : List ℕ) → IsImage s.sector s.tears s.db db → ShowsWhole journal_log size db w d
  pub sectors : s.tears ≡ true → (w : List ℕ) → MayBeRead journal_log s w → IsHot w → s.sector ≤ word w 20

-- pages of d that aren't named stand in each file that a crash may leave, which is as long as d where no journal is begun
pub record StandOthers (size : ℕ) (d : Database) (named : List ℕ) (place : ℕ) (s : DiskState) : Type 0 where
  pub held : IsHeld size d
  pub each : (p i : ℕ) → 1 ≤ p → p ≤ length d → (Contains named p → ⊥) → i < size → Steady Db s ((p - 1) * size + i) (get_or (page d p) i 0)
  pub whole : place ≡ 0 → (db : List ℕ) → IsImage s.sector s.tears s.db db → length db ≡ length d * size

-- the disk of a commit, and the place of a header
pub record IsAt (size sector : ℕ) (d : Database) (named : List ℕ) (place : ℕ) (s : DiskState) : Type 0 where
  pub suits : Suits size s
  pub sector_is : s.sector ≡ sector
  pub multiple : (k : ℕ) × (place ≡ k * sector)
  pub others : StandOthers size d named place s

-- ---- The phases.

-- The pages that are named stand in the journal, which is durable, up to a place.
pub record Journaled (size sector : ℕ) (d : Database) (named : List ℕ) (place : ℕ) (w : List ℕ) (s : DiskState) : Type 0 where
  pub at : IsAt size sector d named place s
  pub durable : IsLogDurable s w
  pub is : IsJournaled size sector d named place w

-- Something is written behind the place of a header.
pub record Recording (size sector : ℕ) (d : Database) (named : List ℕ) (place : ℕ) (w : List ℕ) (s : DiskState) : Type 0 where
  pub at : IsAt size sector d named place s
  pub is : IsJournaled size sector d named place w
  pub below : (i : ℕ) → i < place + sector → Steady Log s i (get_or w i 0)
  pub long : length w ≤ s.log.least

-- These records were written.
pub record Recorded (size sector : ℕ) (d : Database) (named : List ℕ) (place : ℕ) (w : List ℕ) (part : List ℕ) (nonce : ℕ) (s : DiskState) : Type 0 where
  pub recording : Recording size sector d named place w s
  pub records : (v : List ℕ) → ArePresent s.log v → AreRecords (sizes sector size) v nonce (place + sector) (old_pages d part)

-- And no header begins behind them.
pub record Ended (size sector : ℕ) (d : Database) (named : List ℕ) (place : ℕ) (w : List ℕ) (part : List ℕ) (nonce : ℕ) (s : DiskState) : Type 0 where
  pub recorded : Recorded size sector d named place w part nonce s
  pub ends : (v : List ℕ) → ArePresent s.log v → HasMagic v (next_place (sizes sector size) place (old_pages d part)) → ⊥

-- All of it is durable.
pub record Prepared (size sector : ℕ) (d : Database) (named : List ℕ) (place : ℕ) (part : List ℕ) (nonce : ℕ) (w : List ℕ) (s : DiskState) : Type 0 where
  pub at : IsAt size sector d named place s
  pub durable : IsLogDurable s w
  pub is : IsPrepared size sector d named part nonce place w

-- The header was written, or it failed: it is left, or not.
pub record Heading (size sector : ℕ) (d : Database) (named : List ℕ) (place : ℕ) (part : List ℕ) (s : DiskState) : Type 0 where
  pub at : IsAt size sector d named place s
  pub left : (v : List ℕ) → MayBeRead journal_log s v → Tells size sector d named place v ⊎ Tells size sector d (named ++ part) (next_place (sizes sector size) place (old_pages d part)) v

-- ---- What the calls answer.

-- a page of the file is read, and written to a record of the journal
pub record LogsRecord {T : Type 0} (size number nonce at : ℕ) (called : Result T DiskError) (old new : DiskState) : Type 0 where
  pub content : List ℕ
  pub full : length content ≡ size
  pub is : (i : ℕ) → i < size → get_or content i 0 ≡ byte old.db ((number - 1) * size + i)
  pub mid : DiskState
  pub read : Still old mid
  pub write : Writes Log at (record_bytes number nonce content) called mid new

-- it was, or a call of the disk was refused
abbrev pub RecordStep : {T : Type 0} → (size number nonce at : ℕ) → Result T RollError → (old new : DiskState) → Type 0
RecordStep size number nonce at (Ok done) old new = LogsRecord size number nonce at (Ok done) old new
RecordStep {T = T} size number nonce at (Err e) old new = (e ≡ Device) × HadRefusal old new × (Still old new ⊎ ((called : Result T DiskError) × LogsRecord size number nonce at called old new))

-- a call of the disk was refused, and nothing is lost
pub record Harmless (size : ℕ) (d : Database) (e : RollError) (old new : DiskState) : Type 0 where
  pub device : e ≡ Device
  pub refusal : HadRefusal old new
  pub unharmed : Unharmed size d new

-- the pages of changes
abbrev pub pages_of : List Change → List ℕ
pages_of changes = map (λ c. c.page) changes

-- pages of d that aren't named
abbrev pub AreFresh : Database → (named numbers : List ℕ) → Type 0
AreFresh d named numbers = (i : ℕ) → i < length numbers → (1 ≤ get_or numbers i 0) × (get_or numbers i 0 ≤ length d) × (Contains named (get_or numbers i 0) → ⊥)

-- the records of these pages were written, up to their end
abbrev pub RecordsAnswer : (size sector : ℕ) (d : Database) (named : List ℕ) (place : ℕ) (w part : List ℕ) (nonce : ℕ) → Result ℕ RollError → (old new : DiskState) → Type 0
RecordsAnswer size sector d named place w part nonce (Ok end) old new =
    (end ≡ records_end (sizes sector size) (place + sector) (old_pages d part)) × Recorded size sector d named place w part nonce new × (old.refused ≤ new.refused) × (new.db ≡ old.db)
RecordsAnswer size sector d named place w part nonce (Err e) old new = Harmless size d e old new

-- from one log to another the segments up to a place keep their nonces and records
abbrev pub KeepsParts : Sizes → (place : ℕ) → (w v : List ℕ) → Type 0
KeepsParts z place w v = (parts : List (ℕ × Pages)) → HasParts z w place parts → HasParts z v place parts

-- and there is one segment more, up to the next place, which has this nonce and these records
abbrev pub AddsPart : Sizes → (place : ℕ) → List ℕ → (part : ℕ × Pages) → (next : ℕ) → List ℕ → Type 0
AddsPart z place w part next v = (parts : List (ℕ × Pages)) → HasParts z w place parts → HasParts z v next (parts ++ part ∷ [])

-- these records are durable, up to the next place, and the segments before them keep theirs
abbrev pub PreparedAnswer : (size sector : ℕ) (d : Database) (named : List ℕ) (place : ℕ) (w part : List ℕ) (nonce : ℕ) → Result ℕ RollError → (old new : DiskState) → Type 0
PreparedAnswer size sector d named place w part nonce (Ok next) old new =
    (next ≡ next_place (sizes sector size) place (old_pages d part)) × ((v : List ℕ) × Prepared size sector d named place part nonce v new × KeepsParts (sizes sector size) place w v)
    × (old.refused ≤ new.refused) × (new.db ≡ old.db)
PreparedAnswer size sector d named place w part nonce (Err e) old new = Harmless size d e old new

-- the header is durable, and with it the segment, which has this nonce and these records
abbrev pub HeaderAnswer : {T : Type 0} → (size sector : ℕ) (d : Database) (named : List ℕ) (place : ℕ) (w part : List ℕ) (nonce : ℕ) → Result T RollError → (old new : DiskState) → Type 0
HeaderAnswer size sector d named place w part nonce (Ok _) old new =
    ((v : List ℕ) × Journaled size sector d (named ++ part) (next_place (sizes sector size) place (old_pages d part)) v new
    × AddsPart (sizes sector size) place w (nonce, old_pages d part) (next_place (sizes sector size) place (old_pages d part)) v)
    × (old.refused ≤ new.refused) × (new.db ≡ old.db)
HeaderAnswer size sector d named place w part nonce (Err e) old new = Harmless size d e old new

-- ---- The pages of a segment go into the file.

-- of these numbers each page that the new database has is present
abbrev pub ArePut : (size : ℕ) (e : Database) (numbers : List ℕ) → FileState → Type 0
ArePut size e numbers s = (p : ℕ) → Contains numbers p → p ≤ length e → (i : ℕ) → i < size → byte s ((p - 1) * size + i) ≡ get_or (page e p) i 0

-- a page is written to its place
abbrev pub PageStep : {T : Type 0} → (number : ℕ) → List ℕ → Result T RollError → (old new : DiskState) → Type 0
PageStep {T = T} number content result old new = (called : Result T DiskError) × Told Device called result × Writes Db ((number - 1) * length content) content called old new

-- what becomes of a page that is in the journal: it is cut off, or it has this content among the pages of the commit
abbrev pub Becomes : (size : ℕ) (e : Database) → Pages → (number : ℕ) → Option ℕ → Type 0
Becomes size e pages number None = length e < number
Becomes size e pages number (Some k) = (k < length pages) × ((get_or pages k (0, [])).1 ≡ page e number) × (length (get_or pages k (0, [])).1 ≡ size) × (number * size ≤ most_bytes)

-- the pages of these changes are named, and are to be as in e
abbrev pub AreTurned : (size : ℕ) (e : Database) (named : List ℕ) → Pages → List Change → Type 0
AreTurned size e named pages changes = (i : ℕ) → i < length changes
    → (1 ≤ (change_at changes i).page) × Contains named (change_at changes i).page × Becomes size e pages (change_at changes i).page (change_at changes i).content

-- none is 0
abbrev pub AreSome : List ℕ → Type 0
AreSome numbers = (p : ℕ) → Contains numbers p → 1 ≤ p

-- the pages of these numbers were put
abbrev pub PutPagesAnswer : {T : Type 0} → (size sector : ℕ) (d e : Database) (named : List ℕ) (place : ℕ) (w numbers : List ℕ) → Result T RollError → (old new : DiskState) → Type 0
PutPagesAnswer size sector d e named place w numbers (Ok _) old new = Journaled size sector d named place w new × ArePut size e numbers new.db × (old.refused ≤ new.refused)
PutPagesAnswer size sector d e named place w numbers (Err error) old new = Harmless size d error old new

-- the content of each of these pages is what e has
abbrev pub AreOf : (size : ℕ) (e : Database) → Pages → Type 0
AreOf size e pages = (k : ℕ) → k < length pages
    → ((get_or pages k (0, [])).1 ≡ page e (get_or pages k (0, [])).0) × (length (get_or pages k (0, [])).1 ≡ size) × ((get_or pages k (0, [])).0 * size ≤ most_bytes)

-- the numbers of those that are new
abbrev pub new_numbers : (old_size : ℕ) → Pages → List ℕ
new_numbers old_size [] = []
new_numbers old_size (x ∷ pages) = cond (nat_lt old_size x.0) (x.0 ∷ new_numbers old_size pages) (new_numbers old_size pages)

-- a segment is durable with its nonce, and its pages are put
abbrev pub SegmentAnswer : (size sector : ℕ) (d e : Database) (named before : List ℕ) (place : ℕ) (w part : List ℕ) (nonce : ℕ) → Result ℕ RollError → (old new : DiskState) → Type 0
SegmentAnswer size sector d e named before place w part nonce (Ok next) old new = (next ≡ next_place (sizes sector size) place (old_pages d part))
    × ((v : List ℕ) × Journaled size sector d (named ++ part) next v new × AddsPart (sizes sector size) place w (nonce, old_pages d part) next v)
    × ArePut size e (before ++ part) new.db × (old.refused ≤ new.refused)
SegmentAnswer size sector d e named before place w part nonce (Err error) old new = Harmless size d error old new

-- ---- All segments.

-- so many segments of a commit that changes pages of these numbers are durable, of which each has its nonce of these and
-- its records, and their pages are put
pub record Parted (size sector : ℕ) (d e : Database) (numbers nonces : List ℕ) (k place : ℕ) (s : DiskState) : Type 0 where
  pub journaled : (w : List ℕ) × Journaled size sector d (take (k * segment_records) numbers) place w s
  pub taken : HasParts (sizes sector size) journaled.0 place (parts_of d numbers (take k nonces))
  pub put : ArePut size e (take (k * segment_records) numbers) s.db
  pub first : k ≡ 0 → place ≡ 0
  pub later : 0 < k → 0 < place

-- segment k is durable, and its pages are put
abbrev pub PartAnswer : (size sector : ℕ) (d e : Database) (numbers nonces : List ℕ) (k : ℕ) → Result ℕ RollError → (old new : DiskState) → Type 0
PartAnswer size sector d e numbers nonces k (Ok next) old new = Parted size sector d e numbers nonces (k + 1) next new × (old.refused ≤ new.refused)
PartAnswer size sector d e numbers nonces k (Err error) old new = Harmless size d error old new

-- all of them are: segment s has nonce s, and the records of the next 64 pages
abbrev pub SegmentsAnswer : {T : Type 0} → (size sector : ℕ) (d e : Database) (numbers nonces : List ℕ) → Result T RollError → (old new : DiskState) → Type 0
SegmentsAnswer size sector d e numbers nonces (Ok _) old new =
    (place : ℕ) × (w : List ℕ) × (0 < place) × Journaled size sector d numbers place w new × ArePut size e numbers new.db × (old.refused ≤ new.refused)
    × HasParts (sizes sector size) w place (parts_of d numbers (take (segments_of (length numbers)) nonces))
SegmentsAnswer size sector d e numbers nonces (Err error) old new = Harmless size d error old new
