-- What the steps of a commit promise one another (fileformat2, 3; segments are own).
use Rattle.std.specs.Prelude.{◌≡◌, ◌≢◌, ◌⊎◌, ℕ, ◌*◌, ◌<◌, ◌≤◌, false, IsTrue, Result, Ok, Err, List, [], length, get_or, Some, None}
use Rattle.std.specs.List.{All}
use Rattle.std.specs.Borrow.{Bor}
use Rattle.sqval.specs.Bytes.{AreBytes}
use Rattle.sqval.specs.Database.{Database, Pages, supplied}
use Rattle.sqval.specs.CommitFaults.{most_bytes, first_true, page_faults}
use Rattle.sqval.specs.JudgedPages.{lent}
use Rattle.crashdisk.specs.State.{IsImage}
use Rattle.crashdisk.specs.Call.{DiskState}
use Rattle.rollcore.specs.Fits.{NamesSectors, Rests}
use Rattle.rollcore.specs.Refusal.{number_of}
use Rattle.crashdisk.specs.Keeps.{HadRefusal}
use Rattle.rollcore.specs.Machine.{recorded, refusal_of}
use Rattle.rollcore.specs.declared.state.Core.{Core}
use Rattle.rollcore.specs.declared.changes.Change.{Change}
use Rattle.rollcore.specs.declared.error.RollError.{RollError}
use Rattle.rollcore.specs.declared.error.RollError.TheVariants.{NoMemory, Device}
use Rattle.recovery.specs.Logs.{MayBeRead, ShowsWhole}
use Rattle.rollcore.specs.Alone.{journal_log}
use Rattle.rollcore.specs.Commits.{CommitsPages}

-- whatever is left of the log shows, with whatever is left of the file, the one database or the other
abbrev pub ShowsEither : (size : ℕ) (d e : Database) → DiskState → Type 0
ShowsEither size d e s = (w : List ℕ) → MayBeRead journal_log s w
    → ((db : List ℕ) → IsImage s.sector s.tears s.db db → ShowsWhole journal_log size db w d) ⊎ ((db : List ℕ) → IsImage s.sector s.tears s.db db → ShowsWhole journal_log size db w e)

-- a commit that makes e of d was carried out, or the disk refused a call of it
abbrev pub PutAnswer : {T : Type 0} → (size : ℕ) (d e : Database) → Result T RollError → (old new : DiskState) → Type 0
PutAnswer size d e (Ok _) old new = Rests size e new
PutAnswer size d e (Err error) old new = (error ≡ Device) × HadRefusal old new × ShowsEither size d e new × NamesSectors new

-- change i, from 0
abbrev pub change_at : List Change → (i : ℕ) → Change
change_at changes i = get_or changes i (record { page = 0; content = None })

-- What a commit of these pages changes of a database of so many pages: rising, each page that is written or cut off.
pub record AreChanges (pages : Pages) (old_size size : ℕ) (changes : List Change) : Type 0 where
  pub rising : (i j : ℕ) → i < j → j < length changes → (change_at changes i).page < (change_at changes j).page
  pub within : (i : ℕ) → i < length changes → (1 ≤ (change_at changes i).page) × ((change_at changes i).page ≤ old_size)
  pub content : (i k : ℕ) → i < length changes → (change_at changes i).content ≡ Some k
      → (k < length pages) × ((get_or pages k (0, [])).0 ≡ (change_at changes i).page) × ((change_at changes i).page ≤ size)
  pub cut : (i : ℕ) → i < length changes → (change_at changes i).content ≡ None → size < (change_at changes i).page
  pub all : (p : ℕ) → 1 ≤ p → p ≤ old_size → (supplied pages p ≢ None) ⊎ (size < p) → (i : ℕ) × (i < length changes) × ((change_at changes i).page ≡ p)
  pub count : length changes ≡ recorded pages old_size size

-- the pages of a commit, lent by its caller
abbrev pub Lent : Type 0
Lent = List (ℕ × Bor (List ℕ))

-- pages of this size, each within the limit
abbrev pub ArePlaced : (size : ℕ) → Lent → Type 0
ArePlaced size pages = All (λ x. (length x.1.now ≡ size) × (x.0 * size ≤ most_bytes)) pages

-- changes of pages of this size within the limit
abbrev pub AreWithin : (size : ℕ) → List Change → Type 0
AreWithin size changes = (i : ℕ) → i < length changes → (change_at changes i).page * size ≤ most_bytes

-- a commit of these pages isn't refused, and there is memory for it
pub record IsReady (pages : Lent) (size nonces : ℕ) (core : Core) : Type 0 where
  pub granted : refusal_of core.size core.page_size (lent pages) size nonces ≡ None
  pub changes : AreChanges (lent pages) core.size size core.changes.items
  pub bytes : All (λ x. AreBytes x.1.now) pages

-- the faults of the pages of a commit are judged
abbrev pub PagesJudged : {T : Type 0} → Lent → (size : ℕ) → Result T RollError → (old : Core) → Type 0
PagesJudged pages size (Ok _) old = (first_true (page_faults old.size old.page_size (lent pages) size) ≡ None) × All (λ x. AreBytes x.1.now) pages
PagesJudged pages size (Err e) old = first_true (page_faults old.size old.page_size (lent pages) size) ≡ Some (number_of e)

-- a commit is granted, with memory for it; or refused by the first condition that holds, or by want of memory where none does
abbrev pub PrepareAnswer : {T : Type 0} → Lent → (size nonces : ℕ) → Result T RollError → (old new : Core) → Type 0
PrepareAnswer pages size nonces (Ok _) old new = IsReady pages size nonces new
PrepareAnswer pages size nonces (Err e) old new =
    (refusal_of old.size old.page_size (lent pages) size nonces ≡ Some (number_of e)) ⊎ ((refusal_of old.size old.page_size (lent pages) size nonces ≡ None) × (e ≡ NoMemory))

-- the database has so many pages now
pub record Ends (size : ℕ) (old new : Core) : Type 0 where
  pub page_size : new.page_size ≡ old.page_size
  pub is_open : new.is_open ≡ old.is_open
  pub size_is : new.size ≡ size
  pub header_room : length new.header.items ≡ length old.header.items

-- a core is closed
pub record Closes (old new : Core) : Type 0 where
  pub page_size : new.page_size ≡ old.page_size
  pub is_open : new.is_open ≡ false

-- the commit is the newest one, or the core is closed
abbrev pub EndAnswer : {T : Type 0} → (size : ℕ) → Result T RollError → (old new : Core) → Type 0
EndAnswer size (Ok _) old new = Ends size old new
EndAnswer size (Err e) old new = Closes old new

-- the same, of a core that is open
abbrev pub CommitsOpen : {T : Type 0} → Pages → (size : ℕ) → (nonces : List ℕ) → Result T RollError → (old new : Core) → (before after : DiskState) → Type 0
CommitsOpen pages size nonces result old new before after = IsTrue old.is_open → CommitsPages pages size nonces result old new before after
