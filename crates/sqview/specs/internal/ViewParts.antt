-- What the parts of a view promise one another.
use Rattle.std.specs.Prelude.{◌≡◌, ℕ, suc, ◌+◌, ◌*◌, ◌^◌, ◌<◌, ◌≤◌, ◌==◌, cond, List, [], ◌∷◌, length, drop, take, Option, Some, None, Result, Ok, Err}
use Rattle.sqwal.specs.Header.{named_size, IsHeader}
use Rattle.sqwal.specs.Frames.{size_of, IsValidFrame, IsCommit}
use Rattle.sqwal.specs.View.{IsView}
use Rattle.sqwal.specs.Took.{TookWithin}
use Rattle.sqwal.specs.Answers.{LogRefusedWithin}
use Rattle.sqwal.specs.declared.error.WalFormatError.{WalFormatError}
use Rattle.sqpage.specs.declared.source.SourceError.{SourceError}
use Rattle.sqwal.specs.declared.scan.Scan.{Scan}
use Rattle.sqpage.specs.Header.{HasMagic}
use Rattle.sqpage.specs.declared.fault.Fault.TheVariants as faults
use Rattle.sqjournal.specs.Journal.{Segment, IsJournal, entries, sizes_of}
use Rattle.sqjournal.specs.Took.{Took as ReplayTook, HasCount, Refuses}
use Rattle.sqjournal.specs.declared.error.JournalError.{JournalError}
use Rattle.sqjournal.specs.declared.error.JournalError.TheVariants.{NoMemory as NoReplayMemory}
use Rattle.sqjournal.specs.declared.replay.Replay.{Replay}
use Rattle.sqjournal.specs.declared.reading.Record.{Record}
use Rattle.sqjournal.specs.declared.reading.Why.{Why}
use Rattle.sqview.specs.LogView.{pages_of}
use Rattle.sqview.specs.Origins.{AreFramePlaces}
use Rattle.sqview.specs.Places.{most_kept}
use Rattle.sqview.specs.Logs.{HasRead}
use Rattle.sqview.specs.Laid.{place_of}
use Rattle.sqview.specs.declared.view.View.{View}
use Rattle.sqview.specs.declared.view.at_commit.Commit.{Commit}
use Rattle.sqview.specs.declared.view_error.ViewError.{ViewError}
use Rattle.sqview.specs.declared.view_error.ViewError.TheVariants.{TooLarge, Header, NoMemory}

-- the bytes of a log up to the end were handed to the scan
abbrev pub ScanPiece : (most : ℕ) → List ℕ → (end : ℕ) → Result (Result (Unit {0}) WalFormatError) SourceError → Scan → Type 0
ScanPiece most w end (Ok (Ok x)) s = TookWithin most (take end w) s
ScanPiece most w end (Ok (Err e)) s = LogRefusedWithin most w e
ScanPiece most w end (Err e) s = Unit {0}

-- those of a journal to the replay
abbrev pub ReplayPiece : List ℕ → (end : ℕ) → Result (Result (Unit {0}) JournalError) SourceError → Replay → Type 0
ReplayPiece b end (Ok (Ok x)) r = ReplayTook (take end b) r
ReplayPiece b end (Ok (Err NoReplayMemory)) r = Unit {0}
ReplayPiece b end (Ok (Err e)) r = Refuses b e
ReplayPiece b end (Err e) r = Unit {0}

-- the scan of a log, where it has a valid header
abbrev pub ScannedAnswer : (most : ℕ) → List ℕ → Result (Option Scan) ViewError → Type 0
ScannedAnswer most w (Ok (Some s)) = TookWithin most w s
ScannedAnswer most w (Ok None) = ¬ IsHeader (named_size w) w
ScannedAnswer most w (Err TooLarge) = IsValidFrame (named_size w) w (suc most)
ScannedAnswer most w (Err NoMemory) = Unit {0}
ScannedAnswer most w (Err _) = ⊥

-- the replay of a hot journal
abbrev pub ReplayedAnswer : List ℕ → Result Replay ViewError → Type 0
ReplayedAnswer b (Ok r) = (length b ≤ 2 ^ 40) × HasRead b r
ReplayedAnswer b (Err TooLarge) = 2 ^ 40 < length b
ReplayedAnswer b (Err NoMemory) = Unit {0}
ReplayedAnswer b (Err _) = ⊥

-- so many pages of this size, where they are at most so many bytes
abbrev pub LimitAnswer : (most size count : ℕ) → Result ℕ ViewError → Type 0
LimitAnswer most size count (Ok n) = (n ≡ count) × (count * size ≤ most)
LimitAnswer most size count (Err TooLarge) = most < count * size
LimitAnswer most size count (Err _) = ⊥

-- the view of a file with the frames 1 to m of a log, where frame m names this count of pages
abbrev pub PlacedAnswer : {F : Type 0} → (most : ℕ) → (bytes : F → List ℕ) → (size m count : ℕ) → (db w : List ℕ) → Result (View F) ViewError → Type 0
PlacedAnswer most bytes size m count db w (Ok v) = (v.page_size ≡ size) × (v.front ≡ m) × LimitAnswer most size count (Ok v.count) × IsView size db w m (pages_of bytes v)
    × AreFramePlaces size w m v.count v.places.items × (v.places.kept ≤ most_kept size (bytes v.log))
PlacedAnswer most bytes size m count db w (Err NoMemory) = Unit {0}
PlacedAnswer most bytes size m count db w (Err e) = LimitAnswer most size count (Err e)

-- what a scan has of a commit frame: its number, the size of the log's pages, and how many the database has there
abbrev pub CommitFound : List ℕ → (m : ℕ) → Option Commit → Type 0
CommitFound w m None = ¬ (IsValidFrame (named_size w) w m × IsCommit (named_size w) w m)
CommitFound w m (Some it) = IsHeader it.page_size w × IsValidFrame (named_size w) w m × IsCommit (named_size w) w m × (it.size ≡ size_of (named_size w) w m) × (it.frame ≡ m)

-- why a header that names no page size is refused
abbrev pub IsUnsized : (head : List ℕ) → ViewError → Type 0
IsUnsized head (Header faults.Magic) = ¬ HasMagic head
IsUnsized head (Header faults.PageSize) = HasMagic head
IsUnsized head _ = ⊥

-- ---- records

-- the place of the last of these records that names page p, `was` where none does
abbrev pub last_place : List Record → (p was : ℕ) → ℕ
last_place [] p was = was
last_place (e ∷ es) p was = last_place es p (cond (e.page == p) e.at was)

-- the first n records of a journal were put down
abbrev pub AreNoted : Replay → (n count : ℕ) → (places : List ℕ) → Type 0
AreNoted r n count places = (b : List ℕ) (segments : List Segment) (at : ℕ) (why : Why) → ReplayTook b r → IsJournal b segments at why
    → (p : ℕ) → 1 ≤ p → p ≤ count
    → last_place (drop n (entries (sizes_of b) 0 segments)) p (place_of places p) ≡ last_place (entries (sizes_of b) 0 segments) p 0

-- the places of the last records of all pages up to the count
pub record AreRecordPlaces (b : List ℕ) (count : ℕ) (places : List ℕ) : Type 0 where
  pub long : length places ≡ count
  pub each : (segments : List Segment) (at : ℕ) (why : Why) → IsJournal b segments at why → (p : ℕ) → 1 ≤ p → p ≤ count → place_of places p ≡ last_place (entries (sizes_of b) 0 segments) p 0

-- at most so many numbers are kept for the places of a journal's records
abbrev pub AreFew : (b : List ℕ) (kept : ℕ) → Type 0
AreFew b kept = (n : ℕ) → HasCount b n → kept ≤ 262144 + 17 * n
