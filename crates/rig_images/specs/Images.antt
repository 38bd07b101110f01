-- The images that a crash may leave of a database file and its logs, by their numbers (own).
use Rattle.std.specs.Prelude.{◌≡◌, ℕ, ◌+◌, ◌-◌, ◌*◌, ◌/◌, ◌%◌, ◌<◌, ◌≤◌, cond, nat_lt, List, [], ◌∷◌, ◌++◌, Option, Some, None, Result, Ok, Err}
use Rattle.std.specs.declared.alloc.AllocError.{AllocError}
use Rattle.rig_play.specs.Plays.{Files, epochs_of}
use Rattle.rig_play.specs.declared.meta.Epoch.{Epoch}
use Rattle.rig_images.specs.Ways.{name_ways, held_files, files_way}
use Rattle.rig_images.specs.declared.counts.EpochCounts.{EpochCounts}
use Rattle.rig_images.specs.declared.counts.Counts.{Counts}
use Rattle.rig_images.specs.declared.image.Image.{Image}

-- how many images there are of an epoch, and of several
abbrev pub epoch_count : Files → Epoch → ℕ
epoch_count s e = name_ways s.db e.db * (name_ways s.wal e.wal * name_ways s.journal e.journal)

abbrev pub epochs_count : Files → List Epoch → ℕ
epochs_count s [] = 0
epochs_count s (e ∷ epochs) = epoch_count s e + epochs_count s epochs

-- how many images there are
abbrev pub image_count : Files → ℕ
image_count s = epochs_count s (epochs_of s)

-- in how many ways a crash may leave what is under each name in an epoch
pub record IsCounted (s : Files) (e : Epoch) (c : EpochCounts) : Type 0 where
  pub epoch : c.epoch ≡ e
  pub db : c.db ≡ name_ways s.db e.db
  pub wal : c.wal ≡ name_ways s.wal e.wal
  pub journal : c.journal ≡ name_ways s.journal e.journal
  pub images : c.images ≡ epoch_count s e

abbrev pub AreCounted : Files → List Epoch → List EpochCounts → Type 0
AreCounted s [] [] = Unit {0}
AreCounted s (e ∷ epochs) (c ∷ counts) = IsCounted s e c × AreCounted s epochs counts
AreCounted s _ _ = ⊥

-- the counts of each epoch, and of all images
pub record AreCounts (s : Files) (c : Counts) : Type 0 where
  pub each : AreCounted s (epochs_of s) c.epochs.items
  pub images : c.images ≡ image_count s

abbrev pub CountsAnswer : Files → (limit : ℕ) → Result (Option Counts) AllocError → Type 0
CountsAnswer s limit (Ok (Some c)) = AreCounts s c × (image_count s ≤ limit)
CountsAnswer s limit (Ok None) = limit < image_count s
CountsAnswer s limit (Err _) = Unit {0}

-- Of which epoch the image of a number is, and its number there: those of the first epoch come first.
abbrev pub numbered : List EpochCounts → (n : ℕ) → Option (EpochCounts × ℕ)
numbered [] n = None
numbered (c ∷ counts) n = cond (nat_lt n c.images) (Some (c, n)) (numbered counts (n - c.images))

-- the image of a number in an epoch: the way of the database file changes fastest, and that of the journal slowest
pub record IsNumberedIn (s : Files) (c : EpochCounts) (n : ℕ) (image : Image) : Type 0 where
  pub db : image.db.items ≡ files_way (held_files s.db c.epoch.db) (n % c.db)
  pub wal : image.wal.items ≡ files_way (held_files s.wal c.epoch.wal) (n / c.db % c.wal)
  pub journal : image.journal.items ≡ files_way (held_files s.journal c.epoch.journal) (n / c.db / c.wal)

-- no bytes
pub record IsNone (image : Image) : Type 0 where
  pub db : image.db.items ≡ []
  pub wal : image.wal.items ≡ []
  pub journal : image.journal.items ≡ []

abbrev pub IsPlaced : Files → Option (EpochCounts × ℕ) → Image → Type 0
IsPlaced s None image = IsNone image
IsPlaced s (Some (c, n)) image = IsNumberedIn s c n image

-- the image of a number
abbrev pub IsNumbered : Files → Counts → (n : ℕ) → Image → Type 0
IsNumbered s c n image = IsPlaced s (numbered c.epochs.items n) image

-- ways of the three files, each by its number
pub record AreWays (a b c db wal journal : ℕ) : Type 0 where
  pub db_way : a < db
  pub wal_way : b < wal
  pub journal_way : c < journal

-- Each three ways of the files are those of one image of an epoch and no other: its number is below the count, and gives them.
abbrev pub EachIsNumbered : Type 0
EachIsNumbered = (a b c db wal journal : ℕ) → AreWays a b c db wal journal
    → (n : ℕ) × (n < db * (wal * journal)) × (n % db ≡ a) × (n / db % wal ≡ b) × (n / db / wal ≡ c)
    × ((m : ℕ) → m % db ≡ a → m / db % wal ≡ b → m / db / wal ≡ c → m ≡ n)

-- how many images several epochs have
abbrev pub total : List EpochCounts → ℕ
total [] = 0
total (c ∷ counts) = c.images + total counts

-- Each image of each epoch has the number of those before it, and each number below the count is that of one.
pub record EachHasPlace (counts : List EpochCounts) : Type 0 where
  pub placed : (front back : List EpochCounts) (c : EpochCounts) (n : ℕ) → counts ≡ front ++ c ∷ back → n < c.images → numbered counts (total front + n) ≡ Some (c, n)
  pub all : (n : ℕ) → n < total counts → (front back : List EpochCounts) × (c : EpochCounts) × (m : ℕ) × (counts ≡ front ++ c ∷ back) × (m < c.images) × (n ≡ total front + m)
