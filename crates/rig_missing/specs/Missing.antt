-- Which calls aren't down in an image, and in which sectors (own).
use Rattle.std.specs.Prelude.{◌≡◌, ◌⊎◌, ◌↔◌, ℕ, ◌-◌, ◌*◌, ◌/◌, ◌<◌, ◌≤◌, List, [], ◌∷◌, length, take, drop, get_or}
use Rattle.std.specs.List.{All}
use Rattle.rig_play.specs.declared.trace.Subject.{Subject}
use Rattle.rig_play.specs.declared.trace.Subject.TheVariants as subjects
use Rattle.rig_images.specs.declared.image.Image.{Image}
use Rattle.rig_missing.specs.Changes.{Touches}
use Rattle.rig_missing.specs.declared.change.Change.{Change}
use Rattle.rig_missing.specs.declared.missing.Missing.{Missing}

-- the bytes of a file in an image
abbrev pub file_in : Subject → Image → List ℕ
file_in subjects.Db image = image.db.items
file_in subjects.Wal image = image.wal.items
file_in subjects.Journal image = image.journal.items
file_in _ image = []

-- the bytes of sector k, as far as there are any
abbrev pub sector_bytes : (sector k : ℕ) → List ℕ → List ℕ
sector_bytes sector k bytes = take sector (drop (k * sector) bytes)

-- two sectors are the same, with zeros behind the end of a file
abbrev pub AreAlike : List ℕ → List ℕ → Type 0
AreAlike a b = (x : ℕ) → get_or a x 0 ≡ get_or b x 0

-- a call on a file left in sector k, which it touched, what an image has there
pub record Leaves (sector : ℕ) (w : Subject) (bytes : List ℕ) (k : ℕ) (c : Change) : Type 0 where
  pub subject : c.subject ≡ w
  pub touches : Touches sector c k
  pub there : AreAlike (sector_bytes sector (k - c.from / sector) c.left.items) (sector_bytes sector k bytes)

-- A call isn't down in sector k, which it touched: neither it nor one of the later calls left there what the image has.
pub record IsOut (sector : ℕ) (bytes : List ℕ) (c : Change) (later : List Change) (k : ℕ) : Type 0 where
  pub touches : Touches sector c k
  pub none : All (λ d. ¬ Leaves sector c.subject bytes k d) later

-- sector k is in one of these ranges, each from its first to its last sector
abbrev pub InRanges : List (ℕ × ℕ) → (k : ℕ) → Type 0
InRanges [] k = ⊥
InRanges (r ∷ ranges) k = ((r.0 ≤ k) × (k ≤ r.1)) ⊎ InRanges ranges k

-- a call is told, with these sectors in which it isn't down
pub record IsTold (sector : ℕ) (bytes : List ℕ) (c : Change) (later : List Change) (m : Missing) : Type 0 where
  pub number : m.number ≡ c.number
  pub kind : m.kind ≡ c.kind
  pub subject : m.subject ≡ c.subject
  pub place : m.place ≡ c.place
  pub count : m.count ≡ c.count
  pub some : 0 < length m.sectors.items
  pub sectors : (k : ℕ) → InRanges m.sectors.items k ↔ IsOut sector bytes c later k

-- Of these calls, in their order, each that isn't down in an image, and no other.
abbrev pub AreMissing : (sector : ℕ) → Image → List Change → List Missing → Type 0
AreMissing sector image [] found = found ≡ []
AreMissing sector image (c ∷ later) found =
    ((m : Missing) × (rest : List Missing) × (found ≡ m ∷ rest) × IsTold sector (file_in c.subject image) c (c ∷ later) m × AreMissing sector image later rest)
    ⊎ (((k : ℕ) → ¬ IsOut sector (file_in c.subject image) c (c ∷ later) k) × AreMissing sector image later found)
