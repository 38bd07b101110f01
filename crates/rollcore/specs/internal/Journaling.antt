-- The steps of a commit by what stands on the disk meanwhile: the old contents of pages go into the journal, segment by
-- segment, and so all that a crash may leave shows the old database (fileformat2, 3; segments are own).
use Rattle.std.specs.Prelude.{◌≡◌, ◌⊎◌, ℕ, ◌+◌, ◌*◌, ◌<◌, ◌≤◌, List, length, get_or, []}
use Rattle.std.specs.List.{Contains}
use Rattle.sqval.specs.Bytes.{word}
use Rattle.sqval.specs.Database.{Database, page, file_page}
use Rattle.sqjournal.specs.Header.{HasMagic}
use Rattle.sqjournal.specs.Journal.{Segment, AreRecords, IsHot}
use Rattle.sqjournal.specs.Restored.{all_records}
use Rattle.sqjournal.specs.declared.header.JournalHeader.{JournalHeader}
use Rattle.rollcore.specs.Journaling.{old_pages, sizes, next_place, AreFull}

-- ---- Journals as lists of bytes.

-- The log journals these pages of d, by segments up to a place, where no header stands. At place 0 it has none yet.
pub record IsJournaled (size sector : ℕ) (d : Database) (named : List ℕ) (place : ℕ) (w : List ℕ) : Type 0 where
  pub segments : List Segment
  pub are : AreFull (sizes sector size) w 0 segments place
  pub records : all_records segments ≡ old_pages d named
  pub ends : HasMagic w place → ⊥
  pub begun : 0 < place → (word w 16 ≡ length d) × (word w 20 ≡ sector) × (word w 24 ≡ size)

-- it does, or it isn't hot and is to journal none
abbrev pub Tells : (size sector : ℕ) (d : Database) (named : List ℕ) (place : ℕ) (w : List ℕ) → Type 0
Tells size sector d named place w = IsJournaled size sector d named place w ⊎ ((named ≡ []) × (place ≡ 0) × (IsHot w → ⊥))

-- the header of a segment of d's pages
pub record IsHeaderOf (size sector : ℕ) (d : Database) (part : List ℕ) (nonce : ℕ) (h : JournalHeader) : Type 0 where
  pub count : h.count ≡ length part
  pub nonce_is : h.nonce ≡ nonce
  pub first_size : h.first_size ≡ length d
  pub sector_is : h.sector ≡ sector
  pub page_size : h.page_size ≡ size

-- A segment of these further pages is written but for its header: no header stands at its place, nor behind it.
pub record IsPrepared (size sector : ℕ) (d : Database) (named part : List ℕ) (nonce place : ℕ) (w : List ℕ) : Type 0 where
  pub journaled : IsJournaled size sector d named place w
  pub records : AreRecords (sizes sector size) w nonce (place + sector) (old_pages d part)
  pub ends : HasMagic w (next_place (sizes sector size) place (old_pages d part)) → ⊥
  pub long : (place ≡ 0) ⊎ (place + sector ≤ length w)

-- the file has the pages of d that aren't named; and where no journal is begun it is just as long as d
pub record HasOthers (size : ℕ) (d : Database) (named : List ℕ) (place : ℕ) (db : List ℕ) : Type 0 where
  pub each : (p : ℕ) → 1 ≤ p → p ≤ length d → (Contains named p → ⊥) → page d p ≡ file_page size db p
  pub whole : place ≡ 0 → length db ≡ length d * size

-- the bytes below a place are the same, with zeros past the end, and there are no fewer
pub record SameBelow (x : ℕ) (w v : List ℕ) : Type 0 where
  pub each : (i : ℕ) → i < x → get_or v i 0 ≡ get_or w i 0
  pub long : length w ≤ length v
