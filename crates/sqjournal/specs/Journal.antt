-- What a rollback journal says (fileformat2, 3, "The Rollback Journal"). Later segments and a count of 0 are own.
use Rattle.std.specs.Prelude.{◌≡◌, ◌≢◌, ◌⊎◌, ℕ, ◌+◌, ◌-◌, ◌<◌, ◌≤◌, ◌==◌, if◌then◌else◌, List, [], ◌∷◌, ◌++◌, length, Option, None, MatchOption, slice_get}
use Rattle.sqval.specs.Bytes.{part, word}
use Rattle.sqval.specs.Database.{Pages}
use Rattle.sqjournal.specs.NonceSum.{nonce_sum}
use Rattle.sqjournal.specs.Header.{HasMagic, next_header, IsFirstHeader, Names}
use Rattle.sqjournal.specs.declared.header.JournalHeader.{JournalHeader}
use Rattle.sqjournal.specs.declared.reading.Record.{Record}
use Rattle.sqjournal.specs.declared.reading.Why.{Why}
use Rattle.sqjournal.specs.declared.reading.Why.TheVariants.{End, Header, Short, PageZero, Sum}

-- a segment: its count, its nonce, and its records, pages by their numbers
pub record Segment : Type 0 where
  pub count : ℕ
  pub nonce : ℕ
  pub records : Pages

-- the count that asks for all records up to the end of the file
abbrev pub to_the_end : ℕ
to_the_end = 0xffffffff

-- the sizes of a journal: its sector and its page. Those of the first header count for all segments.
pub record Sizes : Type 0 where
  pub sector : ℕ
  pub page : ℕ

-- as the first header says
abbrev pub sizes_of : List ℕ → Sizes
sizes_of b = record { sector = word b 20; page = word b 24 }

-- a record is a page's number, the page, and the sum
abbrev pub record_len : Sizes → ℕ
record_len z = z.page + 8

-- a header at a place is valid: the magic, and the whole sector
pub record IsHeader (z : Sizes) (b : List ℕ) (at : ℕ) : Type 0 where
  pub magic : HasMagic b at
  pub whole : at + z.sector ≤ length b

-- a record stands whole at a place, with a right sum, and names a page
pub record IsRecord (z : Sizes) (b : List ℕ) (nonce at : ℕ) (r : ℕ × List ℕ) : Type 0 where
  pub whole : at + record_len z ≤ length b
  pub page : r.0 ≡ word b at
  pub named : r.0 ≢ 0
  pub content : r.1 ≡ part b (at + 4) z.page
  pub sum : word b (at + 4 + z.page) ≡ nonce_sum nonce r.1

-- where records end that begin at a place
abbrev pub records_end : Sizes → (at : ℕ) → Pages → ℕ
records_end z at [] = at
records_end z at (r ∷ rs) = records_end z (at + record_len z) rs

-- records stand one after another from a place on
abbrev pub AreRecords : Sizes → List ℕ → (nonce at : ℕ) → Pages → Type 0
AreRecords z b nonce at [] = Unit {0}
AreRecords z b nonce at (r ∷ rs) = IsRecord z b nonce at r × AreRecords z b nonce (at + record_len z) rs

-- these are all records that a count asks for
pub record AreAll (count : ℕ) (rs : Pages) : Type 0 where
  pub counted : count ≢ to_the_end
  pub all : length rs ≡ count

-- these are fewer records than a count asks for
abbrev pub AreFewer : (count : ℕ) → Pages → Type 0
AreFewer count rs = count ≢ to_the_end → length rs < count

-- why a journal ends at the place of a header: the first that is true there
abbrev pub StopsAtHeader : Sizes → List ℕ → (at : ℕ) → Why → Type 0
StopsAtHeader z b at End = length b ≤ at
StopsAtHeader z b at Header = (at < length b) × ¬ IsHeader z b at
StopsAtHeader z b at _ = ⊥

-- why it ends at the place of a record that the count asks for: the first that is true there
abbrev pub StopsAtRecord : Sizes → List ℕ → (count nonce at : ℕ) → Why → Type 0
StopsAtRecord z b count nonce at End = (count ≡ to_the_end) × (length b ≤ at)
StopsAtRecord z b count nonce at Short = (count ≡ to_the_end → at < length b) × (length b < at + record_len z)
StopsAtRecord z b count nonce at PageZero = (at + record_len z ≤ length b) × (word b at ≡ 0)
StopsAtRecord z b count nonce at Sum =
    (at + record_len z ≤ length b) × (word b at ≢ 0) × (word b (at + 4 + z.page) ≢ nonce_sum nonce (part b (at + 4) z.page))
StopsAtRecord z b count nonce at Header = ⊥

-- what a journal ends at is a whole header, its sector, or a whole record
abbrev pub IsWholeAt : Sizes → List ℕ → (at : ℕ) → Why → Type 0
IsWholeAt z b at Header = at + z.sector ≤ length b
IsWholeAt z b at PageZero = at + record_len z ≤ length b
IsWholeAt z b at Sum = at + record_len z ≤ length b
IsWholeAt z b at End = ⊥
IsWholeAt z b at Short = ⊥

-- the segments from the header at a place on, and where and why the journal ends: each segment is a valid header, its
-- sector, and records. All but the last have as many records as their counts say, and the next header is at the least
-- multiple of the sector that isn't below their end.
abbrev pub AreSegments : Sizes → List ℕ → (from : ℕ) → List Segment → (at : ℕ) → Why → Type 0
AreSegments z b from [] at why = (at ≡ from) × StopsAtHeader z b at why
AreSegments z b from (s ∷ ss) at why =
    IsHeader z b from × (s.count ≡ word b (from + 8)) × (s.nonce ≡ word b (from + 12)) × AreRecords z b s.nonce (from + z.sector) s.records
    × ((AreAll s.count s.records × AreSegments z b (next_header z.sector (records_end z (from + z.sector) s.records)) ss at why)
    ⊎ (AreFewer s.count s.records × (ss ≡ []) × (at ≡ records_end z (from + z.sector) s.records) × StopsAtRecord z b s.count s.nonce at why))

-- a journal is hot where its first header is valid
pub record IsHot (b : List ℕ) : Type 0 where
  pub first : IsFirstHeader b
  pub whole : word b 20 ≤ length b

-- why a journal that isn't hot ends at its beginning
abbrev pub StopsCold : List ℕ → Why → Type 0
StopsCold b End = length b ≡ 0
StopsCold b Header = 0 < length b
StopsCold b _ = ⊥

-- the segments of a journal, and where and why it ends
abbrev pub IsJournal : (b : List ℕ) → List Segment → (at : ℕ) → Why → Type 0
IsJournal b segments at why =
    (IsHot b × AreSegments (sizes_of b) b 0 segments at why) ⊎ ((¬ IsHot b) × (segments ≡ []) × (at ≡ 0) × StopsCold b why)

-- the pages of records from a place on, and the places of their bytes
abbrev pub placed : Sizes → (at : ℕ) → Pages → List Record
placed z at [] = []
placed z at (r ∷ rs) = record { page = r.0; at = at + 4 } ∷ placed z (at + record_len z) rs

-- the records of all segments, in order
abbrev pub entries : Sizes → (from : ℕ) → List Segment → List Record
entries z from [] = []
entries z from (s ∷ ss) = placed z (from + z.sector) s.records ++ entries z (next_header z.sector (records_end z (from + z.sector) s.records)) ss

-- entry i, from 1
abbrev pub entry_of : List Record → (i : ℕ) → Option Record
entry_of es i = if i == 0 then None else slice_get es (i - 1)

-- the first header of a hot journal
abbrev pub IsFirst : (b : List ℕ) → Option JournalHeader → Type 0
IsFirst b first = MatchOption first (¬ IsHot b) (λ h. IsHot b × Names b h)
