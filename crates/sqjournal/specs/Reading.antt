-- How far a journal is read (own): the words of this crate's helpers, which no public contract cites but `Took`.
use Rattle.std.specs.Prelude.{◌≡◌, ◌⊎◌, ℕ, ◌+◌, ◌-◌, ◌^◌, ◌<◌, ◌≤◌, List, [], ◌++◌, length, drop}
use Rattle.sqval.specs.Bytes.{word}
use Rattle.sqval.specs.Database.{Pages}
use Rattle.sqjournal.specs.Header.{next_header, IsFirstHeader, Names}
use Rattle.sqjournal.specs.Journal.{Segment, Sizes, record_len, records_end, AreRecords, AreAll, AreFewer, StopsAtRecord, IsWholeAt, AreSegments, placed, entries}
use Rattle.sqjournal.specs.declared.header.JournalHeader.{JournalHeader}
use Rattle.sqjournal.specs.declared.reading.Record.{Record}
use Rattle.sqjournal.specs.declared.reading.Why.{Why}
use Rattle.sqjournal.specs.declared.reading.Reading.{Reading}
use Rattle.sqjournal.specs.declared.reading.Next.{Next}
use Rattle.sqjournal.specs.declared.reading.Next.TheVariants.{NewSegment, Records, Over}

-- the sizes that a first header names
abbrev pub sizes : JournalHeader → Sizes
sizes h = record { sector = h.sector; page = h.page_size }

-- what is read from a place on: the records that the segment begun there still gets, the segments after it, and the stop
abbrev pub Reads : Sizes → List ℕ → Next → (from : ℕ) → Pages → List Segment → (at : ℕ) → Why → Type 0
Reads z b NewSegment from rs ss at why = (rs ≡ []) × AreSegments z b from ss at why
Reads z b (Records nonce left) from rs ss at why = AreRecords z b nonce from rs
    × ((AreAll left rs × AreSegments z b (next_header z.sector (records_end z from rs)) ss at why)
    ⊎ (AreFewer left rs × (ss ≡ []) × (at ≡ records_end z from rs) × StopsAtRecord z b left nonce at why))
Reads z b (Over w) from rs ss at why = (rs ≡ []) × (ss ≡ []) × (at ≡ from) × (why ≡ w)

-- the entries of it
abbrev pub entries_from : Sizes → Next → (from : ℕ) → Pages → List Segment → List Record
entries_from z NewSegment from rs ss = entries z from ss
entries_from z (Records nonce left) from rs ss = placed z from rs ++ entries z (next_header z.sector (records_end z from rs)) ss
entries_from z (Over w) from rs ss = []

-- the segments of a journal with these entries
pub record HasEntries (z : Sizes) (b : List ℕ) (es : List Record) (at : ℕ) (why : Why) : Type 0 where
  pub segments : List Segment
  pub are : AreSegments z b 0 segments at why
  pub all : entries z 0 segments ≡ es

-- whatever bytes follow, the journal of them all has the entries so far and then those that are read from the place on
abbrev pub Continues : Sizes → List ℕ → Next → (from : ℕ) → List Record → Type 0
Continues z b next from es = (more : List ℕ) (rs : Pages) (ss : List Segment) (at : ℕ) (why : Why)
    → Reads z (b ++ more) next from rs ss at why → HasEntries z (b ++ more) (es ++ entries_from z next from rs ss) at why

-- a segment is read on only while it asks for records
abbrev pub Asks : Next → Type 0
Asks (Records nonce left) = 0 < left
Asks _ = Unit {0}

-- a reading ends at a whole header or record
abbrev pub IsWholeIfOver : Sizes → List ℕ → (at : ℕ) → Next → Type 0
IsWholeIfOver z b at (Over why) = IsWholeAt z b at why
IsWholeIfOver z b at _ = Unit {0}

-- a reading of bytes with a first header
pub record Stands (b : List ℕ) (r : Reading) (es : List Record) : Type 0 where
  pub long : 28 ≤ length b
  pub first : IsFirstHeader b
  pub names : Names b r.header
  pub begun : ((r.at ≡ 0) × (r.next ≡ NewSegment) × (es ≡ [])) ⊎ (word b 20 ≤ length b)
  pub asks : Asks r.next
  pub whole : IsWholeIfOver (sizes r.header) b r.at r.next
  pub rest : Continues (sizes r.header) b r.next r.at es

-- how many bytes the header's sector or the record has that is next
abbrev pub len_of : JournalHeader → Next → ℕ
len_of h NewSegment = h.sector
len_of h (Records nonce left) = record_len (sizes h)
len_of h (Over w) = 0

abbrev pub next_len : Reading → ℕ
next_len r = len_of r.header r.next

-- the journal has ended
abbrev pub IsOver : Next → Type 0
IsOver (Over w) = Unit {0}
IsOver _ = ⊥

-- the fact holds unless the reading is over
abbrev pub UnlessOver : Next → Type 0 → Type 0
UnlessOver next P = (IsOver next → ⊥) → P

-- what is kept is all that came of the header or record that is next
abbrev pub Keeps : List ℕ → Reading → (begun : List ℕ) → Type 0
Keeps b r begun = (IsOver r.next → begun ≡ []) × UnlessOver r.next (begun ≡ drop r.at b)

-- and it isn't whole
abbrev pub Waits : List ℕ → Reading → (begun : List ℕ) → Type 0
Waits b r begun = Keeps b r begun × UnlessOver r.next (length b < r.at + next_len r)

-- the numbers of a reading are within their limits, so many bytes being kept
pub record IsSound (taken begun : ℕ) (r : Reading) : Type 0 where
  pub least : 512 ≤ r.header.sector
  pub greatest : r.header.sector ≤ 65536
  pub within : r.at ≤ 2 ^ 41
  pub over : IsOver r.next → begun ≡ 0
  pub short : UnlessOver r.next (taken < r.at + next_len r)
  pub kept : UnlessOver r.next (begun ≡ taken - r.at)
