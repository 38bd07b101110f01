-- What is printed of what stands behind the stop of the log that counts (own).
use Rattle.std.specs.Prelude.{◌≡◌, ◌≢◌, ◌⊎◌, ◌↔◌, IsTrue, ℕ, zero, suc, ◌+◌, ◌-◌, ◌*◌, ◌/◌, ◌%◌, ◌^◌, ◌<◌, ◌≤◌, ◌==◌, ◌&&◌, min, Bool, false, if◌then◌else◌, List, [], ◌∷◌, ◌++◌, length, Option, None, Some}
use Rattle.std.specs.List.{flat_map}
use Rattle.sqval.specs.Bytes.{part, word}
use Rattle.sqwal.specs.Frames.{frame_at}
use Rattle.sqwal.specs.Header.{named_size, IsHeader, HeaderRefused}
use Rattle.sqwal.specs.Slots.{IsSlot}
use Rattle.sqwal.specs.Stops.{IsStop}
use Rattle.sqwal.specs.declared.error.WalFormatError.{WalFormatError}
use Rattle.sqwal.specs.declared.scan.Why.{Why}
use Rattle.sqwal.specs.declared.slots.Slot.{Slot}
use Rattle.sqview.specs.LogView.{head_of}
use Rattle.cli_words.specs.declared.requests.Options.{Options}
use Rattle.cli_words.specs.declared.requests.Style.{Style}
use Rattle.sqjournal.specs.Header.{next_header}
use Rattle.sqjournal.specs.Journal.{Segment, Sizes, sizes_of, records_end, IsHot, IsJournal}
use Rattle.sqjournal.specs.Slots.{Follows, IsRecordSlot, IsZeroed}
use Rattle.sqjournal.specs.Took.{HasCount}
use Rattle.sqjournal.specs.declared.replay.Stop.{Stop}
use Rattle.sqjournal.specs.declared.slots.RecordSlot.{RecordSlot}
use Rattle.sqpage.specs.Header.{IsHeader as IsDatabaseHeader}
use Rattle.sqpage.specs.declared.header.DbHeader.{DbHeader}
use Rattle.cli_text.specs.Behind.{end_text, record_slot_text, slot_text}
use Rattle.cli_text.specs.declared.behind.SlotKind.TheVariants.{Frame, Record}
use Rattle.cli_show.specs.Generations.{AreGenerations, generation_text}
use Rattle.cli_show.specs.declared.generations.Generation.{Generation}
use Rattle.cli_show.specs.LogsShown.{IsLogText}
use Rattle.cli_show.specs.declared.contents.Contents.{Contents}

-- a text of so many lines one after the other, of which line k, from 0, is such a one
abbrev pub AreLines : (IsLine : (k : ℕ) → (line : List ℕ) → Type 0) → (count : ℕ) → (text : List ℕ) → Type 0
AreLines IsLine zero text = text ≡ []
AreLines IsLine (suc k) text = (before : List ℕ) × (line : List ℕ) × AreLines IsLine k before × IsLine k line × (text ≡ before ++ line)

-- how many whole slots of one length there are from a place to the end of a file, and how many bytes are over
abbrev pub slots_from : (place length_of_slot : ℕ) → (file : List ℕ) → ℕ
slots_from place length_of_slot file = (length file - place) / length_of_slot

abbrev pub over_from : (place length_of_slot : ℕ) → (file : List ℕ) → ℕ
over_from place length_of_slot file = (length file - place) % length_of_slot

-- a slot as it is shown: zeros, which nobody wrote, have the sums of zeros, but follow nothing
abbrev pub as_written : Slot → Slot
as_written slot = if slot.page == 0 && (slot.sum.s0 == 0 && slot.sum.s1 == 0) then record slot { follows = false } else slot

-- the line of a frame slot, which is line k from this slot on
abbrev pub IsSlotLine : Style → (wal : List ℕ) → (first k : ℕ) → (line : List ℕ) → Type 0
IsSlotLine style w first k line = (slot : Slot) × IsSlot (named_size w) w (first + k) slot × (line ≡ slot_text style (first + k) (as_written slot))

-- the frame slots of a log from this one on, and how many they are
abbrev pub AreSlotLines : Style → (wal : List ℕ) → (first : ℕ) → (text : List ℕ) → Type 0
AreSlotLines style w first text =
    let place = frame_at (named_size w) first in
    let count = slots_from place (24 + named_size w) w in
    (lines : List ℕ) × AreLines (IsSlotLine style w first) count lines
    × (text ≡ lines ++ end_text style Frame count (over_from place (24 + named_size w) w))

-- of which earlier log they are, and how many commits of each are whole
abbrev pub AreGenerationLines : Style → (wal : List ℕ) → (first : ℕ) → (text : List ℕ) → Type 0
AreGenerationLines style w first text = (gs : List Generation)
    × AreGenerations (named_size w) w first (first + slots_from (frame_at (named_size w) first) (24 + named_size w) w) gs
    × (text ≡ flat_map (generation_text style) gs)

-- both of a write-ahead log from its stop on. Of one that is shorter than a header its bytes are over, and of one whose
-- header is refused nothing is printed.
abbrev pub IsBehindFrames : Style → (wal text : List ℕ) → Type 0
IsBehindFrames style w text = ((length w < 32) × (text ≡ end_text style Frame 0 (length w)))
    ⊎ ((IsHeader (named_size w) w × ((stop : ℕ) × (why : Why) × IsStop w stop why
    × ((slots : List ℕ) × (generations : List ℕ) × AreSlotLines style w stop slots × AreGenerationLines style w stop generations
    × (text ≡ slots ++ generations))))
    ⊎ (((error : WalFormatError) × (32 ≤ length w) × HeaderRefused w error) × (text ≡ [])))

-- where slot k begins, from 0, of slots of one length from a place on
abbrev pub slot_place : (from length_of_slot k : ℕ) → ℕ
slot_place from length_of_slot k = from + k * length_of_slot

-- records from a place on as lines, and how many they are
abbrev pub AreRecordLines : Style → (IsLine : (k : ℕ) → (line : List ℕ) → Type 0) → (size from : ℕ) → (journal text : List ℕ) → Type 0
AreRecordLines style IsLine size from b text = (lines : List ℕ) × AreLines IsLine (slots_from from (size + 8) b) lines
    × (text ≡ lines ++ end_text style Record (slots_from from (size + 8) b) (over_from from (size + 8) b))

-- the line of a record, which is line k from this place on, where the first has this number; it follows where its sum does
-- from this nonce
abbrev pub IsRestLine : Style → (size : ℕ) → (journal : List ℕ) → (from first nonce : ℕ) → (k : ℕ) → (line : List ℕ) → Type 0
IsRestLine style size b from first nonce k line = (slot : RecordSlot) × IsRecordSlot size b (slot_place from (size + 8) k) slot
    × (line ≡ record_slot_text style (min (first + k) (2 ^ 64 - 1)) (slot_place from (size + 8) k) slot (slot.nonce == nonce))

-- Behind a first header that was overwritten with zeros: the record before record k or behind it, of so many, has a sum that
-- follows from the same nonce.
abbrev pub HasFellow : (size count : ℕ) → (journal : List ℕ) → (k nonce : ℕ) → Type 0
HasFellow size count b k nonce = ((0 < k) × Follows size b (slot_place 512 (size + 8) (k - 1)) nonce)
    ⊎ ((k + 1 < count) × Follows size b (slot_place 512 (size + 8) (k + 1)) nonce)

-- The line of a record there, from a sector of 512 on. It follows where it has such a fellow and names a page: zeros are no record.
abbrev pub IsZeroedLine : Style → (size count : ℕ) → (journal : List ℕ) → (k : ℕ) → (line : List ℕ) → Type 0
IsZeroedLine style size count b k line = (slot : RecordSlot) × (follows : Bool) × IsRecordSlot size b (slot_place 512 (size + 8) k) slot
    × (IsTrue follows ↔ ((slot.page ≢ 0) × HasFellow size count b k slot.nonce))
    × (line ≡ record_slot_text style (k + 1) (slot_place 512 (size + 8) k) slot follows)

-- a journal whose first header was overwritten with zeros
abbrev pub BeginsZeroed : (journal : List ℕ) → Type 0
BeginsZeroed b = (28 ≤ length b) × IsZeroed (part b 0 28)

-- the page size that a database's header names, none where there is no such header
abbrev pub NamesSize : (db : List ℕ) → Option ℕ → Type 0
NamesSize db None = (header : DbHeader) → ¬ IsDatabaseHeader header (head_of db)
NamesSize db (Some size) = (header : DbHeader) × IsDatabaseHeader header (head_of db) × (size ≡ header.page_size)

-- the records of such a journal beside such a database; nothing is printed of another
abbrev pub IsBehindZeros : Style → (db journal text : List ℕ) → Type 0
IsBehindZeros style db b text = (BeginsZeroed b × ((size : ℕ) × NamesSize db (Some size)
    × AreRecordLines style (IsZeroedLine style size (slots_from 512 (size + 8) b) b) size 512 b text))
    ⊎ (((¬ BeginsZeroed b) ⊎ NamesSize db None) × (text ≡ []))

-- where the records end of the last of these segments, of which the first begins at a place, and its nonce
abbrev pub EndsLast : Sizes → (from : ℕ) → List Segment → (end nonce : ℕ) → Type 0
EndsLast z from [] end nonce = ⊥
EndsLast z from (s ∷ []) end nonce = (end ≡ records_end z (from + z.sector) s.records) × (nonce ≡ s.nonce)
EndsLast z from (s ∷ (t ∷ ss)) end nonce = EndsLast z (next_header z.sector (records_end z (from + z.sector) s.records)) (t ∷ ss) end nonce

-- where the last segment of a hot journal ends, and its nonce (fileformat2, 3)
pub record EndsSegments (journal : List ℕ) (end nonce : ℕ) : Type 0 where
  pub segments : List Segment
  pub stop : Stop
  pub is : IsJournal journal segments stop.at stop.why
  pub last : EndsLast (sizes_of journal) 0 segments end nonce

-- of a hot journal: its records from the end of its last segment on, with the numbers behind those that count, of which
-- each follows that has that segment's nonce
abbrev pub IsBehindRecords : Style → (journal text : List ℕ) → Type 0
IsBehindRecords style b text = (count : ℕ) × (from : ℕ) × (nonce : ℕ) × HasCount b count × EndsSegments b from nonce
    × AreRecordLines style (IsRestLine style (word b 24) b from (min (count + 1) (2 ^ 64 - 1)) nonce) (word b 24) from b text

-- what stands behind the stop of the log that counts, and where none does, behind a journal's header of zeros
abbrev pub IsBehindText : Style → (files : Contents (List ℕ)) → (text : List ℕ) → Type 0
IsBehindText style files text = (IsHot files.journal × IsBehindRecords style files.journal text)
    ⊎ (((¬ IsHot files.journal) × (files.wal ≢ []) × IsBehindFrames style files.wal text)
    ⊎ ((¬ IsHot files.journal) × (files.wal ≡ []) × IsBehindZeros style files.db files.journal text))

-- the whole log: what `show --log` prints of it, and what stands behind its stop
abbrev pub IsWholeLogText : Options → (files : Contents (List ℕ)) → (text : List ℕ) → Type 0
IsWholeLogText options files text = (shown : List ℕ) × (behind : List ℕ) × IsLogText options files.wal files.journal shown
    × IsBehindText options.style files behind × (text ≡ shown ++ behind)
