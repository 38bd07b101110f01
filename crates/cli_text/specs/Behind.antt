-- How it is printed what stands behind the stop of a log (own).
use Rattle.std.specs.Prelude.{ℕ, ◌+◌, ◌-◌, ◌^◌, min, Bool, if◌then◌else◌, List, [], ◌∷◌, ◌++◌, codes}
use Rattle.std.specs.Fmt.{decimal}
use Rattle.sqwal.specs.declared.slots.Slot.{Slot}
use Rattle.sqjournal.specs.declared.slots.RecordSlot.{RecordSlot}
use Rattle.cli_words.specs.declared.requests.Style.{Style}
use Rattle.cli_words.specs.declared.requests.Style.TheVariants.{Lines, Json}
use Rattle.cli_text.specs.declared.behind.SlotKind.{SlotKind}
use Rattle.cli_text.specs.declared.behind.SlotKind.TheVariants.{Frame, Record}
use Rattle.cli_text.specs.Facts.{number_text, object_text, salts_text, word_text}

-- what stands in slots
abbrev pub slots_word : SlotKind → List ℕ
slots_word Frame = codes "frames"
slots_word Record = codes "records"

-- how many slots there were, and the bytes over
abbrev pub end_text : Style → SlotKind → (count over : ℕ) → List ℕ
end_text Lines kind count over =
    codes "behind " ++ (decimal count ++ (codes " " ++ (slots_word kind ++ (codes ", " ++ (decimal over ++ codes " bytes over\n")))))
end_text Json kind count over = object_text Json (
    number_text Json (codes "behind " ++ slots_word kind) count
    ∷ number_text Json (codes "bytes over") over ∷ [])

-- whether the sum in a slot follows
abbrev pub follows_word : Bool → List ℕ
follows_word follows = if follows then codes "yes" else codes "no"

-- a frame by its number
abbrev pub slot_text : Style → (i : ℕ) → Slot → List ℕ
slot_text style i slot = object_text style (
    number_text style (codes "behind") i
    ∷ number_text style (codes "page") slot.page
    ∷ number_text style (codes "size") slot.size
    ∷ salts_text style (codes "salts") slot.salt1 slot.salt2
    ∷ word_text style (codes "follows") (follows_word slot.follows) ∷ [])

-- A record by its number. It begins at this place, and its page 4 bytes behind it.
abbrev pub record_slot_text : Style → (i place : ℕ) → RecordSlot → (follows : Bool) → List ℕ
record_slot_text style i place slot follows = object_text style (
    number_text style (codes "behind record") i
    ∷ number_text style (codes "page") slot.page
    ∷ number_text style (codes "at") (min (place + 4) (2 ^ 64 - 1))
    ∷ word_text style (codes "follows") (follows_word follows) ∷ [])
