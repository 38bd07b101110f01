-- Words of the functions that judge an index by ranges of rowids (own). No public contract cites them.
use Rattle.std.specs.Prelude.{◌≡◌, ℕ, Bool, true, false, not, ◌&&◌, List, slice_index_or, Option, Some, None, ℤ, pos, int_le}
use Rattle.std.specs.List.{AllZip, filter}
use Rattle.sqlite_value.specs.declared.value.Value.{Value}
use Rattle.sqlite_value.specs.declared.value.Value.TheVariants.{Null, Int}
use Rattle.sqkeys.specs.declared.key.IndexKey.{IndexKey}
use Rattle.sqindex.specs.declared.entries.Held.{Held}
use Rattle.sqindex.specs.declared.entries.Entries.{Entries}
use Rattle.sqindex.specs.declared.span.Span.{Span}
use Rattle.sqindex.specs.Stored.{Stored}
use Rattle.sqindex.specs.Keys.{values_of, rowid_of, IsKeyed}
use Rattle.sqindex.specs.Rules.{width}
use Rattle.sqindex.specs.internal.Held.{held_by}

-- the integer that an entry has behind n columns; 0 where that isn't one
abbrev pub int_of : Value → ℤ
int_of (Int m) = m
int_of _ = pos 0

abbrev pub number_in : (n : ℕ) → Stored → ℤ
number_in n x = int_of (slice_index_or (values_of x) n Null)

-- the rowid is at most this one, where there is one
abbrev pub up_to : Option ℤ → ℤ → Bool
up_to None r = true
up_to (Some b) r = int_le r b

-- it comes no later than the last one that was passed
abbrev pub passed : Option ℤ → ℤ → Bool
passed None r = false
passed (Some a) r = int_le r a

-- it was not passed, and is up to the last of the range
abbrev pub in_span : (above last : Option ℤ) → ℤ → Bool
in_span above last r = not (passed above r) && up_to last r

-- the rows and the entries of a range
abbrev pub rows_in : Span → List Stored → List Stored
rows_in span rows = filter (λ row. in_span span.above span.last (rowid_of row)) rows

abbrev pub entries_in : IndexKey → Span → List Stored → List Stored
entries_in key span xs = filter (λ x. in_span span.above span.last (number_in (width key) x)) xs

-- the rows and the entries that were passed
abbrev pub rows_to : (above : Option ℤ) → List Stored → List Stored
rows_to above rows = filter (λ row. passed above (rowid_of row)) rows

abbrev pub entries_to : IndexKey → (above : Option ℤ) → List Stored → List Stored
entries_to key above xs = filter (λ x. passed above (number_in (width key) x)) xs

-- The entry ends with the rowid that is held.
abbrev pub IsNumberOf : IndexKey → Held → Stored → Type 0
IsNumberOf key p x = IsKeyed (width key) p.rowid (values_of x)

-- These are the entries of the range among those that were read, in their order.
pub record AreOfSpan (key : IndexKey) (span : Span) (entries : Entries) (seen : List Stored) : Type 0 where
  pub are : held_by entries ≡ entries_in key span seen
  pub numbered : AllZip (IsNumberOf key) entries.list.items (held_by entries)

-- These are the same, and hold the same rowids.
abbrev pub IsSame : (old new : Entries) → Type 0
IsSame old new = (held_by new ≡ held_by old) × ((key : IndexKey) → AllZip (IsNumberOf key) old.list.items (held_by old) → AllZip (IsNumberOf key) new.list.items (held_by new))

-- These are the ones whose rowids are up to this one, in their order.
abbrev pub KeepsTo : (last : ℤ) → (old new : Entries) → Type 0
KeepsTo last old new = (key : IndexKey) → AllZip (IsNumberOf key) old.list.items (held_by old)
    → (held_by new ≡ filter (λ x. up_to (Some last) (number_in (width key) x)) (held_by old)) × AllZip (IsNumberOf key) new.list.items (held_by new)

-- The last one of a range wasn't passed.
abbrev pub IsOpen : Span → Type 0
IsOpen span = (b : ℤ) → span.last ≡ Some b → passed span.above b ≡ false

-- A range that begins where another one does, and ends where that does or sooner.
abbrev pub GoesOn : (old new : Span) → Type 0
GoesOn old new = (new.above ≡ old.above) × (IsOpen old → IsOpen new)
