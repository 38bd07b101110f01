-- Words of the functions that judge the entries of an index (own). No public contract cites them.
use Rattle.std.specs.Prelude.{◌≡◌, ◌≢◌, ◌<◌, ◌≤◌, ◌+◌, ℕ, true, List, length, slice_get, slice_index_or, Some, None, ℤ, ◌<ℤ◌}
use Rattle.std.specs.List.{All, Contains, count_by}
use Rattle.std.specs.List.Sorted.{IsSortedByKey}
use Rattle.std.specs.Ordering.{int_cmp}
use Rattle.std.specs.declared.cmp.Ordering.TheVariants.{Less}
use Rattle.sqval.specs.Database.{Database}
use Rattle.sqlite_value.specs.Keys.{entry_cmp}
use Rattle.sqlite_value.specs.Order.{Row}
use Rattle.sqkeys.specs.declared.key.IndexKey.{IndexKey}
use Rattle.sqindex.specs.declared.entries.Held.{Held}
use Rattle.sqindex.specs.declared.entries.Entries.{Entries}
use Rattle.sqindex.specs.declared.fault.IndexFault.{IndexFault}
use Rattle.sqindex.specs.declared.fault.IndexFault.TheVariants as faults
use Rattle.sqindex.specs.declared.error.ReadError.TheVariants.{OtherKind, NoMemory}
use Rattle.sqindex.specs.declared.error.IndexError.{IndexError}
use Rattle.sqindex.specs.declared.error.IndexError.TheVariants as errors
use Rattle.sqindex.specs.declared.walk.Found.{Found}
use Rattle.sqindex.specs.Stored.{Stored}
use Rattle.sqindex.specs.Keys.{values_of, has_rowid, IsKeyed}
use Rattle.sqindex.specs.Rules.{width, IsSameKey, AreFormed, Ascend, AreApart, HasEntries}
use Rattle.sqindex.specs.Indexes.{ReadRefused, NoEntries, cost_of, memory_of}
use Rattle.sqindex.specs.internal.Held.{nothing, entry_in}

-- Why the entries aren't read.
abbrev pub EntriesRefused : Database → (index limit longest : ℕ) → IndexError → Type 0
EntriesRefused d index limit longest (errors.Index e) = ReadRefused d index longest (NoEntries d index) e
EntriesRefused d index limit longest errors.TooLarge = (entries : List Stored) → HasEntries d index entries → limit < memory_of entries
EntriesRefused d index limit longest _ = ⊥

-- Why what was found isn't kept, where so many bytes are left.
abbrev pub KeepRefused : Found → (bytes : List ℕ) → (left : ℕ) → IndexError → Type 0
KeepRefused found bytes left (errors.Index OtherKind) = found.rowid ≢ None
KeepRefused found bytes left (errors.Index NoMemory) = Unit {0}
KeepRefused found bytes left errors.TooLarge = left < cost_of bytes
KeepRefused found bytes left _ = ⊥

-- the entry at a place
abbrev pub at_place : List Stored → (i : ℕ) → Stored
at_place xs i = slice_index_or xs i nothing

-- The second entry may come behind the first.
pub record IsBehind (key : IndexKey) (a b : Row) : Type 0 where
  pub behind : entry_cmp key.order a b ≡ Less
  pub apart : key.unique ≡ true → ¬ IsSameKey key.order (width key) a b

-- Why it may not.
abbrev pub NotBehind : IndexKey → (a b : Row) → IndexFault → Type 0
NotBehind key a b faults.EntryOrder = entry_cmp key.order a b ≢ Less
NotBehind key a b faults.KeyTwice = (key.unique ≡ true) × IsSameKey key.order (width key) a b
NotBehind key a b _ = ⊥

-- The rules that the entries of an index follow by themselves.
pub record AreSoundEntries (key : IndexKey) (xs : List Stored) : Type 0 where
  pub formed : AreFormed (width key) xs
  pub ascend : Ascend key.order xs
  pub apart : key.unique ≡ true → AreApart key.order (width key) xs

-- The rowids rise.
abbrev pub RowidsRise : List Held → Type 0
RowidsRise ps = (i : ℕ) (p q : Held) → slice_get ps i ≡ Some p → slice_get ps (i + 1) ≡ Some q → p.rowid <ℤ q.rowid

-- Where they don't fall, two next to each other are the same.
abbrev pub IsTie : List Held → (i : ℕ) → Type 0
IsTie ps i = (i + 1 < length ps) × (IsSortedByKey (λ (p : Held). p.rowid) int_cmp ps
    → (p q : Held) → slice_get ps i ≡ Some p → slice_get ps (i + 1) ≡ Some q → p.rowid ≡ q.rowid)

-- It holds the rowid that its entry ends with.
abbrev pub IsNumbered : IndexKey → Entries → Held → Type 0
IsNumbered key entries p = IsKeyed (width key) p.rowid (values_of (entry_in entries p))

-- These are by rowid.
pub record AreByRowid (key : IndexKey) (entries : Entries) : Type 0 where
  pub each : All (IsNumbered key entries) entries.list.items
  pub rise : RowidsRise entries.list.items

-- One of these entries has the rowid of another.
abbrev pub HasTwice : IndexKey → (ys : List Stored) → (x : Stored) → Type 0
HasTwice key ys x = (rowid : ℤ) × IsKeyed (width key) rowid (values_of x) × (2 ≤ count_by (λ e. has_rowid (width key) rowid (values_of e)) ys)

-- Why they aren't sorted: memory ran out, or RowTwice stands at one.
abbrev pub TwiceRefused : IndexKey → (ys : List Stored) → IndexError → Type 0
TwiceRefused key ys (errors.Index e) = e ≡ NoMemory
TwiceRefused key ys (errors.Entry e) = (x : Stored) × Contains ys x × (x.page ≡ e.page) × (x.cell ≡ e.cell) × (e.fault ≡ faults.RowTwice) × HasTwice key ys x
TwiceRefused key ys _ = ⊥
