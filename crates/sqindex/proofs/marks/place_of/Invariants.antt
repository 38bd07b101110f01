use Rattle.std.proofs.Common.{◌≡◌, ◌<◌, ◌≤◌, ◌-◌, ℕ, length, slice_get, Some}
use Rattle.std.specs.declared.cmp.Ordering.TheVariants.{Less, Greater}
use Rattle.sqlite_value.specs.Keys.{entry_cmp}
use Rattle.sqindex.specs.Stored.{Stored}
use Rattle.sqindex.specs.Keys.{values_of}
use Rattle.sqindex.specs.EntryIndexes.{entry_by}
use Rattle.sqindex.specs.internal.Held.{held_by}
use Rattle.sqindex.specs.internal.Marking.{AreSoundBy}
use Rattle.sqindex.specs.internal.Reading.{stored_of}
use Rattle.sqindex.proofs.marks.place_of.Given as goal

abbrev pub invariant-halves : goal.invariant-halves
invariant-halves l = record {
  ordered : l.low ≤ l.high;
  within : l.high ≤ length (held_by l.entries);
  below : AreSoundBy l.key (held_by l.entries) → (j : ℕ) (x : Stored) → j < l.low → slice_get (held_by l.entries) j ≡ Some x
      → entry_cmp l.key.order (entry_by l.key (stored_of l.found l.row)) (values_of x) ≡ Greater;
  above : AreSoundBy l.key (held_by l.entries) → (j : ℕ) (x : Stored) → l.high ≤ j → slice_get (held_by l.entries) j ≡ Some x
      → entry_cmp l.key.order (entry_by l.key (stored_of l.found l.row)) (values_of x) ≡ Less;
}

abbrev pub decreases-halves : goal.decreases-halves
decreases-halves l = l.high - l.low
