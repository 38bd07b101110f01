use Rattle.std.proofs.Common.{◌≡◌, take}
use Rattle.std.specs.List.{AllZip}
use Rattle.sqkeys.specs.declared.key.IndexKey.{IndexKey}
use Rattle.sqindex.specs.internal.Held.{held_by}
use Rattle.sqindex.specs.internal.Spans.{IsNumberOf}
use Rattle.sqindex.proofs.entries.Entries.packed.Given as goal

abbrev pub invariant-entries : goal.invariant-entries
invariant-entries l = record {
  same : held_by l.kept ≡ take l.i (held_by l.self);
  numbered : (key : IndexKey) → AllZip (IsNumberOf key) l.self.list.items (held_by l.self) → AllZip (IsNumberOf key) l.kept.list.items (held_by l.kept);
}
