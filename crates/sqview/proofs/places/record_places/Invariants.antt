use Rattle.std.proofs.Common.{◌≡◌, ◌≤◌, ◌+◌, ◌*◌, length}
use Rattle.sqview.specs.internal.ViewParts.{AreNoted}
use Rattle.sqview.proofs.places.record_places.Given as goal

abbrev pub invariant-loop-before : goal.invariant-loop-before
invariant-loop-before l = record {
  few : l.places.kept ≤ 262144 + 16 * l.records + l.before;
  long : length l.places.items ≡ l.count;
  noted : AreNoted l.replay l.before l.count l.places.items;
}
