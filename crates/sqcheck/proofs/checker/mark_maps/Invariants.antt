use Rattle.sqcheck.proofs.Below.{MarkedTo, length, ◌-◌, ◌≡◌}
use Rattle.sqcheck.proofs.checker.mark_maps.Given as goal

abbrev pub invariant-pages : goal.invariant-pages
invariant-pages l = record {
  long : length l.marks ≡ length l.fn.marks;
  marked : MarkedTo l.size (l.size - l.reserved) l.fn.marks l.marks l.i;
}
