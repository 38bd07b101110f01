use Rattle.rollcore.proofs.Facts.{cut_off, ◌++◌, ◌-◌, ◌≡◌, ◌≤◌}
use Rattle.rollcore.proofs.changes.list_cut_off.Given as goal

abbrev pub invariant-loop-page : goal.invariant-loop-page
invariant-loop-page l = record {
  items : l.changes.items ≡ l.fn.changes.items ++ cut_off l.size (l.page - l.size);
  none : l.old_size ≤ l.size → l.page ≤ l.size;
}
