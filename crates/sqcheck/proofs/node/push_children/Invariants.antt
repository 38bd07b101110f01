use Rattle.sqcheck.proofs.Between.{ChildFrom, IsNext, Pushes, Tree, cell_count, node_in, ◌+◌, ◌≤◌}
use Rattle.sqcheck.proofs.node.push_children.Given as goal

abbrev pub invariant-cells : goal.invariant-cells
invariant-cells l = record {
  children : (tree : Tree) → Pushes tree (ChildFrom l.page (node_in tree l.bounds.level l.bounds.low l.bounds.high) (l.left + 1)) l.fn.stack.items l.stack.items;
  next : IsNext l.page l.bounds.high l.left l.child l.high;
  within : l.left ≤ cell_count l.page;
}

abbrev pub decreases-cells : goal.decreases-cells
decreases-cells l = l.left
