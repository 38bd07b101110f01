use Rattle.sqcheck.proofs.Words.{Database, InCellFrom, Pushes, TopLeads, Tree, cell_count, reverse, ℕ, ◌≤◌}
use Rattle.sqcheck.proofs.node.push_chains.Given as goal

abbrev pub invariant-cells : goal.invariant-cells
invariant-cells l = record {
  chains : (tree : Tree) → Pushes tree (InCellFrom l.page l.left) l.fn.stack.items l.stack.items;
  leads : (d : Database) (root : ℕ) → TopLeads d root (reverse l.fn.stack.items) → TopLeads d root (reverse l.stack.items);
  within : l.left ≤ cell_count l.page;
}

abbrev pub decreases-cells : goal.decreases-cells
decreases-cells l = l.left
