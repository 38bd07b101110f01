use Rattle.sqcheck.proofs.Words.{Database, IsLeafFrom, Pushes, TopLeads, Tree, leaf_count_in, reverse, ℕ, ◌≤◌}
use Rattle.sqcheck.proofs.trunk.push_leaves.Given as goal

abbrev pub invariant-leaves : goal.invariant-leaves
invariant-leaves l = record {
  leaves : (tree : Tree) → Pushes tree (IsLeafFrom l.bytes l.trunk l.left) l.fn.stack.items l.stack.items;
  leads : (d : Database) (root : ℕ) → TopLeads d root (reverse l.fn.stack.items) → TopLeads d root (reverse l.stack.items);
  within : l.left ≤ leaf_count_in l.bytes;
}

abbrev pub decreases-leaves : goal.decreases-leaves
decreases-leaves l = l.left
