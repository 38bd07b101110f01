use Rattle.sqdeep.specs.internal.Uses.{AreNoRoots}
use Rattle.sqdeep.proofs.trees.Trees.root_behind.Given as goal

-- no page so far is a root
abbrev pub invariant-pages : goal.invariant-pages
invariant-pages l = record { none : AreNoRoots l.self.uses.items l.page l.i }
