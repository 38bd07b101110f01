use Rattle.sqdeep.specs.internal.Uses.{AreFixed}
use Rattle.sqdeep.proofs.trees.Trees.first_movable.Given as goal

-- no page so far may be moved
abbrev pub invariant-pages : goal.invariant-pages
invariant-pages l = record { fixed : AreFixed l.self.uses.items l.i }
