use Rattle.sqpage.specs.Lists.{each_from}
use Rattle.sqpage.specs.Freelist.{leaf_in}
use Rattle.sqpage.specs.internal.Taking.{TakesAll}
use Rattle.sqpage.proofs.free_pages.Found.take_leaves.Given as goal

abbrev pub invariant-leaves : goal.invariant-leaves
invariant-leaves l = TakesAll l.initial.self.taken.marks.items l.initial.self.pages.items l.self.taken.marks.items l.self.pages.items (each_from 0 l.i (leaf_in l.page))
