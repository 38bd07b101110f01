use Rattle.std.proofs.Common.{◌≡◌, take}
use Rattle.sqpage.specs.Source.{KeepsPages}
use Rattle.rig_judge.proofs.snapshot.read_pages.Given as goal

abbrev pub invariant-loop-i : goal.invariant-loop-i
invariant-loop-i g l =
    KeepsPages g.S.PageSource.pages g.S.PageSource.size g.S.PageSource.reads_right g.S.PageSource.gives_pages l.fn.source l.source
    × (g.S.PageSource.reads_right l.fn.source → (l.pages.items ≡ take l.i (g.S.PageSource.pages l.fn.source)))
