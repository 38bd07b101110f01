use Rattle.std.proofs.Common.{◌≡◌, ◌++◌, drop}
use Rattle.sqpage.specs.Source.{KeepsPages}
use Rattle.rig_judge.specs.internal.Leaves.{leaves_of}
use Rattle.rig_judge.proofs.leaves.leaves_among.Given as goal

abbrev pub invariant-loop-p : goal.invariant-loop-p
invariant-loop-p g l =
    KeepsPages g.S.PageSource.pages g.S.PageSource.size g.S.PageSource.reads_right g.S.PageSource.gives_pages l.fn.source l.source
    × (g.S.PageSource.reads_right l.fn.source → (leaves_of (g.S.PageSource.pages l.fn.source) 0 l.pages ≡ l.leaves.items ++ leaves_of (g.S.PageSource.pages l.fn.source) l.left (drop l.p-index l.pages)))
