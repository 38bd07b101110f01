use Rattle.sqpage.specs.Source.{KeepsPages}
use Rattle.rig_judge.specs.Shown.{ShowsNoneFrom, commits_of}
use Rattle.rig_judge.proofs.history.History.shown.Given as goal

abbrev pub invariant-loop-k : goal.invariant-loop-k
invariant-loop-k g l =
    KeepsPages g.S.PageSource.pages g.S.PageSource.size g.S.PageSource.reads_right g.S.PageSource.gives_pages l.fn.source l.source
    × (g.S.PageSource.reads_right l.fn.source → ShowsNoneFrom (commits_of l.self) l.k (g.S.PageSource.pages l.fn.source))
