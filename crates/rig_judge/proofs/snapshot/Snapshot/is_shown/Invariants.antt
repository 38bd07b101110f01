use Rattle.std.proofs.Common.{◌≡◌, ℕ, ◌≤◌, length}
use Rattle.sqpage.specs.Source.{KeepsPages}
use Rattle.sqval.specs.Database.{page}
use Rattle.rig_judge.specs.Shown.{AgreesAt, commit_of}
use Rattle.rig_judge.proofs.snapshot.Snapshot.is_shown.Given as goal

abbrev pub invariant-loop-i : goal.invariant-loop-i
invariant-loop-i g l =
    KeepsPages g.S.PageSource.pages g.S.PageSource.size g.S.PageSource.reads_right g.S.PageSource.gives_pages l.fn.source l.source
    × (length l.bytes.items ≡ g.S.PageSource.size l.fn.source)
    × (g.S.PageSource.reads_right l.fn.source → ((p : ℕ) → 1 ≤ p → p ≤ l.i → AgreesAt (commit_of l.self) p (page (g.S.PageSource.pages l.fn.source) p)))
