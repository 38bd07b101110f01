use Rattle.std.proofs.Common.{◌≤◌, ◌<◌, ◌+◌, ◌*◌, ℕ}
use Rattle.sqdeep.specs.internal.Judging.{SameSource, HasSoundTrees, IsSoundAt}
use Rattle.sqdeep.specs.internal.IllFormed.{HasIllFormed}
use Rattle.sqdeep.specs.internal.Uses.{AreUses}
use Rattle.sqdeep.proofs.judge.Judge.judge_pages.Given as goal

-- the pages so far are sound, and so many of their cells have a text that isn't formed
abbrev pub invariant-pages : goal.invariant-pages
invariant-pages g l =
    let d = g.V.Snapshot.pages in
    record {
      sound : g.V.Snapshot.right → HasSoundTrees d → AreUses d l.trees.uses.items → (p : ℕ) → 0 < p → p ≤ l.i → IsSoundAt d p;
      counted : g.V.Snapshot.right → HasSoundTrees d → AreUses d l.trees.uses.items → HasIllFormed d (l.i + 1) 0 l.ill_formed;
      most : l.ill_formed ≤ l.i * 65536;
      same : SameSource d g.V.Snapshot.size g.V.Snapshot.right g.V.Snapshot.given (g.S.PageSource.pages l.source) (g.S.PageSource.size l.source) (g.S.PageSource.reads_right l.source) (g.S.PageSource.gives_pages l.source);
    }
