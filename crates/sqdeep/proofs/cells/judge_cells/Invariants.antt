use Rattle.std.proofs.Common.{◌≡◌, ◌≤◌, ◌+◌, ℕ}
use Rattle.sqpage.specs.declared.kind.Kind.{Kind}
use Rattle.sqcheck.specs.Places.{page_as}
use Rattle.sqdeep.specs.internal.Judging.{SameSource, AreSoundCells, HasSoundTrees, IsOfSoundTree}
use Rattle.sqdeep.specs.internal.IllFormed.{HasIllFormed}
use Rattle.sqdeep.proofs.cells.judge_cells.Given as goal

-- the cells so far are sound, and so many have a text that isn't formed
abbrev pub invariant-cells : goal.invariant-cells
invariant-cells g l =
    let d = g.V.Snapshot.pages in
    record {
      sound : g.V.Snapshot.right → AreSoundCells d l.page l.i;
      counted : g.V.Snapshot.right → HasSoundTrees d → (kind : Kind) (root : ℕ) → l.page ≡ page_as d kind l.page.number → IsOfSoundTree d kind root l.page.number
          → (before : ℕ) → HasIllFormed d l.page.number 0 before → HasIllFormed d l.page.number l.i (before + l.count);
      most : l.count ≤ l.i;
      same : SameSource d g.V.Snapshot.size g.V.Snapshot.right g.V.Snapshot.given (g.S.PageSource.pages l.source) (g.S.PageSource.size l.source) (g.S.PageSource.reads_right l.source) (g.S.PageSource.gives_pages l.source);
    }
