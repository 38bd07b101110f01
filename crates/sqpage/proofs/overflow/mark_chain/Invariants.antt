use Rattle.std.proofs.Common.{◌≡◌, ℕ, ◌+◌, List, length}
use Rattle.sqpage.specs.Source.{KeepsPages}
use Rattle.sqpage.specs.Freelist.{Leads}
use Rattle.sqpage.specs.internal.Taking.{AreTaken}
use Rattle.sqpage.proofs.overflow.mark_chain.Given as goal

abbrev pub invariant-links : goal.invariant-links
invariant-links g l =
    let d = g.S.PageSource.pages l.fn.source in
    record {
      pages : List ℕ;
      count : length pages + l.left ≡ l.needed;
      taken : AreTaken l.taken.marks.items pages;
      marks : length l.taken.marks.items ≡ length d;
      kept : KeepsPages g.S.PageSource.pages g.S.PageSource.size g.S.PageSource.reads_right g.S.PageSource.gives_pages l.fn.source l.source;
      linked : g.S.PageSource.reads_right l.fn.source → Leads d l.cell.page l.cell.overflow pages l.at l.next;
    }

abbrev pub decreases-links : goal.decreases-links
decreases-links g l = l.left
