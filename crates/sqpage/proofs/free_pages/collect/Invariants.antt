use Rattle.std.proofs.Common.{◌≡◌, length, count_by, not}
use Rattle.sqpage.specs.Source.{KeepsPages}
use Rattle.sqpage.specs.Freelist.{Reaches}
use Rattle.sqpage.specs.internal.Taking.{AreTaken}
use Rattle.sqpage.proofs.free_pages.collect.Given as goal

abbrev pub invariant-trunks : goal.invariant-trunks
invariant-trunks g l =
    let d = g.S.PageSource.pages l.fn.source in
    record {
      taken : AreTaken l.found.taken.marks.items l.found.pages.items;
      kept : KeepsPages g.S.PageSource.pages g.S.PageSource.size g.S.PageSource.reads_right g.S.PageSource.gives_pages l.fn.source l.source;
      marks : length l.found.taken.marks.items ≡ length d;
      reaches : g.S.PageSource.reads_right l.fn.source → Reaches d l.found.pages.items l.holder l.trunk;
    }

abbrev pub decreases-trunks : goal.decreases-trunks
decreases-trunks g l = count_by not l.found.taken.marks.items
