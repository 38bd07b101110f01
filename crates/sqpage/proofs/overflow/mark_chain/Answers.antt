use Rattle.std.proofs.Common.{◌≤◌, [], ◌∷◌, ◌++◌, subst, ap, ◌∙◌, arith}
use Rattle.sqpage.specs.Freelist.{next_in}
use Rattle.sqpage.proofs.file.PagesInMemory.{keeps_on}
use Rattle.sqpage.proofs.chain.TakenPages.{takes}
use Rattle.sqpage.proofs.chain.OverflowChains.{linked_on, length_marked, length_snoc}
use Rattle.sqpage.proofs.overflow.mark_chain.Goals as goal

pub links-preserved : goal.links-preserved
links-preserved g c =
    let d = g.S.PageSource.pages c.args.source.now in
    let i = c.links.invariant in
    let m = c.in_ok-take.ensures.ok in
    let r = c.in_ok-read_page.ensures in
    let count = i.count in
    record {
      pages = i.pages ++ c.links.next ∷ [];
      count = let n = length_snoc i.pages c.links.next in omega (arith, n, count, c.links-test.true);
      taken = takes _ _ i.pages c.links.next i.taken m;
      marks = length_marked _ _ c.links.next m ∙ i.marks;
      kept = keeps_on i.kept r.keeps;
      linked = λ right. linked_on d (g.S.PageSource.pages c.links.source) c.args.cell.now i.pages c.links.at c.links.next c.word_at-next.result i.kept.same_pages (m.above, subst (λ n. c.links.next ≤ n) i.marks m.within) (c.word_at-next.ensures ∙ ap next_in (r.read (i.kept.still_right right))) (i.linked right);
    }
