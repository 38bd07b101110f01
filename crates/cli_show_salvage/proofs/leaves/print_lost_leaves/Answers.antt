use Rattle.std.proofs.Common.{◌∙◌, Option, refl, sym, subst}
use Rattle.sqval.specs.Database.{Database}
use Rattle.sqpage.specs.Page.{cell_count}
use Rattle.sqsalvage.specs.declared.page.TreePage.{TreePage}
use Rattle.sqsalvage.specs.TreePages.{page_of}
use Rattle.sqsalvage.specs.SalvageCursor.{IsOver, LeafMoves, LostLeft}
use Rattle.cli_show_salvage.specs.Leaves.{AreCellsTold}
use Rattle.cli_show_salvage.proofs.Kept.{kept_more, kept_same}
use Rattle.cli_show_salvage.proofs.LeavesWritten.{lost_begun, lost_more, lost_told}
use Rattle.cli_show_salvage.proofs.leaves.print_lost_leaves.Goals as goal

pub leaves-init : goal.leaves-init
leaves-init g c = record {
  kept = kept_same g.S.PageSource.pages g.S.PageSource.size g.S.PageSource.reads_right g.S.PageSource.gives_pages c.args.source.now;
  sized = refl;
  walked = λ right over. lost_begun (g.S.PageSource.pages c.args.source.now) c.args.target.now c.args.salvage.now c.args.book.now (g.W.Write.contents c.args.out.now) over;
}

pub leaves-preserved : goal.leaves-preserved
leaves-preserved g c =
    let P = g.S.PageSource in
    let i = c.leaves.invariant in
    let n = c.in-Ok-Some.ensures in
    let e = c.in-Ok.ensures in
    let d = P.pages c.args.source.now in
    let start = c.args.salvage.now in
    let s = c.leaves.salvage in
    let moved = c.next_lost.new.self in
    let page = c.in-Ok-Some.page in
    let mid = c.leaves.book in
    let new = c.print_leaf.new.book in
    let at = g.W.Write.contents c.leaves.out in
    let after = g.W.Write.contents c.print_leaf.new.out in
    let read = kept_more P.pages P.size P.reads_right P.gives_pages c.args.source.now c.leaves.source c.next_lost.new.source i.kept n.keeps in
    record {
      kept = kept_more P.pages P.size P.reads_right P.gives_pages c.args.source.now c.next_lost.new.source c.print_leaf.new.source read e.keeps;
      sized = n.same.0 ∙ i.sized;
      walked = λ right over.
          let w = i.walked right over in
          let told = n.ok (i.kept.still_right right) (subst (λ (x : Database). IsOver x s) (sym i.kept.same_pages) w.over) in
          let moves = subst (λ (o : Option TreePage). LeafMoves (LostLeft d s) (LostLeft d moved) d o) c.in-Ok-Some.field-0-is
          (subst (λ (x : Database). LeafMoves (LostLeft x s) (LostLeft x moved) x c.in-Ok-Some.field-0) i.kept.same_pages told) in
          let cells = subst (λ (x : Database). AreCellsTold x c.args.target.now (page_of page) mid at (cell_count (page_of page)) new after) read.same_pages (e.ok (read.still_right right)) in
          lost_more d c.args.target.now start s moved page c.args.book.now mid new (g.W.Write.contents c.args.out.now) at after n.same.1 n.same.2 n.same.3 w moves cells;
    }

pub returns-in-Ok-None-clause-ok : goal.returns-in-Ok-None-clause-ok
returns-in-Ok-None-clause-ok g c = λ right over.
    let i = c.leaves.invariant in
    let n = c.in-Ok-None.ensures in
    let d = g.S.PageSource.pages c.args.source.now in
    let s = c.leaves.salvage in
    let moved = c.next_lost.new.self in
    let w = i.walked right over in
    let told = n.ok (i.kept.still_right right) (subst (λ (x : Database). IsOver x s) (sym i.kept.same_pages) w.over) in
    let none = subst (λ (o : Option TreePage). LeafMoves (LostLeft d s) (LostLeft d moved) d o) c.in-Ok-None.field-0-is
    (subst (λ (x : Database). LeafMoves (LostLeft x s) (LostLeft x moved) x c.in-Ok-None.field-0) i.kept.same_pages told) in
    lost_told d c.args.target.now c.args.salvage.now s c.args.book.now c.leaves.book (g.W.Write.contents c.args.out.now) (g.W.Write.contents c.leaves.out) c.requires.first w none
