use Rattle.std.proofs.Common.{◌≡◌, ℕ, sym, subst, add-one, arith}
use Rattle.sqval.specs.Database.{Database}
use Rattle.sqpage.specs.Page.{cell_count}
use Rattle.sqsalvage.specs.TreePages.{page_of}
use Rattle.cli_show_salvage.specs.Cells.{IsCellTold}
use Rattle.cli_show_salvage.specs.Leaves.{AreCellsTold, none, more}
use Rattle.cli_show_salvage.proofs.Kept.{kept_more, kept_same}
use Rattle.cli_show_salvage.proofs.leaf.print_leaf.Goals as goal

pub cells-init : goal.cells-init
cells-init g c =
    let P = g.S.PageSource in
    record {
      kept = kept_same P.pages P.size P.reads_right P.gives_pages c.args.source.now;
      told = λ right. none;
    }

pub cells-preserved : goal.cells-preserved
cells-preserved g c =
    let P = g.S.PageSource in
    let i = c.cells.invariant in
    let e = c.in-Ok.ensures in
    let d = P.pages c.args.source.now in
    let b = page_of c.args.page.now in
    let mid = c.cells.book in
    let new = c.print_cell.new.book in
    let at = g.W.Write.contents c.cells.out in
    let after = g.W.Write.contents c.print_cell.new.out in
    record {
      kept = kept_more P.pages P.size P.reads_right P.gives_pages c.args.source.now c.cells.source c.print_cell.new.source i.kept e.keeps;
      told = λ right.
          let one = subst (λ (x : Database). IsCellTold x c.args.target.now b c.cells.i mid new at after) i.kept.same_pages (e.ok (i.kept.still_right right)) in
          subst (λ (n : ℕ). AreCellsTold d c.args.target.now b c.args.book.now (g.W.Write.contents c.args.out.now) n new after) (sym (add-one c.cells.i)) (more (i.told right) one);
    }

pub returns-clause-ok : goal.returns-clause-ok
returns-clause-ok g c = λ right.
    let all : c.cells.i ≡ cell_count (page_of c.args.page.now) = omega arith in
    subst (λ (n : ℕ). AreCellsTold (g.S.PageSource.pages c.args.source.now) c.args.target.now (page_of c.args.page.now) c.args.book.now (g.W.Write.contents c.args.out.now) n c.cells.book (g.W.Write.contents c.cells.out)) all
    (c.cells.invariant.told right)
