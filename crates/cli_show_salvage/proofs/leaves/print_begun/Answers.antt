use Rattle.std.proofs.Common.{◌∙◌, Option, refl, sym, subst}
use Rattle.sqval.specs.Database.{Database}
use Rattle.sqsalvage.specs.declared.piece.PieceRead.{PieceRead}
use Rattle.sqsalvage.specs.TreePages.{page_of}
use Rattle.sqsalvage.specs.SalvageCursor.{IsOver, TreeMoves}
use Rattle.cli_show_salvage.specs.internal.Walks.{IsReadTold}
use Rattle.cli_show_salvage.proofs.Kept.{kept_more, kept_same}
use Rattle.cli_show_salvage.proofs.LeavesWritten.{walk_begun, walk_more, walk_ended}
use Rattle.cli_show_salvage.proofs.leaves.print_begun.Goals as goal

pub pieces-init : goal.pieces-init
pieces-init g c = record {
  kept = kept_same g.S.PageSource.pages g.S.PageSource.size g.S.PageSource.reads_right g.S.PageSource.gives_pages c.args.source.now;
  sized = refl;
  at = refl;
  table = refl;
  walked = λ right over. walk_begun (g.S.PageSource.pages c.args.source.now) c.args.target.now c.args.salvage.now c.args.book.now (g.W.Write.contents c.args.out.now) over;
}

pub pieces-preserved : goal.pieces-preserved
pieces-preserved g c =
    let P = g.S.PageSource in
    let i = c.pieces.invariant in
    let n = c.in-Ok-Some.ensures in
    let e = c.in-Ok.ensures in
    let d = P.pages c.args.source.now in
    let start = c.args.salvage.now in
    let s = c.pieces.salvage in
    let moved = c.next_piece.new.self in
    let piece = c.in-Ok-Some.read in
    let mid = c.pieces.book in
    let new = c.print_piece.new.book in
    let at = g.W.Write.contents c.pieces.out in
    let after = g.W.Write.contents c.print_piece.new.out in
    let read = kept_more P.pages P.size P.reads_right P.gives_pages c.args.source.now c.pieces.source c.next_piece.new.source i.kept n.keeps in
    record {
      kept = kept_more P.pages P.size P.reads_right P.gives_pages c.args.source.now c.next_piece.new.source c.print_piece.new.source read e.keeps;
      sized = n.same.0 ∙ i.sized;
      at = n.same.2 ∙ i.at;
      table = n.same.3 ∙ i.table;
      walked = λ right over.
          let w = i.walked right over in
          let told = n.ok (i.kept.still_right right) (subst (λ (x : Database). IsOver x s) (sym i.kept.same_pages) w.over) in
          let moves = subst (λ (o : Option PieceRead). TreeMoves d s moved o) c.in-Ok-Some.field-0-is (subst (λ (x : Database). TreeMoves x s moved c.in-Ok-Some.field-0) i.kept.same_pages told) in
          let cells = subst (λ (x : Database). IsReadTold x c.args.target.now (page_of piece.page) piece.cell mid new at after) read.same_pages (e.ok (read.still_right right)) in
          walk_more d c.args.target.now start s moved piece c.args.book.now mid new (g.W.Write.contents c.args.out.now) at after n.same.3 w moves cells;
    }

pub returns-in-Ok-None-clause-ok : goal.returns-in-Ok-None-clause-ok
returns-in-Ok-None-clause-ok g c = λ right over.
    let i = c.pieces.invariant in
    let n = c.in-Ok-None.ensures in
    let d = g.S.PageSource.pages c.args.source.now in
    let s = c.pieces.salvage in
    let moved = c.next_piece.new.self in
    let w = i.walked right over in
    let told = n.ok (i.kept.still_right right) (subst (λ (x : Database). IsOver x s) (sym i.kept.same_pages) w.over) in
    let moves = subst (λ (o : Option PieceRead). TreeMoves d s moved o) c.in-Ok-None.field-0-is (subst (λ (x : Database). TreeMoves x s moved c.in-Ok-None.field-0) i.kept.same_pages told) in
    walk_ended d c.args.target.now c.args.salvage.now s moved c.args.book.now c.pieces.book (g.W.Write.contents c.args.out.now) (g.W.Write.contents c.pieces.out) n.same.3 w moves
