use Rattle.std.proofs.Common.{ℕ, Option, OnOk, sym, subst}
use Rattle.sqsalvage.specs.TreePages.{page_of}
use Rattle.cli_show_salvage.specs.internal.Walks.{IsReadTold}
use Rattle.cli_show_salvage.proofs.leaf.print_piece.Goals as goal

pub returns-in-None-clause-ok : goal.returns-in-None-clause-ok
returns-in-None-clause-ok g c = λ right.
    subst (λ (o : Option ℕ). OnOk c.print_leaf.result (IsReadTold (g.S.PageSource.pages c.args.source.now) c.args.target.now (page_of c.args.read.now.page) o c.args.book.now c.print_leaf.new.book (g.W.Write.contents c.args.out.now)
    (g.W.Write.contents c.print_leaf.new.out))) (sym c.in-None.is) (c.print_leaf.ensures.ok right)

pub returns-in-Some-clause-ok : goal.returns-in-Some-clause-ok
returns-in-Some-clause-ok g c = λ right.
    subst (λ (o : Option ℕ). OnOk c.print_cell.result (IsReadTold (g.S.PageSource.pages c.args.source.now) c.args.target.now (page_of c.args.read.now.page) o c.args.book.now c.print_cell.new.book (g.W.Write.contents c.args.out.now)
    (g.W.Write.contents c.print_cell.new.out))) (sym c.in-Some.is) (c.print_cell.ensures.ok right)
