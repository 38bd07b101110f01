use Rattle.std.proofs.Common.{OnOk, Result, Ok, Err}
use Rattle.std.proofs.lemmas.Result.{on_ok_weaker}
use Rattle.cli_show_salvage.proofs.LeavesWritten.{tree_told}
use Rattle.cli_show_salvage.proofs.leaves.print_tree.Goals as goal

both_ok : {T E P Q R : Type 0} (r : Result T E) → (P → Q → R) → OnOk r P → OnOk r Q → OnOk r R
both_ok (Ok _) f p q = f p q
both_ok (Err _) f p q = tt

pub returns-clause-ok : goal.returns-clause-ok
returns-clause-ok g c = λ right over.
    let d = g.S.PageSource.pages c.args.source.now in
    let old = c.args.salvage.now in
    let begun = c.in-Ok.ensures.ok d over in
    both_ok c.print_begun.result
    (λ w e. tree_told d c.args.target.now c.args.root old.marks.items c.begin.new.self c.print_begun.new.salvage c.args.book.now c.print_begun.new.book (g.W.Write.contents c.args.out.now) (g.W.Write.contents c.print_begun.new.out)
    c.in-Ok.ensures.same.3 c.in-Ok.ensures.only begun.1 (c.in-Ok.ensures.comes d over) w e)
    (c.print_begun.ensures.ok right begun.0) c.print_begun.ensures.ended

pub returns-clause-over : goal.returns-clause-over
returns-clause-over g c = λ right over.
    let d = g.S.PageSource.pages c.args.source.now in
    on_ok_weaker c.print_begun.result (λ w. w.over) (c.print_begun.ensures.ok right (c.in-Ok.ensures.ok d over).0)
