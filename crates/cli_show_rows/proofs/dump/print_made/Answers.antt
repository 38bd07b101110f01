use Rattle.std.proofs.Common.{◌≡◌, ◌∙◌, ap, inl, inr, refl, sym}
use Rattle.cli_show_rows.specs.Dumps.{AreRowsPrinted, IsMadePrinted}
use Rattle.cli_show_rows.specs.Stops.{AreRowsStopped, IsMadeStopped}
use Rattle.cli_show_rows.specs.Tables.{is_named_in}
use Rattle.cli_show_rows.proofs.Cases.{when_false, when_true}
use Rattle.cli_show_rows.proofs.TablesStopped.{on_err, on_ok}
use Rattle.cli_show_rows.proofs.dump.print_made.Goals as goal

pub returns-clause-ok : goal.returns-clause-ok
returns-clause-ok g c = λ gives.
    let d = g.S.PageSource.pages c.args.source.now in
    let old = g.W.Write.contents c.args.out.now in
    let mid = g.W.Write.contents c.print_before.new.out in
    let new = g.W.Write.contents c.print_rows_of.new.out in
    let table = c.args.table.now in
    let named = is_named_in c.args.form.notation table.name.items in
    on_ok c.print_rows_of.result (AreRowsPrinted d c.args.form table mid new) (IsMadePrinted d c.args.form c.args.made table old new)
    (λ headed. (mid, c.in-Ok.ensures.ok, when_true named (AreRowsPrinted d c.args.form table mid new) (mid ≡ new) (sym (c.is_named_in.ensures ∙ ap (λ n. is_named_in c.args.form.notation n) c.as_slice.ensures.value) ∙ c.if-not-is_named_in.false) headed)) (c.print_rows_of.ensures.ok gives)

pub returns-clause-err : goal.returns-clause-err
returns-clause-err g c = λ gives.
    let d = g.S.PageSource.pages c.args.source.now in
    let old = g.W.Write.contents c.args.out.now in
    let mid = g.W.Write.contents c.print_before.new.out in
    let new = g.W.Write.contents c.print_rows_of.new.out in
    on_err c.print_rows_of.result (λ stop. AreRowsStopped d c.args.form c.args.table.now stop mid new) (λ stop. IsMadeStopped d c.args.form c.args.made c.args.table.now stop old new)
    (λ stop stopped. inr (mid, c.in-Ok.ensures.ok, (sym (c.is_named_in.ensures ∙ ap (λ n. is_named_in c.args.form.notation n) c.as_slice.ensures.value) ∙ c.if-not-is_named_in.false), stopped)) (c.print_rows_of.ensures.err gives)

pub returns-then-not-is_named_in-clause-ok : goal.returns-then-not-is_named_in-clause-ok
returns-then-not-is_named_in-clause-ok g c = λ gives.
    let d = g.S.PageSource.pages c.args.source.now in
    let mid = g.W.Write.contents c.print_before.new.out in
    let table = c.args.table.now in
    (mid, c.in-Ok.ensures.ok, when_false (is_named_in c.args.form.notation table.name.items) (AreRowsPrinted d c.args.form table mid mid) (mid ≡ mid) (sym (c.is_named_in.ensures ∙ ap (λ n. is_named_in c.args.form.notation n) c.as_slice.ensures.value) ∙ c.if-not-is_named_in.true) refl)

pub returns-in-Err-clause-err : goal.returns-in-Err-clause-err
returns-in-Err-clause-err g c = λ gives. inl c.in-Err.ensures.err
