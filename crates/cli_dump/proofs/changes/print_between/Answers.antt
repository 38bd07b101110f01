use Rattle.std.proofs.Common.{subst}
use Rattle.std.specs.Prelude.{IfErr}
use Rattle.cli_show_diff.specs.Changes.{AreChangesStopped, texts_of}
use Rattle.cli_show_diff.specs.declared.form.ChangeForm.{ChangeForm}
use Rattle.cli_dump.proofs.changes.print_between.Goals as goal

pub returns-clause-err : goal.returns-clause-err
returns-clause-err g c = λ right too.
    let d = g.S.PageSource.pages c.args.old.now in
    let e = g.T.PageSource.pages c.args.new.now in
    let before = g.W.Write.contents c.args.out.now in
    let after = g.W.Write.contents c.print_changes.new.out in
    let r = c.print_changes.result in
    subst (λ (form : ChangeForm). IfErr r (λ stop. AreChangesStopped d e (texts_of c.args.names.now) form stop before after)) c.change_form_of-form.ensures (c.print_changes.ensures.err right too)
