use Rattle.std.proofs.Common.{inr, subst}
use Rattle.sqview.specs.LogView.{pages_of}
use Rattle.cli_show_diff.specs.Changes.{AreChangesPrinted, AreChangesStopped, texts_of}
use Rattle.cli_show_diff.specs.declared.form.ChangeForm.{ChangeForm}
use Rattle.cli_history.proofs.commits.print_commit.Goals as goal

pub returns-in-Ok-print_changes-clause-ok : goal.returns-in-Ok-print_changes-clause-ok
returns-in-Ok-print_changes-clause-ok g c = λ given took cold.
    let bytes = g.F.FileBytes.bytes in
    let v = c.in-Ok.view in
    let w = c.in-Ok-view_at.view in
    let d = pages_of bytes v in
    let e = pages_of bytes w in
    let names = texts_of c.args.told.now.selected.names.now in
    let mid = g.W.Write.contents c.write_mark.new.out in
    let new = g.W.Write.contents c.print_changes.new.out in
    let printed = c.in-Ok-print_changes.ensures.ok (c.in-Ok.ensures.still_gives given) (c.in-Ok-view_at.ensures.still_gives given) in (
      v.page_size,
      w.page_size,
      d,
      e,
      c.in-Ok.ensures.answer given took cold,
      c.in-Ok-view_at.ensures.answer given took cold,
      (mid, c.in-Ok-write_mark.ensures, subst (λ (form : ChangeForm). AreChangesPrinted d e names form mid new) c.form_of-form.ensures printed),
    )

pub returns-clause-err : goal.returns-clause-err
returns-clause-err g c = λ given took cold.
    let bytes = g.F.FileBytes.bytes in
    let v = c.in-Ok.view in
    let w = c.in-Ok-view_at.view in
    let d = pages_of bytes v in
    let e = pages_of bytes w in
    let names = texts_of c.args.told.now.selected.names.now in
    let stop = c.in-Err-print_changes.stop in
    let mid = g.W.Write.contents c.write_mark.new.out in
    let new = g.W.Write.contents c.print_changes.new.out in
    let stopped = c.in-Err-print_changes.ensures.err (c.in-Ok.ensures.still_gives given) (c.in-Ok-view_at.ensures.still_gives given) in
    inr (
      v.page_size,
      w.page_size,
      d,
      e,
      c.in-Ok.ensures.answer given took cold,
      c.in-Ok-view_at.ensures.answer given took cold,
      (mid, c.in-Ok-write_mark.ensures, subst (λ (form : ChangeForm). AreChangesStopped d e names form stop mid new) c.form_of-form.ensures stopped),
    )
