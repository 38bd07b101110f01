use Rattle.std.proofs.Common.{inr}
use Rattle.cli_show_diff.specs.Changes.{AreAskedPrinted, AreAskedStopped, texts_of}
use Rattle.cli_show_diff.specs.internal.Framing.{AreBegunPrinted, AreBegunStopped}
use Rattle.cli_show_diff.proofs.Answered.{on_err, on_ok}
use Rattle.cli_show_diff.proofs.changes.print_begun.Goals as goal

pub returns-in-Ok-clause-ok : goal.returns-in-Ok-clause-ok
returns-in-Ok-clause-ok g c = λ right too.
    let d = g.S.PageSource.pages c.args.old.now in
    let e = g.T.PageSource.pages c.args.new.now in
    let old = g.W.Write.contents c.args.out.now in
    let mid = g.W.Write.contents c.write_all.new.self in
    let new = g.W.Write.contents c.print_asked.new.out in
    let asked = c.args.asked in
    let names = texts_of asked.selected.names.now in
    on_ok c.print_asked.result (AreAskedPrinted d e asked.schemas names asked.form mid new) (AreBegunPrinted d e asked.schemas names asked.form c.args.opening.now old new)
    (λ w. (mid, c.in-Ok.ensures.bytes, w)) (c.print_asked.ensures.ok right too)

pub returns-in-Ok-clause-err : goal.returns-in-Ok-clause-err
returns-in-Ok-clause-err g c = λ right too.
    let d = g.S.PageSource.pages c.args.old.now in
    let e = g.T.PageSource.pages c.args.new.now in
    let old = g.W.Write.contents c.args.out.now in
    let mid = g.W.Write.contents c.write_all.new.self in
    let new = g.W.Write.contents c.print_asked.new.out in
    let asked = c.args.asked in
    let names = texts_of asked.selected.names.now in
    on_err c.print_asked.result (λ stop. AreAskedStopped d e asked.schemas names asked.form stop mid new) (λ stop. AreBegunStopped d e asked.schemas names asked.form c.args.opening.now stop old new)
    (λ stop w. inr (mid, c.in-Ok.ensures.bytes, w)) (c.print_asked.ensures.err right too)
