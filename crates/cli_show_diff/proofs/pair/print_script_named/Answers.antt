use Rattle.std.proofs.Common.{◌∙◌, List, ℕ, ap, subst, sym}
use Rattle.std.specs.Io.KnownBytes.{Appends}
use Rattle.cli_schema_text.specs.Comments.{unnamed_text}
use Rattle.cli_schema_text.specs.Names.{can_be_named}
use Rattle.cli_show_rows.specs.declared.stop.Stop.TheVariants.{Write}
use Rattle.cli_show_rows.specs.Stops.{IsWriteError}
use Rattle.cli_show_rows.proofs.Cases.{when_false, when_true}
use Rattle.cli_show_diff.specs.declared.form.ChangeForm.TheVariants.{Sql}
use Rattle.cli_show_diff.specs.Pairs.{IsBothPrinted, IsBothStopped, IsScriptPrinted, IsScriptStopped}
use Rattle.cli_show_diff.proofs.Answered.{on_err, on_ok}
use Rattle.cli_show_diff.proofs.pair.print_script_named.Goals as goal

pub returns-then-can_be_named-clause-ok : goal.returns-then-can_be_named-clause-ok
returns-then-can_be_named-clause-ok g c = λ right too.
    let d = g.S.PageSource.pages c.args.old.now in
    let e = g.T.PageSource.pages c.args.new.now in
    let was = c.args.tables.0.now in
    let is = c.args.tables.1.now in
    let old = g.W.Write.contents c.args.out.now in
    let new = g.W.Write.contents c.print_script.new.out in
    let so = sym (c.can_be_named.ensures ∙ ap (λ n. can_be_named n) c.as_slice-name.ensures.value) ∙ c.if-can_be_named.true in
    on_ok c.print_script.result (IsScriptPrinted d e was is old new) (IsBothPrinted d e was is Sql old new)
    (λ w. when_true (can_be_named was.name.items) (IsScriptPrinted d e was is old new) (Appends old new (unnamed_text was.name.items)) so w) (c.print_script.ensures.ok right too)

pub returns-then-can_be_named-clause-err : goal.returns-then-can_be_named-clause-err
returns-then-can_be_named-clause-err g c = λ right too.
    let d = g.S.PageSource.pages c.args.old.now in
    let e = g.T.PageSource.pages c.args.new.now in
    let was = c.args.tables.0.now in
    let is = c.args.tables.1.now in
    let old = g.W.Write.contents c.args.out.now in
    let new = g.W.Write.contents c.print_script.new.out in
    let so = sym (c.can_be_named.ensures ∙ ap (λ n. can_be_named n) c.as_slice-name.ensures.value) ∙ c.if-can_be_named.true in
    on_err c.print_script.result (λ stop. IsScriptStopped d e was is stop old new) (λ stop. IsBothStopped d e was is Sql stop old new)
    (λ stop w. when_true (can_be_named was.name.items) (IsScriptStopped d e was is stop old new) (IsWriteError stop) so w) (c.print_script.ensures.err right too)

pub returns-in-Ok-clause-ok : goal.returns-in-Ok-clause-ok
returns-in-Ok-clause-ok g c = λ right too.
    let d = g.S.PageSource.pages c.args.old.now in
    let e = g.T.PageSource.pages c.args.new.now in
    let was = c.args.tables.0.now in
    let is = c.args.tables.1.now in
    let old = g.W.Write.contents c.args.out.now in
    let new = g.W.Write.contents c.write_unnamed.new.out in
    let not_so = sym (c.can_be_named.ensures ∙ ap (λ n. can_be_named n) c.as_slice-name.ensures.value) ∙ c.if-can_be_named.false in
    when_false (can_be_named was.name.items) (IsScriptPrinted d e was is old new) (Appends old new (unnamed_text was.name.items)) not_so
    (subst (λ (n : List ℕ). Appends old new (unnamed_text n)) c.as_slice-name.ensures.value c.in-Ok.ensures)

pub returns-in-Err-clause-err : goal.returns-in-Err-clause-err
returns-in-Err-clause-err g c = λ right too.
    let d = g.S.PageSource.pages c.args.old.now in
    let e = g.T.PageSource.pages c.args.new.now in
    let was = c.args.tables.0.now in
    let is = c.args.tables.1.now in
    let old = g.W.Write.contents c.args.out.now in
    let new = g.W.Write.contents c.write_unnamed.new.out in
    let not_so = sym (c.can_be_named.ensures ∙ ap (λ n. can_be_named n) c.as_slice-name.ensures.value) ∙ c.if-can_be_named.false in
    when_false (can_be_named was.name.items) (IsScriptStopped d e was is (Write c.in-Err.error) old new) (IsWriteError (Write c.in-Err.error)) not_so tt
