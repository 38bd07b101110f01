use Rattle.std.proofs.Common.{◌≡◌, ◌∙◌, ◌++◌, Bool, List, ℕ, refl, sym}
use Rattle.cli_show_rows.specs.Dumps.{IsStatementText}
use Rattle.cli_show_rows.proofs.Cases.{when_false, when_true}
use Rattle.cli_show_diff.specs.Frames.{IsMakeText, IsVirtualLeft, is_trigger, unmade_text}
use Rattle.cli_show_diff.proofs.Answered.{on_ok}
use Rattle.cli_show_diff.proofs.frame.add_make.Goals as goal

pub returns-then-not-is_trigger-clause-ok : goal.returns-then-not-is_trigger-clause-ok
returns-then-not-is_trigger-clause-ok c =
    let o = c.args.object.now in
    let olds = c.args.olds.now in
    let old = c.args.out.now.items in
    let new = c.add_unmade.new.out.items in
    let not_so = sym c.is_trigger.ensures ∙ c.if-not-is_trigger.true in
    on_ok c.add_unmade.result ((left : Bool) × IsVirtualLeft olds o left × (new ≡ old ++ unmade_text left o)) ((t : List ℕ) × IsMakeText olds o t × (new ≡ old ++ t))
    (λ w. (
      unmade_text w.0 o,
      when_false (is_trigger o) (IsStatementText o (unmade_text w.0 o)) ((left : Bool) × IsVirtualLeft olds o left × (unmade_text w.0 o ≡ unmade_text left o)) not_so (w.0, w.1, refl),
      w.2,
    )) c.add_unmade.ensures.ok

pub returns-in-Ok-clause-ok : goal.returns-in-Ok-clause-ok
returns-in-Ok-clause-ok c =
    let o = c.args.object.now in
    let olds = c.args.olds.now in
    let w = c.in-Ok.ensures.ok in
    (w.0, when_true (is_trigger o) (IsStatementText o w.0) ((left : Bool) × IsVirtualLeft olds o left × (w.0 ≡ unmade_text left o)) (sym c.is_trigger.ensures ∙ c.if-not-is_trigger.false) w.1, w.2)
