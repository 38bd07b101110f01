use Rattle.std.proofs.Common.{◌≡◌, ◌∙◌, ap, refl, sym, Bool}
use Rattle.std.specs.Prelude.{is_some}
use Rattle.cli_held.specs.Saying.{command_at}
use Rattle.cli_held.specs.Todo.{texts}
use Rattle.cli_held.proofs.Saying.{apart_of}
use Rattle.cli_held.proofs.Words.{texts_long}
use Rattle.cli_held.proofs.line.line_of.Goals as goal
use Rattle.cli_held.proofs.line.line_of.Goals.{then-is_some, else-is_some}

pub returns-clause-apart : goal.returns-clause-apart
returns-clause-apart c =
    let hidden = c.hidden_of-hidden.result in
    let at : c.if-is_some.from ≡ command_at (is_some hidden) = elim c.if-is_some.branch [
      | then-is_some w ↦ w.from-is ∙ ap (λ (b : Bool). command_at b) (sym w.if-is_some.true ∙ c.is_some.ensures)
      | else-is_some w ↦ w.from-is ∙ ap (λ (b : Bool). command_at b) (sym w.if-is_some.false ∙ c.is_some.ensures)
    ] in
    apart_of (texts c.args.words.now) _ _ c.if-is_some.from _ at (sym (texts_long c.args.words.now)) c.in_ok-words.ensures.so_far refl refl refl
