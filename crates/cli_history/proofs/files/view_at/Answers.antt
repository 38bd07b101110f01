use Rattle.std.proofs.Common.{sym, subst}
use Rattle.sqpast.specs.declared.past_error.PastError.TheVariants.{Refused}
use Rattle.sqview.specs.declared.view_error.ViewError.{ViewError}
use Rattle.cli_history.specs.History.{RefusesAt, bytes_of}
use Rattle.cli_history.proofs.ViewsShown.{memory_refused, used_shown}
use Rattle.cli_history.proofs.files.view_at.Goals as goal

pub returns-in-Ok-used_of-clause-answer : goal.returns-in-Ok-used_of-clause-answer
returns-in-Ok-used_of-clause-answer g c = λ given took cold.
    let bytes = g.F.FileBytes.bytes in
    used_shown bytes (bytes_of bytes c.args.files) c.args.front c.args.frame c.in-Ok.whole c.in-Ok-used_of.view (c.in-Ok-used_of.ensures.used (c.in-Ok.ensures.still_gives given))
    (c.in-Ok.ensures.answer given took cold)

pub returns-in-Err-used_of-clause-answer : goal.returns-in-Err-used_of-clause-answer
returns-in-Err-used_of-clause-answer g c = λ given took cold.
    let bytes = g.F.FileBytes.bytes in
    subst (λ (e : ViewError). RefusesAt c.args.limits (bytes_of bytes c.args.files) c.args.front c.args.frame (Refused e)) (sym (c.in-Err-used_of.ensures.refused (c.in-Ok.ensures.still_gives given)))
    (memory_refused c.args.limits (bytes_of bytes c.args.files) c.args.front c.args.frame)
