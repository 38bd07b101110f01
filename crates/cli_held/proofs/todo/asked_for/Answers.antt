use Rattle.cli_held.proofs.WantedLocks.{wanting}
use Rattle.cli_held.proofs.todo.asked_for.Goals as goal

pub returns-in_ok-told-in-Some : goal.returns-in_ok-told-in-Some
returns-in_ok-told-in-Some g c =
    wanting c.args.line.now c.as_slice.result.now c.in-Some.want c.in-Some.file c.waits.result _ _ c.if-line.false
    c.as_slice.ensures.value c.in-Some.ensures c.waits.ensures c.in_ok-told-in-Some.ensures
