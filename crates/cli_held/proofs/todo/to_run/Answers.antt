use Rattle.std.proofs.Common.{ap, refl, rules}
use Rattle.cli_held.specs.Todo.{texts}
use Rattle.cli_held.specs.declared.todo.Locks.TheVariants.{Held}
use Rattle.cli_held.specs.internal.Asking.{AsksAs}
use Rattle.cli_held.proofs.Asking.{asks_held, told_want}
use Rattle.cli_held.proofs.todo.to_run.Goals as goal

pub returns-in_ok-asking_nobody-in-Ok : goal.returns-in_ok-asking_nobody-in-Ok
returns-in_ok-asking_nobody-in-Ok g c =
    let asks : AsksAs (texts c.args.words.items) (texts c.in_ok-asking_nobody-in-Ok.field-0.items) (Held c.in-Ok.held) =
    asks_held c.in-Ok.want c.in-Ok.held _ _ c.in-Ok.ensures (c.are_held.ensures.0 c.if-are_held.true)
    (λ n. let e = c.in_ok-asking_nobody-in-Ok.ensures.same n in cc) in
    (asks, search rules, (c.args.numbers, refl, told_want c.in-Ok.want c.in-Ok.held c.in-Ok.ensures (λ e. asks.1 (ap Held e))), refl)
