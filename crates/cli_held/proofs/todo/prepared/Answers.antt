use Rattle.std.proofs.Common.{refl, rules}
use Rattle.cli_held.specs.Prepared.{IsPrepared}
use Rattle.cli_held.specs.Todo.{texts}
use Rattle.cli_held.specs.internal.Asking.{IsUnheld, KeepsAsking}
use Rattle.cli_held.proofs.Asking.{kept_prepared, unheld_prepared, when_ok}
use Rattle.cli_held.proofs.todo.prepared.Goals as goal

pub returns : goal.returns
returns g c =
    let line = c.in_ok-line.line in
    when_ok (KeepsAsking line.hidden (texts line.words.items) c.waits-wait.result) (IsPrepared (texts c.args.words.now))
    (kept_prepared (texts c.args.words.now) (texts line.words.items) c.in_ok-line.ensures.only line.hidden c.in_ok-line.ensures.hidden
    (λ none nothing. (c.in_ok-line.ensures.plain none nothing).0) c.waits-wait.result
    (line, record { hidden = c.in_ok-line.ensures.hidden; apart = c.in_ok-line.ensures.apart }, rw c.if-is_unlocked.false c.waits-wait.ensures)) c.ready.result c.ready.ensures

pub returns-then-is_unlocked : goal.returns-then-is_unlocked
returns-then-is_unlocked g c =
    let line = c.in_ok-line.line in
    when_ok (IsUnheld (texts line.words.items)) (IsPrepared (texts c.args.words.now))
    (unheld_prepared (texts c.args.words.now) (texts line.words.items) c.in_ok-line.ensures.only line.hidden c.in_ok-line.ensures.hidden
    (c.in_ok-line.ensures.unlocked c.if-is_unlocked.true) (λ none nothing. absurd (cc ((c.in_ok-line.ensures.plain none nothing).2, c.if-is_unlocked.true)))
    (line, record { hidden = c.in_ok-line.ensures.hidden; apart = c.in_ok-line.ensures.apart }, rw c.if-is_unlocked.true refl))
    c.unlocked.result c.unlocked.ensures

pub returns-then-eq : goal.returns-then-eq
returns-then-eq g c =
    let line = c.in_ok-line.line in
    (search rules, (line, record { hidden = c.in_ok-line.ensures.hidden; apart = c.in_ok-line.ensures.apart }, c.told_line.ensures))
