use Rattle.std.proofs.Common.{◌≡◌, ◌<◌, ℕ, Option, Some, None, sym, subst, arith}
use Rattle.sqwal.specs.Header.{named_size}
use Rattle.view_loss.specs.Losses.{IsLossOf}
use Rattle.view_loss.specs.declared.loss.Loss.{Loss}
use Rattle.cli_history.specs.History.{bytes_of}
use Rattle.cli_dump.proofs.OverwrittenCommits.{none_after, none_known, some_overwritten}
use Rattle.cli_dump.proofs.overwritten.overwritten_in.Goals as goal

pub returns-then-at-front : goal.returns-then-at-front
returns-then-at-front g c = λ right took cold.
    let files = bytes_of g.F.FileBytes.bytes c.args.files in
    none_after c.args.limits files c.args.at c.committed-front.result.frames (c.committed-front.ensures c.args.limits.frames files.wal took).front (omega (arith, c.if-at-front.true))

pub returns-in-Ok-None : goal.returns-in-Ok-None
returns-in-Ok-None g c = λ right took cold.
    let files = bytes_of g.F.FileBytes.bytes c.args.files in
    let front = c.committed-front.result.frames in
    let is = (c.committed-front.ensures c.args.limits.frames files.wal took).front in
    let before : c.args.at < front = omega (arith, c.if-at-front.false) in
    let of = c.in-Ok-None.ensures.loss (right.0, right.1) front files.journal cold took is before in
    none_known c.args.limits files c.args.at front is before
    (subst (λ (o : Option Loss). IsLossOf (named_size files.wal) files.wal front files.db c.args.at o) c.in-Ok-None.field-0-is of)

pub returns-in-Ok : goal.returns-in-Ok
returns-in-Ok g c = λ right took cold.
    let files = bytes_of g.F.FileBytes.bytes c.args.files in
    let front = c.committed-front.result.frames in
    let is = (c.committed-front.ensures c.args.limits.frames files.wal took).front in
    let before : c.args.at < front = omega (arith, c.if-at-front.false) in
    let of = c.in-Ok-Some.ensures.loss (right.0, right.1) front files.journal cold took is before in
    some_overwritten c.args.limits files c.args.at front is cold before c.in-Ok-Some.loss
    (subst (λ (o : Option Loss). IsLossOf (named_size files.wal) files.wal front files.db c.args.at o) c.in-Ok-Some.field-0-is of)
    c.in-Ok.next (c.in-Ok.ensures.next right c.args.limits.frames front took is)
