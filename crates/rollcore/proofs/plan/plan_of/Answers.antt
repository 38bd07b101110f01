use Rattle.rollcore.proofs.Facts.{NoMemory, None, Some, arith, length, passed, plan_memory, plan_none, plan_refused, plan_some, read_first, rules, size_bounds, ◌+◌, ◌≡◌}
use Rattle.rollcore.proofs.plan.plan_of.Goals as goal

pub returns-in_default-clause-plan : goal.returns-in_default-clause-plan
returns-in_default-clause-plan c = λ w read. plan_none c.args.limits.bytes c.args.torn w (read_first w c.args.scan read None c.in_default.ensures)

pub returns-in_err-judge-clause-plan : goal.returns-in_err-judge-clause-plan
returns-in_err-judge-clause-plan c = λ w read.
    let first = read_first w c.args.scan read (Some c.in-Some.header) c.in-Some.ensures in
    plan_refused c.args.limits.bytes c.args.torn w c.judge.result c.from_residual.result _ first.0 c.in_err-judge.was (passed c.from_residual.result _ c.from_residual.ensures.1) (c.judge.ensures.judged w first.0 first.1)

pub returns-in_err-room-clause-plan : goal.returns-in_err-room-clause-plan
returns-in_err-room-clause-plan c = λ w read. plan_memory c.args.limits.bytes c.args.torn w c.from_residual-in_err-room.result (passed c.from_residual-in_err-room.result NoMemory c.from_residual-in_err-room.ensures.1)

pub returns-clause-plan : goal.returns-clause-plan
returns-clause-plan c = λ w read.
    let first = read_first w c.args.scan read (Some c.in-Some.header) c.in-Some.ensures in
    plan_some c.args.limits.bytes c.args.torn w c.judge.result _ _ c.in_ok-judge.was (c.judge.ensures.judged w first.0 first.1) read first.1

pub returns-clause-small : goal.returns-clause-small
returns-clause-small c =
    let long : length c.in_ok-room.room.items ≡ c.get.result + 196608 = search rules in
    let bounds = size_bounds c.get.result c.get.ensures.valid in
    record { room = omega (arith, long, c.get.ensures.value); short = omega (arith, long, bounds.1); few = search rules }
