use Rattle.walcore.proofs.Facts.{NoMemory, arith, no_memory, page_most, passed, plan_memory, plan_none, plan_refused, plan_some, refl, ◌∙◌, ◌≤◌}
use Rattle.walcore.proofs.plan.plan_of.Goals as goal

pub returns-in_err-front-clause-plan : goal.returns-in_err-front-clause-plan
returns-in_err-front-clause-plan c = λ w took. plan_refused c.args.limits c.args.page_size w c.judge.result c.from_residual.result _ c.in_err-front.was (passed c.from_residual.result _ c.from_residual.ensures.1) (c.judge.ensures w took)

pub returns-then-front-eq0-clause-plan : goal.returns-then-front-eq0-clause-plan
returns-then-front-eq0-clause-plan c = λ w took. plan_none c.args.limits c.args.page_size w c.in_ok-front.front c.no_plan.result (c.in_ok-front.ensures w took) c.if-front-eq0.true c.no_plan.ensures.frames c.no_plan.ensures.size

pub returns-in_err-index-clause-plan : goal.returns-in_err-index-clause-plan
returns-in_err-index-clause-plan c = λ w took. plan_memory c.args.limits c.args.page_size w c.from_residual-in_err-index.result (no_memory NoMemory c.index_of.result c.from_residual-in_err-index.result _ c.in_err-index.was (c.in_err-index.was ∙ c.in_err-index.ensures.memory) c.from_residual-in_err-index.ensures.1)

pub returns-in_err-room-clause-plan : goal.returns-in_err-room-clause-plan
returns-in_err-room-clause-plan c = λ w took. plan_memory c.args.limits c.args.page_size w c.from_residual-in_err-room.result (passed c.from_residual-in_err-room.result NoMemory c.from_residual-in_err-room.ensures.1)

pub returns-clause-plan : goal.returns-clause-plan
returns-clause-plan c = λ w took.
    let one : 1 ≤ c.in_ok-front.front.frames = omega (arith, c.if-front-eq0.false) in
    plan_some c.args.limits c.args.page_size w c.in_ok-front.front _ (c.in_ok-front.ensures w took) one refl refl (c.in_ok-index.ensures.table c.args.limits.frames w took) refl

pub returns-then-front-eq0-clause-room : goal.returns-then-front-eq0-clause-room
returns-then-front-eq0-clause-room c = λ one. absurd (omega (arith, one, c.no_plan.ensures.frames))

pub returns-clause-room : goal.returns-clause-room
returns-clause-room c = λ one.
    let page = c.get-page in (
      omega (arith, page.ensures.value, c.in_ok-room.ensures.len),
      omega (arith, page_most page.result page.ensures.valid, c.min.ensures, c.in_ok-room.ensures.len),
    )
