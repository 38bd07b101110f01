use Rattle.sqworld.proofs.Facts.{Closed, EngineServes, IfOk, None, OnOk, Open, Rests, WalEngine, act_of, answer_of, false, is_crash, is_opening, subst, sym, ◌≡◌}
use Rattle.sqworld.proofs.serve.AnswersToEvents.{closed_serves, open_serves, closed_rests, open_rests}
use Rattle.sqworld.proofs.wal_engine.WalEngine.call.Goals as goal

pub returns-in-Closed-clause-serves : goal.returns-in-Closed-clause-serves
returns-in-Closed-clause-serves c =
    subst (λ (old : WalEngine). IfOk c.refuse-reply.result (λ reply. is_opening c.args.event.now ≡ false → is_crash c.args.event.now ≡ false → EngineServes c.args.page_size old (Closed c.refuse-reply.new.disk c.in-Closed.begun) (act_of c.args.event.now None None) (answer_of reply)))
    (sym c.in-Closed.is) (closed_serves c.refuse-reply.result c.args.page_size c.args.event.now c.in-Closed.disk c.refuse-reply.new.disk c.in-Closed.begun c.refuse-reply.ensures.reply c.refuse-reply.ensures.set c.refuse-reply.ensures.calm)

pub returns-in-Open-clause-serves : goal.returns-in-Open-clause-serves
returns-in-Open-clause-serves c =
    subst (λ (old : WalEngine). IfOk c.call-reply.result (λ reply. is_opening c.args.event.now ≡ false → is_crash c.args.event.now ≡ false → EngineServes c.args.page_size old (Open c.call-reply.new.self) (act_of c.args.event.now None None) (answer_of reply)))
    (sym c.in-Open.is) (open_serves c.call-reply.result c.args.page_size c.args.event.now c.in-Open.session c.call-reply.new.self c.call-reply.ensures.serves)

pub returns-in-Closed-clause-rests : goal.returns-in-Closed-clause-rests
returns-in-Closed-clause-rests c =
    subst (λ (old : WalEngine). OnOk c.refuse-reply.result (Rests c.args.event.now old (Closed c.refuse-reply.new.disk c.in-Closed.begun)))
    (sym c.in-Closed.is) (closed_rests c.refuse-reply.result c.args.event.now c.in-Closed.disk c.refuse-reply.new.disk c.in-Closed.begun c.refuse-reply.ensures.calm)

pub returns-in-Open-clause-rests : goal.returns-in-Open-clause-rests
returns-in-Open-clause-rests c =
    subst (λ (old : WalEngine). OnOk c.call-reply.result (Rests c.args.event.now old (Open c.call-reply.new.self)))
    (sym c.in-Open.is) (open_rests c.call-reply.result c.args.event.now c.in-Open.session (Open c.call-reply.new.self))
