use Rattle.sqworld.proofs.Facts.{IfOk, JournalEngine, None, OnOk, answer_of, closed_rests, closed_serves, false, open_rests, open_serves, subst, sym, ◌≡◌}
use Rattle.sqworld.specs.JournalRun.{act_of, is_opening, is_crash}
use Rattle.sqworld.specs.JournalEngines.{Rests, EngineServes}
use Rattle.sqworld.specs.declared.journal_engine.JournalEngine.TheVariants.{Closed, Open}
use Rattle.sqworld.proofs.journal_engine.JournalEngine.call.Goals as goal

pub returns-in-Closed-clause-serves : goal.returns-in-Closed-clause-serves
returns-in-Closed-clause-serves c =
    subst (λ (old : JournalEngine). IfOk c.refuse-reply.result (λ reply. is_opening c.args.event.now ≡ false → is_crash c.args.event.now ≡ false → EngineServes c.args.page_size old (Closed c.refuse-reply.new.disk) (act_of c.args.event.now None None) (answer_of reply)))
    (sym c.in-Closed.is) (closed_serves c.refuse-reply.result c.args.page_size c.args.event.now c.in-Closed.disk c.refuse-reply.new.disk c.refuse-reply.ensures.reply c.refuse-reply.ensures.set c.refuse-reply.ensures.calm)

pub returns-in-Open-clause-serves : goal.returns-in-Open-clause-serves
returns-in-Open-clause-serves c =
    subst (λ (old : JournalEngine). IfOk c.answer-reply.result (λ reply. is_opening c.args.event.now ≡ false → is_crash c.args.event.now ≡ false → EngineServes c.args.page_size old (Open c.answer-reply.new.roll) (act_of c.args.event.now None None) (answer_of reply)))
    (sym c.in-Open.is) (open_serves c.answer-reply.result c.args.page_size c.args.event.now c.in-Open.roll c.answer-reply.new.roll c.answer-reply.ensures.serves)

pub returns-in-Closed-clause-rests : goal.returns-in-Closed-clause-rests
returns-in-Closed-clause-rests c =
    subst (λ (old : JournalEngine). OnOk c.refuse-reply.result (Rests c.args.event.now old (Closed c.refuse-reply.new.disk)))
    (sym c.in-Closed.is) (closed_rests c.refuse-reply.result c.args.event.now c.in-Closed.disk c.refuse-reply.new.disk c.refuse-reply.ensures.calm)

pub returns-in-Open-clause-rests : goal.returns-in-Open-clause-rests
returns-in-Open-clause-rests c =
    subst (λ (old : JournalEngine). OnOk c.answer-reply.result (Rests c.args.event.now old (Open c.answer-reply.new.roll)))
    (sym c.in-Open.is) (open_rests c.answer-reply.result c.args.event.now c.in-Open.roll (Open c.answer-reply.new.roll))
