use Rattle.sqworld.proofs.Facts.{Answers, IfOk, JEvent, call_answers, not_crash, not_open, subst, sym}
use Rattle.sqworld.proofs.journal_engine.JournalEngineEngine.serve.Goals as goal

pub returns-in-Open-clause-answers : goal.returns-in-Open-clause-answers
returns-in-Open-clause-answers c = subst (λ (e : JEvent). IfOk c.open.result.1 (λ given. Answers c.args.page_size c.args.tears e c.args.self given c.open.result.0)) (sym c.in-Open.is) (c.open.ensures c.args.tears)

pub returns-in-Crash-clause-answers : goal.returns-in-Crash-clause-answers
returns-in-Crash-clause-answers c = subst (λ (e : JEvent). IfOk c.crash.result.1 (λ given. Answers c.args.page_size c.args.tears e c.args.self given c.crash.result.0)) (sym c.in-Crash.is) (c.crash.ensures c.args.page_size)

pub returns-in-CrashAt-clause-answers : goal.returns-in-CrashAt-clause-answers
returns-in-CrashAt-clause-answers c = subst (λ (e : JEvent). IfOk c.crash_at.result.1 (λ given. Answers c.args.page_size c.args.tears e c.args.self given c.crash_at.result.0)) (sym c.in-CrashAt.is) (c.crash_at.ensures c.args.page_size)

pub returns-in_default-clause-answers : goal.returns-in_default-clause-answers
returns-in_default-clause-answers c = call_answers c.call-engine.result.1 c.alone.result c.args.page_size c.args.tears c.args.event.now c.args.self c.call-engine.result.0
    (not_open c.args.event.now c.in_default.not-Open) (not_crash c.args.event.now c.in_default.not-Crash c.in_default.not-CrashAt) c.alone.ensures c.call-engine.ensures.serves c.call-engine.ensures.set c.call-engine.ensures.rests
