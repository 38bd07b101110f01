use Rattle.sqworld.proofs.serve.AnswersToEvents.{call_answers, not_open, not_crash}
use Rattle.sqworld.proofs.wal_engine.WalEngineEngine.serve.Goals as goal

pub returns-in-Open-clause-answers : goal.returns-in-Open-clause-answers
returns-in-Open-clause-answers c = c.open.ensures.answers c.args.tears c.args.event.now c.in-Open.is

pub returns-in-Crash-clause-answers : goal.returns-in-Crash-clause-answers
returns-in-Crash-clause-answers c = c.crash.ensures.answers c.args.page_size c.args.event.now c.in-Crash.is

pub returns-in-CrashAt-clause-answers : goal.returns-in-CrashAt-clause-answers
returns-in-CrashAt-clause-answers c = c.crash_at.ensures.answers c.args.page_size c.args.event.now c.in-CrashAt.is

pub returns-in_default : goal.returns-in_default
returns-in_default c = record {
  answers = call_answers c.call-engine.result.1 c.alone.result c.args.page_size c.args.tears c.args.event.now c.args.self c.call-engine.result.0
      (not_open c.args.event.now c.in_default.not-Open) (not_crash c.args.event.now c.in_default.not-Crash c.in_default.not-CrashAt) c.alone.ensures c.call-engine.ensures.serves c.call-engine.ensures.set c.call-engine.ensures.rests;
  begun = c.call-engine.ensures.begun;
}
