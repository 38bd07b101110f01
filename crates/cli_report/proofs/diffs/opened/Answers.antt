use Rattle.std.proofs.Common.{inl, inr}
use Rattle.cli_report.proofs.DiffsOfFiles.{if_err, if_ok, new_ahead, opened_ahead}
use Rattle.cli_report.proofs.diffs.opened.Goals as goal

pub returns-in-Ok-clause-opened : goal.returns-in-Ok-clause-opened
returns-in-Ok-clause-opened g c = if_ok c.read_ahead.result (λ ahead unread. opened_ahead c.args.job.now.source.now c.in-Ok.files ahead unread c.in-Ok.ensures.opened)
    c.read_ahead.ensures.unread

pub returns-in-Ok-clause-new : goal.returns-in-Ok-clause-new
returns-in-Ok-clause-new g c = if_ok c.read_ahead.result (λ ahead unread. new_ahead c.in-Ok.files ahead unread) c.read_ahead.ensures.unread

pub returns-in-Ok-clause-refused : goal.returns-in-Ok-clause-refused
returns-in-Ok-clause-refused g c = if_err c.read_ahead.result (λ refusal memory. inl (inr memory)) c.read_ahead.ensures.memory
