use Rattle.std.proofs.Common.{[], sym, ◌∙◌}
use Rattle.sqwal.proofs.feed.ScanUnderMoreBytes.{some_from_is_some, none_from_is_some, took-refused}
use Rattle.sqwal.proofs.feed.ScanWithNextFrame.{push-keeps, push-limits, took-pushed, took-judged}
use Rattle.sqwal.proofs.scan.FrameList.take.Goals as goal

pub returns-then-is_some-clause-took : goal.returns-then-is_some-clause-took
returns-then-is_some-clause-took c b held first t is =
    let why = some_from_is_some c.args.self.now.progress.refused (sym c.is_some.ensures ∙ c.if-is_some.true) in
    took-refused b first c.args.header.now held c.args.self.now.entries.items c.args.self.now.progress t [] why.0 why.1

pub returns-in-Ok-clause-took : goal.returns-in-Ok-clause-took
returns-in-Ok-clause-took c b held first t is = took-pushed c.args.header.now c.entry_of.result c.in-Ok.sum c.args.self.now c.push.new.self c.args.frame.now b held first c.push.result is t (none_from_is_some c.args.self.now.progress.refused (sym c.is_some.ensures ∙ c.if-is_some.false)) c.requires.whole c.in-Ok.ensures c.entry_of.ensures.page c.entry_of.ensures.size c.push.ensures

pub returns-in-Ok-clause-keeps : goal.returns-in-Ok-clause-keeps
returns-in-Ok-clause-keeps c = push-keeps c.args.header.now c.entry_of.result c.in-Ok.sum c.args.self.now c.push.new.self c.push.result c.push.ensures

pub returns-in-Ok-clause-limits : goal.returns-in-Ok-clause-limits
returns-in-Ok-clause-limits c = push-limits c.args.header.now c.entry_of.result c.in-Ok.sum c.args.self.now c.push.new.self c.push.result c.push.ensures

pub returns-in-Err-clause-took : goal.returns-in-Err-clause-took
returns-in-Err-clause-took c b held first t is = took-judged c.args.header.now c.args.frame.now b held first c.args.self.now.entries.items c.args.self.now.progress c.in-Err.why is t (none_from_is_some c.args.self.now.progress.refused (sym c.is_some.ensures ∙ c.if-is_some.false)) c.requires.whole c.in-Err.ensures
