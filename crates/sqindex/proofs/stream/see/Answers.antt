use Rattle.std.proofs.Common.{◌∙◌, sym}
use Rattle.sqindex.specs.internal.Reading.{stored_of}
use Rattle.sqindex.specs.internal.Streaming.{before_of}
use Rattle.sqindex.proofs.EntriesStreamed.{streamed_next, streamed_fault, streamed_still, streamed_sound}
use Rattle.sqindex.proofs.stream.see.Goals as goal

pub returns-then-is_some : goal.returns-then-is_some
returns-then-is_some c = λ xs held w. streamed_still c.args.key.now xs (stored_of c.args.found c.args.entry.now) c.args.fault (sym c.is_some.ensures ∙ c.if-is_some.true) w

pub returns-in-Ok : goal.returns-in-Ok
returns-in-Ok c = λ xs held w.
    streamed_next c.args.key.now xs (before_of c.args.last.now) (stored_of c.args.found c.args.entry.now)
    (streamed_sound c.args.key.now xs c.args.fault (sym c.is_some.ensures ∙ c.if-is_some.false) w) held c.in-Ok.ensures.ok

pub returns-in-Err : goal.returns-in-Err
returns-in-Err c = λ xs held w.
    streamed_fault c.args.key.now xs (before_of c.args.last.now) (stored_of c.args.found c.args.entry.now) c.in-Err.fault held c.in-Err.ensures.err
