use Rattle.std.proofs.Common.{◌≡◌, arith}
use Rattle.sqcrash.proofs.RefusedTraces.{no_point_of}
use Rattle.sqcrash.proofs.UnreadTraces.{no_point_written}
use Rattle.sqcrash.proofs.program.judge_trace.Goals as goal

pub returns-clause-refused : goal.returns-clause-refused
returns-clause-refused g c =
    let found = c.in_ok-tally.ensures.judged in
    let none : c.in_ok-tally.tally.points ≡ 0 = omega arith in
    no_point_of c.args.plan c.args.bytes.now c.in_ok-tally.tally found.0 c.no_points.result found.1 none c.no_points.ensures

pub returns-clause-unread : goal.returns-clause-unread
returns-clause-unread g c = no_point_written c.args.plan c.no_points.result _ _ c.no_points.ensures
