use Rattle.std.proofs.Common.{◌≤◌, length, arith}
use Rattle.sqrescue_c.proofs.CopiedFrames.{count_is, are_frames}
use Rattle.sqrescue_c.proofs.wal.sqr_wal_scan.Goals as goal

pub returns-then-entries-frames-clause-scanned : goal.returns-then-entries-frames-clause-scanned
returns-then-entries-frames-clause-scanned c = λ _. c.report_of.ensures c.args.wal.now c.in-Ok.ensures.took

pub returns-then-entries-frames-clause-crowded : goal.returns-then-entries-frames-clause-crowded
returns-then-entries-frames-clause-crowded c = λ _.
    let w = c.args.wal.now in
    let took = c.in-Ok.ensures.took in
    omega (arith, count_is w c.entries-entries.result.now c.report_of.result (c.entries-entries.ensures _ w took) (c.report_of.ensures w took))

pub returns-clause-scanned : goal.returns-clause-scanned
returns-clause-scanned c = λ _. c.report_of.ensures c.args.wal.now c.in-Ok.ensures.took

pub returns-clause-frames : goal.returns-clause-frames
returns-clause-frames c = λ _.
    let w = c.args.wal.now in
    let took = c.in-Ok.ensures.took in
    let room : length c.entries-entries.result.now ≤ length c.copy_frames.new.frames = omega (arith, c.copy_frames.auto.frames) in
    are_frames w c.entries-entries.result.now c.report_of.result (c.entries-entries.ensures _ w took) (c.report_of.ensures w took)
    c.copy_frames.new.frames room c.copy_frames.ensures
