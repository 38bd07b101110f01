use Rattle.std.proofs.Common.{inl, refl, arith}
use Rattle.sqrescue_c.proofs.AskedRecovery.{no_front, refused_front}
use Rattle.sqrescue_c.proofs.refusals.refuse_front.Goals as goal

pub returns-then-committed-ne0-clause-refused : goal.returns-then-committed-ne0-clause-refused
returns-then-committed-ne0-clause-refused c =
    let at = c.committed.ensures _ c.args.wal.now c.in-Ok.ensures.took in
    inl (refl, record { front = c.committed.result.frames; some = omega (arith, c.if-committed-ne0.true); is = at.front; short = c.in-Ok.ensures.short })

pub returns-else-committed-ne0-clause-passed : goal.returns-else-committed-ne0-clause-passed
returns-else-committed-ne0-clause-passed c =
    no_front c.args.wal.now c.committed.result (c.committed.ensures _ c.args.wal.now c.in-Ok.ensures.took) c.if-committed-ne0.false

pub returns-in-Err : goal.returns-in-Err
returns-in-Err c =
    let both = refused_front c.args.wal.now c.in-Err.error c.in-Err.ensures.refused in
    record { refused = rw c.memory_alone.ensures both.0; passed = rw c.memory_alone.ensures both.1 }
