use Rattle.std.proofs.Common.{below_more, arith}
use Rattle.sqindex.specs.internal.Held.{held_by}
use Rattle.sqindex.proofs.EntriesMarked.{sound_by}
use Rattle.sqindex.proofs.judge_by.judge_all.Goals as goal

pub entries-preserved : goal.entries-preserved
entries-preserved c = below_more _ _ c.entries.invariant c.in-Ok.ensures.ok

pub returns-clause-ok : goal.returns-clause-ok
returns-clause-ok c = sound_by c.args.key.now (held_by c.args.entries.now) (λ j less. let end = c.entries-test.false in let long = c.len-i-end.ensures in c.entries.invariant j (omega (arith, less, end, long)))
