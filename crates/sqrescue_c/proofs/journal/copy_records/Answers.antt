use Rattle.std.proofs.Common.{add-one, arith}
use Rattle.sqrescue_c.proofs.CopiedRecords.{one_record}
use Rattle.sqrescue_c.proofs.journal.copy_records.Goals as goal

pub loop-i-preserved : goal.loop-i-preserved
loop-i-preserved c = λ b es stop took says.
    let i = c.loop-i.i in
    one_record es c.loop-i.records i c.record_at.result (omega arith) (c.record_at.ensures b es stop took says i (add-one i))
    (c.loop-i.invariant b es stop took says)

pub returns : goal.returns
returns c = λ b es stop took says i d within. c.loop-i.invariant b es stop took says i d (omega arith)
