use Rattle.std.proofs.Common.{arith}
use Rattle.sqwal.proofs.checksum.SlotParts.{slot_behind}
use Rattle.sqwal.proofs.slots.Slot.read.Goals as goal

pub returns : goal.returns
returns c = (
  omega arith,
  λ w i header some place behind. slot_behind c.args.header.now c.args.before c.args.frame.now w i _ c.sum_over.result (omega arith) header some place behind c.word-3.ensures c.word-4.ensures c.word-5.ensures c.word-6.ensures c.word.ensures c.word-2.ensures (omega arith) (omega arith) c.sum_over.ensures c.names_sum.ensures,
)
