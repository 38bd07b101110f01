use Rattle.std.proofs.Common.{[], refl}
use Rattle.sqwal.specs.declared.sum.Order.TheVariants.{Little}
use Rattle.sqlocks.proofs.IndexSums.{by_first, by_second}
use Rattle.sqlocks.proofs.index.has_right_sums.Goals as goal

pub returns-then-low_word-sum : goal.returns-then-low_word-sum
returns-then-low_word-sum c = by_second c.args.bytes.now c.add-sum.result (c.add-sum.ensures [] refl (c.zero.ensures Little)) c.low_word.result c.low_word.ensures
    c.low_word-then-low_word-sum.result c.low_word-then-low_word-sum.ensures c.if-low_word-sum.true

pub returns-else-low_word-sum : goal.returns-else-low_word-sum
returns-else-low_word-sum c = by_first c.args.bytes.now c.add-sum.result (c.add-sum.ensures [] refl (c.zero.ensures Little)) c.low_word.result c.low_word.ensures
    c.if-low_word-sum.false
