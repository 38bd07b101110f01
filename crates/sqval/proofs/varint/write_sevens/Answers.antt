use Rattle.std.proofs.Common.{length, arith}
use Rattle.std.proofs.lemmas.Grind.{common_steps}
use Rattle.sqval.proofs.payload.VarintNumbers.{write_more, all_written}
use Rattle.sqval.proofs.varint.write_sevens.Goals as goal

pub loop-index-preserved : goal.loop-index-preserved
loop-index-preserved c = (
  write_more c.loop-index.out c.loop-index.index c.loop-index.rest c.args.number (omega arith) (omega arith) c.loop-index.invariant.0,
  λ i. let was = c.loop-index.invariant.1 i in grind (arith, common_steps, was),
)

pub returns-clause-digits : goal.returns-clause-digits
returns-clause-digits c =
    all_written c.loop-index.out c.loop-index.index c.loop-index.rest c.args.number (length c.args.out.now) c.loop-index.auto.out (omega arith) c.requires c.loop-index.invariant.0
