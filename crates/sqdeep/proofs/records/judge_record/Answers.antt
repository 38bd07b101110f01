use Rattle.std.proofs.Common.{refl, arith}
use Rattle.sqval.proofs.payload.UniquenessOfReading.{refused_not}
use Rattle.sqdeep.proofs.records.judge_record.Goals as goal

pub returns-in-Err : goal.returns-in-Err
returns-in-Err c = record {
  ok = tt;
  form = tt;
  err = λ values is. refused_not c.in-Err.field-0 values c.args.bytes.now ((c.in-Err.ensures.refused c.in-Err.field-0).0 refl) (omega arith) is;
}
