use Rattle.sqwal.proofs.checksum.SumsOfEqualHeaders.{sums_one}
use Rattle.sqwal.proofs.header.WalHeader.sum.Goals as goal

pub returns : goal.returns
returns c = λ w are is. sums_one w c.write.new.out c.args.self.now c.stored_sum.result are c.stored_sum.ensures.bytes is c.write.ensures c.stored_sum.ensures.first c.stored_sum.ensures.second
