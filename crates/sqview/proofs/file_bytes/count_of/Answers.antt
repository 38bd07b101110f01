use Rattle.std.proofs.Common.{arith}
use Rattle.sqview.proofs.file_bytes.count_of.Goals as goal

pub returns-clause-bytes : goal.returns-clause-bytes
returns-clause-bytes c = λ i. omega (arith, c.type_inv.file i)
