use Rattle.std.proofs.Common.{arith}
use Rattle.sqdeep.proofs.FormedColumns.{formed_where}
use Rattle.sqdeep.proofs.records.is_formed_body.Goals as goal

pub returns-then-serial-lt10 : goal.returns-then-serial-lt10
returns-then-serial-lt10 c = λ _. formed_where c.args.encoding c.args.serial c.args.body.now (λ big odd. absurd (let small = c.if-serial-lt10.true in omega (arith, big, small)))
