use Rattle.rollcore.proofs.Facts.{read_count}
use Rattle.rollcore.proofs.copying.RecordsCopyPlan.steps.Goals as goal

pub returns : goal.returns
returns c = λ w read. read_count w c.args.self.now.scan.now read c.count.result c.count.ensures
