use Rattle.sqworld.proofs.Facts.{ModelDisk, ap}
use Rattle.sqworld.proofs.session.Session.refused.Goals as goal

pub returns-clause-same : goal.returns-clause-same
returns-clause-same c = ap (λ (d : ModelDisk). record c.args.self.now { wal = record c.args.self.now.wal { disk = d } }) c.disk.ensures.value
