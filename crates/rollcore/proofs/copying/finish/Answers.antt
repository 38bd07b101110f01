use Rattle.rollcore.proofs.Facts.{Device, Ok, during, end_told, finishes, passed, rules, told_device, told_done}
use Rattle.rollcore.proofs.copying.finish.Goals as goal

pub returns-in_err-finish-clause-disk : goal.returns-in_err-finish-clause-disk
returns-in_err-finish-clause-disk g c = during (search rules) (λ word. finishes c.from_residual.result (g.D.Disk.state c.args.disk.now) (g.D.Disk.state c.finish.new.disk) (g.met.D.Disk.sound c.args.disk.now word)
    (end_told Device 28 c.finish.result c.from_residual.result _ _ (told_device Device c.finish.result _ c.from_residual.result c.in_err-finish.was (passed c.from_residual.result Device c.from_residual.ensures.1)) (c.finish.ensures.holds word)))

pub returns-clause-disk : goal.returns-clause-disk
returns-clause-disk g c = during (search rules) (λ word. finishes (Ok tt) (g.D.Disk.state c.args.disk.now) (g.D.Disk.state c.finish.new.disk) (g.met.D.Disk.sound c.args.disk.now word)
    (end_told Device 28 c.finish.result (Ok tt) _ _ (told_done Device c.finish.result _ tt c.in_ok-finish.was) (c.finish.ensures.holds word)))
