use Rattle.rig_play.specs.Names.{name_of}
use Rattle.rig_play.proofs.UncutFiles.{writes_then}
use Rattle.rig_play.proofs.name.Name.write.Goals as goal

pub returns-clause-does : goal.returns-clause-does
returns-clause-does c =
    writes_then c.write_last.result c.args.at c.args.bytes.now c.args.fails (name_of c.args.self.now) (name_of c.write_uncut.new.self) (name_of c.write_last.new.self)
    c.in_ok-write_uncut.ensures.does c.write_last.ensures.does
