use Rattle.std.proofs.Common.{◌-◌, arith}
use Rattle.rig_play.specs.Files.{IsWritten}
use Rattle.rig_play.proofs.ChangeOfLastFile.{last_goes, some_left}
use Rattle.rig_play.proofs.name.Name.write_last.Goals as goal

pub returns-clause-does : goal.returns-clause-does
returns-clause-does c =
    let name = c.args.self.now in
    last_goes c.write_file.result (IsWritten c.args.at c.args.bytes.now c.args.fails) name.files.items name.made name.below name.maybe_none name.gone (c.len-last.result - 1) c.index_mut.result.now c.write_file.new.disk
    (omega (arith, c.len-last.ensures, name.files.ok, some_left name.files.len c.is_empty.result c.is_empty.ensures c.if-is_empty.false)) c.index_mut.ensures.value c.write_file.ensures.does
