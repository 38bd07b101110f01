use Rattle.std.proofs.Common.{◌-◌, arith}
use Rattle.rig_play.specs.Files.{IsSynced}
use Rattle.rig_play.proofs.ChangeOfLastFile.{last_goes, some_left}
use Rattle.rig_play.proofs.name.Name.sync_last.Goals as goal

pub returns-clause-does : goal.returns-clause-does
returns-clause-does c =
    let name = c.args.self.now in
    last_goes c.sync_file.result (IsSynced c.args.fails) name.files.items name.made name.below name.maybe_none name.gone (c.len-last.result - 1) c.index_mut.result.now c.sync_file.new.disk
    (omega (arith, c.len-last.ensures, name.files.ok, some_left name.files.len c.is_empty.result c.is_empty.ensures c.if-is_empty.false)) c.index_mut.ensures.value c.sync_file.ensures.does
