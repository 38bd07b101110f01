use Rattle.std.proofs.Common.{◌-◌, arith}
use Rattle.rig_play.specs.Files.{IsCut}
use Rattle.rig_play.proofs.ChangeOfLastFile.{last_goes, some_left}
use Rattle.rig_play.proofs.name.Name.cut_parts.Goals as goal

pub returns-clause-does : goal.returns-clause-does
returns-clause-does c =
    let name = c.args.self.now in
    last_goes c.cut_file.result (IsCut c.args.end c.args.fails) name.files.items name.made name.below name.maybe_none name.gone (c.len-last.result - 1) c.index_mut.result.now c.cut_file.new.disk
    (omega (arith, c.len-last.ensures, name.files.ok, some_left name.files.len c.is_empty.result c.is_empty.ensures c.if-is_empty.false)) c.index_mut.ensures.value c.cut_file.ensures.does
