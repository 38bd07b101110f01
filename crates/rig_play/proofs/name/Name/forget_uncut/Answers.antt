use Rattle.std.proofs.Common.{◌+◌, ◌-◌, List, take, ◌∙◌, ap, arith}
use Rattle.crashdisk.specs.Call.{DiskState}
use Rattle.crashdisk.specs.declared.model.ModelDisk.{ModelDisk}
use Rattle.rig_play.specs.Names.{NameState}
use Rattle.rig_play.proofs.ChangeOfLastFile.{some_left}
use Rattle.rig_play.proofs.ForgottenFiles.{uncut_forgotten}
use Rattle.rig_play.proofs.name.Name.forget_uncut.Goals as goal

pub returns : goal.returns
returns c =
    let name = c.args.self.now in
    let some = some_left name.files.len c.is_empty.result c.is_empty.ensures c.if-is_empty.false in
    ap (λ (l : List DiskState). let s : NameState = record { files = l; made = name.made; below = name.below; maybe_none = name.maybe_none; gone = name.gone } in s)
    (uncut_forgotten name.files.items c.truncate.new.self.items name.made c.min-first.result (c.len-last.result - 1) (omega (arith, c.len-last.ensures, name.files.ok, some)) c.min-first.ensures (c.truncate.ensures.items ∙ ap (λ (l : List ModelDisk). take (c.min-first.result + 1) l) c.swap.ensures.items))
