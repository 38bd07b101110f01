use Rattle.std.proofs.Common.{List, ap, arith}
use Rattle.crashdisk.specs.Call.{DiskState}
use Rattle.rig_play.specs.Names.{NameState}
use Rattle.rig_play.proofs.ChangeOfLastFile.{some_left}
use Rattle.rig_play.proofs.ForgottenFiles.{older_forgotten}
use Rattle.rig_play.proofs.name.Name.forget_older.Goals as goal

pub returns : goal.returns
returns c =
    let name = c.args.self.now in
    let some = some_left name.files.len c.is_empty.result c.is_empty.ensures c.if-is_empty.false in
    ap (λ (l : List DiskState). let s : NameState = record { files = l; made = name.made; below = name.below; maybe_none = name.maybe_none; gone = name.gone } in s)
    (older_forgotten name.files.items c.rotate_left.new.self.items c.truncate.new.self.items name.made c.min-first.result c.len-count.result (omega (arith, c.len-count.ensures, some)) (omega (arith, c.len-count.ensures, name.files.ok)) c.min-first.ensures c.rotate_left.ensures.items c.truncate.ensures.items)
