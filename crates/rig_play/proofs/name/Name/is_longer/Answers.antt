use Rattle.std.proofs.Common.{◌-◌, arith}
use Rattle.rig_play.proofs.ChangeOfLastFile.{longer, some_left, tells_less}
use Rattle.rig_play.proofs.name.Name.is_longer.Goals as goal

pub returns : goal.returns
returns c =
    let name = c.args.self.now in
    let some = some_left name.files.len c.is_empty.result c.is_empty.ensures c.if-is_empty.false in
    let is = longer c.args.end (c.len-last.result - 1) name.files.items name.made name.below name.maybe_none name.gone c.index.result.now (omega (arith, c.len-last.ensures, name.files.ok, some)) c.index.ensures in
    let tells = tells_less c.args.end c.present_len.result c.index.result.now.db.len c.present_len.ensures in
    (λ lt. is.0 (tells.0 lt), λ is_longer. tells.1 (is.1 is_longer))
