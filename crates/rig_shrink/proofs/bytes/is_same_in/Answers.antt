use Rattle.std.proofs.Common.{◌≡◌, ◌+◌, ◌*◌, min, length, arith}
use Rattle.rig_shrink.proofs.SectorsByValue.{same_in_iff, iff_by}
use Rattle.rig_shrink.proofs.bytes.is_same_in.Goals as goal

pub returns : goal.returns
returns c =
    let sector = c.args.sector in
    let k = c.args.k in
    let bytes = c.args.bytes.now in
    let start = c.min-start.result in
    let end = c.min-end.result in
    let from : start ≡ min (k * sector) (length bytes) = omega arith in
    let to : end ≡ min (start + sector) (length bytes) = omega arith in
    iff_by c.are_same_from.ensures (same_in_iff sector k start end c.args.longer.now bytes c.requires from to)
