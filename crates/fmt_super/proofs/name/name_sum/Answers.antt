use Rattle.std.proofs.Common.{◌≡◌, length, take, ap, arith}
use Rattle.std.proofs.lemmas.List.{take_all}
use Rattle.std.proofs.lemmas.List.Sums.{sum_by_more}
use Rattle.std.specs.List.{sum_by}
use Rattle.fmt_super.specs.Supers.{name_sum, signed}
use Rattle.fmt_super.proofs.name.name_sum.Goals as goal

pub loop-byte-preserved : goal.loop-byte-preserved
loop-byte-preserved c =
    let more = sum_by_more signed c.args.name.now c.loop-byte.byte-index 0 c.loop-byte-test.true in
    omega (arith, more, c.signed-sum.ensures, c.loop-byte.invariant)

pub returns : goal.returns
unfolding name_sum
returns c =
    let all : take c.loop-byte.byte-index c.args.name.now ≡ c.args.name.now = take_all c.loop-byte.byte-index c.args.name.now (c.loop-byte-test.false) in
    omega (arith, ap (sum_by signed) all, c.loop-byte.invariant)
