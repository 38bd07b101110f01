use Rattle.std.proofs.Common.{◌+◌, ◌-◌, ◌/◌, ◌<◌, ◌≤◌, arith}
use Rattle.std.specs.Prelude.{None, Some}
use Rattle.cli_show.proofs.RecordPlaces.{sought_all, sought_behind, sought_before, sought_none, entry_there, number_of_front}
use Rattle.cli_show.proofs.records.number_in.Goals as goal

pub loop-low-init : goal.loop-low-init
loop-low-init c = λ journal read. sought_all read.front c.args.at c.count-high.result (c.count-high.ensures read.front read.took)

pub returns-in_err-place : goal.returns-in_err-place
returns-in_err-place c = λ journal read.
    let low = c.loop-low.low in
    let high = c.loop-low.high in
    let number = low + (high - low) / 2 + 1 in
    let counted = c.count-high.ensures read.front read.took in
    let within = (c.loop-low.invariant journal read).within c.count-high.result counted in
    let last : number ≤ c.count-high.result = omega (arith, within, c.loop-low-test.true) in
    absurd (entry_there read.front c.count-high.result number counted (omega arith) last (c.in_err-place.ensures read.front read.took))

pub returns-then-place-at : goal.returns-then-place-at
returns-then-place-at c = λ journal read.
    let number = c.loop-low.low + (c.loop-low.high - c.loop-low.low) / 2 + 1 in
    number_of_front journal c.args.replay.now read c.count-high.result c.args.at (Some number) (c.count-high.ensures read.front read.took)
    (c.in_ok-place.field-0, c.in_ok-place.ensures read.front read.took, c.if-place-at.true)

pub loop-low-preserved-then-place-at-2 : goal.loop-low-preserved-then-place-at-2
loop-low-preserved-then-place-at-2 c = λ journal read.
    let number = c.loop-low.low + (c.loop-low.high - c.loop-low.low) / 2 + 1 in
    sought_behind read.front c.args.at c.loop-low.low c.loop-low.high number c.in_ok-place.field-0 (c.loop-low.invariant journal read)
    (c.in_ok-place.ensures read.front read.took) c.if-place-at-2.true

pub loop-low-preserved : goal.loop-low-preserved
loop-low-preserved c = λ journal read.
    let middle = c.loop-low.low + (c.loop-low.high - c.loop-low.low) / 2 in
    let within : middle ≤ c.loop-low.high = omega (arith, c.loop-low-test.true) in
    let behind : c.args.at < c.in_ok-place.field-0.at = omega (arith, c.if-place-at.false, c.if-place-at-2.false) in
    sought_before read.front c.args.at c.loop-low.low c.loop-low.high middle c.in_ok-place.field-0 (c.loop-low.invariant journal read) within
    (c.in_ok-place.ensures read.front read.took) behind

pub returns : goal.returns
returns c = λ journal read.
    number_of_front journal c.args.replay.now read c.count-high.result c.args.at None (c.count-high.ensures read.front read.took)
    (sought_none read.front c.args.at c.loop-low.low c.loop-low.high (c.loop-low.invariant journal read) c.loop-low-test.false)
