use Rattle.crashdisk.proofs.Below.{EachOf, EndsWhole, Gets, List, [], ap, arith, length, not_yet, one_more, rising_take, slice_index_or, subst, sym, take, undone, ℕ, ◌-◌, ◌<◌, ◌∙◌}
use Rattle.crashdisk.proofs.held.append.Goals as goal

pub append_one-requires-clause-ends : goal.append_one-requires-clause-ends
append_one-requires-clause-ends c =
    let list = c.args.list.now in
    let n = c.loop-done.done in
    let old = c.args.sectors.now.items in
    let k = slice_index_or list n 0 in
    let was = not_yet list _ old (length old) c.requires.rising n c.loop-done.sectors.items c.loop-done-test.true c.loop-done.invariant in
    let there = c.requires.rising.below n c.loop-done-test.true in
    let some = c.requires.whole.some k there in
    subst (λ (v : List (List ℕ)). EndsWhole c.args.sector v) (sym was) (some, c.requires.whole.long k (length (slice_index_or old k []) - 1) there (omega (arith, some)))

pub undo-requires : goal.undo-requires
undo-requires c = record {
  rising = rising_take (length c.args.sectors.now.items) (length c.append_one.new.sectors.items) c.loop-done.done c.args.list.now c.requires.rising (omega (arith, c.loop-done-test.true))
      (ap (λ l. length l) c.in-Err.ensures.err ∙ c.loop-done.invariant.count);
}

pub returns-in-Err-clause-err : goal.returns-in-Err-clause-err
returns-in-Err-clause-err c =
    undone c.args.sector c.args.change.now.from c.args.change.now.keep c.args.change.now.bytes.now (take c.loop-done.done c.args.list.now) c.args.list.now c.args.sectors.now.items c.append_one.new.sectors.items c.undo.new.sectors.items
    (subst (λ l. EachOf (take c.loop-done.done c.args.list.now) (Gets c.args.sector c.args.change.now.from c.args.change.now.keep c.args.change.now.bytes.now c.args.list.now) c.args.sectors.now.items l) (sym c.in-Err.ensures.err) c.loop-done.invariant) c.undo.ensures

pub loop-done-preserved : goal.loop-done-preserved
loop-done-preserved c =
    let list = c.args.list.now in
    let n = c.loop-done.done in
    let old = c.args.sectors.now.items in
    let mid = c.loop-done.sectors.items in
    let k = slice_index_or list n 0 in
    let there : k < length mid = omega (arith, c.loop-done.invariant.count, c.requires.rising.below n c.loop-done-test.true) in
    let was = not_yet list _ old (length old) c.requires.rising n mid c.loop-done-test.true c.loop-done.invariant in
    let made = c.in-Ok.ensures.ok in
    one_more list (Gets c.args.sector c.args.change.now.from c.args.change.now.keep c.args.change.now.bytes.now list) old (length old) c.requires.rising n mid _ made.0 c.loop-done-test.true c.loop-done.invariant there made.1
    (subst (λ v. Gets c.args.sector c.args.change.now.from c.args.change.now.keep c.args.change.now.bytes.now list n v made.0) was made.2)
