use Rattle.walcore.proofs.Facts.{arith, common_steps, cond, length, none_times, removed, rules, subst, times, ◌+◌, ◌<◌, ◌==◌, ◌≡◌}
use Rattle.walcore.proofs.paging.take_out.Goals as goal

pub returns-then-index-mark : goal.returns-then-index-mark
returns-then-index-mark c h m =
    let xs = c.loop-i.marks.items in
    let l : c.loop-i.i < length xs = search rules in
    subst (λ z. times m z ≡ times m c.remove.new.self.items + cond (c.args.mark == m) 1 0) c.loop-i.invariant.same
    (removed xs c.remove.new.self.items c.loop-i.i c.args.mark m l (search (rules, common_steps)) c.remove.ensures.items)

pub returns : goal.returns
returns c h m =
    let n : times c.args.mark c.args.marks.now.items ≡ 0 = subst (λ z. times c.args.mark z ≡ 0) c.loop-i.invariant.same (none_times c.args.mark c.loop-i.marks.items (λ k l. c.loop-i.invariant.none k (let e = c.loop-i.invariant.same in search rules))) in
    absurd (omega (arith, h, n))
