use Rattle.crashdisk.proofs.Below.{Bool, List, Takes, [], ap, arith, cond, drop, false, get_or_default, is_odd, length, not_yet, one_more, set-get_or, slice_index_or, subst, swapped, sym, take, true, ℕ, ◌++◌, ◌+◌, ◌-◌, ◌<◌, ◌∙◌, ◌∷◌, ◌≡◌}
use Rattle.crashdisk.proofs.held.take_picked.Goals as goal

-- what stands there after a turn of the value before the last
turned : (values new : List (List ℕ)) (n : ℕ) (b : Bool) → n ≡ length values → b ≡ false → new ≡ take (n - 2) values ++ drop (n - 2 + 1) values ++ slice_index_or values (n - 2) [] ∷ [] → new ≡ cond b values (swapped values)
turned values new n b is not made = made ∙ ap (λ (m : ℕ). take (m - 2) values ++ drop (m - 2 + 1) values ++ slice_index_or values (m - 2) [] ∷ []) is ∙ ap (λ (x : Bool). cond x values (swapped values)) (sym not)

kept : (values : List (List ℕ)) (b : Bool) → b ≡ true → values ≡ cond b values (swapped values)
kept values b yes_ = ap (λ (x : Bool). cond x values (swapped values)) (sym yes_)

pub loop-i-preserved : goal.loop-i-preserved
loop-i-preserved c =
    let list = c.args.list.now in
    let old = c.args.sectors.now.items in
    let mid = c.loop-i.sectors.items in
    let n = c.loop-i.i in
    let k = slice_index_or list n 0 in
    let there : k < length mid = omega (arith, c.loop-i.invariant.count, c.requires.rising.below n c.loop-i-test.true) in
    let was = not_yet list (Takes c.args.pick.now) old (length old) c.requires.rising n mid c.loop-i-test.true c.loop-i.invariant in
    elim c.if-not-is_taken.branch [
      | goal.then-not-is_taken w ↦
          let values = w.index_mut-values.result.now in
          let is : values ≡ slice_index_or mid k [] = w.index_mut-values.ensures.value ∙ get_or_default mid k values [] there in
          one_more list (Takes c.args.pick.now) old (length old) c.requires.rising n mid _ w.turn.new.self c.loop-i-test.true c.loop-i.invariant there (ap (λ v. v.items) w.sectors-is)
          (subst (λ v. w.turn.new.self ≡ cond (is_odd (slice_index_or c.args.pick.now n 0)) v (swapped v)) (is ∙ was)
          (turned values w.turn.new.self w.count.result (is_odd (slice_index_or c.args.pick.now n 0)) w.count.ensures (sym c.is_taken.ensures ∙ w.if-not-is_taken.true) w.turn.ensures))
      | goal.else-not-is_taken w ↦
          one_more list (Takes c.args.pick.now) old (length old) c.requires.rising n mid _ (slice_index_or mid k []) c.loop-i-test.true c.loop-i.invariant there (ap (λ v. v.items) w.sectors-is ∙ sym (set-get_or mid k []))
          (subst (λ v. slice_index_or mid k [] ≡ cond (is_odd (slice_index_or c.args.pick.now n 0)) v (swapped v)) was (kept (slice_index_or mid k []) (is_odd (slice_index_or c.args.pick.now n 0)) (sym c.is_taken.ensures ∙ w.if-not-is_taken.false)))
    ]
