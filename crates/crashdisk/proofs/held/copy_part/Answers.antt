use Rattle.crashdisk.proofs.Between.{List, ap, arith, drop, get_or, get_or-drop, get_or-take, inl, inr, length, length-drop, length-take-le, max, mid_inside, mid_outside, take, ℕ, ⊎_elim, ◌+◌, ◌-◌, ◌<◌, ◌∙◌, ◌≡◌, ◌≤◌, ◌⊎◌}
use Rattle.crashdisk.proofs.held.copy_part.Goals as goal

-- how long a part is
part_long : (a n : ℕ) (xs : List ℕ) → a + n ≤ length xs → length (take n (drop a xs)) ≡ n
part_long a n xs fits = length-take-le n (drop a xs) (omega (arith, length-drop a xs))

pub returns-then-from-to-clause-inside : goal.returns-then-from-to-clause-inside
returns-then-from-to-clause-inside c = λ i lt le lt_present lt_end.
    let from = c.max-from.result in
    let to = c.min-to.result in
    let a = from - c.args.at in
    let k = to - c.args.at - (from - c.args.at) in
    let n = to - c.args.start - (from - c.args.start) in
    let long : length c.copy_from_slice.new.self ≡ k = c.copy_from_slice.ensures.len ∙ part_long a k c.args.out.now (omega (arith, c.requires.end, c.max-from.ensures, c.min-to.ensures, c.if-from-to.true)) in
    mid_inside a k c.args.out.now c.copy_from_slice.new.self long (omega (arith, c.requires.end, c.max-from.ensures, c.min-to.ensures, c.if-from-to.true)) i (omega (arith, c.max-from.ensures, le)) (omega (arith, c.max-from.ensures, c.min-to.ensures, le, lt_present, lt_end))
    ∙ ap (λ (l : List ℕ). get_or l (i - a) 0) c.copy_from_slice.ensures.after
    ∙ get_or-take n (drop (from - c.args.start) c.args.present.now) (i - a) 0 (omega (arith, c.max-from.ensures, c.min-to.ensures, le, lt_present, lt_end))
    ∙ get_or-drop (from - c.args.start) c.args.present.now (i - a) 0
    ∙ ap (λ (j : ℕ). get_or c.args.present.now j 0) (same c.args.at c.args.start from i c.max-from.ensures le)
  where
    same : (at start from i : ℕ) → from ≡ max at start → start ≤ at + i → from - start + (i - (from - at)) ≡ at + i - start
    same at start from i is le = omega arith

pub returns-then-from-to-clause-outside : goal.returns-then-from-to-clause-outside
returns-then-from-to-clause-outside c = λ i lt out.
    let from = c.max-from.result in
    let to = c.min-to.result in
    let a = from - c.args.at in
    let k = to - c.args.at - (from - c.args.at) in
    let long : length c.copy_from_slice.new.self ≡ k = c.copy_from_slice.ensures.len ∙ part_long a k c.args.out.now (omega (arith, c.requires.end, c.max-from.ensures, c.min-to.ensures, c.if-from-to.true)) in
    let beside : (i < a) ⊎ (a + k ≤ i) = ⊎_elim (λ before. inl (omega (arith, c.max-from.ensures))) (λ behind. ⊎_elim (λ p. inr (omega (arith, c.max-from.ensures, c.min-to.ensures, c.if-from-to.true))) (λ e. inr (omega (arith, c.max-from.ensures, c.min-to.ensures, c.if-from-to.true))) behind) out in
    mid_outside a k c.args.out.now c.copy_from_slice.new.self long (omega (arith, c.requires.end, c.max-from.ensures, c.min-to.ensures, c.if-from-to.true)) i beside
