use Rattle.crashdisk.proofs.Between.{Below, Bool, IsTrue, Touches, all_below, ap, arith, false, file_by, none_below, one_found, one_skipped, subst, sym, touched_from, touched_there, touched_to, true, ℕ, ◌+◌, ◌/◌, ◌<◌, ◌∙◌, ◌≡◌, ◌≤◌}
use Rattle.crashdisk.proofs.held.touched.Goals as goal

is_true : {b : Bool} → b ≡ true → IsTrue b
is_true is = is

not_true : {b : Bool} → b ≡ false → IsTrue b → ⊥
not_true is holds = cc (sym is ∙ holds)

pub loop-k-init : goal.loop-k-init
loop-k-init c =
    let change = c.args.change.now in
    let touches : ℕ → Type 0 = Touches c.args.sector (file_by c.args.sector c.args.sectors.now c.args.len 0 0) change.from change.to change.end in
    subst (λ l. Below touches (c.min.result / c.args.sector) l) (sym c.new-list.ensures.items) (none_below touches (c.min.result / c.args.sector)
    (λ k t. omega (arith, ap (λ (n : ℕ). n / c.args.sector) c.min.ensures, touched_from c.args.sector change.from change.to change.end c.args.len c.args.sectors.now c.requires.size.0 k t)))

pub loop-k-preserved : goal.loop-k-preserved
loop-k-preserved c =
    let touches : ℕ → Type 0 = Touches c.args.sector (file_by c.args.sector c.args.sectors.now c.args.len 0 0) c.args.change.now.from c.args.change.now.to c.args.change.now.end in
    elim c.if-is_touched.branch [
      | goal.then-is_touched+in_ok-push w ↦
          subst (λ v. Below touches (c.loop-k.k + 1) v.items) (sym w.list-is)
          (subst (λ l. Below touches (c.loop-k.k + 1) l) (sym w.in_ok-push.ensures.items) (one_found touches c.loop-k.k c.loop-k.list.items c.loop-k.invariant (c.is_touched.ensures.0 (is_true w.if-is_touched.true))))
      | goal.else-is_touched w ↦
          subst (λ v. Below touches (c.loop-k.k + 1) v.items) (sym w.list-is)
          (one_skipped touches c.loop-k.k c.loop-k.list.items c.loop-k.invariant (λ touched. not_true w.if-is_touched.false (c.is_touched.ensures.1 touched)))
    ]

pub returns : goal.returns
returns c =
    let change = c.args.change.now in
    let touches : ℕ → Type 0 = Touches c.args.sector (file_by c.args.sector c.args.sectors.now c.args.len 0 0) change.from change.to change.end in
    let reach : (c.args.len < change.end → change.end ≤ c.if-len-change.place) × (change.end ≤ c.args.len → change.to ≤ c.if-len-change.place) = elim c.if-len-change.branch [
      | goal.then-len-change w ↦ (λ lt. omega (arith, w.place-is), λ le. absurd (omega (arith, w.if-len-change.true)))
      | goal.else-len-change w ↦ (λ lt. absurd (omega (arith, w.if-len-change.false)), λ le. omega (arith, w.place-is))
    ] in
    all_below touches c.loop-k.k c.loop-k.list.items c.loop-k.invariant
    (λ k t. omega (
      arith,
      c.loop-k-test.false,
      c.min-k-end.ensures,
      touched_to c.args.sector change.from change.to change.end c.args.len c.args.sectors.now c.requires.size.0 k c.if-len-change.place reach.0 reach.1 c.requires.suits.fits t,
      touched_there c.args.sector change.from change.to change.end c.args.len c.args.sectors.now c.requires.size.0 k c.requires.there t,
    ))
