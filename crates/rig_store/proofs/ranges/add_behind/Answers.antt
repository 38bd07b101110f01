use Rattle.std.proofs.Common.{ℕ, List, [], ◌∷◌, ◌++◌, ◌↔◌, ◌⊎◌, ◌≡◌, sym, ◌∙◌, ap, subst}
use Rattle.rig_store.specs.Differing.{InRanges}
use Rattle.rig_store.proofs.RangesOfSectors.{in_longer, in_one}
use Rattle.rig_store.proofs.ranges.add_behind.Goals as goal

pub returns-then-follows : goal.returns-then-follows
returns-then-follows c = λ j.
    let old = c.args.ranges.now.items in
    let range = c.args.range in
    let k = c.args.k in
    let next = c.follows.ensures c.if-follows.true in
    subst (λ (l : List (ℕ × ℕ)). InRanges l j ↔ (InRanges (old ++ range ∷ []) j ⊎ (j ≡ k))) (sym c.in_ok-push.ensures.items) (in_longer old range.0 range.1 k j next.0 next.1)

pub returns : goal.returns
returns c = λ j.
    let old = c.args.ranges.now.items in
    let range = c.args.range in
    let k = c.args.k in
    subst (λ (l : List (ℕ × ℕ)). InRanges l j ↔ (InRanges (old ++ range ∷ []) j ⊎ (j ≡ k)))
    (sym (c.in_ok-push-3.ensures.items ∙ ap (λ (l : List (ℕ × ℕ)). l ++ (k, k) ∷ []) c.in_ok-push-2.ensures.items)) (in_one (old ++ range ∷ []) k j)
