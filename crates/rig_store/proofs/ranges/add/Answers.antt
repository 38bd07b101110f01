use Rattle.std.proofs.Common.{ℕ, List, ◌↔◌, ◌⊎◌, ◌≡◌, sym, subst}
use Rattle.std.proofs.lemmas.Result.{IfOk-weaker}
use Rattle.rig_store.specs.Differing.{InRanges}
use Rattle.rig_store.proofs.ranges.add.Goals as goal

pub returns-in-Some : goal.returns-in-Some
returns-in-Some c =
    let k = c.args.k in
    let new = c.add_behind.new.ranges.items in
    IfOk-weaker c.add_behind.result _ _
    (λ done is. λ j. subst (λ (l : List (ℕ × ℕ)). InRanges new j ↔ (InRanges l j ⊎ (j ≡ k))) (sym c.in-Some.ensures.items) (is j)) c.add_behind.ensures
