use Rattle.std.proofs.Common.{◌≡◌, ℕ, ◌-◌, List, [], ◌∷◌, ◌++◌, length, map, sym, ◌∙◌, ap, arith}
use Rattle.std.specs.List.{range_with_len}
use Rattle.std.proofs.lemmas.List.FromFn.{map-range_with_len_more}
use Rattle.crashdisk.specs.Model.{state_of}
use Rattle.rig_families.proofs.version.numbers.Goals as goal

pub loop-k-preserved : goal.loop-k-preserved
loop-k-preserved c =
    let f : ℕ → ℕ = λ k. length ((state_of c.args.disk.now).db.earlier k) in
    let k = c.loop-k.k in
    let value : c.values.result - 1 ≡ f k = omega (arith, c.values.ensures) in
    c.in_ok-push.ensures.items ∙ ap (λ (l : List ℕ). l ++ (c.values.result - 1) ∷ []) c.loop-k.invariant
    ∙ ap (λ (n : ℕ). map f (range_with_len 0 k) ++ n ∷ []) value ∙ sym (map-range_with_len_more f 0 k k (omega arith))
