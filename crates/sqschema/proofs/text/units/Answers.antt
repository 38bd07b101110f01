use Rattle.std.proofs.Common.{◌≡◌, ℕ, zero, suc, ◌+◌, [], ◌∷◌, ◌++◌, sym, ap, ◌∙◌, add-one, arith}
use Rattle.sqpage.specs.Lists.{each_from}
use Rattle.sqdeep.specs.Texts.{unit}
use Rattle.sqschema.proofs.text.units.Goals as goal

each_more : (f : ℕ → ℕ) (i k n : ℕ) → n ≡ i + k → each_from i (suc k) f ≡ each_from i k f ++ f n ∷ []
each_more f i zero n e = let same : i ≡ n = omega (arith, e) in ap (λ j. f j ∷ []) same
each_more f i (suc k) n e = let next : n ≡ suc i + k = omega (arith, e) in ap (λ z. f i ∷ z) (each_more f (suc i) k n next)

pub loop-k-preserved : goal.loop-k-preserved
loop-k-preserved c =
    let f = unit c.args.big c.args.bytes.now in
    let k = c.loop-k.k in
    let more : each_from 0 (k + 1) f ≡ each_from 0 k f ++ f k ∷ [] = ap (λ n. each_from 0 n f) (add-one k) ∙ each_more f 0 k k (omega arith) in
    c.in_ok-push.ensures.items ∙ ap (λ z. z ++ c.unit_at.result ∷ []) c.loop-k.invariant ∙ ap (λ u. each_from 0 k f ++ u ∷ []) c.unit_at.ensures ∙ sym more
