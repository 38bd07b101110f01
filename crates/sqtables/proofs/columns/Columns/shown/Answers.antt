use Rattle.std.proofs.Common.{◌≡◌, ℕ, zero, suc, ◌+◌, [], ◌∷◌, ◌++◌, sym, ap, ◌∙◌, add-one, arith}
use Rattle.std.proofs.lemmas.List.{map-append}
use Rattle.sqval.specs.Datum.{Datum, datum_of, row_of}
use Rattle.sqpage.specs.Lists.{each_from}
use Rattle.sqtables.specs.Columns.{shown_at}
use Rattle.sqtables.proofs.columns.Columns.shown.Goals as goal

each_more : (f : ℕ → Datum) (i k n : ℕ) → n ≡ i + k → each_from i (suc k) f ≡ each_from i k f ++ f n ∷ []
each_more f i zero n e = let same : i ≡ n = omega (arith, e) in ap (λ j. f j ∷ []) same
each_more f i (suc k) n e = let next : n ≡ suc i + k = omega (arith, e) in ap (λ z. f i ∷ z) (each_more f (suc i) k n next)

pub loop-j-preserved : goal.loop-j-preserved
loop-j-preserved c =
    let f = shown_at c.args.self.now (record { rowid = c.args.row.now.rowid; values = c.args.row.now.values }) in
    let j = c.loop-j.j in
    let v = c.value_at.result in
    let more : each_from 0 (j + 1) f ≡ each_from 0 j f ++ f j ∷ [] = ap (λ n. each_from 0 n f) (add-one j) ∙ each_more f 0 j j (omega arith) in
    ap row_of c.in_ok-push.ensures.items ∙ map-append datum_of c.loop-j.values.items (v ∷ []) ∙ ap (λ z. z ++ datum_of v ∷ []) c.loop-j.invariant ∙ ap (λ x. each_from 0 j f ++ x ∷ []) c.value_at.ensures ∙ sym more
