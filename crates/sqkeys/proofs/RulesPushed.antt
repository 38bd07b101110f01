-- The rules of columns, one after another.
use Rattle.std.proofs.Common.{◌≡◌, ◌⊎◌, inl, inr, ⊎_elim, ℕ, zero, suc, List, [], ◌∷◌, ◌++◌, length, slice_get, Some, refl, sym, ap, ◌∙◌, subst}
use Rattle.sqlite_ast.specs.declared.CreateTable.{CreateTable}
use Rattle.sqkeys.specs.declared.row_rules.ColumnRule.{ColumnRule}
use Rattle.sqkeys.specs.RowRules.{IsRuleOf}

get_push : (rules : List ColumnRule) (rule : ColumnRule) (k : ℕ) (r : ColumnRule) → slice_get (rules ++ rule ∷ []) k ≡ Some r → (slice_get rules k ≡ Some r) ⊎ ((k ≡ length rules) × (rule ≡ r))
get_push [] rule zero r h = inr (refl, cc)
get_push [] rule (suc k) r h = absurd (cc)
get_push (x ∷ rules) rule zero r h = inl h
get_push (x ∷ rules) rule (suc k) r h = ⊎_elim (λ old. inl old) (λ new. inr (ap suc new.0, new.1)) (get_push rules rule k r h)

-- one more column keeps to its rule
pub rules_push : (made : CreateTable) (rules : List ColumnRule) (j : ℕ) (rule : ColumnRule) → length rules ≡ j
    → ((k : ℕ) (r : ColumnRule) → slice_get rules k ≡ Some r → IsRuleOf made k r) → IsRuleOf made j rule
    → (k : ℕ) (r : ColumnRule) → slice_get (rules ++ rule ∷ []) k ≡ Some r → IsRuleOf made k r
rules_push made rules j rule many each is k r at = ⊎_elim
    (λ old. each k r old)
    (λ new. subst (λ n. IsRuleOf made n r) (sym (new.0 ∙ many)) (subst (IsRuleOf made j) new.1 is))
    (get_push rules rule k r at)
