-- What a choice names.
use Rattle.crashdisk.proofs.Words.{Bool, List, None, Option, Some, [], ap, cond, false, last_torn, nat_eq, or_else, refl, true, ℕ, ◌++◌, ◌∙◌, ◌∷◌, ◌≡◌}

-- one entry more
pub torn_more : (torn : List (ℕ × List ℕ)) (entry : ℕ × List ℕ) (k : ℕ) → last_torn (torn ++ entry ∷ []) k ≡ cond (nat_eq entry.0 k) (Some entry.1) (last_torn torn k)
torn_more [] entry k = refl
torn_more (first ∷ torn) entry k = ap (λ (found : Option (List ℕ)). or_else found (cond (nat_eq first.0 k) (Some first.1) None)) (torn_more torn entry k) ∙ by (nat_eq entry.0 k)
  where
    by : (b : Bool) → or_else (cond b (Some entry.1) (last_torn torn k)) (cond (nat_eq first.0 k) (Some first.1) None) ≡ cond b (Some entry.1) (or_else (last_torn torn k) (cond (nat_eq first.0 k) (Some first.1) None))
    by true = refl
    by false = refl
