-- Sectors in ranges.
use Rattle.std.proofs.Common.{◌≡◌, ◌⊎◌, ◌↔◌, inl, inr, Bool, IsTrue, ℕ, ◌+◌, ◌<◌, ◌≤◌, List, [], ◌∷◌, ◌++◌, sym, subst, arith}
use Rattle.std.proofs.lemmas.Bool.{cases_lt}
use Rattle.rig_store.specs.Differing.{InRanges}

-- one range more
pub in_more : (ranges : List (ℕ × ℕ)) (r : ℕ × ℕ) (k : ℕ) → InRanges (ranges ++ r ∷ []) k ↔ (InRanges ranges k ⊎ ((r.0 ≤ k) × (k ≤ r.1)))
in_more [] r k = (λ h. elim h [ inl a ↦ inr a | inr f ↦ absurd f ], λ h. elim h [ inl f ↦ absurd f | inr a ↦ inl a ])
in_more (s ∷ ranges) r k =
    let more = in_more ranges r k in (
      λ h. elim h [ inl a ↦ inl (inl a) | inr b ↦ elim (more.0 b) [ inl x ↦ inl (inr x) | inr y ↦ inr y ] ],
      λ h. elim h [ inl ab ↦ elim ab [ inl a ↦ inl a | inr b ↦ inr (more.1 (inl b)) ] | inr y ↦ inr (more.1 (inr y)) ],
    )

-- of one sector
pub in_one : (ranges : List (ℕ × ℕ)) (k j : ℕ) → InRanges (ranges ++ (k, k) ∷ []) j ↔ (InRanges ranges j ⊎ (j ≡ k))
in_one ranges k j =
    let more = in_more ranges (k, k) j in (
      λ h. elim (more.0 h) [ inl a ↦ inl a | inr b ↦ inr (omega (arith, b.0, b.1)) ],
      λ h. elim h [ inl a ↦ more.1 (inl a) | inr e ↦ more.1 (inr (omega arith, omega arith)) ],
    )

-- the last one gets longer by a sector
pub in_longer : (left : List (ℕ × ℕ)) (first last k j : ℕ) → first ≤ k → k ≡ last + 1 → InRanges (left ++ (first, k) ∷ []) j ↔ (InRanges (left ++ (first, last) ∷ []) j ⊎ (j ≡ k))
in_longer left first last k j below next =
    let new = in_more left (first, k) j in
    let old = in_more left (first, last) j in (
      λ h. elim (new.0 h) [
        | inl a ↦ inl (old.1 (inl a))
        | inr b ↦ elim (cases_lt last j) [ inl more ↦ inr (omega (arith, b.0, b.1)) | inr less ↦ inl (old.1 (inr (b.0, less))) ]
      ],
      λ h. elim h [
        | inl a ↦ elim (old.0 a) [ inl x ↦ new.1 (inl x) | inr y ↦ new.1 (inr (y.0, omega (arith, y.1))) ]
        | inr e ↦ new.1 (inr (omega arith, omega arith))
      ],
    )

-- what holds of the sectors from a first one on, one further, which is added where it holds of that
pub step_on : (A B P : ℕ → Type 0) (b : Bool) (first k : ℕ) → first ≤ k → IsTrue b ↔ P k → ((j : ℕ) → A j ↔ ((first ≤ j) × (j < k) × P j)) → ((j : ℕ) → B j ↔ (A j ⊎ (IsTrue b × (j ≡ k))))
    → (j : ℕ) → B j ↔ ((first ≤ j) × (j < k + 1) × P j)
step_on A B P b first k above here before more j = (
  λ h. elim ((more j).0 h) [
    | inl a ↦ let is = (before j).0 a in (is.0, omega (arith, is.1), is.2)
    | inr e ↦ (omega (arith, e.1), omega (arith, e.1), subst P (sym e.1) (here.0 e.0))
  ],
  λ h. elim (cases_lt j k) [
    | inl less ↦ (more j).1 (inl ((before j).1 (h.0, less, h.2)))
    | inr past ↦ let e : j ≡ k = omega (arith, h.1) in (more j).1 (inr (here.1 (subst P e h.2), e))
  ],
)
