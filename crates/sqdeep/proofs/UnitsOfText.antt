-- The units of UTF-16.
use Rattle.std.proofs.Common.{◌≡◌, ◌∙◌, ℕ, zero, suc, ◌+◌, ◌*◌, ◌<◌, ◌≤◌, List, length, Bool, true, false, refl, sym, ap, subst, inl, inr, arith}
use Rattle.std.proofs.lemmas.Bool.{cases_eq, cases_lt}
use Rattle.std.proofs.lemmas.List.{get_or_past}
use Rattle.sqdeep.specs.Texts.{unit, is_high, is_low, follows_high, IsUtf16}

-- past the end there are no units
past : (big : Bool) (bytes : List ℕ) (k : ℕ) → length bytes ≤ 2 * k → unit big bytes k ≡ 0
past true bytes k h = let a = get_or_past bytes (2 * k) 0 h in let b = get_or_past bytes (2 * k + 1) 0 (omega (arith, h)) in rw (a, b) refl
past false bytes k h = let a = get_or_past bytes (2 * k) 0 h in let b = get_or_past bytes (2 * k + 1) 0 (omega (arith, h)) in rw (a, b) refl

module _ (big : Bool) (bytes : List ℕ) (n : ℕ) (long : length bytes ≡ 2 * n) where
  not_low : (k : ℕ) → n ≤ k → is_low (unit big bytes k) ≡ false
  not_low k h = ap is_low (past big bytes k (omega (arith, long, h)))

  follows_past : (k : ℕ) → n ≤ k → follows_high (unit big bytes) n ≡ false → follows_high (unit big bytes) k ≡ false
  follows_past zero h last = refl
  follows_past (suc k) h last = elim (cases_eq n (suc k)) [
    | inl e ↦ subst (λ m. follows_high (unit big bytes) m ≡ false) e last
    | inr ne ↦ ap is_high (past big bytes k (omega (arith, long, h, ne)))
  ]

  -- All are paired where those of the text are, and the last one begins no pair.
  pub paired_to_end : ((k : ℕ) → k < n → is_low (unit big bytes k) ≡ follows_high (unit big bytes) k) → follows_high (unit big bytes) n ≡ false → (k : ℕ) → is_low (unit big bytes k) ≡ follows_high (unit big bytes) k
  paired_to_end before last k = elim (cases_lt k n) [
    | inl lt ↦ before k lt
    | inr ge ↦ not_low k ge ∙ sym (follows_past k ge last)
  ]

  -- The last one begins no pair.
  pub last_one : IsUtf16 big bytes → follows_high (unit big bytes) n ≡ false
  last_one is = sym (is.paired n) ∙ not_low n (omega arith)
