-- Sectors behind the end of two files.
use Rattle.std.proofs.Common.{◌≡◌, inl, inr, ℕ, zero, suc, ◌+◌, ◌*◌, ◌/◌, ◌<◌, ◌≤◌, List, [], length, take, refl, sym, ◌∙◌, ap, arith}
use Rattle.std.proofs.Math.Nat.{le-div_iff_mul-le}
use Rattle.std.proofs.lemmas.Bool.{cases_lt}
use Rattle.std.proofs.lemmas.List.{drop_all}
use Rattle.rig_store.specs.Differing.{sector_bytes}

none_there : (n : ℕ) → ◌≡◌ {A = List ℕ} (take n []) []
none_there zero = refl
none_there (suc n) = refl

-- there are no bytes
none_behind : (size k : ℕ) (bytes : List ℕ) → length bytes ≤ k * size → sector_bytes size k bytes ≡ []
none_behind size k bytes behind = ap (λ (l : List ℕ). take size l) (drop_all (k * size) bytes behind) ∙ none_there size

-- a sector comes behind both
far_behind : (size k longest : ℕ) → 0 < size → longest / size + 1 ≤ k → longest ≤ k * size
far_behind size k longest some past = elim (cases_lt longest (k * size)) [
  | inl less ↦ omega (arith, less)
  | inr more ↦ let within : k ≤ longest / size = (le-div_iff_mul-le some).1 more in absurd (omega (arith, within, past))
]

-- so two files are the same there
pub same_behind : (size k longest : ℕ) (a b : List ℕ) → 0 < size → length a ≤ longest → length b ≤ longest → longest / size + 1 ≤ k → sector_bytes size k a ≡ sector_bytes size k b
same_behind size k longest a b some long_a long_b past =
    let far = far_behind size k longest some past in
    none_behind size k a (omega (arith, far, long_a)) ∙ sym (none_behind size k b (omega (arith, far, long_b)))
