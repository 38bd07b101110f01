-- What is sound is solid, and the sizes of a sector.
use Rattle.crashdisk.proofs.Below.{FileState, IsSectorSize, IsSolid, IsSound, IsTrue, arith, cases_eq, inl, inr, is_sector_size, length, meets_range, nat_tests, refl, ℕ, ◌<◌, ◌^◌, ◌∙◌, ◌≡◌, ◌≤◌}

module _ (sector : ℕ) (s : FileState) (positive : 0 < sector) where
  pub solid : IsSound sector s → IsSolid sector s
  solid sound = assumption (λ (k : ℕ) (some : 0 < length (s.earlier k)). (meets_range sector 0 s.greatest k positive (sound.touched k some)).2)

pub size_is : (n : ℕ) → IsTrue (is_sector_size n) → IsSectorSize n
size_is n is = one 512 9 (omega arith) (omega arith) refl (λ a. one 1024 10 (omega arith) (omega arith) refl (λ b. one 2048 11 (omega arith) (omega arith) refl (λ d. one 4096 12 (omega arith) (omega arith) refl
    (λ e. one 8192 13 (omega arith) (omega arith) refl (λ f. one 16384 14 (omega arith) (omega arith) refl (λ g. one 32768 15 (omega arith) (omega arith) refl (λ h. one 65536 16 (omega arith) (omega arith) refl (λ i. absurd (grind (arith, nat_tests))))))))))
  where
    one : (m k : ℕ) → 9 ≤ k → k ≤ 16 → m ≡ 2 ^ k → ((n ≡ m → ⊥) → IsSectorSize n) → IsSectorSize n
    one m k low high is_m other = elim (cases_eq n m) [ inl same ↦ (k, low, high, same ∙ is_m) | inr ne ↦ other ne ]

pub size_least : (n : ℕ) → IsTrue (is_sector_size n) → 512 ≤ n
size_least n is = grind (arith, nat_tests)
