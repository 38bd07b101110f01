-- The eight page sizes.
use Rattle.std.proofs.Common.{◌≡◌, ◌⊎◌, inl, inr, ⊎_elim, ℕ, ◌^◌, ◌∙◌, ap, arith, lit≤}
use Rattle.std.proofs.lemmas.Bool.{cases_eq}
use Rattle.sqval.specs.PageSize.{IsPageSize}

abbrev pub IsOneOf : ℕ → Type 0
IsOneOf n = (n ≡ 512) ⊎ ((n ≡ 1024) ⊎ ((n ≡ 2048) ⊎ ((n ≡ 4096) ⊎ ((n ≡ 8192) ⊎ ((n ≡ 16384) ⊎ ((n ≡ 32768) ⊎ (n ≡ 65536)))))))

power : (n k j : ℕ) → n ≡ 2 ^ k → k ≡ j → n ≡ 2 ^ j
power n k j e f = e ∙ ap (λ x. 2 ^ x) f

pub one_of : (n : ℕ) → IsPageSize n → IsOneOf n
one_of n s =
    ⊎_elim (λ e. inl (power n s.0 9 s.3 e)) (λ n9.
    ⊎_elim (λ e. inr (inl (power n s.0 10 s.3 e))) (λ n10.
    ⊎_elim (λ e. inr (inr (inl (power n s.0 11 s.3 e)))) (λ n11.
    ⊎_elim (λ e. inr (inr (inr (inl (power n s.0 12 s.3 e))))) (λ n12.
    ⊎_elim (λ e. inr (inr (inr (inr (inl (power n s.0 13 s.3 e)))))) (λ n13.
    ⊎_elim (λ e. inr (inr (inr (inr (inr (inl (power n s.0 14 s.3 e))))))) (λ n14.
    ⊎_elim (λ e. inr (inr (inr (inr (inr (inr (inl (power n s.0 15 s.3 e)))))))) (λ n15.
    let e : s.0 ≡ 16 = omega (arith, s.1, s.2) in inr (inr (inr (inr (inr (inr (inr (power n s.0 16 s.3 e)))))))
    ) (cases_eq s.0 15)) (cases_eq s.0 14)) (cases_eq s.0 13)) (cases_eq s.0 12)) (cases_eq s.0 11)) (cases_eq s.0 10)) (cases_eq s.0 9)

pub is_page_size : (n : ℕ) → IsOneOf n → IsPageSize n
is_page_size n =
    ⊎_elim (λ e. (9, lit≤ tt, lit≤ tt, e))
    (⊎_elim (λ e. (10, lit≤ tt, lit≤ tt, e))
    (⊎_elim (λ e. (11, lit≤ tt, lit≤ tt, e))
    (⊎_elim (λ e. (12, lit≤ tt, lit≤ tt, e))
    (⊎_elim (λ e. (13, lit≤ tt, lit≤ tt, e))
    (⊎_elim (λ e. (14, lit≤ tt, lit≤ tt, e))
    (⊎_elim (λ e. (15, lit≤ tt, lit≤ tt, e)) (λ e. (16, lit≤ tt, lit≤ tt, e))))))))
