-- The greatest number with which the lines of several files end, and whether one of them is that of damage.
use Rattle.std.proofs.Common.{◌≡◌, ◌⊎◌, inl, inr, ⊎_elim, ℕ, ◌+◌, ◌<◌, ◌≤◌, List, [], ◌∷◌, ◌++◌, length, take, get_or, refl, sym, subst, arith}
use Rattle.std.specs.Prelude.{◌↔◌, ◌&&◌, Bool, true, false, IsTrue, cond}
use Rattle.std.specs.List.{All, AllZip, Contains}
use Rattle.std.proofs.lemmas.List.{get_or_default, take_all}
use Rattle.std.proofs.lemmas.List.Elements.{All-push, Contains-append_left, Contains-push, Contains-push_cases, all_zip_more}
use Rattle.sqrescue.specs.Each.{IsGreatest, IsWorst}
use Rattle.sqrescue.specs.Meant.{IsMore}
use Rattle.sqrescue.specs.declared.each.Ended.{Ended}
use Rattle.sqrescue.specs.internal.First.{IsGreatestOfFirst}

module _ (Ends : ℕ → ℕ → Type 0) (places : List ℕ) where
  take_none : (xs : List ℕ) → take 0 xs ≡ []
  take_none [] = refl
  take_none (x ∷ xs) = refl

  -- of no file yet
  pub first_none : IsGreatestOfFirst Ends places 0 (record { greatest = 0; is_damaged = false })
  first_none = (
    [],
    subst (λ (l : List ℕ). AllZip Ends l []) (sym (take_none places)) tt,
    λ k d lt. absurd (omega (arith, lt)),
    inl (refl, refl),
    (λ yes. let e : false ≡ true = yes in absurd cc, λ there. let lt = there.1 in absurd (omega (arith, lt))),
  )

  -- of one file more
  pub first_more : (n place code : ℕ) (before after : Ended) → n < length places → place ≡ get_or places n place → IsMore code before after
      → IsGreatestOfFirst Ends places n before → Ends place code → IsGreatestOfFirst Ends places (n + 1) after
  first_more n place code before after within here more first ends = (
    numbers ++ code ∷ [],
    all_zip_more Ends places numbers n place code within here first.1 ends,
    All-push (λ m. m ≤ after.greatest) numbers code (λ k d lt. omega (arith, first.2 k d lt, more.least_before)) more.least,
    inr (⊎_elim last (λ e. ⊎_elim (none_before e) (one_before e) first.3) more.which),
    (
      λ yes. ⊎_elim (λ old. Contains-append_left numbers (code ∷ []) 1 (first.4.0 old))
          (λ e. subst (Contains (numbers ++ code ∷ [])) e (Contains-push numbers code)) (more.damaged.0 yes),
      λ there. more.damaged.1 (⊎_elim (λ old. inl (first.4.1 old)) (λ e. inr e) (Contains-push_cases numbers code 1 there)),
    ),
  )
    where
      numbers : List ℕ
      numbers = first.0

      last : after.greatest ≡ code → Contains (numbers ++ code ∷ []) after.greatest
      last e = subst (Contains (numbers ++ code ∷ [])) (sym e) (Contains-push numbers code)

      none_before : after.greatest ≡ before.greatest → (n ≡ 0) × (before.greatest ≡ 0) → Contains (numbers ++ code ∷ []) after.greatest
      none_before e none = let zero = none.1 in let least = more.least in last (omega (arith, e, zero, least))

      one_before : after.greatest ≡ before.greatest → Contains numbers before.greatest → Contains (numbers ++ code ∷ []) after.greatest
      one_before e there = subst (Contains (numbers ++ code ∷ [])) (sym e) (Contains-append_left numbers (code ∷ []) before.greatest there)

-- damage, if all is to be judged and there is some, otherwise the greatest
worst_of : (complete : Bool) (numbers : List ℕ) (greatest : ℕ) (damaged : Bool) → IsTrue damaged ↔ Contains numbers 1 → IsGreatest numbers greatest
    → IsWorst complete numbers (cond (complete && damaged) 1 greatest)
worst_of true numbers greatest true told is = inl (refl, told.0 refl, refl)
worst_of true numbers greatest false told is = inr ((λ both. let e : false ≡ true = told.1 both.1 in absurd cc), is)
worst_of false numbers greatest true told is = inr ((λ both. let e : false ≡ true = both.0 in absurd cc), is)
worst_of false numbers greatest false told is = inr ((λ both. let e : false ≡ true = both.0 in absurd cc), is)

-- of all files
pub all_ended : (Ends : ℕ → ℕ → Type 0) (places : List ℕ) (n : ℕ) (complete : Bool) (ended : Ended) (status : ℕ) → 1 ≤ length places → length places ≤ n
    → status ≡ cond (complete && ended.is_damaged) 1 ended.greatest → IsGreatestOfFirst Ends places n ended
    → (numbers : List ℕ) × AllZip Ends places numbers × IsWorst complete numbers status
all_ended Ends places n complete ended status some whole is first = (
  first.0,
  subst (λ (l : List ℕ). AllZip Ends l first.0) (take_all n places whole) first.1,
  subst (IsWorst complete first.0) (sym is) (worst_of complete first.0 ended.greatest ended.is_damaged first.4
      (⊎_elim (λ none. let zero = none.0 in absurd (omega (arith, zero, some, whole))) (λ there. there) first.3, first.2)),
)
