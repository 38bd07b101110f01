-- Which pages are marked.
use Rattle.std.proofs.Common.{◌≡◌, ◌≢◌, ◌↔◌, ◌⊎◌, Result, Ok, Err, ℕ, zero, suc, ◌-◌, ◌<◌, ◌≤◌, List, length, get_or, Bool, true, false, refl, sym, ap, subst, ◌∙◌, inl, inr, arith}
use Rattle.std.proofs.lemmas.Bool.{cases_eq}
use Rattle.std.proofs.lemmas.List.{get_or-set_other, get_or-set_same}
use Rattle.sqval.specs.Database.{Database}
use Rattle.std.specs.Prelude.{OnOk}
use Rattle.sqpage.specs.Freelist.{IsPage, IsWithin}
use Rattle.sqsalvage.specs.SalvageCursor.{IsMarked}
use Rattle.sqsalvage.specs.internal.Taking.{Marks}

either : (b : Bool) → (b ≡ true) ⊎ ¬ (b ≡ true)
either true = inl refl
either false = inr (λ e. cc)

pub marked_or_not : (marks : List Bool) (p : ℕ) → IsMarked marks p ⊎ ¬ IsMarked marks p
marked_or_not marks zero = inr (λ m. let no : 0 < 0 = m.0 in absurd (omega (arith, no)))
marked_or_not marks (suc p) = elim (either (get_or marks (suc p - 1) false)) [ inl is ↦ inl (omega arith, is) | inr un ↦ inr (λ m. un m.1) ]

-- a page more is marked
pub marked_more : (old new : List Bool) (p : ℕ) → Marks old new p → (q : ℕ) → IsMarked new q ↔ (IsMarked old q ⊎ (q ≡ p))
marked_more old new p m q = (forth, back)
  where
    above : 0 < p
    above = m.within.0

    lt : p - 1 < length old
    lt = let le : p ≤ length old = m.within.1 in omega (arith, le, above)

    same : 0 < q → q ≢ p → get_or new (q - 1) false ≡ get_or old (q - 1) false
    same some ne = ap (λ l. get_or l (q - 1) false) m.now_marked ∙ get_or-set_other old (p - 1) (q - 1) true false (λ e. ne (omega (arith, e, some, above)))

    forth : IsMarked new q → IsMarked old q ⊎ (q ≡ p)
    forth h = elim (cases_eq q p) [ inl e ↦ inr e | inr ne ↦ inl (h.0, sym (same h.0 ne) ∙ h.1) ]

    now : get_or new (p - 1) false ≡ true
    now = ap (λ l. get_or l (p - 1) false) m.now_marked ∙ get_or-set_same old (p - 1) true false lt

    back : IsMarked old q ⊎ (q ≡ p) → IsMarked new q
    back (inl h) = elim (cases_eq q p) [ inl e ↦ subst (λ (n : ℕ). IsMarked new n) (sym e) (above, now) | inr ne ↦ (h.0, same h.0 ne ∙ h.1) ]
    back (inr e) = subst (λ (n : ℕ). IsMarked new n) (sym e) (above, now)

-- a page that is left out
pub left_out : (d : Database) (old new : List Bool) (p : ℕ) (b : Bool) → length old ≡ length d → (b ≡ true → Marks old new p) → (b ≡ false → (new ≡ old) × (IsWithin (length old) p → IsMarked old p))
    → (q : ℕ) → IsMarked new q ↔ (IsMarked old q ⊎ (IsPage d q × (q ≡ p)))
left_out d old new p true size marked refused q =
    let m = marked refl in
    let page : IsPage d p = (m.within.0, (let le : p ≤ length old = m.within.1 in omega (arith, le, size))) in (
      λ h. elim ((marked_more old new p m q).0 h) [ inl before ↦ inl before | inr e ↦ inr (subst (λ (n : ℕ). IsPage d n) (sym e) page, e) ],
      λ h. elim h [ inl before ↦ (marked_more old new p m q).1 (inl before) | inr w ↦ (marked_more old new p m q).1 (inr w.1) ],
    )
left_out d old new p false size marked refused q =
    let same = refused refl in (
      λ h. inl (subst (λ (m : List Bool). IsMarked m q) same.0 h),
      λ h. elim h [
        | inl before ↦ subst (λ (m : List Bool). IsMarked m q) (sym same.0) before
        | inr w ↦ subst (λ (m : List Bool). IsMarked m q) (sym same.0) (subst (λ (n : ℕ). IsMarked old n) (sym w.1) (same.1 (subst (λ (n : ℕ). IsWithin (length old) n) w.1 (w.0.0, (let le : q ≤ length d = w.0.1 in omega (arith, le, size))))))
      ],
    )

-- what holds of each answer
pub on_ok : {T E : Type 0} (A B : Type 0) (r : Result T E) → (A → B) → OnOk r A → OnOk r B
on_ok A B (Ok v) f h = f h
on_ok A B (Err e) f h = tt
