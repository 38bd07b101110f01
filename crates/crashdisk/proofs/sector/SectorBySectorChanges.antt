-- Changes of one sector after the other.
use Rattle.crashdisk.proofs.Words.{AreRising, EachOf, Gets, List, Loses, [], ap, arith, before_last, cases_eq, cases_lt, ext_get_or, get_or, get_or-set_other, get_or-set_same, get_or-take, inl, inr, length, length-append, length-set, length-take-le, set, subst, suc, sym, take, take-append-le, take_all, zero, ℕ, ◌++◌, ◌+◌, ◌-◌, ◌<◌, ◌∙◌, ◌∷◌, ◌≡◌, ◌≤◌, ◌⊎◌}

module _ (list : List ℕ) (R : ℕ → List (List ℕ) → List (List ℕ) → Type 0) (old : List (List (List ℕ))) (bound : ℕ) (rising : AreRising bound list) where
  pub not_yet : (n : ℕ) (mid : List (List (List ℕ))) → n < length list → EachOf (take n list) R old mid → get_or mid (get_or list n 0) [] ≡ get_or old (get_or list n 0) []
  not_yet n mid lt so_far = so_far.left (get_or list n 0) (λ i below same.
      let short : i < n = omega (arith, length-take-le n list (omega arith)) in
      omega (arith, get_or-take n list i 0 short, same, rising.rising i n short lt))

  pub one_more : (n : ℕ) (mid new : List (List (List ℕ))) (values : List (List ℕ)) → n < length list → EachOf (take n list) R old mid → get_or list n 0 < length mid → new ≡ set mid (get_or list n 0) values
      → R n (get_or old (get_or list n 0) []) values → EachOf (take (n + 1) list) R old new
  one_more n mid new values lt so_far there is made =
      let long : length (take n list) ≡ n = length-take-le n list (omega arith) in
      let longer : length (take (n + 1) list) ≡ n + 1 = length-take-le (n + 1) list (omega arith) in
      let at : (i : ℕ) → i < n + 1 → get_or (take (n + 1) list) i 0 ≡ get_or list i 0 = λ i lt_i. get_or-take (n + 1) list i 0 lt_i in
      let same : (k : ℕ) → (k ≡ get_or list n 0 → ⊥) → get_or new k [] ≡ get_or mid k [] = λ k ne. ap (λ (l : List (List (List ℕ))). get_or l k []) is ∙ get_or-set_other mid (get_or list n 0) k values [] ne in
      let now : get_or new (get_or list n 0) [] ≡ values = ap (λ (l : List (List (List ℕ))). get_or l (get_or list n 0) []) is ∙ get_or-set_same mid (get_or list n 0) values [] there in record {
        count = ap (λ (l : List (List (List ℕ))). length l) is ∙ length-set mid (get_or list n 0) values ∙ so_far.count;
        left = λ k not. same k (λ e. not n (omega arith) (at n (omega arith) ∙ sym e)) ∙ so_far.left k (λ i below e. not i (omega arith) (at i (omega arith) ∙ sym (get_or-take n list i 0 (omega arith)) ∙ e));
        each = λ i below. elim (cases_lt i n) [
          | inl before ↦
              let e : get_or (take (n + 1) list) i 0 ≡ get_or list i 0 = at i (omega arith) in
              let f : get_or (take n list) i 0 ≡ get_or list i 0 = get_or-take n list i 0 before in
              let other : get_or list i 0 ≡ get_or list n 0 → ⊥ = λ clash. omega (arith, rising.rising i n before lt) in
              subst (λ (k : ℕ). R i (get_or old k []) (get_or new k [])) (sym e) (subst (λ (v : List (List ℕ)). R i (get_or old (get_or list i 0) []) v) (sym (same (get_or list i 0) other))
              (subst (λ (k : ℕ). R i (get_or old k []) (get_or mid k [])) f (so_far.each i (omega arith))))
          | inr last ↦
              let is_n : n ≡ i = omega (arith, last, below) in
              subst (λ (j : ℕ). R j (get_or old (get_or (take (n + 1) list) j 0) []) (get_or new (get_or (take (n + 1) list) j 0) [])) is_n
              (subst (λ (k : ℕ). R n (get_or old k []) (get_or new k [])) (sym (at n (omega arith))) (subst (λ (v : List (List ℕ)). R n (get_or old (get_or list n 0) []) v) (sym now) made))
        ];
      }

pub rising_take : (bound bound2 n : ℕ) (list : List ℕ) → AreRising bound list → n ≤ length list → bound2 ≡ bound → AreRising bound2 (take n list)
rising_take bound bound2 n list rising le same =
    let long : length (take n list) ≡ n = length-take-le n list le in record {
      rising = λ i j lt lt_j. omega (arith, get_or-take n list i 0 (omega arith), get_or-take n list j 0 (omega arith), rising.rising i j lt (omega arith));
      below = λ i lt. omega (arith, get_or-take n list i 0 (omega arith), rising.below i (omega arith));
    }

-- whether a number is in a list
pub find : (list : List ℕ) (k : ℕ) → ((i : ℕ) × (i < length list) × (get_or list i 0 ≡ k)) ⊎ ((i : ℕ) → i < length list → get_or list i 0 ≡ k → ⊥)
find [] k = inr (λ i lt e. omega arith)
find (x ∷ list) k = elim (cases_eq x k) [
  | inl is ↦ inl (0, omega arith, is)
  | inr ne ↦ elim (find list k) [
    | inl one ↦ inl (suc one.0, omega (arith, one.1), one.2)
    | inr none ↦ inr (by ne none)
  ]
]
  where
    by : (x ≡ k → ⊥) → ((i : ℕ) → i < length list → get_or list i 0 ≡ k → ⊥) → (i : ℕ) → i < suc (length list) → get_or (x ∷ list) i 0 ≡ k → ⊥
    by ne none zero lt e = ne e
    by ne none (suc i) lt e = none i (omega arith) e

-- one value more, without its last
pub before_pushed : {A : Type 0} (values : List A) (v : A) → take (length (values ++ v ∷ []) - 1) (values ++ v ∷ []) ≡ values
before_pushed values v = ap (λ (n : ℕ). take n (values ++ v ∷ [])) one_less ∙ take-append-le (length values) values (v ∷ []) (omega arith) ∙ take_all (length values) values (omega arith)
  where
    one_less : length (values ++ v ∷ []) - 1 ≡ length values
    one_less = omega (arith, length-append values (v ∷ []))

-- what was pushed and taken back is as it was
pub undone : (sector from keep : ℕ) (bytes list all : List ℕ) (old mid now : List (List (List ℕ))) → EachOf list (Gets sector from keep bytes all) old mid → EachOf list Loses mid now → now ≡ old
undone sector from keep bytes list all old mid now pushed popped = ext_get_or [] now old (popped.count ∙ pushed.count) (λ k lt. elim (find list k) [
  | inr none ↦ popped.left k none ∙ pushed.left k none
  | inl one ↦
      let made = pushed.each one.0 one.1 in
      subst (λ (j : ℕ). get_or now j [] ≡ get_or old j []) one.2 (popped.each one.0 one.1 ∙ ap before_last made.1 ∙ before_pushed (get_or old (get_or list one.0 0) []) made.0)
])
