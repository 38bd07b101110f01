-- The logs that were made grow, by one that is begun and by frames behind the newest.
use Rattle.walcore.proofs.Words.{AreMade, Contains, Contains-get_or, HasNewSalts, IsBegun, IsLog, List, [], ap, arith, frame_end-zero, get_or, get_or_default, inl, inr, length, most_frames, refl, subst, suc, sym, take, word, word_same, zero, ℕ, ⊎_elim, ◌<◌, ◌∙◌, ◌∷◌, ◌≡◌, ◌≤◌, ◌⊎◌}

pub made_here : {X : Type 0} (x : X) (xs : List X) → Contains (x ∷ xs) x
made_here x xs = (0, omega arith, refl)

pub made_before : {X : Type 0} (x y : X) (xs : List X) → Contains xs y → Contains (x ∷ xs) y
made_before x y xs has = (suc has.0, omega (arith, has.1), has.2)

pub made_cases : {X : Type 0} (x y : X) (xs : List X) → Contains (x ∷ xs) y → (x ≡ y) ⊎ Contains xs y
made_cases x y xs has = by has.0 has.1 has.2
  where
    by : (k : ℕ) → k < length (x ∷ xs) → get_or (x ∷ xs) k y ≡ y → (x ≡ y) ⊎ Contains xs y
    by zero lt is = inl is
    by (suc k) lt is = inr (k, omega arith, is)

-- logs with the same salts are the same
pub same_log : (size : ℕ) (logs : List (List ℕ)) (e f : List ℕ) → AreMade size logs → Contains logs e → Contains logs f → word e 16 ≡ word f 16 → word e 20 ≡ word f 20 → e ≡ f
same_log size logs e f are in_e in_f s1 s2 =
    let at_e : get_or logs in_e.0 [] ≡ e = get_or_default logs in_e.0 [] e in_e.1 ∙ in_e.2 in
    let at_f : get_or logs in_f.0 [] ≡ f = get_or_default logs in_f.0 [] f in_f.1 ∙ in_f.2 in
    let is : in_e.0 ≡ in_f.0 = are.new_salts in_e.0 in_f.0 in_e.1 in_f.1
    (ap (λ (x : List ℕ). word x 16) at_e ∙ s1 ∙ ap (λ (x : List ℕ). word x 16) (sym at_f))
    (ap (λ (x : List ℕ). word x 20) at_e ∙ s2 ∙ ap (λ (x : List ℕ). word x 20) (sym at_f)) in
    sym at_e ∙ ap (λ (k : ℕ). get_or logs k []) is ∙ at_f

module _ (size : ℕ) (logs : List (List ℕ)) (f : List ℕ) (n : ℕ) (log : IsLog size f n) (few : n ≤ most_frames) where
  -- one more, under salts of its own
  pub made_next : AreMade size logs → HasNewSalts logs (word f 16) (word f 20) → AreMade size (f ∷ logs)
  made_next are new = record {
    each = λ e has. ⊎_elim (λ is. let P : List ℕ → Type 0 = λ x. (k : ℕ) × IsLog size x k × (k ≤ most_frames) in subst P is (n, log, few)) (λ was. are.each e was) (made_cases f e logs has);
    new_salts = salts;
  }
    where
      salts : (i j : ℕ) → i < length (f ∷ logs) → j < length (f ∷ logs) → word (get_or (f ∷ logs) i []) 16 ≡ word (get_or (f ∷ logs) j []) 16 → word (get_or (f ∷ logs) i []) 20 ≡ word (get_or (f ∷ logs) j []) 20 → i ≡ j
      salts zero zero a b s1 s2 = refl
      salts zero (suc j) a b s1 s2 = absurd (new (get_or logs j []) (Contains-get_or logs j [] (omega arith)) (sym s1) (sym s2))
      salts (suc i) zero a b s1 s2 = absurd (new (get_or logs i []) (Contains-get_or logs i [] (omega arith)) s1 s2)
      salts (suc i) (suc j) a b s1 s2 = ap suc (are.new_salts i j (omega arith) (omega arith) s1 s2)

  -- frames behind the newest one
  pub made_more : (e : List ℕ) → AreMade size (e ∷ logs) → take 32 f ≡ take 32 e → AreMade size (f ∷ logs)
  made_more e are same = made_next old new
    where
      old : AreMade size logs
      old = record {
        each = λ g has. are.each g (made_before e g logs has);
        new_salts = λ i j a b s1 s2. let up : suc i ≡ suc j = are.new_salts (suc i) (suc j) (omega arith) (omega arith) s1 s2 in omega arith;
      }

      new : HasNewSalts logs (word f 16) (word f 20)
      new g has s1 s2 =
          let at : get_or logs has.0 [] ≡ g = get_or_default logs has.0 [] g has.1 ∙ has.2 in
          let none : 0 ≡ suc has.0 = are.new_salts 0 (suc has.0) (omega arith) (omega (arith, has.1))
          (sym (ap (λ (x : List ℕ). word x 16) at ∙ s1 ∙ word_same f e 32 16 same (omega arith)))
          (sym (ap (λ (x : List ℕ). word x 20) at ∙ s2 ∙ word_same f e 32 20 same (omega arith))) in
          omega arith

-- a header alone is a log of no frames
pub begun_log : (size sequence salt1 salt2 : ℕ) (f : List ℕ) → IsBegun size sequence salt1 salt2 f → IsLog size f 0
begun_log size sequence salt1 salt2 f begun = record { header = begun.header; whole = begun.alone ∙ sym (frame_end-zero size); all = λ j a b. absurd (omega arith) }

-- a log that is begun under new salts
pub made_begun : (size sequence salt1 salt2 : ℕ) (logs : List (List ℕ)) (f : List ℕ) → AreMade size logs → IsBegun size sequence salt1 salt2 f → HasNewSalts logs salt1 salt2 → AreMade size (f ∷ logs)
made_begun size sequence salt1 salt2 logs f are begun new = made_next size logs f 0 (begun_log size sequence salt1 salt2 f begun) (omega arith) are
    (λ e has s1 s2. new e has (s1 ∙ begun.salt1_is) (s2 ∙ begun.salt2_is))
