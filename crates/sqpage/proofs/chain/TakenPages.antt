-- Pages that are taken, with their marks.
use Rattle.std.proofs.Common.{◌≡◌, ◌≢◌, ℕ, zero, suc, ◌-◌, ◌<◌, ◌≤◌, List, [], ◌∷◌, ◌++◌, length, get_or, set, Bool, true, false, not, cond, count_by, replicate, refl, sym, ap, subst, ◌∙◌, inl, inr, arith, append_assoc, append-nil, length-set, get_or-set_other, get_or-set_same}
use Rattle.std.proofs.lemmas.Bool.{cases_eq}
use Rattle.std.proofs.lemmas.List.Sums.{sum_by-set}
use Rattle.sqpage.specs.Lists.{In, Every}
use Rattle.sqpage.specs.internal.Taking.{is_marked, Marks, AreTaken, TakesAll}
use Rattle.sqpage.specs.Freelist.{IsWithin}
use Rattle.sqpage.proofs.chain.ListsByRecursion.{in_left, in_right, in_cases, every_in, every_append, apart_snoc}

-- Nothing is taken at the start.
pub none_taken : (n : ℕ) (marks : List Bool) → marks ≡ replicate n false → AreTaken marks []
none_taken n marks e = record {
  only = λ p w m. absurd (unmarked n (p - 1) (sym (ap (λ l. get_or l (p - 1) false) e) ∙ m));
  all = λ p i. absurd i;
  within = tt;
  distinct = tt;
}
  where
    unmarked : (n i : ℕ) → get_or (replicate n false) i false ≡ true → ⊥
    unmarked zero i h = cc
    unmarked (suc n) zero h = cc
    unmarked (suc n) (suc i) h = unmarked n i h

length_marks : (old new : List Bool) (p : ℕ) → Marks old new p → length new ≡ length old
length_marks old new p m = ap length m.now_marked ∙ length-set old (p - 1) true

-- A page that was taken was not there before.
pub fresh_taken : (old new : List Bool) (ps : List ℕ) (p : ℕ) → AreTaken old ps → Marks old new p → ¬ In p ps
fresh_taken old new ps p a m = λ i. let e = a.all p i in let w = m.was in cc

pub takes : (old new : List Bool) (ps : List ℕ) (p : ℕ) → AreTaken old ps → Marks old new p → AreTaken new (ps ++ p ∷ [])
takes old new ps p a m =
    let len = length_marks old new p m in record {
      only = λ q w is. elim (cases_eq q p) [
        | inl e ↦ in_right q ps (p ∷ []) (inl e)
        | inr ne ↦ in_left q ps (p ∷ []) (a.only q (w.0, subst (λ n. q ≤ n) len w.1) (other q (w.0) ne ∙ is))
      ];
      all = λ q i. elim (in_cases q ps (p ∷ []) i) [
        | inl old_one ↦ elim (cases_eq q p) [
          | inl e ↦ ap (is_marked new) e ∙ here
          | inr ne ↦ sym (other q (every_in (IsWithin (length old)) q ps a.within old_one).0 ne) ∙ a.all q old_one
        ]
        | inr new_one ↦ elim new_one [ inl e ↦ ap (is_marked new) e ∙ here | inr no_one ↦ absurd no_one ]
      ];
      within = subst (λ n. Every (IsWithin n) (ps ++ p ∷ [])) (sym len) (every_append (IsWithin (length old)) ps (p ∷ []) a.within ((m.above, m.within), tt));
      distinct = apart_snoc ps p a.distinct (fresh_taken old new ps p a m);
    }
  where
    here : is_marked new p ≡ true
    here =
        let above : 0 < p = m.above in
        let within : p ≤ length old = m.within in
        let lt : p - 1 < length old = omega arith in
        ap (λ l. get_or l (p - 1) false) m.now_marked ∙ get_or-set_same old (p - 1) true false lt

    other : (q : ℕ) → 0 < q → q ≢ p → is_marked old q ≡ is_marked new q
    other q pos ne =
        let above : 0 < p = m.above in
        let ne' : q - 1 ≢ p - 1 = omega arith in
        sym (ap (λ l. get_or l (q - 1) false) m.now_marked ∙ get_or-set_other old (p - 1) (q - 1) true false ne')

pub fewer_unmarked : (old new : List Bool) (p : ℕ) → Marks old new p → count_by not new < count_by not old
fewer_unmarked old new p m =
    let above : 0 < p = m.above in
    let within : p ≤ length old = m.within in
    let lt : p - 1 < length old = omega arith in
    let was : ◌≡◌ {A = ℕ} (cond (not (get_or old (p - 1) false)) 1 0) 1 = ap (λ b. cond (not b) 1 0) m.was in
    let e : count_by not new ≡ count_by not (set old (p - 1) true) = ap (count_by not) m.now_marked in
    omega (arith, was, e, sum_by-set (λ b. cond (not b) 1 0) old (p - 1) true false lt)

pub takes_one : (old new : List Bool) (ps qs : List ℕ) (p : ℕ) → AreTaken old ps → Marks old new p → qs ≡ ps ++ p ∷ [] → TakesAll old ps new qs (p ∷ [])
takes_one old new ps qs p a m e =
    let lt = fewer_unmarked old new p m in record {
      added = e;
      taken = subst (AreTaken new) (sym e) (takes old new ps p a m);
      same_count = length_marks old new p m;
      fewer_left = omega (arith, lt);
    }

pub takes_none : (old : List Bool) (ps : List ℕ) → AreTaken old ps → TakesAll old ps old ps []
takes_none old ps a = record { added = sym (append-nil ps); taken = a; same_count = refl; fewer_left = omega arith }

-- Some pages, and then more of them.
pub takes_more : (old new last : List Bool) (ps qs rs xs ys : List ℕ) → TakesAll old ps new qs xs → TakesAll new qs last rs ys → TakesAll old ps last rs (xs ++ ys)
takes_more old new last ps qs rs xs ys a b = record {
  added = b.added ∙ ap (λ l. l ++ ys) a.added ∙ append_assoc ps xs ys;
  taken = b.taken;
  same_count = b.same_count ∙ a.same_count;
  fewer_left = omega (arith, a.fewer_left, b.fewer_left);
}

pub none_taken_yet : (n : ℕ) (marks : List Bool) (ps : List ℕ) → marks ≡ replicate n false → ps ≡ [] → AreTaken marks ps
none_taken_yet n marks ps e none = subst (AreTaken marks) (sym none) (none_taken n marks e)

pub length_unmarked : (n : ℕ) (marks : List Bool) → marks ≡ replicate n false → length marks ≡ n
length_unmarked n marks e = ap length e ∙ go n
  where
    go : (n : ℕ) → length (replicate n false) ≡ n
    go zero = refl
    go (suc n) = ap suc (go n)
