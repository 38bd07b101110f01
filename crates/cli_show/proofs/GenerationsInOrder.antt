-- Frame slots by the log that they are of, one after the other.
use Rattle.std.proofs.Common.{◌≡◌, ⊎_elim, inl, inr, ℕ, zero, suc, ◌+◌, ◌-◌, ◌<◌, ◌≤◌, ◌^◌, List, [], ◌∷◌, ◌++◌, true, false, refl, sym, ap, subst, ◌∙◌, add-one, arith}
use Rattle.std.specs.Prelude.{◌≢◌, ◌⊎◌, ◌↔◌, Bool, IsTrue, Option, None, Some}
use Rattle.std.proofs.lemmas.Bool.{cases_lt}
use Rattle.sqval.specs.Bytes.{word}
use Rattle.sqwal.specs.Frames.{frame_at, size_of}
use Rattle.sqwal.specs.Slots.{Follows, IsSlot}
use Rattle.sqwal.specs.declared.slots.Slot.{Slot}
use Rattle.cli_show.specs.Generations.{salts_in, AreGenerations, EndsWhole, HoldsOf, IsGeneration, IsJudgedTo}
use Rattle.cli_show.specs.declared.generations.Generation.{Generation}
use Rattle.cli_show.specs.declared.generations.Open.{Open}
use Rattle.cli_show.specs.internal.Generations.{AreReadBefore, IsOpen, with_open}

below_or_at : (i n : ℕ) → i < suc n → (i < n) ⊎ (i ≡ n)
below_or_at i n low = ⊎_elim (λ (less : i < n). inl less) (λ (not : n ≤ i). inr (omega (arith, low, not))) (cases_lt i n)

-- ---- how many

pub holds_low : (P : ℕ → Type 0) (from n count : ℕ) → HoldsOf P from n count → count ≤ n
holds_low P from zero count none = omega (arith, none)
holds_low P from (suc n) count (inl (c, before, here, is)) = omega (arith, holds_low P from n c before, is)
holds_low P from (suc n) count (inr (before, not)) = omega (arith, holds_low P from n count before)

module _ (size : ℕ) (w : List ℕ) where
  -- ---- what is judged

  none_judged : (from n : ℕ) → n ≤ suc from → ¬ IsJudgedTo size w from n
  none_judged from n le (j, first, below, ends, all) = omega (arith, first, below, le)

  pub judged_on : (from n : ℕ) → from < n → Follows size w n → (size_of size w n ≢ 0) ⊎ IsJudgedTo size w from n → IsJudgedTo size w from (suc n)
  judged_on from n low follows (inl ends) = (n, low, omega arith, ends, λ i least most. subst (λ (k : ℕ). Follows size w k) (omega arith) follows)
  judged_on from n low follows (inr (j, first, below, ends, all)) = (
    j,
    first,
    omega arith,
    ends,
    λ i least most. ⊎_elim (λ (before : i < n). all i least before) (λ (same : i ≡ n). subst (λ (k : ℕ). Follows size w k) (sym same) follows) (below_or_at i n most),
  )

  pub judged_back : (from n : ℕ) → IsJudgedTo size w from (suc n) → Follows size w n × ((size_of size w n ≢ 0) ⊎ IsJudgedTo size w from n)
  judged_back from n (j, first, below, ends, all) = (
    all n (omega arith) (omega arith),
    ⊎_elim (λ (before : j < n). inr (j, first, before, ends, λ i least most. all i least (omega arith)))
        (λ (same : j ≡ n). inl (subst (λ (k : ℕ). size_of size w k ≢ 0) same ends)) (below_or_at j n below),
  )

  -- ---- one generation

  pub begun : (n : ℕ) (slot : Slot) (o : Open) → IsSlot size w n slot → o.generation.salt1 ≡ slot.salt1 → o.generation.salt2 ≡ slot.salt2 → o.generation.from ≡ n → o.generation.to ≡ n
      → o.generation.commits ≡ 0 → o.is_judged ≡ false → IsOpen size w (suc n) o
  begun n slot o is first second from to none unjudged = record {
    is = record {
      some = omega (arith, from, to);
      same = λ i least most. subst (λ (k : ℕ). salts_in size w k ≡ (o.generation.salt1, o.generation.salt2)) (omega (arith, from, to, least, most))
          (ap (λ a. (a, word w (frame_at size n + 12))) (sym is.salt1 ∙ sym first) ∙ ap (λ b. (o.generation.salt1, b)) (sym is.salt2 ∙ sym second));
      commits =
          let one : suc o.generation.to - o.generation.from ≡ 1 = omega (arith, from, to) in
          let not : ¬ EndsWhole size w o.generation.from (o.generation.from + 0) = λ ends. none_judged o.generation.from (o.generation.from + 0) (omega arith) ends.2 in
          subst (λ (m : ℕ). HoldsOf (EndsWhole size w o.generation.from) o.generation.from m o.generation.commits) (sym one) (inr (none, not));
    };
    ends = ap suc to;
    judged = (λ yes. let bad : true ≡ false = sym yes ∙ unjudged in cc, λ judged. absurd (none_judged o.generation.from (suc n) (omega (arith, from)) judged));
  }

  salts_one : (n : ℕ) (slot : Slot) (a b : ℕ) → IsSlot size w n slot → slot.salt1 ≡ a → slot.salt2 ≡ b → salts_in size w n ≡ (a, b)
  salts_one n slot a b is first second = ap (λ x. (x, word w (frame_at size n + 12))) (sym is.salt1 ∙ first) ∙ ap (λ y. (a, y)) (sym is.salt2 ∙ second)

  module _ (n : ℕ) (slot : Slot) (o p : Open) (is : IsSlot size w n slot) (going : IsOpen size w n o) (first : slot.salt1 ≡ o.generation.salt1) (second : slot.salt2 ≡ o.generation.salt2)
      (salt1 : p.generation.salt1 ≡ o.generation.salt1) (salt2 : p.generation.salt2 ≡ o.generation.salt2) (from : p.generation.from ≡ o.generation.from) (to : p.generation.to ≡ n) where
    low : o.generation.from < n
    low = omega (arith, going.is.some, going.ends)

    same_salts : (i : ℕ) → p.generation.from ≤ i → i ≤ p.generation.to → salts_in size w i ≡ (p.generation.salt1, p.generation.salt2)
    same_salts i least most =
        let here : salts_in size w i ≡ (o.generation.salt1, o.generation.salt2) = ⊎_elim
        (λ (before : i < n). going.is.same i (omega (arith, least, from)) (omega (arith, before, going.ends)))
        (λ (last : i ≡ n). subst (λ (k : ℕ). salts_in size w k ≡ (o.generation.salt1, o.generation.salt2)) (sym last) (salts_one n slot o.generation.salt1 o.generation.salt2 is first second))
        (below_or_at i n (omega (arith, most, to))) in
        here ∙ ap (λ a. (a, o.generation.salt2)) (sym salt1) ∙ ap (λ b. (p.generation.salt1, b)) (sym salt2)

    counted : HoldsOf (EndsWhole size w o.generation.from) o.generation.from (suc (n - o.generation.from)) p.generation.commits
        → HoldsOf (EndsWhole size w p.generation.from) p.generation.from (suc p.generation.to - p.generation.from) p.generation.commits
    counted holds =
        let long : suc p.generation.to - p.generation.from ≡ suc (n - o.generation.from) = omega (arith, to, from, low) in
        subst (λ (m : ℕ). HoldsOf (EndsWhole size w p.generation.from) p.generation.from m p.generation.commits) (sym long)
        (subst (λ (k : ℕ). HoldsOf (EndsWhole size w k) k (suc (n - o.generation.from)) p.generation.commits) (sym from) holds)

    before : HoldsOf (EndsWhole size w o.generation.from) o.generation.from (n - o.generation.from) o.generation.commits
    before = subst (λ (k : ℕ). HoldsOf (EndsWhole size w o.generation.from) o.generation.from (k - o.generation.from) o.generation.commits) going.ends going.is.commits

    here : o.generation.from + (n - o.generation.from) ≡ n
    here = omega (arith, low)

    counts : ((p.generation.commits ≡ suc o.generation.commits) × EndsWhole size w o.generation.from n)
        ⊎ ((p.generation.commits ≡ o.generation.commits) × ¬ EndsWhole size w o.generation.from n)
        → HoldsOf (EndsWhole size w o.generation.from) o.generation.from (suc (n - o.generation.from)) p.generation.commits
    counts (inl (more, ends)) = inl (o.generation.commits, before, subst (λ (k : ℕ). EndsWhole size w o.generation.from k) (sym here) ends, more)
    counts (inr (same, not)) = inr (
      subst (λ (c : ℕ). HoldsOf (EndsWhole size w o.generation.from) o.generation.from (n - o.generation.from) c) (sym same) before,
      λ ends. not (subst (λ (k : ℕ). EndsWhole size w o.generation.from k) here ends),
    )

    -- with a commit that ends whole in slot n, or without
    pub grown : ((p.generation.commits ≡ suc o.generation.commits) × EndsWhole size w o.generation.from n)
        ⊎ ((p.generation.commits ≡ o.generation.commits) × ¬ EndsWhole size w o.generation.from n)
        → (IsTrue p.is_judged ↔ (Follows size w n × ((size_of size w n ≢ 0) ⊎ IsTrue o.is_judged))) → IsOpen size w (suc n) p
    grown more judged = record {
      is = record { some = omega (arith, from, to, low); same = same_salts; commits = counted (counts more) };
      ends = ap suc to;
      judged = subst (λ (k : ℕ). IsTrue p.is_judged ↔ IsJudgedTo size w k (suc n)) (sym from) (
        (λ yes. let is = judged.0 yes in judged_on o.generation.from n low is.0 (⊎_elim (λ ends. inl ends) (λ was. inr (going.judged.0 was)) is.1)),
        (λ so. let is = judged_back o.generation.from n so in judged.1 (is.0, ⊎_elim (λ ends. inl ends) (λ was. inr (going.judged.1 was)) is.1)),
      );
    }

  not_whole : (n : ℕ) (slot : Slot) (o : Open) → IsSlot size w n slot → IsOpen size w n o → ((slot.size ≢ 0) ↔ (size_of size w n ≢ 0))
      → (IsTrue false ↔ ((slot.size ≢ 0) × IsTrue slot.follows × IsTrue o.is_judged)) → EndsWhole size w o.generation.from n → ⊥
  not_whole n slot o is going sized ends (some, follows, judged) =
      let bad : false ≡ true = ends.1 (sized.1 some, is.follows.1 follows, going.judged.1 judged) in cc

  whole_or_not : (n : ℕ) (slot : Slot) (o p : Open) (whole : Bool) → IsSlot size w n slot → IsOpen size w n o
      → ((slot.size ≢ 0) ↔ (size_of size w n ≢ 0)) → (IsTrue whole ↔ ((slot.size ≢ 0) × IsTrue slot.follows × IsTrue o.is_judged))
      → (IsTrue whole → p.generation.commits ≡ suc o.generation.commits) → (whole ≡ false → p.generation.commits ≡ o.generation.commits)
      → (p.generation.commits ≡ suc o.generation.commits) × EndsWhole size w o.generation.from n
      ⊎ ((p.generation.commits ≡ o.generation.commits) × ¬ EndsWhole size w o.generation.from n)
  whole_or_not n slot o p true is going sized ends more same =
      let told = ends.0 refl in inl (more refl, (sized.0 told.0, is.follows.0 told.1, going.judged.0 told.2))
  whole_or_not n slot o p false is going sized ends more same = inr (same refl, λ so. not_whole n slot o is going sized ends so)

  -- the same of a slot that was read, by what is told of it
  pub with_slot : (n : ℕ) (slot : Slot) (o p : Open) (whole : Bool) → IsSlot size w n slot → IsOpen size w n o → n < 2 ^ 64 - 1
      → slot.salt1 ≡ o.generation.salt1 → slot.salt2 ≡ o.generation.salt2
      → p.generation.salt1 ≡ o.generation.salt1 → p.generation.salt2 ≡ o.generation.salt2 → p.generation.from ≡ o.generation.from → p.generation.to ≡ n
      → (IsTrue whole ↔ ((slot.size ≢ 0) × IsTrue slot.follows × IsTrue o.is_judged))
      → (IsTrue whole → o.generation.commits < 2 ^ 64 - 1 → p.generation.commits ≡ suc o.generation.commits)
      → (whole ≡ false → p.generation.commits ≡ o.generation.commits)
      → (IsTrue p.is_judged ↔ (IsTrue slot.follows × ((slot.size ≢ 0) ⊎ IsTrue o.is_judged)))
      → IsOpen size w (n + 1) p
  with_slot n slot o p whole is going small first second salt1 salt2 from to ends more same judged =
      let few : o.generation.commits < 2 ^ 64 - 1 =
      omega (arith, holds_low (EndsWhole size w o.generation.from) o.generation.from (suc o.generation.to - o.generation.from) o.generation.commits going.is.commits, going.ends, small) in
      let as_sized : (slot.size ≢ 0) ↔ (size_of size w n ≢ 0) = (λ some none. some (is.pages ∙ none), λ some none. some (sym is.pages ∙ none)) in
      rw add-one (grown n slot o p is going first second salt1 salt2 from to
      (whole_or_not n slot o p whole is going as_sized ends (λ yes. more yes few) same) (
        (λ yes. let told = judged.0 yes in (is.follows.0 told.0, ⊎_elim (λ some. inl (as_sized.0 some)) (λ was. inr was) told.1)),
        (λ so. judged.1 (is.follows.1 so.0, ⊎_elim (λ some. inl (as_sized.1 some)) (λ was. inr was) so.1)),
      ))

  -- ---- several

  -- one more behind them
  pub one_behind : (first mid end : ℕ) (gs : List Generation) (g : Generation) → AreGenerations size w first mid gs → g.from ≡ mid → IsGeneration size w g
      → (suc g.to ≡ end) ⊎ (salts_in size w (suc g.to) ≢ salts_in size w g.to) → suc g.to ≡ end
      → (gs ≡ []) ⊎ (salts_in size w mid ≢ salts_in size w (mid - 1)) → AreGenerations size w first end (gs ++ g ∷ [])
  one_behind first mid end [] g are from is last ends apart = (from ∙ sym are, is, last, ends)
  one_behind first mid end (h ∷ gs) g are from is last ends apart =
      let differs : salts_in size w mid ≢ salts_in size w (mid - 1) = ⊎_elim (λ e. absurd (let bad = ap (λ (l : List Generation). Rattle.std.proofs.Common.length l) e in omega (arith, bad))) (λ d. d) apart in (
        are.0,
        are.1,
        ⊎_elim
            (λ (here : suc h.to ≡ mid). inr (λ same. differs (ap (salts_in size w) (sym here) ∙ same ∙ ap (salts_in size w) (let e : h.to ≡ mid - 1 = omega (arith, here) in e))))
            (λ d. inr d) are.2,
        one_behind (suc h.to) mid end gs g are.3 from is last ends (inr differs),
      )

  pub all_read : (first n : ℕ) (closed : List Generation) (o : Option Open) → AreReadBefore size w first n closed o → AreGenerations size w first n (with_open closed o)
  all_read first n closed None read = subst (λ (l : List Generation). AreGenerations size w first n l) (sym read.1) read.0
  all_read first n closed (Some o) read = one_behind first o.generation.from n closed o.generation read.1 refl read.0.is (inl read.0.ends) read.0.ends read.2

  -- a slot with other salts begins another one
  pub another : (first n : ℕ) (slot : Slot) (closed : List Generation) (o p : Open) → IsSlot size w n slot → AreReadBefore size w first n closed (Some o)
      → ¬ ((slot.salt1 ≡ o.generation.salt1) × (slot.salt2 ≡ o.generation.salt2)) → p.generation.from ≡ n → IsOpen size w (suc n) p
      → AreReadBefore size w first (suc n) (closed ++ o.generation ∷ []) (Some p)
  another first n slot closed o p is read other from going =
      let last : salts_in size w (n - 1) ≡ (o.generation.salt1, o.generation.salt2) = subst (λ (k : ℕ). salts_in size w k ≡ (o.generation.salt1, o.generation.salt2)) (let e : o.generation.to ≡ n - 1 = omega (arith, read.0.ends) in e)
      (read.0.is.same o.generation.to read.0.is.some (omega arith)) in (
        going,
        subst (λ (k : ℕ). AreGenerations size w first k (closed ++ o.generation ∷ [])) (sym from) (all_read first n closed (Some o) read),
        inr (λ same. other (
          is.salt1 ∙ ap (λ (x : ℕ × ℕ). x.0) (subst (λ (k : ℕ). salts_in size w k ≡ salts_in size w (k - 1)) from same ∙ last),
          is.salt2 ∙ ap (λ (x : ℕ × ℕ). x.1) (subst (λ (k : ℕ). salts_in size w k ≡ salts_in size w (k - 1)) from same ∙ last),
        )),
      )

  -- the first slot that was read
  pub first_read : (first n : ℕ) (closed : List Generation) (o : Option Open) (p : Open) → ((q : Open) → o ≡ Some q → ⊥) → AreReadBefore size w first n closed o
      → p.generation.from ≡ n → IsOpen size w (n + 1) p → AreReadBefore size w first (n + 1) closed (Some p)
  first_read first n closed None p none read from going = (
    going,
    subst (λ (l : List Generation). AreGenerations size w first p.generation.from l) (sym read.1) (read.0 ∙ sym from),
    inl read.1,
  )
  first_read first n closed (Some q) p none read from going = absurd (none q refl)

  -- one more with the same salts
  pub more_read : (first n : ℕ) (closed : List Generation) (o : Option Open) (p q : Open) → o ≡ Some p → AreReadBefore size w first n closed o
      → (IsOpen size w n p → IsOpen size w (n + 1) q) → q.generation.from ≡ p.generation.from → AreReadBefore size w first (n + 1) closed (Some q)
  more_read first n closed o p q is read grow from =
      let r = subst (λ (x : Option Open). AreReadBefore size w first n closed x) is read in (
        grow r.0,
        subst (λ (k : ℕ). AreGenerations size w first k closed) (sym from) r.1,
        subst (λ (k : ℕ). (closed ≡ []) ⊎ (salts_in size w k ≢ salts_in size w (k - 1))) (sym from) r.2,
      )

  -- one with others
  pub another_read : (first n : ℕ) (slot : Slot) (closed : List Generation) (o : Option Open) (p q : Open) → o ≡ Some p → IsSlot size w n slot
      → AreReadBefore size w first n closed o → ¬ ((slot.salt1 ≡ p.generation.salt1) × (slot.salt2 ≡ p.generation.salt2))
      → q.generation.from ≡ n → IsOpen size w (n + 1) q → AreReadBefore size w first (n + 1) (closed ++ p.generation ∷ []) (Some q)
  another_read first n slot closed o p q same is read other from going =
      let r = subst (λ (x : Option Open). AreReadBefore size w first n closed x) same read in
      rw add-one (another first n slot closed p q is r other from (rw add-one at going))
