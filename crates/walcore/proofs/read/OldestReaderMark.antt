-- The mark of the oldest open reader, and the place of its database.
use Rattle.walcore.proofs.Below.{AreTogether, Bool, Core, DiskState, IsBound, IsBoundary, IsCore, IsLeast, IsOldest, List, None, Option, Past, Reader, Some, [], all_newest, ap, apart_one, arith, bound_at, cases_eq, cond, false, get_or, has_mark, inl, inr, is_bound, last, length, list_all, nat_tests, reader_at, refl, same_one, subst, suc, sum_by, sum_by-cons, sym, times, true, zero, ℕ, ⊎_elim, ◌&&◌, ◌<◌, ◌==◌, ◌∙◌, ◌∷◌, ◌≡◌, ◌≢◌, ◌≤◌, ◌⊎◌}

-- ---- marks and tokens

times_some : (xs : List ℕ) (k : ℕ) → k < length xs → 1 ≤ times (get_or xs k 0) xs
times_some [] k lt = absurd (omega arith)
times_some (x ∷ xs) zero lt = omega (arith, sum_by-cons (λ y. cond (y == x) 1 0) x xs, same_one x)
times_some (x ∷ xs) (suc k) lt = let r = times_some xs k (omega arith) in omega (arith, sum_by-cons (λ y. cond (y == get_or xs k 0) 1 0) x xs, r)

some_times : (m : ℕ) (xs : List ℕ) → 1 ≤ times m xs → (k : ℕ) × (k < length xs) × (get_or xs k 0 ≡ m)
some_times m [] h = absurd (omega arith)
some_times m (x ∷ xs) h = ⊎_elim
    (λ e. (0, omega arith, e))
    (λ ne. let r = some_times m xs (omega (arith, h, sum_by-cons (λ y. cond (y == m) 1 0) x xs, apart_one x m ne)) in (suc r.0, (let l = r.1 in omega arith), r.2))
    (cases_eq x m)

has_some : (m : ℕ) (tokens : List (Option Reader)) → 1 ≤ sum_by (has_mark m) tokens → (n : ℕ) × (r : Reader) × (get_or tokens n None ≡ Some r) × (r.mark ≡ m)
has_some m [] h = absurd (omega arith)
has_some m (None ∷ ts) h = let r = has_some m ts (omega (arith, h, sum_by-cons (has_mark m) None ts)) in (suc r.0, r.1, r.2, r.3)
has_some m (Some x ∷ ts) h = ⊎_elim
    (λ e. (0, x, refl, e))
    (λ ne. let r = has_some m ts (omega (arith, h, sum_by-cons (has_mark m) (Some x) ts, apart_one x.mark m ne)) in (suc r.0, r.1, r.2, r.3))
    (cases_eq x.mark m)

some_has : (tokens : List (Option Reader)) (n : ℕ) (r : Reader) → get_or tokens n None ≡ Some r → 1 ≤ sum_by (has_mark r.mark) tokens
some_has [] n r e = absurd (cc e)
some_has (t ∷ ts) zero r e =
    let here : has_mark r.mark t ≡ cond (r.mark == r.mark) 1 0 = ap (has_mark r.mark) e in
    omega (arith, sum_by-cons (has_mark r.mark) t ts, here, same_one r.mark)
some_has (t ∷ ts) (suc n) r e = let there = some_has ts n r e in omega (arith, sum_by-cons (has_mark r.mark) t ts, there)

-- ---- readers

-- an open reader has a token
held_at : (R : ℕ → Reader → Type 0) (place : Option ℕ) (slot : Option Reader) (i : ℕ) → place ≡ Some i → AreTogether R place slot → (r : Reader) × (slot ≡ Some r) × R i r
held_at R (Some j) (Some r) i e h = (r, refl, subst (λ (k : ℕ). R k r) (let f : j ≡ i = cc in f) h)
held_at R (Some j) None i e h = absurd h
held_at R None slot i e h = absurd (cc e)

newest_only : (n : ℕ) (o : Option ℕ) → ((j : ℕ) → o ≡ Some j → j ≡ n) → is_bound n o ≡ true
newest_only n None all = refl
newest_only n (Some j) all = let e : j ≡ n = all j refl in grind (arith, nat_tests)

older : (n j : ℕ) (o : Option ℕ) → o ≡ Some j → j ≢ n → is_bound n o ≡ false
older n j o e ne = subst (λ (x : Option ℕ). is_bound n x ≡ false) (sym e) (grind (arith, nat_tests))

both_true : (a b : Bool) → a ≡ true → b ≡ true → (a && b) ≡ true
both_true a b e f = subst (λ (x : Bool). (x && b) ≡ true) (sym e) f

first_false : (a b : Bool) → a ≡ false → (a && b) ≡ false
first_false a b e = ap (λ (x : Bool). x && b) e

second_false : (a b : Bool) → b ≡ false → (a && b) ≡ false
second_false true b e = e
second_false false b e = refl

all_are : (p : Option ℕ → Bool) (xs : List (Option ℕ)) → ((n : ℕ) → p (get_or xs n None) ≡ true) → list_all p xs ≡ true
all_are p [] h = refl
all_are p (x ∷ xs) h = both_true (p x) (list_all p xs) (h 0) (all_are p xs (λ n. h (suc n)))

not_all : (p : Option ℕ → Bool) (xs : List (Option ℕ)) (n : ℕ) → p None ≡ true → p (get_or xs n None) ≡ false → list_all p xs ≡ false
not_all p [] n empty older_is = absurd (cc (empty, older_is))
not_all p (x ∷ xs) zero empty older_is = first_false (p x) (list_all p xs) older_is
not_all p (x ∷ xs) (suc n) empty older_is = second_false (p x) (list_all p xs) (not_all p xs n empty older_is)

-- ---- the least mark of a core

module _ (past : Past) (e : List ℕ) (index : ℕ → ℕ) (d c : ℕ) (core : Core) (s : DiskState) (is : IsCore past e index d c core s)
    (marks : (m : ℕ) → times m core.marks.items ≡ sum_by (has_mark m) past.tokens) (least : ℕ) (low : IsLeast core.marks.items core.mark least) where
  abbrev Bound : ℕ → Reader → Type 0
  Bound = IsBound core.page_size e index core.mark c past.state

  newest_place : index core.mark ≡ last past.state.history
  newest_place = omega (arith, is.stands.era.marked.2, is.stands.era.last)

  -- no open reader's mark is less
  pub reader_above : (number : ℕ) (r : Reader) → get_or past.tokens number None ≡ Some r → least ≤ r.mark
  reader_above number r there =
      let k = some_times r.mark core.marks.items (omega (arith, marks r.mark, some_has past.tokens number r there)) in
      omega (arith, low.each k.0 k.1, k.2)

  -- it is the newest, or that of an open reader
  of_reader : (least ≡ core.mark) ⊎ ((number : ℕ) × (r : Reader) × (i : ℕ) × (reader_at past.state number ≡ Some i) × (r.mark ≡ least) × Bound i r)
  of_reader = ⊎_elim (λ e2. inl e2)
      (λ k.
      let there : 1 ≤ times least core.marks.items = subst (λ (m : ℕ). 1 ≤ times m core.marks.items) k.2 (times_some core.marks.items k.0 k.1) in
      let r = has_some least past.tokens (omega (arith, marks least)) in
      let bound = bound_at Bound (reader_at past.state r.0) (get_or past.tokens r.0 None) r.1 r.2 (is.readers r.0) in
      inr (r.0, r.1, bound.0, bound.1, r.3, bound.2))
      low.is

  pub least_ends : IsBoundary core.page_size e least
  least_ends = ⊎_elim (λ e2. subst (λ (m : ℕ). IsBoundary core.page_size e m) (sym e2) is.stands.era.marked.1) (λ r. subst (λ (m : ℕ). IsBoundary core.page_size e m) r.4 r.5.boundary) of_reader

  pub least_begun : c ≤ least
  least_begun = ⊎_elim (λ e2. omega (arith, is.begun)) (λ r. omega (arith, r.4, r.5.begun)) of_reader

  -- its place is that of an open reader, where it isn't the newest
  place_there : (least ≡ core.mark) ⊎ ((number : ℕ) × (reader_at past.state number ≡ Some (index least)))
  place_there = ⊎_elim (λ e2. inl e2) (λ r. inr (r.0, r.3 ∙ ap Some (sym r.5.place ∙ ap index r.4))) of_reader

  -- the mark of an open reader
  reader_of : (number j : ℕ) → reader_at past.state number ≡ Some j → (r : Reader) × (least ≤ r.mark) × Bound j r
  reader_of number j e2 =
      let held = held_at Bound (reader_at past.state number) (get_or past.tokens number None) j e2 (is.readers number) in
      (held.0, reader_above number held.0 held.1, held.2)

  rises : (i j : ℕ) → i ≤ j → j ≤ core.mark → index i ≤ index j
  rises i j le to = is.stands.era.rises i j le (omega (arith, is.stands.era.marked.0))

  place_above : (number j : ℕ) → reader_at past.state number ≡ Some j → (index least ≤ j) × (j ≤ last past.state.history)
  place_above number j e2 =
      let r = reader_of number j e2 in
      (omega (arith, rises least r.0.mark r.1 r.2.within, r.2.place), omega (arith, rises r.0.mark core.mark r.2.within (omega arith), r.2.place, newest_place))

  pub oldest_place : (i : ℕ) → IsOldest past.state i → index least ≡ i
  oldest_place i oldest =
      let above : (index least ≤ i) × (i ≤ last past.state.history) = ⊎_elim
      (λ e2. (omega (arith, e2, rises least core.mark low.low (omega arith), newest_place), omega arith))
      (λ r. place_above r.0 i r.1) oldest.is in
      let below : i ≤ index least = ⊎_elim (λ e2. omega (arith, ap index e2, newest_place, above.1)) (λ r. oldest.least r.0 (index least) r.1) place_there in
      omega (arith, above.0)

  -- it is the newest exactly where all open readers read the newest database
  pub all_are_newest : least ≡ core.mark → all_newest past.state ≡ true
  all_are_newest e2 = all_are (is_bound (last past.state.history)) past.state.readers
      (λ n. newest_only (last past.state.history) (reader_at past.state n)
      (λ j there. let r = reader_of n j there in
      let at : r.0.mark ≡ core.mark = omega (arith, r.1, r.2.within) in
      sym r.2.place ∙ ap index at ∙ newest_place))

  pub some_is_older : least ≢ core.mark → all_newest past.state ≡ false
  some_is_older ne = ⊎_elim (λ e2. absurd (ne e2))
      (λ r. not_all (is_bound (last past.state.history)) past.state.readers r.0 refl
      (older (last past.state.history) (index least) (reader_at past.state r.0) r.1
      (λ same. ne (let first : core.mark ≤ least = is.stands.era.first least (omega (arith, low.low, is.stands.era.marked.0)) least_ends (same ∙ sym newest_place ∙ is.stands.era.marked.2) in omega (arith, low.low)))))
      place_there
