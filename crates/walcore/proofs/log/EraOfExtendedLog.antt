-- An era begins, and frames behind it carry it on.
use Rattle.walcore.proofs.Words.{Database, IsApplied, IsBoundary, IsCommit, IsEra, IsHeld, IsLast, IsLog, IsOver, List, [], ap, arith, cases_eq, cases_lt, commit_same, content_same, frame_end, frame_end-le, get_or, inl, inr, last_same, length, over_same, page, page_of, page_same, refl, shown, size_of, size_same, subst, sym, take, unnamed_same, ℕ, ⊎_elim, ◌+◌, ◌-◌, ◌<◌, ◌∙◌, ◌≡◌, ◌≤◌, ◌⊎◌}

-- a new log, over the last database of the history
pub era_begin : (size : ℕ) (f : List ℕ) (h : List Database) → IsLog size f 0 → 1 ≤ length h → ((i : ℕ) → i < length h → IsHeld size (get_or h i [])) → IsEra size f 0 0 h (λ i. length h - 1)
era_begin size f h log some held = record {
  log = log;
  ends = inl refl;
  last = omega arith;
  rises = λ i j a b. omega arith;
  held = held;
  sizes = λ m a b c. absurd (omega arith);
  shows = λ m a b. record { logged = λ p i x y is. absurd (omega (arith, is.first, is.within, a)); other = λ p x y un. refl };
  grows = λ k m p a b c d x y un. y;
  marked = (omega arith, inl refl, refl);
  first = λ m a b e. omega arith;
}

-- how a history goes on: up to frame n its databases have the numbers that they had
pub record GoesOn (size n m mark : ℕ) (f : List ℕ) (h : List Database) (index : ℕ → ℕ) (h_new : List Database) (index_new : ℕ → ℕ) : Type 0 where
  pub at : (i : ℕ) → i ≤ n → index_new i ≡ index i
  pub front : (k : ℕ) → k < length h → get_or h_new k [] ≡ get_or h k []
  pub rises : (i j : ℕ) → i ≤ j → j ≤ m → index_new i ≤ index_new j
  pub last : index_new m + 1 ≡ length h_new
  pub held : (i : ℕ) → i < length h_new → IsHeld size (get_or h_new i [])
  pub marked : (mark ≤ m) × IsBoundary size f mark × (index_new mark ≡ index_new m)
  pub first : (i : ℕ) → i ≤ m → IsBoundary size f i → index_new i ≡ index_new m → mark ≤ i

module _ (size : ℕ) (e : List ℕ) (n old_mark : ℕ) (h : List Database) (index : ℕ → ℕ) (f : List ℕ) (m mark : ℕ) (h_new : List Database) (index_new : ℕ → ℕ)
    (era : IsEra size e n old_mark h index) (more : n < m) (log : IsLog size f m) (same : take (frame_end size n) f ≡ take (frame_end size n) e)
    (none : (i : ℕ) → n < i → i < m → IsCommit size f i → ⊥) (commit : IsCommit size f m) (applied : IsApplied size f n m (shown h index n) (shown h_new index_new m))
    (goes_on : GoesOn size n m mark f h index h_new index_new) where
  now : (i : ℕ) → i ≤ n → shown h_new index_new i ≡ shown h index i
  now i le = ap (λ k. get_or h_new k []) (goes_on.at i le) ∙ goes_on.front (index i) (omega (arith, era.rises i n le (omega arith), era.last))

  -- a boundary is one of before or the new one
  which : (i : ℕ) → i ≤ m → IsBoundary size f i → ((i ≤ n) × IsBoundary size e i) ⊎ (i ≡ m)
  which i le is = ⊎_elim
      (λ low. let low2 : i ≤ n = omega arith in inl (low2, ⊎_elim (λ z. inl z) (λ c. ⊎_elim (λ z. inl z) (λ nz. inr (commit_same size f e (frame_end size n) i same (omega arith) (frame_end-le size i n low2) c)) (cases_eq i 0)) is))
      (λ high. ⊎_elim
      (λ lt. absurd (⊎_elim (λ z. omega arith) (λ c. none i (omega arith) lt c) is))
      (λ ge. inr (omega arith))
      (cases_lt i m))
      (cases_lt i (n + 1))

  base : shown h_new index_new 0 ≡ shown h index 0
  base = now 0 (omega arith)

  sizes_now : (i : ℕ) → 1 ≤ i → i ≤ m → IsCommit size f i → length (shown h_new index_new i) ≡ size_of size f i
  sizes_now i a b c = ⊎_elim
      (λ w.
      let c_e : IsCommit size e i = commit_same size f e (frame_end size n) i same a (frame_end-le size i n w.0) c in
      ap length (now i w.0) ∙ era.sizes i a w.0 c_e ∙ size_same size e f (frame_end size n) i (sym same) a (frame_end-le size i n w.0))
      (λ is. subst (λ (k : ℕ). length (shown h_new index_new k) ≡ size_of size f k) (sym is) applied.count)
      (which i b (inr c))

  over_now : IsOver size (page (shown h index 0)) f m (shown h_new index_new m)
  over_now =
      let over_n : IsOver size (page (shown h index 0)) e n (shown h index n) = era.shows n (omega arith) era.ends in
      record {
        logged = λ p j x y last_is. ⊎_elim
            (λ new_is. applied.put p j x y new_is last_is)
            (λ old_is.
            let kept = applied.kept p x y (λ k u v. last_is.last k (omega arith) v) in
            let last_e : IsLast size e n p j = last_same size f e (frame_end size n) n p j same (omega arith) (record { first = last_is.first; within = old_is; names = last_is.names; last = λ k u v. last_is.last k u (omega arith) }) in
            kept.1 ∙ over_n.logged p j x kept.0 last_e ∙ content_same size e f (frame_end size n) j (sym same) last_is.first (frame_end-le size j n old_is))
            (cases_lt n j);
        other = λ p x y un.
            let kept = applied.kept p x y (λ k u v. un k (omega arith) v) in
            kept.1 ∙ over_n.other p x kept.0 (unnamed_same size f e (frame_end size n) n p same (omega arith) (λ k u v. un k u (omega arith)));
      }

  shows_now : (i : ℕ) → i ≤ m → IsBoundary size f i → IsOver size (page (shown h_new index_new 0)) f i (shown h_new index_new i)
  shows_now i a b = subst (λ (d : Database). IsOver size (page d) f i (shown h_new index_new i)) (sym base) (⊎_elim
      (λ w. subst (λ (d : Database). IsOver size (page (shown h index 0)) f i d) (sym (now i w.0))
      (over_same size (page (shown h index 0)) e f (frame_end size n) i (shown h index i) (sym same) (frame_end-le size i n w.0) (era.shows i w.0 w.1)))
      (λ is. subst (λ (k : ℕ). IsOver size (page (shown h index 0)) f k (shown h_new index_new k)) (sym is) over_now)
      (which i a b))

  grows_now : (k i p : ℕ) → k ≤ i → i ≤ m → IsBoundary size f k → IsBoundary size f i → 1 ≤ p → p ≤ length (shown h_new index_new i) → ((j : ℕ) → k < j → j ≤ i → page_of size f j ≡ p → ⊥) → p ≤ length (shown h_new index_new k)
  grows_now k i p a b c d x y un = ⊎_elim
      (λ w.
      let k_le : k ≤ n = omega (arith, w.0) in
      ⊎_elim
      (λ wk. subst (λ (z : Database). p ≤ length z) (sym (now k k_le))
      (era.grows k i p a w.0 wk.1 w.1 x (subst (λ (z : Database). p ≤ length z) (now i w.0) y)
      (λ j u v z. un j u v (page_same size f e (frame_end size n) j same (omega arith) (frame_end-le size j n (omega (arith, w.0))) ∙ z))))
      (λ is. absurd (omega arith))
      (which k (omega arith) c))
      (λ is. ⊎_elim
      (λ wk.
      let y_m : p ≤ length (shown h_new index_new m) = subst (λ (j : ℕ). p ≤ length (shown h_new index_new j)) is y in
      let kept = applied.kept p x y_m (λ j u v z. un j (omega (arith, wk.0)) (omega arith) z) in
      subst (λ (z : Database). p ≤ length z) (sym (now k wk.0))
      (era.grows k n p wk.0 (omega arith) wk.1 era.ends x kept.0
      (λ j u v z. un j u (omega arith) (page_same size f e (frame_end size n) j same (omega arith) (frame_end-le size j n v) ∙ z))))
      (λ is_k. subst (λ (j : ℕ). p ≤ length (shown h_new index_new j)) (is ∙ sym is_k) y)
      (which k (omega arith) c))
      (which i b d)

  -- What frames behind an era make of it: a commit, or on a disk that tears the copy of a frame.
  pub era_more : IsEra size f m mark h_new index_new
  era_more = record {
    log = log;
    ends = inr commit;
    last = goes_on.last;
    rises = goes_on.rises;
    held = goes_on.held;
    sizes = sizes_now;
    shows = shows_now;
    grows = λ k i p a b c d x y un. grows_now k i p a b c d x y un;
    marked = goes_on.marked;
    first = goes_on.first;
  }
