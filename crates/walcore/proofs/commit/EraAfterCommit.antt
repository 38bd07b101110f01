-- A commit: the history has one database more, and what a crash may leave shows it or one before it.
use Rattle.walcore.proofs.Below.{AreCommitted, Database, IsApplied, IsEra, IsExtended, IsHeld, IsLog, List, None, Option, Pages, Some, [], ap, apply, arith, cases_lt, cond, content_of, drop, era_more, extended_applied, extended_count, extended_front, extended_inner, frame_at, frame_at-end, get_or, get_or_append_left, get_or_at, inr, length, length-apply, length-drop, length-take-le, length_push, min, nat_lt, nat_tests, page, page-apply, refl, shown, size_of, subst, suc, supplied, supplied_found, sym, unwrap_or, ℕ, ⊎_elim, ◌*◌, ◌++◌, ◌+◌, ◌<◌, ◌∙◌, ◌∷◌, ◌≡◌, ◌≢◌, ◌≤◌}
use Rattle.walcore.proofs.log.EraOfExtendedLog.{GoesOn}

-- the numbers of the databases, with one more at frame m
pub index_with : (index : ℕ → ℕ) (n m more : ℕ) → ℕ → ℕ
index_with index n m more i = cond (nat_lt i m) (index (min i n)) more

pub index_below : (index : ℕ → ℕ) (n m more i : ℕ) → i < m → index_with index n m more i ≡ index (min i n)
unfolding index_with
index_below index n m more i lt = grind (arith, nat_tests)

pub index_at : (index : ℕ → ℕ) (n m more i : ℕ) → m ≤ i → index_with index n m more i ≡ more
unfolding index_with
index_at index n m more i le = grind (arith, nat_tests)

pub index_low : (index : ℕ → ℕ) (n m more i : ℕ) → n < m → i ≤ n → index_with index n m more i ≡ index i
index_low index n m more i lt le = index_below index n m more i (omega arith) ∙ ap index (let z : min i n ≡ i = omega arith in z)

-- the page of a frame is whole
pub content_whole : (size : ℕ) (f : List ℕ) (n i : ℕ) → IsLog size f n → 1 ≤ i → i ≤ n → length (content_of size f i) ≡ size
content_whole size f n i log a b = length-take-le size (drop (frame_at size i + 24) f) (omega (arith, length-drop (frame_at size i + 24) f, frame_at-end size i a, (log.all i a b).whole))

module _ (size : ℕ) (e : List ℕ) (n mark : ℕ) (h : List Database) (index : ℕ → ℕ) (pages : Pages) (count : ℕ) (f : List ℕ)
    (era : IsEra size e n mark h index) (more : IsExtended size e n pages count f) (are : AreCommitted size (shown h index n) pages count) where
  m : ℕ
  m = n + length pages

  new : Database
  new = apply (shown h index n) pages count

  held_old : IsHeld size (shown h index n)
  held_old = era.held (index n) (omega (arith, era.last))

  page_full : (p : ℕ) → 1 ≤ p → p ≤ count → length (page new p) ≡ size
  unfolding new
  page_full p a b = ap (λ (x : List ℕ). length x) (page-apply (shown h index n) pages count p a b) ∙ by (supplied pages p) refl
    where
      by : (x : Option (List ℕ)) → supplied pages p ≡ x → length (unwrap_or x (page (shown h index n) p)) ≡ size
      by None is = held_old.full p a (⊎_elim (λ lt. absurd (are.filled p lt b is)) (λ le. le) (cases_lt (length (shown h index n)) p))
      by (Some c) is =
          let found = supplied_found pages p c is in
          ap (λ (x : List ℕ). length x) (sym found.2 ∙ sym (more.content found.0 found.1)) ∙ content_whole size f (n + length pages) (n + suc found.0) more.log (omega arith) (omega (arith, found.1))

  held_new : IsHeld size new
  unfolding new
  held_new = record {
    some = omega (arith, length-apply (shown h index n) pages count, are.above_zero);
    full = λ p a b. page_full p a (omega (arith, length-apply (shown h index n) pages count));
    few = subst (λ (k : ℕ). k * size ≤ 1073741824) (sym (length-apply (shown h index n) pages count)) are.few;
  }

  index_new : ℕ → ℕ
  index_new = index_with index n m (length h)

  held_all : (i : ℕ) → i < length (h ++ new ∷ []) → IsHeld size (get_or (h ++ new ∷ []) i [])
  held_all i lt = ⊎_elim
      (λ low. subst (λ (d : Database). IsHeld size d) (sym (get_or_append_left h (new ∷ []) [] i low)) (era.held i low))
      (λ high. subst (λ (d : Database). IsHeld size d) (sym (get_or_at h new [] [] i (let z : length h ≡ i = omega (arith, length_push h new) in z))) held_new)
      (cases_lt i (length h))

  rises_new : (i j : ℕ) → i ≤ j → j ≤ m → index_new i ≤ index_new j
  unfolding index_new m
  rises_new i j le within = ⊎_elim
      (λ low.
      let a : index (min i n) ≤ index (min j n) = era.rises (min i n) (min j n) (omega arith) (omega arith) in
      omega (arith, index_below index n m (length h) i (omega arith), index_below index n m (length h) j low))
      (λ high. ⊎_elim
      (λ low.
      let a : index (min i n) ≤ index n = era.rises (min i n) n (omega arith) (omega arith) in
      omega (arith, index_below index n m (length h) i low, index_at index n m (length h) j high, era.last))
      (λ top. omega (arith, index_at index n m (length h) i top, index_at index n m (length h) j high))
      (cases_lt i m))
      (cases_lt j m)

  at_last : index_new m ≡ length h
  unfolding index_new
  at_last = index_at index n m (length h) m (omega arith)

  first_new : (i : ℕ) → i ≤ m → index_new i ≡ index_new m → m ≤ i
  unfolding index_new
  first_new i le is = ⊎_elim
      (λ low. absurd (omega (arith, index_below index n m (length h) i low, index_at index n m (length h) m (omega arith), era.rises (min i n) n (omega arith) (omega arith), era.last)))
      (λ top. top)
      (cases_lt i m)

  size_some : size_of size f m ≢ 0
  unfolding m
  size_some z = omega (arith, extended_count size e n pages count f era.log more are.some, are.above_zero)

  on : GoesOn size n m m f h index (h ++ new ∷ []) index_new
  unfolding m index_new
  on = record {
    at = λ i le. index_low index n m (length h) i (omega (arith, are.some)) le;
    front = λ k lt. get_or_append_left h (new ∷ []) [] k lt;
    rises = rises_new;
    last = omega (arith, at_last, length_push h new);
    held = held_all;
    marked = (omega arith, inr size_some, refl);
    first = λ i le ends is. first_new i le is;
  }

  -- what the commit shows is the last one
  new_is : shown (h ++ new ∷ []) index_new m ≡ new
  new_is = ap (λ (k : ℕ). get_or (h ++ new ∷ []) k []) at_last ∙ get_or_at h new [] [] (length h) refl

  era_by : IsEra size f m m (h ++ new ∷ []) index_new
  unfolding m new
  era_by = era_more size e n mark h index f m m (h ++ new ∷ []) index_new era (omega (arith, are.some)) more.log (extended_front size e n pages count f era.log more)
      (extended_inner size e n pages count f era.log more) size_some
      (subst (λ (d : Database). IsApplied size f n m (shown h index n) d) (sym new_is) (extended_applied size e n pages count f era.log more (shown h index n) are))
      on

  pub commit_era : IsEra size f (n + length pages) (n + length pages) (h ++ apply (shown h index n) pages count ∷ []) (index_with index n (n + length pages) (length h))
  unfolding m new index_new
  commit_era = era_by
