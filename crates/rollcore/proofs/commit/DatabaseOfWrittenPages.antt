-- The new database, once all its pages are in the file.
use Rattle.rollcore.proofs.Words.{AreChanged, AreChanges, AreFresh, AreOf, ArePages, ArePut, AreTurned, Becomes, Change, Contains, Contains-append_left, Contains-append_right, Cuts, Database, Db, DiskState, IsFaultless, IsHeld, IsJust, IsSettled, IsSoundDisk, Journaled, List, None, Ok, Option, Pages, Some, Syncs, [], above_supplied, ap, apply, arith, byte, cases_lt, change_at, cut_below, drop, get_or, get_or-drop, get_or-map, get_or-take, inl, inr, length, length-apply, length-drop, length-map, length-take, most_bytes, mul-le-mul_right, nat_tests, new_numbers, number_at, page, page-apply, page_at, page_by_bytes, page_within, pages_of, present_byte, present_cut, present_list, present_steady, refl, settled_sync, subst, suc, supplied, supplied_here, sym, table, take, unwrap_or, zero, ℕ, ⊎_elim, ◌*◌, ◌++◌, ◌+◌, ◌-◌, ◌<◌, ◌∙◌, ◌∷◌, ◌≡◌, ◌≤◌, ◌⊎◌}
use Rattle.sqval.proofs.database.CommittedDatabase.{content_at}

-- ---- The file has all pages.

module _ (size sector : ℕ) (d e : Database) (named : List ℕ) (place : ℕ) (w numbers : List ℕ) where
  -- its length is set
  pub pages_after : {T : Type 0} {u : T} (old new : DiskState) → Journaled size sector d named place w old → ArePut size e numbers old.db
      → ((p : ℕ) → 1 ≤ p → p ≤ length e → Contains numbers p ⊎ ((p ≤ length d) × (Contains named p → ⊥) × (page e p ≡ page d p)))
      → Cuts Db (length e * size) (Ok u) old new → ArePages size e new.db
  pages_after old new is put all cut = record {
    len = cut.file.1.len;
    each = λ p a b j lt. present_cut Db (length e * size) old new cut (page_at size p + j) ∙ cut_below old.db (length e * size) (page_at size p + j) (page_within size p (length e) j a b lt)
        ∙ ⊎_elim
        (λ here. put p here b j lt)
        (λ other. present_steady Db old (page_at size p + j) (get_or (page d p) j 0) is.at.suits.sound.db (is.at.others.each p j a other.0 other.1 lt) ∙ ap (λ (l : List ℕ). get_or l j 0) (sym other.2))
        (all p a b);
  }

-- and it is durable
pub just_after : {T : Type 0} {u : T} (size : ℕ) (e : Database) (s t : DiskState) → ArePages size e s.db → IsHeld size e → Syncs Db (Ok u) s t → IsSoundDisk s → (bytes : List ℕ) × IsSettled t.db bytes × IsJust size e bytes
just_after size e s t pages held synced sound =
    let are = present_list s.db in (
      table s.db.len (byte s.db),
      settled_sync Db s t (table s.db.len (byte s.db)) sound.db synced are,
      record {
        long = are.len ∙ pages.len;
        each = λ p a b. page_by_bytes size (table s.db.len (byte s.db)) p (page e p) (held.full p a b) (λ i lt. present_byte s.db (table s.db.len (byte s.db)) are (page_at size p + i) ∙ pages.each p a b i lt);
      },
    )

-- ---- The pages of a commit.

new_one : (old_size : ℕ) (x : ℕ × List ℕ) (pages : Pages) → old_size < x.0 → new_numbers old_size (x ∷ pages) ≡ x.0 ∷ new_numbers old_size pages
new_one old_size x pages lt = grind (arith, nat_tests)

old_one : (old_size : ℕ) (x : ℕ × List ℕ) (pages : Pages) → x.0 ≤ old_size → new_numbers old_size (x ∷ pages) ≡ new_numbers old_size pages
old_one old_size x pages le = grind (arith, nat_tests)

contains_next : (x : ℕ) (xs : List ℕ) (p : ℕ) → Contains xs p → Contains (x ∷ xs) p
contains_next x xs p has = (suc has.0, omega (arith, has.1), has.2)

-- each page above the old size is among the new ones
new_has : (old_size : ℕ) (pages : Pages) (k : ℕ) → k < length pages → old_size < number_at pages k → Contains (new_numbers old_size pages) (number_at pages k)
new_has old_size [] k lt above = absurd (omega arith)
new_has old_size (x ∷ pages) zero lt above = subst (λ (l : List ℕ). Contains l x.0) (sym (new_one old_size x pages above)) (0, omega arith, refl)
new_has old_size (x ∷ pages) (suc k) lt above =
    let rest = new_has old_size pages k (omega arith) above in
    ⊎_elim
    (λ new. subst (λ (l : List ℕ). Contains l (number_at pages k)) (sym (new_one old_size x pages new)) (contains_next x.0 (new_numbers old_size pages) (number_at pages k) rest))
    (λ old. subst (λ (l : List ℕ). Contains l (number_at pages k)) (sym (old_one old_size x pages old)) rest)
    (cases_lt old_size x.0)

-- changes from one place up to another
pub slice_at : (changes : List Change) (from n i : ℕ) → i < n → change_at (take n (drop from changes)) i ≡ change_at changes (from + i)
slice_at changes from n i lt = get_or-take n (drop from changes) i (record { page = 0; content = None }) lt ∙ get_or-drop from changes i (record { page = 0; content = None })

pub slice_within : (changes : List Change) (from n i : ℕ) → i < length (take n (drop from changes)) → (i < n) × (from + i < length changes)
slice_within changes from n i lt =
    let t = length-take n (drop from changes) in
    let s = length-drop from changes in (omega arith, omega arith)

page_of_change : (changes : List Change) (i d : ℕ) → i < length changes → get_or (pages_of changes) i d ≡ (change_at changes i).page
page_of_change changes i d lt = get_or-map (λ (c : Change). c.page) changes i (record { page = 0; content = None }) d lt

has_page : (changes : List Change) (p i : ℕ) → i < length changes → (change_at changes i).page ≡ p → Contains (pages_of changes) p
has_page changes p i lt e = (i, omega (arith, length-map changes (λ (c : Change). c.page)), page_of_change changes i p lt ∙ e)

module _ (size : ℕ) (d : Database) (pages : Pages) (n : ℕ) (right : IsFaultless (length d) size pages n) (changes : List Change) (are : AreChanges pages (length d) n changes) where
  fits : (p : ℕ) → p ≤ n → p * size ≤ most_bytes
  fits p le = let m : p * size ≤ n * size = mul-le-mul_right size le in omega (arith, m, right.bytes)

  -- what is supplied is what the new database has
  content_is : (k : ℕ) → k < length pages → content_at pages k ≡ page (apply d pages n) (number_at pages k)
  content_is k lt = sym (page-apply d pages n (number_at pages k) (right.above_zero k lt) (right.within k lt)
      ∙ ap (λ (o : Option (List ℕ)). unwrap_or o (page d (number_at pages k))) (supplied_here (length d) size pages n right k lt))

  pub of_by : AreOf size (apply d pages n) pages
  of_by k lt = (content_is k lt, right.full k lt, fits (number_at pages k) (right.within k lt))

  becomes_by : (i : ℕ) → i < length changes → (o : Option ℕ) → (change_at changes i).content ≡ o → Becomes size (apply d pages n) pages (change_at changes i).page o
  becomes_by i lt None e = omega (arith, are.cut i lt e, length-apply d pages n)
  becomes_by i lt (Some k) e =
      let c = are.content i k lt e in
      (c.0, content_is k c.0 ∙ ap (λ (p : ℕ). page (apply d pages n) p) c.1, right.full k c.0, fits (change_at changes i).page c.2)

  -- each of these changes is one of all
  pub turned_by : (named : List ℕ) (some : List Change) → ((j : ℕ) → j < length some → (i : ℕ) × (i < length changes) × (change_at some j ≡ change_at changes i) × Contains named (change_at changes i).page)
      → AreTurned size (apply d pages n) named pages some
  turned_by named some each j lt =
      let at = each j lt in
      let P : Change → Type 0 = λ c. (1 ≤ c.page) × Contains named c.page × Becomes size (apply d pages n) pages c.page c.content in
      subst P (sym at.2) ((are.within at.0 at.1).0, at.3, becomes_by at.0 at.1 (change_at changes at.0).content refl)

  pub turned_slice : (from m : ℕ) (named : List ℕ) → ((i : ℕ) → from ≤ i → i < from + m → i < length changes → Contains named (change_at changes i).page)
      → AreTurned size (apply d pages n) named pages (take m (drop from changes))
  turned_slice from m named has = turned_by named (take m (drop from changes)) (λ j lt.
      let in_range = slice_within changes from m j lt in
      (from + j, in_range.1, slice_at changes from m j in_range.0, has (from + j) (omega arith) (omega (arith, in_range.0)) in_range.1))

  pub cut_by : (p : ℕ) → n < p → p ≤ length d → Contains (pages_of changes) p
  cut_by p above le = let at = are.all p (omega arith) le (inr above) in has_page changes p at.0 at.1 at.2

  -- a page that no content is supplied for isn't changed, unless it is cut off
  unchanged : (p : ℕ) → p ≤ n → supplied pages p ≡ None → Contains (pages_of changes) p → ⊥
  unchanged p le none_given has =
      let within : has.0 < length changes = omega (arith, has.1, length-map changes (λ (c : Change). c.page)) in
      let is : (change_at changes has.0).page ≡ p = sym (page_of_change changes has.0 p within) ∙ has.2 in
      by within is (change_at changes has.0).content refl
    where
      by : has.0 < length changes → (change_at changes has.0).page ≡ p → (o : Option ℕ) → (change_at changes has.0).content ≡ o → ⊥
      by within is None e = omega (arith, are.cut has.0 within e, is)
      by within is (Some k) e =
          let c = are.content has.0 k within e in
          let given : supplied pages p ≡ Some (content_at pages k) = ap (λ (q : ℕ). supplied pages q) (sym (c.1 ∙ is)) ∙ supplied_here (length d) size pages n right k c.0 in
          let bad : None ≡ Some (content_at pages k) = sym none_given ∙ given in cc

  -- the numbers of the changes
  pub are_changed : AreChanged pages (length d) n (pages_of changes)
  are_changed = record {
    rising = λ i j lt there.
        let at_i = page_of_change changes i 0 (omega (arith, lt, there, many)) in
        let at_j = page_of_change changes j 0 (omega (arith, there, many)) in
        omega (arith, at_i, at_j, are.rising i j lt (omega (arith, there, many)));
    each = λ p has.
        let within : has.0 < length changes = omega (arith, has.1, many) in
        let is : (change_at changes has.0).page ≡ p = sym (page_of_change changes has.0 p within) ∙ has.2 in
        let range = are.within has.0 within in
        (omega (arith, range.0, is), omega (arith, range.1, is), ⊎_elim (λ cut. inr cut) (λ le. inl (λ none. unchanged p le none has)) (cases_lt n p));
    all = λ p some le given. let at = are.all p some le given in has_page changes p at.0 at.1 at.2;
    count = many ∙ are.count;
  }
    where
      many : length (pages_of changes) ≡ length changes
      many = length-map changes (λ (c : Change). c.page)

  -- each page of the new database is written, or is as it was
  pub each_page : (p : ℕ) → 1 ≤ p → p ≤ length (apply d pages n)
      → Contains (pages_of changes ++ new_numbers (length d) pages) p ⊎ ((p ≤ length d) × (Contains (pages_of changes) p → ⊥) × (page (apply d pages n) p ≡ page d p))
  each_page p a b = ⊎_elim
      (λ above.
      let at = above_supplied (length d) size pages n right p above (omega (arith, length-apply d pages n)) in
      inl (Contains-append_right (pages_of changes) (new_numbers (length d) pages) p
      (subst (λ (q : ℕ). Contains (new_numbers (length d) pages) q) at.2 (new_has (length d) pages at.0 at.1 (omega (arith, at.2))))))
      (λ le. by le (supplied pages p) refl)
      (cases_lt (length d) p)
    where
      by : p ≤ length d → (o : Option (List ℕ)) → supplied pages p ≡ o → Contains (pages_of changes ++ new_numbers (length d) pages) p ⊎ ((p ≤ length d) × (Contains (pages_of changes) p → ⊥) × (page (apply d pages n) p ≡ page d p))
      by le None e = inr (
        le,
        unchanged p (omega (arith, length-apply d pages n)) e,
        page-apply d pages n p a (omega (arith, length-apply d pages n)) ∙ ap (λ (o : Option (List ℕ)). unwrap_or o (page d p)) e,
      )
      by le (Some c) e =
          let at = are.all p a le (inl (λ no. let bad : None ≡ Some c = sym no ∙ e in cc)) in
          inl (Contains-append_left (pages_of changes) (new_numbers (length d) pages) p (has_page changes p at.0 at.1 at.2))

  -- no page is there twice
  pub fresh_by : (from m : ℕ) → AreFresh d (take from (pages_of changes)) (pages_of (take m (drop from changes)))
  fresh_by from m i lt =
      let within : i < length (take m (drop from changes)) = omega (arith, length-map (take m (drop from changes)) (λ (c : Change). c.page)) in
      let in_range = slice_within changes from m i within in
      let is : get_or (pages_of (take m (drop from changes))) i 0 ≡ (change_at changes (from + i)).page =
      page_of_change (take m (drop from changes)) i 0 within ∙ ap (λ (c : Change). c.page) (slice_at changes from m i in_range.0) in
      let w = are.within (from + i) in_range.1 in (
        omega (arith, is, w.0),
        omega (arith, is, w.1),
        λ has.
            let k : ℕ = has.0 in
            let below : k < from = omega (arith, has.1, length-take from (pages_of changes)) in
            let there : k < length changes = omega (arith, in_range.1) in
            let x : ℕ = get_or (pages_of (take m (drop from changes))) i 0 in
            let at : (change_at changes k).page ≡ x = sym (page_of_change changes k x there) ∙ sym (get_or-take from (pages_of changes) k x below) ∙ has.2 in
            omega (arith, are.rising k (from + i) (omega arith) in_range.1, at, is),
      )

  rises : (i : ℕ) → i < length changes → i + 1 ≤ (change_at changes i).page
  rises zero lt = omega (arith, (are.within 0 lt).0)
  rises (suc i) lt = omega (arith, rises i (omega arith), are.rising i (suc i) (omega arith) lt)

  pub changes_few : length changes ≤ length d
  changes_few = ⊎_elim
      (λ some. let last : length changes - 1 < length changes = omega arith in omega (arith, rises (length changes - 1) last, (are.within (length changes - 1) last).1))
      (λ none_there. omega arith)
      (cases_lt 0 (length changes))
