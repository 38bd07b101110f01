-- The records of a journal: which is the last that names a page, and the database that they restore.
use Rattle.rollcore.proofs.Words.{AreRecords, AreSegments, Bool, Database, HasCount, HasEntry, IsHot, IsJournal, IsRolledBack, List, None, Option, Pages, Record, Segment, Sizes, Some, Why, [], all_records, ap, arith, cases_lt, cond, content_at, contents, drop, entries, entry_of, ext_get_or, false, file_page, flat_map, get_or, get_or-drop, get_or-map-range_with_len, get_or-take, get_or_from_slice_get, inl, inr, last_content, length, length-drop, length-file_page, length-map-range_with_len, length-take-le, map, map-append, nat_tests, next_header, one_journal, page, part, placed, range_with_len, record_len, records_end, refl, reverse, reverse-append, sizes_of, slice_get, slice_get-get_or, slice_get_within, subst, suc, supplied, sym, take, take-add, take-append-drop, true, unwrap_or, word, zero, ℕ, ⊎_elim, ◌*◌, ◌++◌, ◌+◌, ◌-◌, ◌<◌, ◌==◌, ◌∙◌, ◌∷◌, ◌≡◌, ◌≢◌, ◌≤◌, ◌⊎◌}

-- ---- Lists.

take_more : {A : Type 0} (xs : List A) (k : ℕ) (d : A) → k < length xs → take (k + 1) xs ≡ take k xs ++ get_or xs k d ∷ []
take_more {A = A} xs k d lt =
    take-add k 1 xs ∙ ap (λ l. take k xs ++ l) (one (drop k xs) (omega (arith, length-drop k xs)) ∙ ap (λ x. x ∷ []) (get_or-drop k xs 0 d ∙ ap (λ n. get_or xs n d) (zero_after k)))
  where
    zero_after : (n : ℕ) → n + 0 ≡ n
    zero_after n = omega arith

    one : (ys : List A) → 0 < length ys → take 1 ys ≡ get_or ys 0 d ∷ []
    one [] some = absurd (omega arith)
    one (y ∷ ys) some = refl

-- ---- The last record that names a page.

none_by : (b : Bool) (x : List ℕ) (o : Option (List ℕ)) → cond b (Some x) o ≡ None → o ≡ None
none_by true x o e = absurd (let f : Some x ≡ None = e in cc)
none_by false x o e = e

supplied_none : (xs ys : Pages) (p : ℕ) → supplied (xs ++ ys) p ≡ None → supplied ys p ≡ None
supplied_none [] ys p none = none
supplied_none (x ∷ xs) ys p none = supplied_none xs ys p (none_by (x.0 == p) x.1 (supplied (xs ++ ys) p) none)

pub last_more : (xs : Pages) (x : ℕ × List ℕ) (p : ℕ) → last_content (xs ++ x ∷ []) p ≡ cond (x.0 == p) (Some x.1) (last_content xs p)
last_more xs x p = ap (λ (l : Pages). supplied l p) (reverse-append xs (x ∷ []))

last_front : (xs ys : Pages) (p : ℕ) → last_content (xs ++ ys) p ≡ None → last_content xs p ≡ None
last_front xs ys p none = supplied_none (reverse ys) (reverse xs) p (sym (ap (λ (l : Pages). supplied l p) (reverse-append xs ys)) ∙ none)

pub last_here : (xs : Pages) (x : ℕ × List ℕ) (p : ℕ) → x.0 ≡ p → last_content (xs ++ x ∷ []) p ≡ Some x.1
last_here xs x p e = last_more xs x p ∙ grind (arith, nat_tests, e)

pub last_other : (xs : Pages) (x : ℕ × List ℕ) (p : ℕ) → x.0 ≢ p → last_content (xs ++ x ∷ []) p ≡ last_content xs p
last_other xs x p ne = last_more xs x p ∙ grind (arith, nat_tests, ne)

-- ---- Of the entries of a journal.

abbrev pub records_of : List ℕ → List Record → Pages
records_of w es = map (content_at (sizes_of w) w) es

-- after so many entries
pub records_more : (w : List ℕ) (es : List Record) (k : ℕ) (r : Record) → slice_get es k ≡ Some r → records_of w (take (k + 1) es) ≡ records_of w (take k es) ++ content_at (sizes_of w) w r ∷ []
records_more w es k r is =
    ap (λ (l : List Record). records_of w l) (take_more es k r (slice_get_within es k r is) ∙ ap (λ (x : Record). take k es ++ x ∷ []) (get_or_from_slice_get es k r r is))
    ∙ map-append (content_at (sizes_of w) w) (take k es) (r ∷ [])

-- an entry names its page
pub entry_named : (w : List ℕ) (es : List Record) (k : ℕ) (r : Record) → slice_get es k ≡ Some r → last_content (records_of w es) r.page ≡ None → ⊥
entry_named w es k r is none =
    let split : records_of w es ≡ records_of w (take (k + 1) es) ++ records_of w (drop (k + 1) es) =
    sym (ap (λ (l : List Record). records_of w l) (take-append-drop (k + 1) es)) ∙ map-append (content_at (sizes_of w) w) (take (k + 1) es) (drop (k + 1) es) in
    let front : last_content (records_of w (take (k + 1) es)) r.page ≡ None =
    last_front (records_of w (take (k + 1) es)) (records_of w (drop (k + 1) es)) r.page (sym (ap (λ (l : Pages). last_content l r.page) split) ∙ none) in
    let here : last_content (records_of w (take (k + 1) es)) r.page ≡ Some (part w r.at (word w 24)) =
    ap (λ (l : Pages). last_content l r.page) (records_more w es k r is) ∙ last_here (records_of w (take k es)) (content_at (sizes_of w) w r) r.page refl in
    cc

-- each entry's page lies in the journal
Within : (page : ℕ) (w : List ℕ) → List Record → Type 0
Within page w es = (k : ℕ) (d : Record) → k < length es → (get_or es k d).at + page ≤ length w

within_none : (page : ℕ) (w : List ℕ) → Within page w []
unfolding Within
within_none page w k d lt = absurd (omega arith)

within_more : (page : ℕ) (w : List ℕ) (e : Record) (es : List Record) → e.at + page ≤ length w → Within page w es → Within page w (e ∷ es)
unfolding Within
within_more page w e es here rest zero d lt = here
within_more page w e es here rest (suc k) d lt = rest k d (omega arith)

within_both : (page : ℕ) (w : List ℕ) (xs ys : List Record) → Within page w xs → Within page w ys → Within page w (xs ++ ys)
unfolding Within
within_both page w [] ys a b = b
within_both page w (x ∷ xs) ys a b = within_more page w x (xs ++ ys) (a 0 x (omega arith)) (within_both page w xs ys (λ k d lt. a (suc k) d (omega arith)) b)

within_records : (z : Sizes) (w : List ℕ) (nonce at : ℕ) (rs : Pages) → AreRecords z w nonce at rs → Within z.page w (placed z at rs)
within_records z w nonce at [] are = within_none z.page w
within_records z w nonce at (r ∷ rs) are = within_more z.page w (record { page = r.0; at = at + 4 }) (placed z (at + record_len z) rs) (omega (arith, are.0.whole)) (within_records z w nonce (at + record_len z) rs are.1)

within_segments : (z : Sizes) (w : List ℕ) (from : ℕ) (segments : List Segment) (end : ℕ) (why : Why) → AreSegments z w from segments end why → Within z.page w (entries z from segments)
within_segments z w from [] end why are = within_none z.page w
within_segments z w from (s ∷ segments) end why are =
    let next = next_header z.sector (records_end z (from + z.sector) s.records) in
    within_both z.page w (placed z (from + z.sector) s.records) (entries z next segments) (within_records z w s.nonce (from + z.sector) s.records are.3)
    (⊎_elim
    (λ all. within_segments z w next segments end why all.1)
    (λ few. subst (λ (l : List Segment). Within z.page w (entries z next l)) (sym few.1) (within_none z.page w))
    are.4)

-- the entries of a journal
abbrev pub entries_of : List ℕ → List Segment → List Record
entries_of w segments = entries (sizes_of w) 0 segments

module _ (w : List ℕ) (segments : List Segment) (end : ℕ) (why : Why) (is : IsJournal w segments end why) where
  within_all : Within (word w 24) w (entries_of w segments)
  within_all = by is
    where
      by : IsJournal w segments end why → Within (word w 24) w (entries_of w segments)
      by (inl hot) = within_segments (sizes_of w) w 0 segments end why hot.1
      by (inr cold) = subst (λ (l : List Segment). Within (word w 24) w (entries_of w l)) (sym cold.1) (within_none (word w 24) w)

  pub entry_within : (k : ℕ) (r : Record) → slice_get (entries_of w segments) k ≡ Some r → r.at + word w 24 ≤ length w
  unfolding Within
  entry_within k r found = subst (λ (x : Record). x.at + word w 24 ≤ length w) (get_or_from_slice_get (entries_of w segments) k r r found)
      (within_all k r (slice_get_within (entries_of w segments) k r found))

  -- what entries and records are
  pub records_are : IsHot w → all_records segments ≡ records_of w (entries_of w segments)
  records_are hot = by is
    where
      by : IsJournal w segments end why → all_records segments ≡ records_of w (entries_of w segments)
      by (inl it) = contents (sizes_of w) w 0 segments end why it.1
      by (inr cold) = absurd (cold.0 hot)

  pub entry_is : (k : ℕ) (r : Record) → HasEntry w (k + 1) (Some r) → slice_get (entries_of w segments) k ≡ Some r
  entry_is k r has =
      let same : has.segments ≡ segments = (one_journal w has.segments segments has.stop.at end has.stop.why why has.is is).0 in
      let at : entry_of (entries_of w has.segments) (k + 1) ≡ slice_get (entries_of w has.segments) k = at_next (entries_of w has.segments) k in
      ap (λ (l : List Segment). slice_get (entries_of w l) k) (sym same) ∙ sym at ∙ sym has.value
    where
      at_next : (es : List Record) (k : ℕ) → entry_of es (k + 1) ≡ slice_get es k
      at_next es k = let e : k + 1 - 1 ≡ k = omega arith in grind (arith, nat_tests, e)

  pub no_entry : (k : ℕ) → k < length (entries_of w segments) → HasEntry w (k + 1) None → ⊥
  no_entry k lt has =
      let same : has.segments ≡ segments = (one_journal w has.segments segments has.stop.at end has.stop.why why has.is is).0 in
      let none : slice_get (entries_of w segments) k ≡ None = ap (λ (l : List Segment). slice_get (entries_of w l) k) (sym same) ∙ sym (at_next (entries_of w has.segments) k) ∙ sym has.value in
      let some : slice_get (entries_of w segments) k ≡ Some (get_or (entries_of w segments) k (record { page = 0; at = 0 })) = slice_get-get_or (entries_of w segments) k (record { page = 0; at = 0 }) lt in
      cc
    where
      at_next : (es : List Record) (k : ℕ) → entry_of es (k + 1) ≡ slice_get es k
      at_next es k = let e : k + 1 - 1 ≡ k = omega arith in grind (arith, nat_tests, e)

  pub count_is : (n : ℕ) → HasCount w n → n ≡ length (entries_of w segments)
  count_is n has =
      let same : has.segments ≡ segments = (one_journal w has.segments segments has.stop.at end has.stop.why why has.is is).0 in
      has.value ∙ ap (λ (l : List Segment). length (entries_of w l)) same

-- ---- Each page of a record is whole.

Sized : (size : ℕ) → Pages → Type 0
Sized size xs = (k : ℕ) (d : ℕ × List ℕ) → k < length xs → length (get_or xs k d).1 ≡ size

sized_none : (size : ℕ) → Sized size []
unfolding Sized
sized_none size k d lt = absurd (omega arith)

sized_more : (size : ℕ) (x : ℕ × List ℕ) (xs : Pages) → length x.1 ≡ size → Sized size xs → Sized size (x ∷ xs)
unfolding Sized
sized_more size x xs here rest zero d lt = here
sized_more size x xs here rest (suc k) d lt = rest k d (omega arith)

sized_both : (size : ℕ) (xs ys : Pages) → Sized size xs → Sized size ys → Sized size (xs ++ ys)
unfolding Sized
sized_both size [] ys a b = b
sized_both size (x ∷ xs) ys a b = sized_more size x (xs ++ ys) (a 0 x (omega arith)) (sized_both size xs ys (λ k d lt. a (suc k) d (omega arith)) b)

sized_reverse : (size : ℕ) (xs : Pages) → Sized size xs → Sized size (reverse xs)
unfolding Sized
sized_reverse size [] a = a
sized_reverse size (x ∷ xs) a = subst (λ (l : Pages). Sized size l) (sym (reverse-append (x ∷ []) xs))
    (sized_both size (reverse xs) (x ∷ []) (sized_reverse size xs (λ k d lt. a (suc k) d (omega arith))) (sized_more size x [] (a 0 x (omega arith)) (sized_none size)))

sized_supplied : (size : ℕ) (xs : Pages) (p : ℕ) (c : List ℕ) → Sized size xs → supplied xs p ≡ Some c → length c ≡ size
unfolding Sized
sized_supplied size [] p c a is = absurd (let f : None ≡ Some c = is in cc)
sized_supplied size (x ∷ xs) p c a is = by (sized_supplied size xs p c (λ k d lt. a (suc k) d (omega arith))) (x.0 == p) is
  where
    by : (supplied xs p ≡ Some c → length c ≡ size) → (b : Bool) → cond b (Some x.1) (supplied xs p) ≡ Some c → length c ≡ size
    by rest true e = let same : x.1 ≡ c = cc in ap (λ l. length l) (sym same) ∙ a 0 x (omega arith)
    by rest false e = rest e

sized_records : (w : List ℕ) (es : List Record) → Within (word w 24) w es → Sized (word w 24) (records_of w es)
unfolding Within
sized_records w [] within = sized_none (word w 24)
sized_records w (e ∷ es) within =
    sized_more (word w 24) (content_at (sizes_of w) w e) (records_of w es) (length-take-le (word w 24) (drop e.at w) (omega (arith, length-drop e.at w, within 0 e (omega arith))))
    (sized_records w es (λ k d lt. within (suc k) d (omega arith)))

pub last_length : (w : List ℕ) (segments : List Segment) (end : ℕ) (why : Why) → IsJournal w segments end why → IsHot w → (p : ℕ) (c : List ℕ) → last_content (all_records segments) p ≡ Some c → length c ≡ word w 24
last_length w segments end why is hot p c found =
    sized_supplied (word w 24) (reverse (records_of w (entries_of w segments))) p c
    (sized_reverse (word w 24) (records_of w (entries_of w segments)) (sized_records w (entries_of w segments) (within_all w segments end why is)))
    (ap (λ (l : Pages). last_content l p) (sym (records_are w segments end why is hot)) ∙ found)

pub named_or : (records : Pages) (p : ℕ) → (last_content records p ≡ None) ⊎ ((c : List ℕ) × (last_content records p ≡ Some c))
named_or records p = by (last_content records p)
  where
    by : (o : Option (List ℕ)) → (o ≡ None) ⊎ ((c : List ℕ) × (o ≡ Some c))
    by None = inl refl
    by (Some c) = inr (c, refl)

-- ---- The database that is restored.

-- page p after these entries
unfoldable pub made : (w db : List ℕ) → List Record → (p : ℕ) → List ℕ
made w db es p = unwrap_or (last_content (records_of w es) p) (file_page (word w 24) db p)

module _ (w db : List ℕ) (segments : List Segment) (end : ℕ) (why : Why) (is : IsJournal w segments end why) (hot : IsHot w) where
  pub made_all : (d : Database) → IsRolledBack db w d → (p : ℕ) → 1 ≤ p → p ≤ length d → page d p ≡ made w db (entries_of w segments) p
  unfolding made
  made_all d rolled p a b =
      let same : rolled.segments ≡ segments = (one_journal w rolled.segments segments rolled.at end rolled.why why rolled.is is).0 in
      rolled.each p a b ∙ ap (λ (l : List Segment). unwrap_or (last_content (all_records l) p) (file_page (word w 24) db p)) same
      ∙ ap (λ (l : Pages). unwrap_or (last_content l p) (file_page (word w 24) db p)) (records_are w segments end why is hot)

  pub made_length : (d : Database) → IsRolledBack db w d → (p : ℕ) → 1 ≤ p → p ≤ length d → length (page d p) ≡ word w 24
  made_length d rolled p a b = ap (λ l. length l) (rolled.each p a b) ∙ ⊎_elim
      (λ none. ap (λ (o : Option (List ℕ)). length (unwrap_or o (file_page (word w 24) db p))) none ∙ length-file_page (word w 24) db p)
      (λ some. ap (λ (o : Option (List ℕ)). length (unwrap_or o (file_page (word w 24) db p))) some.1 ∙ last_length w rolled.segments rolled.at rolled.why rolled.is hot p some.0 some.1)
      (named_or (all_records rolled.segments) p)

  page_of : ℕ → List ℕ
  page_of p = unwrap_or (last_content (all_records segments) p) (file_page (word w 24) db p)

  pub rolled_exists : (d : Database) × IsRolledBack db w d
  unfolding page page_of
  rolled_exists = (
    map page_of (range_with_len 1 (word w 16)),
    record {
      segments = segments;
      at = end;
      why = why;
      is = is;
      count = length-map-range_with_len page_of 1 (word w 16);
      each = λ p a b. get_or-map-range_with_len page_of 1 (word w 16) (p - 1) p [] (omega (arith, length-map-range_with_len page_of 1 (word w 16))) (omega arith);
    },
  )

-- one entry more
module _ (w db : List ℕ) (es : List Record) (k : ℕ) (r : Record) (is : slice_get es k ≡ Some r) where
  pub made_here : made w db (take (k + 1) es) r.page ≡ part w r.at (word w 24)
  unfolding made
  made_here = ap (λ (l : Pages). unwrap_or (last_content l r.page) (file_page (word w 24) db r.page)) (records_more w es k r is)
      ∙ ap (λ (o : Option (List ℕ)). unwrap_or o (file_page (word w 24) db r.page)) (last_here (records_of w (take k es)) (content_at (sizes_of w) w r) r.page refl)

  pub made_other : (p : ℕ) → r.page ≢ p → made w db (take (k + 1) es) p ≡ made w db (take k es) p
  unfolding made
  made_other p ne = ap (λ (l : Pages). unwrap_or (last_content l p) (file_page (word w 24) db p)) (records_more w es k r is)
      ∙ ap (λ (o : Option (List ℕ)). unwrap_or o (file_page (word w 24) db p)) (last_other (records_of w (take k es)) (content_at (sizes_of w) w r) p ne)

-- n entries more, of pages one behind the other
module _ (w db : List ℕ) (es : List Record) (k page at step : ℕ) where
  abbrev from : ℕ → ℕ → List ℕ
  from n p = made w db (take (k + n) es) p

  made_step : (n : ℕ) → (p : ℕ) → slice_get es (k + n) ≡ Some (record { page = page + n; at = at + n * step }) → page + n ≢ p → from (n + 1) p ≡ from n p
  made_step n p is ne = ap (λ (i : ℕ). made w db (take i es) p) (let e : k + (n + 1) ≡ k + n + 1 = omega arith in e) ∙ made_other w db es (k + n) (record { page = page + n; at = at + n * step }) is p ne

  pub made_apart : (n p : ℕ) → ((j : ℕ) → j < n → slice_get es (k + j) ≡ Some (record { page = page + j; at = at + j * step })) → (p < page) ⊎ (page + n ≤ p) → from n p ≡ made w db (take k es) p
  made_apart zero p are out = ap (λ (i : ℕ). made w db (take i es) p) (let e : k + 0 ≡ k = omega arith in e)
  made_apart (suc n) p are out =
      let up : suc n ≡ n + 1 = omega arith in
      ap (λ (i : ℕ). from i p) up ∙ made_step n p (are n (omega arith)) (λ e. ⊎_elim (λ lt. omega (arith, e, lt)) (λ le. omega (arith, e, le)) out)
      ∙ made_apart n p (λ j lt. are j (omega arith)) (⊎_elim (λ lt. inl lt) (λ le. inr (omega arith)) out)

  pub made_run : (n j : ℕ) → ((i : ℕ) → i < n → slice_get es (k + i) ≡ Some (record { page = page + i; at = at + i * step })) → j < n → from n (page + j) ≡ part w (at + j * step) (word w 24)
  made_run zero j are lt = absurd (omega arith)
  made_run (suc n) j are lt =
      let up : suc n ≡ n + 1 = omega arith in
      ap (λ (i : ℕ). from i (page + j)) up ∙ ⊎_elim
      (λ below. made_step n (page + j) (are n (omega arith)) (λ e. omega (arith, e, below)) ∙ made_run n j (λ i l. are i (omega arith)) below)
      (λ here. let e : j ≡ n = omega arith in
      ap (λ (i : ℕ). made w db (take i es) (page + j)) (let f : k + (n + 1) ≡ k + n + 1 = omega arith in f)
      ∙ ap (λ (i : ℕ). made w db (take (k + n + 1) es) (page + i)) e
      ∙ made_here w db es (k + n) (record { page = page + n; at = at + n * step }) (are n (omega arith))
      ∙ ap (λ (i : ℕ). part w (at + i * step) (word w 24)) (sym e))
      (let c : (j < n) ⊎ (n ≤ j) = cases_lt j n in c)

-- ---- Its bytes.

pub flat_is : (size : ℕ) (d : Database) (bytes : List ℕ) → length bytes ≡ length d * size → ((k : ℕ) → k < length d → length (get_or d k []) ≡ size)
    → ((k j : ℕ) → k < length d → j < size → get_or bytes (k * size + j) 0 ≡ get_or (get_or d k []) j 0) → bytes ≡ flat_map (λ content. content) d
flat_is size [] bytes long sized same = none bytes (omega (arith, long))
  where
    none : (x : List ℕ) → length x ≡ 0 → x ≡ []
    none [] e = refl
    none (y ∷ ys) e = absurd (omega (arith, e))
flat_is size (x ∷ d) bytes long sized same =
    let split : (n : ℕ) → suc n * size ≡ size + n * size = λ n. omega arith in
    let enough : size ≤ length bytes = omega (arith, long, split (length d)) in
    let first : take size bytes ≡ x = ext_get_or 0 (take size bytes) x (length-take-le size bytes enough ∙ sym (sized 0 (omega arith)))
    (λ j lt. let below : j < size = omega (arith, length-take-le size bytes enough) in get_or-take size bytes j 0 below ∙ ap (λ n. get_or bytes n 0) (at_zero j) ∙ same 0 j (omega arith) below) in
    let rest : drop size bytes ≡ flat_map (λ content. content) d = flat_is size d (drop size bytes) (omega (arith, length-drop size bytes, long, split (length d)))
    (λ k lt. sized (suc k) (omega arith))
    (λ k j lt below. get_or-drop size bytes (k * size + j) 0 ∙ ap (λ n. get_or bytes n 0) (at_next k j) ∙ same (suc k) j (omega arith) below) in
    sym (take-append-drop size bytes) ∙ ap (λ l. l ++ drop size bytes) first ∙ ap (λ l. x ++ l) rest
  where
    at_zero : (j : ℕ) → j ≡ 0 * size + j
    at_zero j = omega arith

    at_next : (k j : ℕ) → size + (k * size + j) ≡ suc k * size + j
    at_next k j = omega arith
