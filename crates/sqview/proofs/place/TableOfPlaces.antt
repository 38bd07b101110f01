-- Places in a list and a map.
use Rattle.std.proofs.Common.{◌≡◌, ◌≢◌, ⊎_elim, Ordering, min, take, replicate, ℕ, ◌+◌, ◌-◌, ◌≤◌, ◌<◌, cond, true, false, List, length, map, get_or, refl, sym, ◌∙◌, ap, arith, eq-eqb, ne_eqb}
use Rattle.std.specs.Prelude.{◌==◌, Some, None, slice_get, slice_set, unwrap_or}
use Rattle.std.specs.List.{range_with_len}
use Rattle.std.specs.Ordering.{MatchOrdering, nat_cmp, is_eq}
use Rattle.std.specs.declared.cmp.Ordering.TheVariants.{Less, Equal, Greater}
use Rattle.std.specs.BTreeMap.{BTreeMap, get, is_at, Updates}
use Rattle.std.proofs.lemmas.Bool.{cases_lt, cases_eq}
use Rattle.std.proofs.lemmas.Cmp.{ranked}
use Rattle.std.proofs.lemmas.List.{get_or_past, get_or-replicate, get_or-set_same, get_or-set_other, length-replicate, take_all}
use Rattle.std.proofs.lemmas.List.FromFn.{get_or-map-range_with_len, length-map-range_with_len, take-map-range_with_len}
use Rattle.std.proofs.lemmas.Option.{none-some, get_or_from_slice_get, slice_get-get_or}
use Rattle.sqview.specs.Laid.{place_of}
use Rattle.sqview.specs.internal.Places.{place_in, table_of, Noted}

module _ (count : ℕ) (low : List ℕ) (high : BTreeMap ℕ ℕ) where
  abbrev items : List ℕ
  items = (table_of count low high).items

  pub table_long : length items ≡ count
  table_long = length-map-range_with_len (place_in low high) 1 count

  pub table_place : (p : ℕ) → 1 ≤ p → p ≤ count → place_of items p ≡ place_in low high p
  table_place p one le = get_or-map-range_with_len (place_in low high) 1 count (p - 1) p 0 (omega arith) (omega arith)

  pub table_past : (p : ℕ) → count < p → place_of items p ≡ 0
  table_past p lt = get_or_past items (p - 1) 0 (omega (arith, table_long))

  -- where nothing is put down
  pub table_kept : (page at : ℕ) → ((p : ℕ) → 1 ≤ p → p ≤ count → page ≢ p) → Noted page at items items
  table_kept page at other = (refl, λ p one le. sym (ap (λ b. cond b at (place_of items p)) (ne_eqb page p (other p one (omega (arith, table_long))))))

  pub table_noted : (page at : ℕ) (more : List ℕ) (others : BTreeMap ℕ ℕ) → ((p : ℕ) → 1 ≤ p → p ≤ count → place_in more others p ≡ cond (page == p) at (place_in low high p))
      → Noted page at items (table_of count more others).items
  table_noted page at more others is = (
    length-map-range_with_len (place_in more others) 1 count ∙ sym table_long,
    λ p one le.
        let most : p ≤ count = omega (arith, table_long) in
        get_or-map-range_with_len (place_in more others) 1 count (p - 1) p 0 (omega arith) (omega arith) ∙ is p one most
        ∙ ap (λ n. cond (page == p) at n) (sym (table_place p one most)),
  )

-- a place in the list
pub noted_low : (count : ℕ) (low : List ℕ) (high : BTreeMap ℕ ℕ) (page at : ℕ) → 1 ≤ page → page - 1 < length low
    → Noted page at (table_of count low high).items (table_of count (slice_set low (page - 1) at) high).items
noted_low count low high page at some lt = table_noted count low high page at (slice_set low (page - 1) at) high (λ p one le. ⊎_elim
    (λ same.
    let t : (page == p) ≡ true = eq-eqb page p same in
    ap (λ q. get_or (slice_set low (page - 1) at) (q - 1) (unwrap_or (get nat_cmp high p) 0)) (sym same)
    ∙ get_or-set_same low (page - 1) at (unwrap_or (get nat_cmp high p) 0) lt ∙ sym (ap (λ b. cond b at (place_in low high p)) t))
    (λ ne.
    let t : (page == p) ≡ false = ne_eqb page p ne in
    get_or-set_other low (page - 1) (p - 1) at (unwrap_or (get nat_cmp high p) 0) (λ e. ne (omega (arith, e)))
    ∙ sym (ap (λ b. cond b at (place_in low high p)) t))
    (cases_eq page p))

apart : (k q : ℕ) → k ≢ q → is_at (nat_cmp k) q ≡ false
apart k q ne = by_rank (nat_cmp k q) (ranked k q (nat_cmp k q) refl)
  where
    by_rank : (o : Ordering) → MatchOrdering o (k < q) (k ≡ q) (q < k) → is_eq o ≡ false
    by_rank Less h = refl
    by_rank Equal h = absurd (ne h)
    by_rank Greater h = refl

-- a place in the map
pub noted_high : (count : ℕ) (low : List ℕ) (high others : BTreeMap ℕ ℕ) (page at : ℕ) → length low ≤ page - 1 → Updates nat_cmp high others page (Some at)
    → Noted page at (table_of count low high).items (table_of count low others).items
noted_high count low high others page at ge updates = table_noted count low high page at low others (λ p one le. ⊎_elim
    (λ same.
    let t : (page == p) ≡ true = eq-eqb page p same in
    ap (λ q. get_or low (q - 1) (unwrap_or (get nat_cmp others q) 0)) (sym same)
    ∙ get_or_past low (page - 1) (unwrap_or (get nat_cmp others page) 0) ge ∙ ap (λ o. unwrap_or o 0) updates.1
    ∙ sym (ap (λ b. cond b at (place_in low high p)) t))
    (λ ne.
    let t : (page == p) ≡ false = ne_eqb page p ne in
    ap (λ o. get_or low (p - 1) (unwrap_or o 0)) (updates.2 p (apart page p ne)) ∙ sym (ap (λ b. cond b at (place_in low high p)) t))
    (cases_eq page p))

-- the first pages alone
pub table_short : (count : ℕ) (low : List ℕ) (high : BTreeMap ℕ ℕ) (n m : ℕ) → m ≡ min count n → (table_of m low high).items ≡ take n (table_of count low high).items
table_short count low high n m e = ⊎_elim
    (λ lt. let fewer : m ≡ n = omega (arith, e) in
    ap (λ k. map (place_in low high) (range_with_len 1 k)) fewer ∙ sym (take-map-range_with_len (place_in low high) 1 count n (omega arith)))
    (λ le. let all : m ≡ count = omega (arith, e) in
    ap (λ k. map (place_in low high) (range_with_len 1 k)) all ∙ sym (take_all n (table_of count low high).items (omega (arith, table_long count low high))))
    (cases_lt n count)

-- what is found in the list, and what in the map
pub place_low : (low : List ℕ) (high : BTreeMap ℕ ℕ) (p at : ℕ) → slice_get low (p - 1) ≡ Some at → place_in low high p ≡ at
place_low low high p at found = get_or_from_slice_get low (p - 1) at (unwrap_or (get nat_cmp high p) 0) found

pub place_high : (low : List ℕ) (high : BTreeMap ℕ ℕ) (p : ℕ) → slice_get low (p - 1) ≡ None → place_in low high p ≡ unwrap_or (get nat_cmp high p) 0
place_high low high p none = get_or_past low (p - 1) (unwrap_or (get nat_cmp high p) 0) (past low (p - 1) none)
  where
    past : (xs : List ℕ) (i : ℕ) → slice_get xs i ≡ None → length xs ≤ i
    past xs i none = ⊎_elim (λ lt. absurd (none-some (get_or xs i 0) (sym none ∙ slice_get-get_or xs i 0 lt))) (λ le. le) (cases_lt i (length xs))

-- so many zeros, and nothing in the map
pub zero_within : (low : List ℕ) (n : ℕ) → low ≡ replicate n 0 → (i d : ℕ) → i < length low → get_or low i d ≡ 0
zero_within low n zeros i d lt =
    let long : length low ≡ n = ap length zeros ∙ length-replicate n 0 in
    ap (λ (l : List ℕ). get_or l i d) zeros ∙ get_or-replicate n i 0 d (omega (arith, lt, long))

pub table_empty : (count : ℕ) (low : List ℕ) (high : BTreeMap ℕ ℕ) → ((i d : ℕ) → i < length low → get_or low i d ≡ 0) → ((p : ℕ) → get nat_cmp high p ≡ None)
    → (p : ℕ) → place_of (table_of count low high).items p ≡ 0
table_empty count low high zeros none p = ⊎_elim
    (λ lt. ⊎_elim
    (λ within. get_or-map-range_with_len (place_in low high) 1 count (p - 1) (p - 1 + 1) 0 within (omega arith) ∙ inside (p - 1))
    (λ past. get_or_past (table_of count low high).items (p - 1) 0 (omega (arith, table_long count low high)))
    (cases_lt (p - 1) count))
    (λ le. absurd (omega arith))
    (cases_lt (p - 1) (p + 1))
  where
    inside : (i : ℕ) → place_in low high (i + 1) ≡ 0
    inside i = ⊎_elim
        (λ lt. let here : i + 1 - 1 ≡ i = omega arith in ap (λ k. get_or low k (unwrap_or (get nat_cmp high (i + 1)) 0)) here ∙ zeros i (unwrap_or (get nat_cmp high (i + 1)) 0) lt)
        (λ le. get_or_past low (i + 1 - 1) (unwrap_or (get nat_cmp high (i + 1)) 0) (omega arith) ∙ ap (λ o. unwrap_or o 0) (none (i + 1)))
        (cases_lt i (length low))
