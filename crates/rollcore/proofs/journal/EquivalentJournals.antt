-- The headers of a journal, and journals that say the same.
use Rattle.rollcore.proofs.Words.{AreRecords, AreSegments, Database, End, HasHeaderAt, Header, IsHeader, IsHot, IsJournal, IsPageSize, IsRecord, IsRolledBack, List, PageZero, Pages, Segment, Short, Sizes, StopsAtHeader, StopsAtRecord, Sum, Why, [], all_records, ap, arith, big_number, drop, ext_get_or, file_page, get_or, get_or-drop, get_or-take, inl, inr, last_content, le-div, length, length-drop, length-take, min, mul-le-mul_right, next_header, nonce_sum, part, record_len, records_end, refl, size_bounds, sizes_of, subst, sym, take, unwrap_or, word, ℕ, ⊎_elim, ◌*◌, ◌+◌, ◌-◌, ◌/◌, ◌<◌, ◌∙◌, ◌∷◌, ◌≡◌, ◌≤◌, ◌⊎◌}

-- ---- Headers lie in the journal.

header_in : (z : Sizes) (w : List ℕ) (from : ℕ) (segments : List Segment) (end : ℕ) (why : Why) → 512 ≤ z.sector → AreSegments z w from segments end why
    → (at : ℕ) → HasHeaderAt z from segments at → at + 28 ≤ length w
header_in z w from [] end why some are at has = absurd has
header_in z w from (s ∷ segments) end why some are at (inl is) = omega (arith, are.0.whole)
header_in z w from (s ∷ segments) end why some are at (inr later) = ⊎_elim
    (λ all. header_in z w (next_header z.sector (records_end z (from + z.sector) s.records)) segments end why some all.1 at later)
    (λ few. absurd (let none : HasHeaderAt z (next_header z.sector (records_end z (from + z.sector) s.records)) [] at =
    subst (λ (l : List Segment). HasHeaderAt z (next_header z.sector (records_end z (from + z.sector) s.records)) l at) few.1 later in none))
    are.4

pub hot_long : (w : List ℕ) → IsHot w → 512 ≤ length w
hot_long w hot = omega (arith, hot.whole, (size_bounds (word w 20) hot.first.sector).0)

pub hot_within : (w : List ℕ) → IsHot w → 0 + 28 ≤ length w
hot_within w hot = omega (arith, hot_long w hot)

pub header_within : (w : List ℕ) (segments : List Segment) (end : ℕ) (why : Why) → IsJournal w segments end why → (at : ℕ) → HasHeaderAt (sizes_of w) 0 segments at → at + 28 ≤ length w
header_within w segments end why (inl hot) at has = header_in (sizes_of w) w 0 segments end why (size_bounds (word w 20) hot.0.first.sector).0 hot.1 at has
header_within w segments end why (inr cold) at has = absurd (let none : HasHeaderAt (sizes_of w) 0 [] at = subst (λ (l : List Segment). HasHeaderAt (sizes_of w) 0 l at) cold.1 has in none)

-- zeros at the front are no magic
pub zeros_cold : (w : List ℕ) → get_or w 0 0 ≡ 0 → IsHot w → ⊥
zeros_cold w zero hot =
    let first : get_or (take 8 w) 0 0 ≡ 0 = get_or-take 8 w 0 0 (omega arith) ∙ zero in
    let is : get_or (take 8 w) 0 0 ≡ 217 = ap (λ (l : List ℕ). get_or l 0 0) hot.first.magic in
    omega (arith, first, is)

-- ---- Parts that are the same.

pub part_same : (v w : List ℕ) (at n : ℕ) → length v ≡ length w → ((i : ℕ) → at ≤ i → i < at + n → get_or v i 0 ≡ get_or w i 0) → part v at n ≡ part w at n
part_same v w at n long same =
    let len : (x : List ℕ) → length (part x at n) ≡ min n (length x - at) = λ x. length-take n (drop at x) ∙ ap (λ k. min n k) (length-drop at x) in
    let byte_at : (x : List ℕ) (i : ℕ) → i < n → get_or (part x at n) i 0 ≡ get_or x (at + i) 0 = λ x i lt. get_or-take n (drop at x) i 0 lt ∙ get_or-drop at x i 0 in
    ext_get_or 0 (part v at n) (part w at n) (len v ∙ ap (λ k. min n (k - at)) long ∙ sym (len w))
    (λ i lt. let below : i < n = omega (arith, len v) in byte_at v i below ∙ same (at + i) (omega arith) (omega arith) ∙ sym (byte_at w i below))

pub word_same : (v w : List ℕ) (at : ℕ) → length v ≡ length w → ((i : ℕ) → at ≤ i → i < at + 4 → get_or v i 0 ≡ get_or w i 0) → word v at ≡ word w at
word_same v w at long same = ap (λ (l : List ℕ). big_number 4 l) (part_same v w at 4 long same)

-- the two have the same bytes but in the padding of the first header
pub record SameBehind (sector : ℕ) (w v : List ℕ) : Type 0 where
  pub long : length v ≡ length w
  pub front : (i : ℕ) → i < 28 → get_or v i 0 ≡ get_or w i 0
  pub behind : (i : ℕ) → sector ≤ i → get_or v i 0 ≡ get_or w i 0

pub same_back : (sector : ℕ) (w v : List ℕ) → SameBehind sector w v → SameBehind sector v w
same_back sector w v s = record { long = sym s.long; front = λ i lt. sym (s.front i lt); behind = λ i le. sym (s.behind i le) }

-- where a header may stand
abbrev InSame : (sector from : ℕ) → Type 0
InSame sector from = (from ≡ 0) ⊎ (sector ≤ from)

module _ (z : Sizes) (w v : List ℕ) (s : SameBehind z.sector w v) (some : 512 ≤ z.sector) where
  at_header : (from : ℕ) → InSame z.sector from → (i : ℕ) → from ≤ i → i < from + 28 → get_or v i 0 ≡ get_or w i 0
  at_header from (inl e) i a b = s.front i (omega arith)
  at_header from (inr le) i a b = s.behind i (omega arith)

  header_same : (from : ℕ) → InSame z.sector from → IsHeader z w from → IsHeader z v from
  header_same from here is = record {
    magic = part_same v w from 8 s.long (λ i a b. at_header from here i a (omega arith)) ∙ is.magic;
    whole = omega (arith, is.whole, s.long);
  }

  header_word : (from k : ℕ) → InSame z.sector from → k + 4 ≤ 28 → word v (from + k) ≡ word w (from + k)
  header_word from k here le = word_same v w (from + k) s.long (λ i a b. at_header from here i (omega arith) (omega arith))

  behind_word : (at : ℕ) → z.sector ≤ at → word v at ≡ word w at
  behind_word at le = word_same v w at s.long (λ i a b. s.behind i (omega arith))

  behind_part : (at n : ℕ) → z.sector ≤ at → part v at n ≡ part w at n
  behind_part at n le = part_same v w at n s.long (λ i a b. s.behind i (omega arith))

  record_same : (nonce at : ℕ) (r : ℕ × List ℕ) → z.sector ≤ at → IsRecord z w nonce at r → IsRecord z v nonce at r
  record_same nonce at r le is = record {
    whole = omega (arith, is.whole, s.long);
    page = is.page ∙ sym (behind_word at le);
    named = is.named;
    content = is.content ∙ sym (behind_part (at + 4) z.page (omega arith));
    sum = behind_word (at + 4 + z.page) (omega arith) ∙ is.sum;
  }

  records_same : (nonce at : ℕ) (rs : Pages) → z.sector ≤ at → AreRecords z w nonce at rs → AreRecords z v nonce at rs
  records_same nonce at [] le are = are
  records_same nonce at (r ∷ rs) le are = (record_same nonce at r le are.0, records_same nonce (at + record_len z) rs (omega arith) are.1)

  end_behind : (at : ℕ) (rs : Pages) → z.sector ≤ at → z.sector ≤ records_end z at rs
  end_behind at [] le = le
  end_behind at (r ∷ rs) le = end_behind (at + record_len z) rs (omega arith)

  next_behind : (end : ℕ) → z.sector ≤ end → z.sector ≤ next_header z.sector end
  next_behind end le =
      let one : 1 ≤ (end + z.sector - 1) / z.sector = le-div 1 (end + z.sector - 1) z.sector (omega arith) (omega arith) in
      let more : 1 * z.sector ≤ (end + z.sector - 1) / z.sector * z.sector = mul-le-mul_right z.sector one in omega arith

  stops_record : (count nonce at : ℕ) (why : Why) → z.sector ≤ at → StopsAtRecord z w count nonce at why → StopsAtRecord z v count nonce at why
  stops_record count nonce at End le stops = (stops.0, omega (arith, s.long, stops.1))
  stops_record count nonce at Short le stops = (λ e. omega (arith, s.long, stops.0 e), omega (arith, s.long, stops.1))
  stops_record count nonce at PageZero le stops = (omega (arith, s.long, stops.0), behind_word at le ∙ stops.1)
  stops_record count nonce at Sum le stops = (
    omega (arith, s.long, stops.0),
    λ zero. stops.1 (sym (behind_word at le) ∙ zero),
    λ e. stops.2 (sym (behind_word (at + 4 + z.page) (omega arith)) ∙ e ∙ ap (nonce_sum nonce) (behind_part (at + 4) z.page (omega arith))),
  )
  stops_record count nonce at Header le stops = stops

module _ (z : Sizes) (w v : List ℕ) (s : SameBehind z.sector w v) (some : 512 ≤ z.sector) where
  stops_header : (at : ℕ) (why : Why) → InSame z.sector at → StopsAtHeader z w at why → StopsAtHeader z v at why
  stops_header at End here stops = omega (arith, s.long, stops)
  stops_header at Header here stops = (omega (arith, s.long, stops.0), λ is. stops.1 (header_same z v w (same_back z.sector w v s) some at here is))
  stops_header at Short here stops = stops
  stops_header at PageZero here stops = stops
  stops_header at Sum here stops = stops

  segments_same : (from : ℕ) (segments : List Segment) (at : ℕ) (why : Why) → InSame z.sector from → AreSegments z w from segments at why → AreSegments z v from segments at why
  segments_same from [] at why here are = (are.0, stops_header at why (subst (λ (n : ℕ). InSame z.sector n) (sym are.0) here) are.1)
  segments_same from (x ∷ segments) at why here are =
      let first : z.sector ≤ from + z.sector = omega arith in
      let last = end_behind z w v s some (from + z.sector) x.records first in (
        header_same z w v s some from here are.0,
        are.1 ∙ sym (header_word z w v s some from 8 here (omega arith)),
        are.2 ∙ sym (header_word z w v s some from 12 here (omega arith)),
        records_same z w v s some x.nonce (from + z.sector) x.records first are.3,
        ⊎_elim
            (λ all. inl (all.0, segments_same (next_header z.sector (records_end z (from + z.sector) x.records)) segments at why (inr (next_behind z w v s some (records_end z (from + z.sector) x.records) last)) all.1))
            (λ few. inr (few.0, few.1, few.2, stops_record z w v s some x.count x.nonce at why (subst (λ (n : ℕ). z.sector ≤ n) (sym few.2) last) few.3))
            are.4,
      )

make_sizes : (sector page : ℕ) → Sizes
make_sizes sector page = record { sector = sector; page = page }

module _ (w v : List ℕ) (s : SameBehind (word w 20) w v) (hot : IsHot w) where
  front_word : (at : ℕ) → at + 4 ≤ 28 → word v at ≡ word w at
  front_word at le = word_same v w at s.long (λ i a b. s.front i (omega arith))

  sizes_same : sizes_of w ≡ sizes_of v
  unfolding make_sizes
  sizes_same = ap (λ x. make_sizes x (word w 24)) (sym (front_word 20 (omega arith))) ∙ ap (make_sizes (word v 20)) (sym (front_word 24 (omega arith)))

  pub hot_same : IsHot v
  hot_same = record {
    first = record {
      magic = part_same v w 0 8 s.long (λ i a b. s.front i (omega arith)) ∙ hot.first.magic;
      sector = subst IsPageSize (sym (front_word 20 (omega arith))) hot.first.sector;
      size = subst IsPageSize (sym (front_word 24 (omega arith))) hot.first.size;
    };
    whole = omega (arith, hot.whole, s.long, front_word 20 (omega arith));
  }

  pub journal_same : (segments : List Segment) (at : ℕ) (why : Why) → IsJournal w segments at why → IsJournal v segments at why
  journal_same segments at why (inl is) = inl (
    hot_same,
    subst (λ (z : Sizes). AreSegments z v 0 segments at why) sizes_same
        (segments_same (sizes_of w) w v s (size_bounds (word w 20) hot.first.sector).0 0 segments at why (inl refl) is.1),
  )
  journal_same segments at why (inr cold) = absurd (cold.0 hot)

  pub rolled_same : (db : List ℕ) (d : Database) → IsRolledBack db w d → IsRolledBack db v d
  rolled_same db d is = record {
    segments = is.segments;
    at = is.at;
    why = is.why;
    is = journal_same is.segments is.at is.why is.is;
    count = is.count ∙ sym (front_word 16 (omega arith));
    each = λ p a b. is.each p a b ∙ ap (λ (n : ℕ). unwrap_or (last_content (all_records is.segments) p) (file_page n db p)) (sym (front_word 24 (omega arith)));
  }

  pub size_same : word v 24 ≡ word w 24
  size_same = front_word 24 (omega arith)
