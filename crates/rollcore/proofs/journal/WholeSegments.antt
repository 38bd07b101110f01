-- Whole segments of a journal, from a place up to where the next header may stand.
use Rattle.rollcore.proofs.Words.{AreAll, AreFull, AreRecords, AreSegments, HasHeaderAt, IsHeader, IsRecord, List, Pages, Segment, Sizes, StopsAtHeader, Why, [], ap, arith, big_number, drop, ext_get_or, get_or, get_or-drop, get_or-take, inl, inr, length, length-drop, length-take-le, lt-div-mul-add, next_header, next_place, part, record_len, records_end, refl, subst, sym, word, ℕ, ◌*◌, ◌++◌, ◌+◌, ◌-◌, ◌/◌, ◌<◌, ◌∙◌, ◌∷◌, ◌≡◌, ◌≤◌, ◌⊎◌}

-- ---- Parts.

-- the same bytes in two files, at two places
pub part_at : (v w : List ℕ) (a b n : ℕ) → a + n ≤ length v → b + n ≤ length w → ((i : ℕ) → i < n → get_or v (a + i) 0 ≡ get_or w (b + i) 0) → part v a n ≡ part w b n
part_at v w a b n x y same =
    let len : (u : List ℕ) (k : ℕ) → k + n ≤ length u → length (part u k n) ≡ n = λ u k le. length-take-le n (drop k u) (omega (arith, length-drop k u)) in
    let byte_at : (u : List ℕ) (k i : ℕ) → i < n → get_or (part u k n) i 0 ≡ get_or u (k + i) 0 = λ u k i lt. get_or-take n (drop k u) i 0 lt ∙ get_or-drop k u i 0 in
    ext_get_or 0 (part v a n) (part w b n) (len v a x ∙ sym (len w b y))
    (λ i lt. let below : i < n = omega (arith, len v a x) in byte_at v a i below ∙ same i below ∙ sym (byte_at w b i below))

pub word_at : (v w : List ℕ) (a b : ℕ) → a + 4 ≤ length v → b + 4 ≤ length w → ((i : ℕ) → i < 4 → get_or v (a + i) 0 ≡ get_or w (b + i) 0) → word v a ≡ word w b
word_at v w a b x y same = ap (λ (l : List ℕ). big_number 4 l) (part_at v w a b 4 x y same)

-- two files have the same bytes from a place up to another
abbrev pub SameFrom : (a b : ℕ) (w v : List ℕ) → Type 0
SameFrom a b w v = (i : ℕ) → a ≤ i → i < b → get_or v i 0 ≡ get_or w i 0

same_part : (a b : ℕ) (w v : List ℕ) (at n : ℕ) → SameFrom a b w v → a ≤ at → at + n ≤ b → at + n ≤ length w → at + n ≤ length v → part v at n ≡ part w at n
same_part a b w v at n same low high x y = part_at v w at at n y x (λ i lt. same (at + i) (omega arith) (omega arith))

same_word : (a b : ℕ) (w v : List ℕ) (at : ℕ) → SameFrom a b w v → a ≤ at → at + 4 ≤ b → at + 4 ≤ length w → at + 4 ≤ length v → word v at ≡ word w at
same_word a b w v at same low high x y = ap (λ (l : List ℕ). big_number 4 l) (same_part a b w v at 4 same low high x y)

-- ---- Where records end, and where the next header may stand.

pub end_above : (z : Sizes) (at : ℕ) (rs : Pages) → at ≤ records_end z at rs
end_above z at [] = omega arith
end_above z at (r ∷ rs) = omega (arith, end_above z (at + record_len z) rs)

pub end_count : (z : Sizes) (at : ℕ) (rs : Pages) → records_end z at rs ≡ at + length rs * record_len z
end_count z at [] = omega arith
end_count z at (r ∷ rs) = omega (arith, end_count z (at + record_len z) rs)

pub end_within : (z : Sizes) (w : List ℕ) (nonce at : ℕ) (rs : Pages) (n : ℕ) → at ≤ n → length w ≤ n → AreRecords z w nonce at rs → records_end z at rs ≤ n
end_within z w nonce at [] n le long are = le
end_within z w nonce at (r ∷ rs) n le long are = end_within z w nonce (at + record_len z) rs n (omega (arith, are.0.whole)) long are.1

pub next_above : (sector end : ℕ) → 1 ≤ sector → end ≤ next_header sector end
next_above sector end some = let lt : end + sector - 1 < (end + sector - 1) / sector * sector + sector = lt-div-mul-add some in omega arith

-- where a segment's records end the next header is behind it
pub next_of : (z : Sizes) (from : ℕ) (rs : Pages) → 1 ≤ z.sector → from + z.sector ≤ next_header z.sector (records_end z (from + z.sector) rs)
next_of z from rs some = omega (arith, end_above z (from + z.sector) rs, next_above z.sector (records_end z (from + z.sector) rs) some)

pub full_above : (z : Sizes) (w : List ℕ) (from : ℕ) (segments : List Segment) (place : ℕ) → 1 ≤ z.sector → AreFull z w from segments place → from ≤ place
full_above z w from [] place some are = omega (arith, are)
full_above z w from (s ∷ segments) place some are =
    omega (arith, next_of z from s.records some, full_above z w (next_place z from s.records) segments place some are.5)

-- ---- The same records and segments in two files.

pub record_kept : (z : Sizes) (w v : List ℕ) (nonce at : ℕ) (r : ℕ × List ℕ) → SameFrom at (at + record_len z) w v → at + record_len z ≤ length v → IsRecord z w nonce at r → IsRecord z v nonce at r
record_kept z w v nonce at r same long is =
    let short = is.whole in record {
      whole = long;
      page = is.page ∙ sym (same_word at (at + record_len z) w v at same (omega arith) (omega arith) (omega arith) (omega arith));
      named = is.named;
      content = is.content ∙ sym (same_part at (at + record_len z) w v (at + 4) z.page same (omega arith) (omega arith) (omega arith) (omega arith));
      sum = same_word at (at + record_len z) w v (at + 4 + z.page) same (omega arith) (omega arith) (omega arith) (omega arith) ∙ is.sum;
    }

pub records_kept : (z : Sizes) (w v : List ℕ) (nonce at : ℕ) (rs : Pages) → SameFrom at (records_end z at rs) w v → records_end z at rs ≤ length v → AreRecords z w nonce at rs → AreRecords z v nonce at rs
records_kept z w v nonce at [] same long are = are
records_kept z w v nonce at (r ∷ rs) same long are =
    let above = end_above z (at + record_len z) rs in (
      record_kept z w v nonce at r (λ i a b. same i a (omega arith)) (omega arith) are.0,
      records_kept z w v nonce (at + record_len z) rs (λ i a b. same i (omega arith) b) long are.1,
    )

pub records_same : (z : Sizes) (w v : List ℕ) (nonce at : ℕ) (rs : Pages) → AreRecords z w nonce at rs → SameFrom at (records_end z at rs) w v → length w ≤ length v → AreRecords z v nonce at rs
records_same z w v nonce at [] are same long = are
records_same z w v nonce at (r ∷ rs) are same long =
    records_kept z w v nonce at (r ∷ rs) same (end_within z w nonce (at + record_len z) rs (length v) (omega (arith, are.0.whole)) long are.1) are

pub records_more : (z : Sizes) (w : List ℕ) (nonce at : ℕ) (rs : Pages) (r : ℕ × List ℕ) → AreRecords z w nonce at rs → IsRecord z w nonce (records_end z at rs) r → AreRecords z w nonce at (rs ++ r ∷ [])
records_more z w nonce at [] r are is = (is, tt)
records_more z w nonce at (x ∷ rs) r are is = (are.0, records_more z w nonce (at + record_len z) rs r are.1 is)

pub header_kept : (z : Sizes) (w v : List ℕ) (at : ℕ) → 512 ≤ z.sector → SameFrom at (at + 8) w v → length w ≤ length v → IsHeader z w at → IsHeader z v at
header_kept z w v at some same long is =
    let short = is.whole in record {
      magic = same_part at (at + 8) w v at 8 same (omega arith) (omega arith) (omega arith) (omega arith) ∙ is.magic;
      whole = omega arith;
    }

-- Segments lie below their place. Of the first header's sector only the 28 bytes count.
pub full_kept : (z : Sizes) (w v : List ℕ) (from : ℕ) (segments : List Segment) (place : ℕ) → 512 ≤ z.sector
    → ((i : ℕ) → from ≤ i → i < place → (i < from + 28) ⊎ (from + z.sector ≤ i) → get_or v i 0 ≡ get_or w i 0) → length w ≤ length v
    → AreFull z w from segments place → AreFull z v from segments place
full_kept z w v from [] place some same long are = are
full_kept z w v from (s ∷ segments) place some same long are =
    let next : ℕ = next_place z from s.records in
    let behind : from + z.sector ≤ records_end z (from + z.sector) s.records = end_above z (from + z.sector) s.records in
    let near : records_end z (from + z.sector) s.records ≤ next = next_above z.sector (records_end z (from + z.sector) s.records) (omega arith) in
    let below : next ≤ place = full_above z w next segments place (omega arith) are.5 in
    let whole : from + z.sector ≤ length w = are.0.whole in
    let within : records_end z (from + z.sector) s.records ≤ length v = end_within z w s.nonce (from + z.sector) s.records (length v) (omega arith) long are.3 in
    let header : SameFrom from (from + 16) w v = λ i a b. same i a (omega arith) (inl (omega arith)) in (
      header_kept z w v from some (λ i a b. header i a (omega arith)) long are.0,
      are.1 ∙ sym (same_word from (from + 16) w v (from + 8) header (omega arith) (omega arith) (omega arith) (omega arith)),
      are.2 ∙ sym (same_word from (from + 16) w v (from + 12) header (omega arith) (omega arith) (omega arith) (omega arith)),
      records_kept z w v s.nonce (from + z.sector) s.records (λ i a b. same i (omega arith) (omega arith) (inr a)) within are.3,
      are.4,
      full_kept z w v next segments place some (λ i a b _. same i (omega arith) b (inr (omega arith))) long are.5,
    )

-- where there are segments the first header lies whole in the file
pub full_begun : (z : Sizes) (w : List ℕ) (segments : List Segment) (place : ℕ) → 1 ≤ z.sector → AreFull z w 0 segments place → 0 < place → (z.sector ≤ place) × IsHeader z w 0
full_begun z w [] place some are above = absurd (omega (arith, are))
full_begun z w (s ∷ segments) place some are above =
    (omega (arith, next_of z 0 s.records some, full_above z w (next_place z 0 s.records) segments place some are.5), are.0)

pub full_none : (z : Sizes) (w : List ℕ) (segments : List Segment) (place : ℕ) → 1 ≤ z.sector → AreFull z w 0 segments place → place ≡ 0 → segments ≡ []
full_none z w [] place some are zero = refl
full_none z w (s ∷ segments) place some are zero =
    absurd (omega (arith, next_of z 0 s.records some, full_above z w (next_place z 0 s.records) segments place some are.5))

-- ---- More segments.

pub full_more : (z : Sizes) (w : List ℕ) (from : ℕ) (segments : List Segment) (place : ℕ) (s : Segment) → AreFull z w from segments place
    → IsHeader z w place → s.count ≡ word w (place + 8) → s.nonce ≡ word w (place + 12) → AreRecords z w s.nonce (place + z.sector) s.records → AreAll s.count s.records
    → AreFull z w from (segments ++ s ∷ []) (next_place z place s.records)
full_more z w from [] place s are header count nonce records all =
    let One : ℕ → Type 0 = λ p. AreFull z w p (s ∷ []) (next_place z place s.records) in
    subst One are (header, count, nonce, records, all, refl)
full_more z w from (x ∷ segments) place s are header count nonce records all =
    (are.0, are.1, are.2, are.3, are.4, full_more z w (next_place z from x.records) segments place s are.5 header count nonce records all)

-- the segments that follow
pub full_join : (z : Sizes) (w : List ℕ) (from : ℕ) (segments rest : List Segment) (place end : ℕ) (why : Why) → AreFull z w from segments place
    → AreSegments z w place rest end why → AreSegments z w from (segments ++ rest) end why
full_join z w from [] rest place end why are after = subst (λ (p : ℕ). AreSegments z w p rest end why) are after
full_join z w from (s ∷ segments) rest place end why are after =
    (are.0, are.1, are.2, are.3, inl (are.4, full_join z w (next_place z from s.records) segments rest place end why are.5 after))

-- there are no more
pub full_ends : (z : Sizes) (w : List ℕ) (from : ℕ) (segments : List Segment) (place : ℕ) (why : Why) → AreFull z w from segments place
    → StopsAtHeader z w place why → AreSegments z w from segments place why
full_ends z w from [] place why are stops = (are, stops)
full_ends z w from (s ∷ segments) place why are stops =
    (are.0, are.1, are.2, are.3, inl (are.4, full_ends z w (next_place z from s.records) segments place why are.5 stops))

-- the header of what follows stands at the place
pub full_header : (z : Sizes) (w : List ℕ) (from : ℕ) (segments rest : List Segment) (place at : ℕ) → AreFull z w from segments place
    → HasHeaderAt z place rest at → HasHeaderAt z from (segments ++ rest) at
full_header z w from [] rest place at are has = subst (λ (p : ℕ). HasHeaderAt z p rest at) are has
full_header z w from (s ∷ segments) rest place at are has = inr (full_header z w (next_place z from s.records) segments rest place at are.5 has)
