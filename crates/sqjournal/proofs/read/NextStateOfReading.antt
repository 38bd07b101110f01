-- A reading after what is next.
use Rattle.std.proofs.Common.{◌≡◌, ◌≢◌, inl, inr, ⊎_elim, ℕ, ◌+◌, ◌-◌, ◌^◌, ◌<◌, ◌≤◌, List, [], ◌∷◌, ◌++◌, length, take, drop, min, zero-add, refl, sym, ◌∙◌, ap, subst, arith}
use Rattle.std.proofs.Math.ListN.{length-append, length-drop}
use Rattle.std.proofs.lemmas.List.{append-nil, drop-append-le, drop-drop, drop_at, drop_all, drop_min, length-take-le, nil_from_length, take_at, take_all, take-append-le}
use Rattle.std.proofs.Math.Seq.{take-append-add}
use borrow.Rule.Slice.PartMut.{put_mid, post_of}
use Rattle.std.proofs.lemmas.Bool.{cases_eq, cases_lt}
use Rattle.sqval.specs.Bytes.{part, word}
use Rattle.sqjournal.specs.NonceSum.{nonce_sum}
use Rattle.sqjournal.specs.Header.{HasMagic, next_header, IsFirstHeader, IsRefused, Names}
use Rattle.sqval.specs.PageSize.{IsPageSize}
use Rattle.sqjournal.specs.declared.error.JournalError.{JournalError}
use Rattle.sqjournal.specs.declared.error.JournalError.TheVariants.{NotAJournal, SectorSize, PageSize, NoMemory, TooLong}
use Rattle.sqjournal.specs.Journal.{Sizes, record_len, IsHeader, IsRecord, StopsAtRecord}
use Rattle.sqjournal.specs.Reading.{sizes, Continues, Asks, IsWholeIfOver, Stands, len_of, next_len, IsOver, UnlessOver, Keeps, Waits}
use Rattle.sqjournal.specs.internal.Reading.{IsNext}
use Rattle.sqjournal.specs.declared.header.JournalHeader.{JournalHeader}
use Rattle.sqjournal.specs.declared.reading.Record.{Record}
use Rattle.sqjournal.specs.declared.reading.Reading.{Reading}
use Rattle.sqjournal.specs.declared.reading.Why.TheVariants.{End, Header, Short, PageZero, Sum}
use Rattle.sqjournal.specs.declared.reading.Next.{Next}
use Rattle.sqjournal.specs.declared.reading.Next.TheVariants.{NewSegment, Records, Over}
use Rattle.sqjournal.proofs.journal.DependenceOnPrefix.{part_more, word_more, part_part, word_part, part_front, word_front_of}
use Rattle.sqjournal.proofs.read.StepsOfReading.{continues_more, header_none, header_some, header_bad, less, record_some, record_last, record_bad}

-- what stands at another place
stands_at : (b : List ℕ) (r r' : Reading) (es es' : List Record) (next : Next) (from : ℕ) → Stands b r es → r'.header ≡ r.header → word b 20 ≤ length b
    → r'.next ≡ next → r'.at ≡ from → Asks next → IsWholeIfOver (sizes r.header) b from next → Continues (sizes r.header) b next from es' → Stands b r' es'
stands_at b r r' es es' next from s eh hot en ea asks whole go = record {
  long = s.long;
  first = s.first;
  names = subst (λ (h : JournalHeader). Names b h) (sym eh) s.names;
  begun = inr hot;
  asks = subst (λ (n : Next). Asks n) (sym en) asks;
  whole = subst (λ (h : JournalHeader). IsWholeIfOver (sizes h) b r'.at r'.next) (sym eh)
      (subst (λ (n : Next). IsWholeIfOver (sizes r.header) b r'.at n) (sym en)
      (subst (λ (a : ℕ). IsWholeIfOver (sizes r.header) b a next) (sym ea) whole));
  rest = subst (λ (h : JournalHeader). Continues (sizes h) b r'.next r'.at es') (sym eh)
      (subst (λ (n : Next). Continues (sizes r.header) b n r'.at es') (sym en)
      (subst (λ (a : ℕ). Continues (sizes r.header) b next a es') (sym ea) go));
}

-- the rest of a reading whose next is known
rest_of : (b : List ℕ) (r : Reading) (es : List Record) (next : Next) → Stands b r es → r.next ≡ next → Continues (sizes r.header) b next r.at es
rest_of b r es next s e = subst (λ (n : Next). Continues (sizes r.header) b n r.at es) e s.rest

asks_of : (b : List ℕ) (r : Reading) (es : List Record) (next : Next) → Stands b r es → r.next ≡ next → Asks next
asks_of b r es next s e = subst (λ (n : Next). Asks n) e s.asks

next_of : (b unit : List ℕ) (r : Reading) (next : Next) → IsNext b r unit → r.next ≡ next → (part b r.at (len_of r.header next) ≡ unit) × (r.at + len_of r.header next ≤ length b)
next_of b unit r next is e = subst (λ (n : Next). (part b r.at (len_of r.header n) ≡ unit) × (r.at + len_of r.header n ≤ length b)) e (is.is, is.whole)

-- a reading within a segment is of a hot journal
hot_within : (b : List ℕ) (r : Reading) (es : List Record) (nonce left : ℕ) → Stands b r es → r.next ≡ Records nonce left → word b 20 ≤ length b
hot_within b r es nonce left s e = ⊎_elim (λ p. absurd (let same : NewSegment ≡ Records nonce left = sym p.1 ∙ e in cc)) (λ hot. hot) s.begun

-- ---- headers

sector_hot : (b : List ℕ) (r : Reading) (es : List Record) → Stands b r es → r.at + r.header.sector ≤ length b → word b 20 ≤ length b
sector_hot b r es s whole = omega (arith, s.names.sector)

pub header_ends : (b unit : List ℕ) (r r' : Reading) (es : List Record) → Stands b r es → IsNext b r unit → r.next ≡ NewSegment → 512 ≤ r.header.sector
    → (HasMagic unit 0 → ⊥) → r'.header ≡ r.header → r'.at ≡ r.at → r'.next ≡ Over Header → Stands b r' es
header_ends b unit r r' es s is e least bad eh ea en =
    let n = next_of b unit r NewSegment is e in
    let bad_here : HasMagic b r.at → ⊥ = λ m. bad (ap (λ u. part u 0 8) (sym n.0) ∙ part_front b r.at r.header.sector 8 (omega arith) ∙ m) in
    stands_at b r r' es es (Over Header) r.at s eh (sector_hot b r es s n.1) en ea tt n.1
    (header_bad (sizes r.header) b r.at es least n.1 (rest_of b r es NewSegment s e) bad_here)

pub header_goes : (b unit : List ℕ) (r r' : Reading) (es : List Record) (count nonce end : ℕ) → Stands b r es → IsNext b r unit → r.next ≡ NewSegment → 512 ≤ r.header.sector
    → HasMagic unit 0 → count ≡ word unit 8 → nonce ≡ word unit 12 → r'.header ≡ r.header
    → end ≡ r.at + r.header.sector → (count ≡ 0 → (r'.next ≡ NewSegment) × (r'.at ≡ next_header r.header.sector end))
    → (0 < count → (r'.next ≡ Records nonce count) × (r'.at ≡ end)) → Stands b r' es
header_goes b unit r r' es count nonce end s is e least magic c n eh ends none some =
    let u = next_of b unit r NewSegment is e in
    let at_word : (k : ℕ) → k + 4 ≤ r.header.sector → word unit k ≡ word b (r.at + k) = λ k h. ap (λ x. word x k) (sym u.0) ∙ word_part b r.at r.header.sector k h in
    let header : IsHeader (sizes r.header) b r.at = record {
      magic = sym (part_front b r.at r.header.sector 8 (omega arith)) ∙ ap (λ x. part x 0 8) u.0 ∙ magic;
      whole = u.1;
    } in
    let go = rest_of b r es NewSegment s e in
    let hot = sector_hot b r es s u.1 in
    ⊎_elim
    (λ z. let to = none z in stands_at b r r' es es NewSegment _ s eh hot to.0 (to.1 ∙ ap (next_header r.header.sector) ends) tt tt
    (header_none (sizes r.header) b r.at es least go header (sym (at_word 8 (omega arith)) ∙ sym c ∙ z)))
    (λ z. let positive : 0 < count = omega (arith, z) in let to = some positive in stands_at b r r' es es (Records nonce count) _ s eh hot to.0 (to.1 ∙ ends) positive tt
    (header_some (sizes r.header) b r.at count nonce es least go header (c ∙ at_word 8 (omega arith)) (n ∙ at_word 12 (omega arith))))
    (cases_eq count 0)

-- ---- records

-- a record's parts, read from its bytes
pub record Parts (z : Sizes) (b unit : List ℕ) (at : ℕ) : Type 0 where
  pub whole : at + record_len z ≤ length b
  pub page : word unit 0 ≡ word b at
  pub content : part unit 4 z.page ≡ part b (at + 4) z.page
  pub sum : word unit (z.page + 4) ≡ word b (at + 4 + z.page)

pub parts_of : (b unit : List ℕ) (r : Reading) (nonce left : ℕ) → IsNext b r unit → r.next ≡ Records nonce left → Parts (sizes r.header) b unit r.at
parts_of b unit r nonce left is e =
    let u = next_of b unit r (Records nonce left) is e in
    let place : r.at + (r.header.page_size + 4) ≡ r.at + 4 + r.header.page_size = omega arith in
    record {
      whole = u.1;
      page = ap (λ x. word x 0) (sym u.0) ∙ word_front_of b r.at (r.header.page_size + 8) (omega arith);
      content = ap (λ x. part x 4 r.header.page_size) (sym u.0) ∙ part_part b r.at (r.header.page_size + 8) 4 r.header.page_size (omega arith);
      sum = ap (λ x. word x (r.header.page_size + 4)) (sym u.0) ∙ word_part b r.at (r.header.page_size + 8) (r.header.page_size + 4) (omega arith) ∙ ap (word b) place;
    }

pub page_zero : (b unit : List ℕ) (r r' : Reading) (es : List Record) (nonce left : ℕ) → Stands b r es → IsNext b r unit → r.next ≡ Records nonce left
    → word unit 0 ≡ 0 → r'.header ≡ r.header → r'.at ≡ r.at → r'.next ≡ Over PageZero → Stands b r' (es ++ [])
page_zero b unit r r' es nonce left s is e zero_page eh ea en =
    let p = parts_of b unit r nonce left is e in
    let stops : (more : List ℕ) → StopsAtRecord (sizes r.header) (b ++ more) left nonce r.at PageZero =
    λ more. (simp length-append (omega (arith, p.whole)), word_more b more r.at (omega (arith, p.whole)) ∙ sym p.page ∙ zero_page) in
    subst (λ (l : List Record). Stands b r' l) (sym (append-nil es))
    (stands_at b r r' es es (Over PageZero) r.at s eh (hot_within b r es nonce left s e) en ea tt p.whole
    (record_bad (sizes r.header) b nonce left r.at PageZero es (asks_of b r es (Records nonce left) s e) (rest_of b r es (Records nonce left) s e) stops))

pub wrong_sum : (b unit : List ℕ) (r r' : Reading) (es : List Record) (nonce left : ℕ) → Stands b r es → IsNext b r unit → r.next ≡ Records nonce left
    → word unit 0 ≢ 0 → word unit (r.header.page_size + 4) ≢ nonce_sum nonce (part unit 4 r.header.page_size)
    → r'.header ≡ r.header → r'.at ≡ r.at → r'.next ≡ Over Sum → Stands b r' (es ++ [])
wrong_sum b unit r r' es nonce left s is e named wrong eh ea en =
    let z = sizes r.header in
    let p = parts_of b unit r nonce left is e in
    let stops : (more : List ℕ) → StopsAtRecord z (b ++ more) left nonce r.at Sum =
    λ more. (
      simp length-append (omega (arith, p.whole)),
      λ q. named (p.page ∙ sym (word_more b more r.at (omega (arith, p.whole))) ∙ q),
      λ q. wrong (p.sum ∙ sym (word_more b more (r.at + 4 + z.page) (omega (arith, p.whole))) ∙ q ∙ ap (nonce_sum nonce) (part_more b more (r.at + 4) z.page (omega (arith, p.whole)) ∙ sym p.content)),
    ) in
    subst (λ (l : List Record). Stands b r' l) (sym (append-nil es))
    (stands_at b r r' es es (Over Sum) r.at s eh (hot_within b r es nonce left s e) en ea tt p.whole
    (record_bad z b nonce left r.at Sum es (asks_of b r es (Records nonce left) s e) (rest_of b r es (Records nonce left) s e) stops))

pub record_goes : (b unit : List ℕ) (r r' : Reading) (es : List Record) (nonce left page then end : ℕ) → Stands b r es → IsNext b r unit → r.next ≡ Records nonce left
    → left < 2 ^ 32 → page ≡ word unit 0 → page ≢ 0 → word unit (r.header.page_size + 4) ≡ nonce_sum nonce (part unit 4 r.header.page_size)
    → then ≡ less left → r'.header ≡ r.header → end ≡ r.at + record_len (sizes r.header)
    → (then ≡ 0 → (r'.next ≡ NewSegment) × (r'.at ≡ next_header r.header.sector end))
    → (0 < then → (r'.next ≡ Records nonce then) × (r'.at ≡ end))
    → Stands b r' (es ++ record { page = page; at = r.at + 4 } ∷ [])
record_goes b unit r r' es nonce left page then end s is e fits pw named right t eh ends none some =
    let z = sizes r.header in
    let p = parts_of b unit r nonce left is e in
    let go = rest_of b r es (Records nonce left) s e in
    let asks : 0 < left = asks_of b r es (Records nonce left) s e in
    let hot = hot_within b r es nonce left s e in
    let stands : IsRecord z b nonce r.at (page, part b (r.at + 4) z.page) = record {
      whole = p.whole;
      page = pw ∙ p.page;
      named = named;
      content = refl;
      sum = sym p.sum ∙ right ∙ ap (nonce_sum nonce) p.content;
    } in
    ⊎_elim
    (λ q. let to = none q in stands_at b r r' es (es ++ record { page = page; at = r.at + 4 } ∷ []) NewSegment _ s eh hot to.0 (to.1 ∙ ap (next_header r.header.sector) ends) tt tt
    (record_last z b nonce left r.at (page, part b (r.at + 4) z.page) es fits asks (sym t ∙ q) go stands))
    (λ q. let positive : 0 < then = omega (arith, q) in let to = some positive in
    stands_at b r r' es (es ++ record { page = page; at = r.at + 4 } ∷ []) (Records nonce then) _ s eh hot to.0 (to.1 ∙ ends) positive tt
    (subst (λ (l : ℕ). Continues z b (Records nonce l) (r.at + record_len z) (es ++ record { page = page; at = r.at + 4 } ∷ [])) (sym t)
    (record_some z b nonce left r.at (page, part b (r.at + 4) z.page) es fits asks go stands)))
    (cases_eq then 0)

-- ---- more bytes

whole_more : (z : Sizes) (b piece : List ℕ) (at : ℕ) (next : Next) → IsWholeIfOver z b at next → IsWholeIfOver z (b ++ piece) at next
whole_more z b piece at NewSegment w = tt
whole_more z b piece at (Records nonce left) w = tt
whole_more z b piece at (Over End) w = w
whole_more z b piece at (Over Header) w = simp length-append (omega (arith, w))
whole_more z b piece at (Over Short) w = w
whole_more z b piece at (Over PageZero) w = simp length-append (omega (arith, w))
whole_more z b piece at (Over Sum) w = simp length-append (omega (arith, w))

pub stands_more : (b piece : List ℕ) (r : Reading) (es : List Record) → Stands b r es → Stands (b ++ piece) r es
stands_more b piece r es s =
    let words : (k : ℕ) → k + 4 ≤ 28 → word (b ++ piece) k ≡ word b k = λ k h. word_more b piece k (omega (arith, s.long)) in
    record {
      long = simp length-append (omega (arith, s.long));
      first = record {
        magic = part_more b piece 0 8 (omega (arith, s.long)) ∙ s.first.magic;
        sector = rw (words 20 (omega arith)) s.first.sector;
        size = rw (words 24 (omega arith)) s.first.size;
      };
      names = record {
        count = s.names.count ∙ sym (words 8 (omega arith));
        nonce = s.names.nonce ∙ sym (words 12 (omega arith));
        first_size = s.names.first_size ∙ sym (words 16 (omega arith));
        sector = s.names.sector ∙ sym (words 20 (omega arith));
        size = s.names.size ∙ sym (words 24 (omega arith));
      };
      begun = ⊎_elim (λ p. inl p) (λ hot. inr (rw (words 20 (omega arith)) (simp length-append (omega arith)))) s.begun;
      asks = s.asks;
      whole = whole_more (sizes r.header) b piece r.at r.next s.whole;
      rest = continues_more (sizes r.header) b piece r.next r.at es s.rest;
    }

-- the next header or record, where it lies in a piece
pub next_in : (b piece : List ℕ) (r : Reading) (start len place : ℕ) → length b ≡ place → start + place ≡ r.at → len ≡ next_len r → start + next_len r ≤ length piece
    → IsNext (b ++ piece) r (take (start + len - start) (drop start piece))
next_in b piece r start len place lb at l fits =
    let from : r.at ≡ length b + start = omega arith in
    let rest : drop r.at (b ++ piece) ≡ drop start piece = ap (λ k. drop k (b ++ piece)) from ∙ sym (drop-drop start (length b) (b ++ piece)) ∙ ap (drop start) (drop_at b piece (length b) refl) in
    let count : start + len - start ≡ next_len r = omega arith in
    record {
      is = ap (take (next_len r)) rest ∙ ap (λ k. take k (drop start piece)) (sym count);
      whole = simp length-append (omega arith);
    }

-- what is kept of a piece waits for more
pub kept_waits : (b piece kept : List ℕ) (r : Reading) (place from : ℕ) → length b ≡ place → UnlessOver r.next (place ≤ r.at)
    → UnlessOver r.next (place + length piece < r.at + next_len r) → (IsOver r.next → from ≡ length piece)
    → UnlessOver r.next (from ≡ min (r.at - place) (length piece)) → kept ≡ drop from piece → Waits (b ++ piece) r kept
kept_waits b piece kept r place from lb ahead short over value is = (
  (
    λ o. is ∙ ap (λ k. drop k piece) (over o) ∙ drop_all (length piece) piece (omega arith),
    λ n. let far : place ≤ r.at = ahead n in
        let at : length b + (r.at - place) ≡ r.at = omega (arith, far) in
        is ∙ ap (λ k. drop k piece) (value n) ∙ drop_min (r.at - place) piece
        ∙ sym (ap (drop (r.at - place)) (drop_at b piece (length b) refl)) ∙ drop-drop (r.at - place) (length b) (b ++ piece) ∙ ap (λ k. drop k (b ++ piece)) at,
  ),
  λ n. let near : place + length piece < r.at + next_len r = short n in simp length-append (omega (arith, near)),
)

-- or now whole
pub begun_next : (b piece begun : List ℕ) (r : Reading) (missing : ℕ) → Keeps b r begun → 0 < length begun → (IsOver r.next → length begun ≡ 0)
    → length begun ≤ next_len r → missing ≡ next_len r - length begun → missing ≤ length piece → IsNext (b ++ piece) r (begun ++ take missing piece)
begun_next b piece begun r missing keeps some over room m fits =
    let is : begun ≡ drop r.at b = keeps.1 (λ o. omega (arith, over o)) in
    let len : length begun ≡ length b - r.at = ap length is ∙ length-drop r.at b in
    let rest : drop r.at (b ++ piece) ≡ begun ++ piece = drop-append-le r.at b piece (omega (arith, len)) ∙ ap (λ x. x ++ piece) (sym is) in
    let count : next_len r ≡ length begun + missing = omega (arith, m) in
    record {
      is = ap (take (next_len r)) rest ∙ ap (λ k. take k (begun ++ piece)) count ∙ take-append-add begun piece missing;
      whole = simp length-append (omega (arith, len, m));
    }

-- ---- the first header

pub front_words : (w : List ℕ) (k : ℕ) → k + 4 ≤ 28 → word (take 28 w) k ≡ word w k
front_words w k h = word_part w 0 28 k h ∙ ap (word w) (zero-add k)

pub front_first : (w : List ℕ) → IsFirstHeader (take 28 w) → IsFirstHeader w
front_first w is = record {
  magic = sym (part_front w 0 28 8 (omega arith)) ∙ is.magic;
  sector = subst IsPageSize (front_words w 20 (omega arith)) is.sector;
  size = subst IsPageSize (front_words w 24 (omega arith)) is.size;
}

pub front_names : (w : List ℕ) (h : JournalHeader) → Names (take 28 w) h → Names w h
front_names w h is = record {
  count = is.count ∙ front_words w 8 (omega arith);
  nonce = is.nonce ∙ front_words w 12 (omega arith);
  first_size = is.first_size ∙ front_words w 16 (omega arith);
  sector = is.sector ∙ front_words w 20 (omega arith);
  size = is.size ∙ front_words w 24 (omega arith);
}

pub front_refused : (w : List ℕ) (e : JournalError) → IsRefused (take 28 w) e → IsRefused w e
front_refused w NotAJournal bad = λ m. bad (part_front w 0 28 8 (omega arith) ∙ m)
front_refused w SectorSize bad = (sym (part_front w 0 28 8 (omega arith)) ∙ bad.0, λ s. bad.1 (subst IsPageSize (sym (front_words w 20 (omega arith))) s))
front_refused w PageSize bad =
    (sym (part_front w 0 28 8 (omega arith)) ∙ bad.0, subst IsPageSize (front_words w 20 (omega arith)) bad.1, λ s. bad.2 (subst IsPageSize (sym (front_words w 24 (omega arith))) s))
front_refused w NoMemory bad = bad
front_refused w TooLong bad = bad

-- the front of what is kept and a piece after it
pub front_of : (begun piece x y a : List ℕ) (k : ℕ) → length a ≡ 28 → k ≡ min (length begun) 28 → 28 - k ≤ length piece → x ≡ take k begun → y ≡ take (28 - k) piece
    → put_mid k (28 - k) (x ++ post_of 0 k a) y ≡ take 28 (begun ++ piece)
front_of begun piece x y a k la ek fits ex ey =
    let lx : length x ≡ k = ap length ex ∙ length-take-le k begun (omega (arith, ek)) in
    let lpost : length (post_of 0 k a) ≡ 28 - k = length-drop k a ∙ omega (arith, la) in
    let none : post_of k (28 - k) (x ++ post_of 0 k a) ≡ [] = nil_from_length _ (simp (length-drop, length-append) (omega (arith, lx, lpost))) in
    let put : put_mid k (28 - k) (x ++ post_of 0 k a) y ≡ take k begun ++ take (28 - k) piece =
    rw (none, append-nil, take_at x (post_of 0 k a) k lx, ex, ey) refl in
    put ∙ ⊎_elim
    (λ short. let all : k ≡ length begun = omega (arith, ek, short) in
    let e : 28 ≡ length begun + (28 - k) = omega (arith, all, short) in
    ap (λ n. take n begun ++ take (28 - k) piece) all ∙ ap (λ l. l ++ take (28 - k) piece) (take_all (length begun) begun (omega arith))
    ∙ sym (take-append-add begun piece (28 - k)) ∙ ap (λ n. take n (begun ++ piece)) (sym e))
    (λ long. let all : k ≡ 28 = omega (arith, ek, long) in
    let z : 28 - k ≡ 0 = omega (arith, all) in
    ap (λ n. take k begun ++ take n piece) z ∙ append-nil (take k begun) ∙ ap (λ n. take n begun) all ∙ sym (take-append-le 28 begun piece long))
    (cases_lt (length begun) 28)

-- a first header stays refused as bytes are added
pub refused_more : (b more : List ℕ) (e : JournalError) → 28 ≤ length b → IsRefused b e → IsRefused (b ++ more) e
refused_more b more NotAJournal long bad = λ m. bad (sym (part_more b more 0 8 (omega arith)) ∙ m)
refused_more b more SectorSize long bad =
    (part_more b more 0 8 (omega arith) ∙ bad.0, λ s. bad.1 (subst IsPageSize (word_more b more 20 (omega arith)) s))
refused_more b more PageSize long bad = (
  part_more b more 0 8 (omega arith) ∙ bad.0,
  subst IsPageSize (sym (word_more b more 20 (omega arith))) bad.1,
  λ s. bad.2 (subst IsPageSize (word_more b more 24 (omega arith)) s),
)
refused_more b more NoMemory long bad = bad
refused_more b more TooLong long bad = bad
