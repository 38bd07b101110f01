-- Two readings of one journal are one.
use Rattle.std.proofs.Common.{◌≡◌, ◌⊎◌, ⊎_elim, ℕ, ◌+◌, ◌<◌, List, [], ◌∷◌, length, refl, sym, ◌∙◌, ap, subst, arith}
use Rattle.std.proofs.lemmas.Bool.{cases_lt}
use Rattle.sqval.specs.Bytes.{word}
use Rattle.sqval.specs.Database.{Pages}
use Rattle.sqjournal.specs.NonceSum.{nonce_sum}
use Rattle.sqjournal.specs.Header.{next_header}
use Rattle.sqjournal.specs.Journal.{Segment, Sizes, sizes_of, record_len, records_end, IsHeader, IsRecord, AreRecords, AreAll, AreFewer, StopsAtHeader, StopsAtRecord, AreSegments, StopsCold, IsJournal}
use Rattle.sqjournal.specs.declared.reading.Why.{Why}
use Rattle.sqjournal.specs.declared.reading.Record.{Record}
use Rattle.sqjournal.specs.declared.replay.Stop.{Stop}
use Rattle.sqjournal.specs.Took.{StopsSo}
use Rattle.sqjournal.proofs.read.JournalOfTakenBytes.{Ends, size_bounds}
use Rattle.sqjournal.specs.declared.reading.Why.TheVariants.{End, Header, Short, PageZero, Sum}

-- ---- reasons

one_at_header : (z : Sizes) (b : List ℕ) (at : ℕ) (v w : Why) → StopsAtHeader z b at v → StopsAtHeader z b at w → v ≡ w
one_at_header z b at End End p q = refl
one_at_header z b at End Header p q = absurd (omega (arith, p, q.0))
one_at_header z b at End Short p q = absurd q
one_at_header z b at End PageZero p q = absurd q
one_at_header z b at End Sum p q = absurd q
one_at_header z b at Header End p q = absurd (omega (arith, p.0, q))
one_at_header z b at Header Header p q = refl
one_at_header z b at Header Short p q = absurd q
one_at_header z b at Header PageZero p q = absurd q
one_at_header z b at Header Sum p q = absurd q
one_at_header z b at Short w p q = absurd p
one_at_header z b at PageZero w p q = absurd p
one_at_header z b at Sum w p q = absurd p

one_at_record : (z : Sizes) (b : List ℕ) (count nonce at : ℕ) (v w : Why) → StopsAtRecord z b count nonce at v → StopsAtRecord z b count nonce at w → v ≡ w
one_at_record z b count nonce at End End p q = refl
one_at_record z b count nonce at End Short p q = absurd (omega (arith, p.1, q.0 p.0))
one_at_record z b count nonce at End PageZero p q = absurd (omega (arith, p.1, q.0))
one_at_record z b count nonce at End Sum p q = absurd (omega (arith, p.1, q.0))
one_at_record z b count nonce at Short End p q = absurd (omega (arith, q.1, p.0 q.0))
one_at_record z b count nonce at Short Short p q = refl
one_at_record z b count nonce at Short PageZero p q = absurd (omega (arith, p.1, q.0))
one_at_record z b count nonce at Short Sum p q = absurd (omega (arith, p.1, q.0))
one_at_record z b count nonce at PageZero End p q = absurd (omega (arith, q.1, p.0))
one_at_record z b count nonce at PageZero Short p q = absurd (omega (arith, q.1, p.0))
one_at_record z b count nonce at PageZero PageZero p q = refl
one_at_record z b count nonce at PageZero Sum p q = absurd (q.1 p.1)
one_at_record z b count nonce at Sum End p q = absurd (omega (arith, q.1, p.0))
one_at_record z b count nonce at Sum Short p q = absurd (omega (arith, q.1, p.0))
one_at_record z b count nonce at Sum PageZero p q = absurd (p.1 q.1)
one_at_record z b count nonce at Sum Sum p q = refl
one_at_record z b count nonce at Header w p q = absurd p
one_at_record z b count nonce at End Header p q = absurd q
one_at_record z b count nonce at Short Header p q = absurd q
one_at_record z b count nonce at PageZero Header p q = absurd q
one_at_record z b count nonce at Sum Header p q = absurd q

one_cold : (b : List ℕ) (v w : Why) → StopsCold b v → StopsCold b w → v ≡ w
one_cold b End End p q = refl
one_cold b End Header p q = absurd (omega (arith, p, q))
one_cold b Header End p q = absurd (omega (arith, p, q))
one_cold b Header Header p q = refl
one_cold b End Short p q = absurd q
one_cold b End PageZero p q = absurd q
one_cold b End Sum p q = absurd q
one_cold b Header Short p q = absurd q
one_cold b Header PageZero p q = absurd q
one_cold b Header Sum p q = absurd q
one_cold b Short w p q = absurd p
one_cold b PageZero w p q = absurd p
one_cold b Sum w p q = absurd p

header_or_stop : (z : Sizes) (b : List ℕ) (at : ℕ) (w : Why) → IsHeader z b at → 0 < z.sector → StopsAtHeader z b at w → ⊥
header_or_stop z b at End is some q = omega (arith, is.whole, q)
header_or_stop z b at Header is some q = q.1 is
header_or_stop z b at Short is some q = q
header_or_stop z b at PageZero is some q = q
header_or_stop z b at Sum is some q = q

record_or_stop : (z : Sizes) (b : List ℕ) (count nonce at : ℕ) (r : ℕ × List ℕ) (w : Why) → IsRecord z b nonce at r → StopsAtRecord z b count nonce at w → ⊥
record_or_stop z b count nonce at r End is q = omega (arith, is.whole, q.1)
record_or_stop z b count nonce at r Header is q = q
record_or_stop z b count nonce at r Short is q = omega (arith, is.whole, q.1)
record_or_stop z b count nonce at r PageZero is q = is.named (is.page ∙ q.1)
record_or_stop z b count nonce at r Sum is q = q.2 (is.sum ∙ ap (nonce_sum nonce) is.content)

-- ---- records

pair_of : ℕ → List ℕ → ℕ × List ℕ
pair_of page content = (page, content)

one_record : (z : Sizes) (b : List ℕ) (nonce at : ℕ) (r s : ℕ × List ℕ) → IsRecord z b nonce at r → IsRecord z b nonce at s → r ≡ s
unfolding pair_of
one_record z b nonce at r s p q =
    let page : r.0 ≡ s.0 = p.page ∙ sym q.page in
    let content : r.1 ≡ s.1 = p.content ∙ sym q.content in
    ap (λ x. pair_of x r.1) page ∙ ap (pair_of s.0) content

as_many : (z : Sizes) (b : List ℕ) (nonce at : ℕ) (rs ss : Pages) → AreRecords z b nonce at rs → AreRecords z b nonce at ss → length rs ≡ length ss → rs ≡ ss
as_many z b nonce at [] [] p q l = refl
as_many z b nonce at [] (s ∷ ss) p q l = absurd (omega (arith, l))
as_many z b nonce at (r ∷ rs) [] p q l = absurd (omega (arith, l))
as_many z b nonce at (r ∷ rs) (s ∷ ss) p q l =
    let same : r ≡ s = one_record z b nonce at r s p.0 q.0 in
    let rest : rs ≡ ss = as_many z b nonce (at + record_len z) rs ss p.1 q.1 (omega (arith, l)) in
    ap (λ x. x ∷ rs) same ∙ ap (λ l. s ∷ l) rest

-- where there are more records, one stands at the end of the fewer
one_after : (z : Sizes) (b : List ℕ) (nonce at : ℕ) (rs ss : Pages) → AreRecords z b nonce at ss → length rs < length ss
    → (r : ℕ × List ℕ) × IsRecord z b nonce (records_end z at rs) r
one_after z b nonce at [] [] q l = absurd (omega (arith, l))
one_after z b nonce at [] (s ∷ ss) q l = (s, q.0)
one_after z b nonce at (r ∷ rs) [] q l = absurd (omega (arith, l))
one_after z b nonce at (r ∷ rs) (s ∷ ss) q l = one_after z b nonce (at + record_len z) rs ss q.1 (omega (arith, l))

-- the records of a segment, and why there are no more
abbrev pub Ended : Sizes → List ℕ → (count nonce at : ℕ) → Pages → (next : ℕ → Type 0) → List Segment → (stop : ℕ) → Why → Type 0
Ended z b count nonce at rs next ss stop why = (AreAll count rs × next (records_end z at rs)) ⊎ (AreFewer count rs × (ss ≡ []) × (stop ≡ records_end z at rs) × StopsAtRecord z b count nonce stop why)

no_more : (z : Sizes) (b : List ℕ) (count nonce at : ℕ) (rs ts : Pages) (f g : ℕ → Type 0) (ss us : List Segment) (m n : ℕ) (v w : Why)
    → AreRecords z b nonce at ts → Ended z b count nonce at rs f ss m v → Ended z b count nonce at ts g us n w → length rs < length ts → ⊥
no_more z b count nonce at rs ts f g ss us m n v w are p q fewer = ⊎_elim
    (λ all. ⊎_elim
    (λ every. omega (arith, all.0.all, every.0.all))
    (λ some. let below : length ts < count = some.0 all.0.counted in omega (arith, all.0.all)) q)
    (λ some. let next = one_after z b nonce at rs ts are fewer in
    record_or_stop z b count nonce (records_end z at rs) next.0 v next.1 (subst (λ (x : ℕ). StopsAtRecord z b count nonce x v) some.2 some.3)) p

same_records : (z : Sizes) (b : List ℕ) (count nonce at : ℕ) (rs ts : Pages) (f g : ℕ → Type 0) (ss us : List Segment) (m n : ℕ) (v w : Why)
    → AreRecords z b nonce at rs → AreRecords z b nonce at ts → Ended z b count nonce at rs f ss m v → Ended z b count nonce at ts g us n w → rs ≡ ts
same_records z b count nonce at rs ts f g ss us m n v w ar at_ p q = ⊎_elim
    (λ fewer. absurd (no_more z b count nonce at rs ts f g ss us m n v w at_ p q fewer))
    (λ no_fewer. ⊎_elim
    (λ more. absurd (no_more z b count nonce at ts rs g f us ss n m w v ar q p more))
    (λ no_fewer'. as_many z b nonce at rs ts ar at_ (omega (arith, no_fewer, no_fewer'))) (cases_lt (length ts) (length rs)))
    (cases_lt (length rs) (length ts))

-- ---- segments

make_segment : (count nonce : ℕ) → Pages → Segment
make_segment count nonce records = record { count = count; nonce = nonce; records = records }

one_segment : (s u : Segment) → s.count ≡ u.count → s.nonce ≡ u.nonce → s.records ≡ u.records → s ≡ u
unfolding make_segment
one_segment s u c n r = ap (λ x. make_segment x s.nonce s.records) c ∙ ap (λ x. make_segment u.count x s.records) n ∙ ap (make_segment u.count u.nonce) r

-- the same segments, place and reason
abbrev pub Same : (ss us : List Segment) (m n : ℕ) (v w : Why) → Type 0
Same ss us m n v w = (ss ≡ us) × (m ≡ n) × (v ≡ w)

one_reading : (z : Sizes) (b : List ℕ) (from : ℕ) (ss us : List Segment) (m n : ℕ) (v w : Why) → 0 < z.sector
    → AreSegments z b from ss m v → AreSegments z b from us n w → Same ss us m n v w
one_reading z b from [] [] m n v w some p q =
    (refl, p.0 ∙ sym q.0, one_at_header z b from v w (subst (λ (x : ℕ). StopsAtHeader z b x v) p.0 p.1) (subst (λ (x : ℕ). StopsAtHeader z b x w) q.0 q.1))
one_reading z b from [] (u ∷ us) m n v w some p q = absurd (header_or_stop z b from v q.0 some (subst (λ (x : ℕ). StopsAtHeader z b x v) p.0 p.1))
one_reading z b from (s ∷ ss) [] m n v w some p q = absurd (header_or_stop z b from w p.0 some (subst (λ (x : ℕ). StopsAtHeader z b x w) q.0 q.1))
one_reading z b from (s ∷ ss) (u ∷ us) m n v w some p q =
    let first = from + z.sector in
    let count = word b (from + 8) in
    let nonce = word b (from + 12) in
    let after_s : ℕ → Type 0 = λ at. AreSegments z b (next_header z.sector at) ss m v in
    let after_u : ℕ → Type 0 = λ at. AreSegments z b (next_header z.sector at) us n w in
    let are_s : AreRecords z b nonce first s.records = subst (λ (x : ℕ). AreRecords z b x first s.records) p.2 p.3 in
    let are_u : AreRecords z b nonce first u.records = subst (λ (x : ℕ). AreRecords z b x first u.records) q.2 q.3 in
    let end_s : Ended z b count nonce first s.records after_s ss m v =
    subst (λ (x : ℕ). Ended z b count x first s.records after_s ss m v) p.2 (subst (λ (x : ℕ). Ended z b x s.nonce first s.records after_s ss m v) p.1 p.4) in
    let end_u : Ended z b count nonce first u.records after_u us n w =
    subst (λ (x : ℕ). Ended z b count x first u.records after_u us n w) q.2 (subst (λ (x : ℕ). Ended z b x u.nonce first u.records after_u us n w) q.1 q.4) in
    let same : s.records ≡ u.records = same_records z b count nonce first s.records u.records after_s after_u ss us m n v w are_s are_u end_s end_u in
    let segment : s ≡ u = one_segment s u (p.1 ∙ sym q.1) (p.2 ∙ sym q.2) same in
    let len : length s.records ≡ length u.records = ap length same in
    ⊎_elim
    (λ all. ⊎_elim
    (λ every. let rest = one_reading z b (next_header z.sector (records_end z first s.records)) ss us m n v w some all.1
    (subst (λ (rs : Pages). AreSegments z b (next_header z.sector (records_end z first rs)) us n w) (sym same) every.1) in
    (ap (λ x. x ∷ ss) segment ∙ ap (λ l. u ∷ l) rest.0, rest.1, rest.2))
    (λ few. absurd (let below : length u.records < count = few.0 all.0.counted in omega (arith, all.0.all, len))) end_u)
    (λ few. ⊎_elim
    (λ every. absurd (let below : length s.records < count = few.0 every.0.counted in omega (arith, every.0.all, len)))
    (λ fewer. let place : m ≡ n = few.2 ∙ ap (records_end z first) same ∙ sym fewer.2 in (
      ap (λ x. x ∷ ss) segment ∙ ap (λ l. u ∷ l) (few.1 ∙ sym fewer.1),
      place,
      one_at_record z b count nonce n v w (subst (λ (x : ℕ). StopsAtRecord z b count nonce x v) place few.3) fewer.3,
    )) end_u) end_s

pub one_journal : (b : List ℕ) (ss us : List Segment) (m n : ℕ) (v w : Why) → IsJournal b ss m v → IsJournal b us n w → Same ss us m n v w
one_journal b ss us m n v w p q = ⊎_elim
    (λ hot. ⊎_elim
    (λ same. let size = size_bounds (word b 20) hot.0.first.sector in one_reading (sizes_of b) b 0 ss us m n v w (omega (arith, size.0)) hot.1 same.1)
    (λ cold. absurd (cold.0 hot.0)) q)
    (λ cold. ⊎_elim
    (λ hot. absurd (cold.0 hot.0))
    (λ same. (cold.1 ∙ sym same.1, cold.2 ∙ sym same.2, one_cold b v w cold.3 same.3)) q) p

-- the one end of a journal
pub stops_so : (b : List ℕ) (es : List Record) (stop : Stop) → Ends b es stop.at stop.why → StopsSo b stop
stops_so b es stop e = record {
  segments = e.segments;
  is = e.is;
  only = λ others at why j. one_journal b others e.segments at stop.at why stop.why j e.is;
}
