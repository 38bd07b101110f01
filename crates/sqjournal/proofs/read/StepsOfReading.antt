-- The steps of a reading.
use Rattle.std.proofs.Common.{◌≡◌, ◌≢◌, ◌⊎◌, inl, inr, ⊎_elim, ℕ, suc, ◌+◌, ◌-◌, ◌^◌, ◌<◌, ◌≤◌, List, [], ◌∷◌, ◌++◌, length, append_assoc, refl, sym, ◌∙◌, ap, subst, arith}
use Rattle.std.specs.Prelude.{if◌then◌else◌, ◌==◌}
use Rattle.std.proofs.lemmas.Bool.{cases_eq}
use Rattle.std.proofs.lemmas.Bool.Decides.{nat_tests}
use Rattle.std.proofs.Math.ListN.{length-append}
use Rattle.sqval.specs.Bytes.{word}
use Rattle.sqval.specs.Database.{Pages}
use Rattle.sqjournal.specs.Header.{HasMagic, next_header}
use Rattle.sqjournal.specs.Journal.{Sizes, to_the_end, record_len, IsHeader, IsRecord, AreAll, AreFewer, StopsAtHeader, StopsAtRecord}
use Rattle.sqjournal.specs.Reading.{Reads, entries_from, HasEntries, Continues}
use Rattle.sqjournal.specs.declared.reading.Record.{Record}
use Rattle.sqjournal.specs.declared.reading.Why.{Why}
use Rattle.sqjournal.specs.declared.reading.Why.TheVariants.{End, Header, Short, PageZero, Sum}
use Rattle.sqjournal.specs.declared.reading.Next.{Next}
use Rattle.sqjournal.specs.declared.reading.Next.TheVariants.{NewSegment, Records, Over}
use Rattle.sqjournal.proofs.journal.DependenceOnPrefix.{part_more, word_more}

-- ---- more bytes

pub header_more : (z : Sizes) (b more : List ℕ) (at : ℕ) → 512 ≤ z.sector → IsHeader z b at → IsHeader z (b ++ more) at
header_more z b more at s is = record {
  magic = part_more b more at 8 (omega (arith, is.whole)) ∙ is.magic;
  whole = simp length-append (omega (arith, is.whole));
}

pub record_more : (z : Sizes) (b more : List ℕ) (nonce at : ℕ) (r : ℕ × List ℕ) → IsRecord z b nonce at r → IsRecord z (b ++ more) nonce at r
record_more z b more nonce at r is = record {
  whole = simp length-append (omega (arith, is.whole));
  page = is.page ∙ sym (word_more b more at (omega (arith, is.whole)));
  named = is.named;
  content = is.content ∙ sym (part_more b more (at + 4) z.page (omega (arith, is.whole)));
  sum = word_more b more (at + 4 + z.page) (omega (arith, is.whole)) ∙ is.sum;
}

pub continues_more : (z : Sizes) (b piece : List ℕ) (next : Next) (from : ℕ) (es : List Record) → Continues z b next from es → Continues z (b ++ piece) next from es
continues_more z b piece next from es go more rs ss at why reads =
    let joined = append_assoc b piece more in
    subst (λ (w : List ℕ). HasEntries z w (es ++ entries_from z next from rs ss) at why) (sym joined)
    (go (piece ++ more) rs ss at why (subst (λ (w : List ℕ). Reads z w next from rs ss at why) joined reads))

-- ---- headers

-- a segment without records
pub header_none : (z : Sizes) (b : List ℕ) (from : ℕ) (es : List Record) → 512 ≤ z.sector → Continues z b NewSegment from es → IsHeader z b from → word b (from + 8) ≡ 0
    → Continues z b NewSegment (next_header z.sector (from + z.sector)) es
header_none z b from es s go is none more rs ss at why reads =
    let count : word (b ++ more) (from + 8) ≡ 0 = word_more b more (from + 8) (omega (arith, is.whole)) ∙ none in
    go more [] (record { count = 0; nonce = word (b ++ more) (from + 12); records = [] } ∷ ss) at why
    (refl, (header_more z b more from s is, sym count, refl, tt, inl (record { counted = λ e. omega arith; all = refl }, reads.1)))

-- a segment with records
pub header_some : (z : Sizes) (b : List ℕ) (from count nonce : ℕ) (es : List Record) → 512 ≤ z.sector → Continues z b NewSegment from es → IsHeader z b from
    → count ≡ word b (from + 8) → nonce ≡ word b (from + 12) → Continues z b (Records nonce count) (from + z.sector) es
header_some z b from count nonce es s go is c n more rs ss at why reads =
    let count_is : count ≡ word (b ++ more) (from + 8) = c ∙ sym (word_more b more (from + 8) (omega (arith, is.whole))) in
    let nonce_is : nonce ≡ word (b ++ more) (from + 12) = n ∙ sym (word_more b more (from + 12) (omega (arith, is.whole))) in
    go more [] (record { count = count; nonce = nonce; records = rs } ∷ ss) at why
    (refl, (header_more z b more from s is, count_is, nonce_is, reads.0, reads.1))

-- no header
pub header_bad : (z : Sizes) (b : List ℕ) (from : ℕ) (es : List Record) → 512 ≤ z.sector → from + z.sector ≤ length b → Continues z b NewSegment from es
    → (HasMagic b from → ⊥) → Continues z b (Over Header) from es
header_bad z b from es s whole go bad more rs ss at why reads =
    let stops : StopsAtHeader z (b ++ more) from Header =
    (simp length-append (omega arith), λ is. bad (sym (part_more b more from 8 (omega arith)) ∙ is.magic)) in
    let has : HasEntries z (b ++ more) (es ++ []) from Header = go more [] [] from Header (refl, (refl, stops)) in
    let moved : HasEntries z (b ++ more) (es ++ []) at Header = subst (λ (a : ℕ). HasEntries z (b ++ more) (es ++ []) a Header) (sym reads.2) has in
    subst (λ (w : Why). HasEntries z (b ++ more) (es ++ []) at w) (sym reads.3) moved

-- ---- records

-- how many records are asked for after one more
unfoldable pub less : (left : ℕ) → ℕ
less left = if left == to_the_end then left else left - 1

pub less_is : (left : ℕ) → left < 2 ^ 32 → 0 < left → ((left ≡ to_the_end) × (less left ≡ to_the_end)) ⊎ ((left ≢ to_the_end) × (less left ≢ to_the_end) × (left ≡ suc (less left)))
unfolding less
less_is left h some =
    ⊎_elim (λ e. inl (e, grind (arith, nat_tests, e))) (λ n. inr (n, grind (arith, nat_tests, n), grind (arith, nat_tests, n))) (cases_eq left to_the_end)

all_one_more : (left : ℕ) (r : ℕ × List ℕ) (rs : Pages) → left < 2 ^ 32 → 0 < left → AreAll (less left) rs → AreAll left (r ∷ rs)
all_one_more left r rs h some are = ⊎_elim
    (λ e. absurd (are.counted e.1))
    (λ n. record { counted = n.0; all = ap suc are.all ∙ sym n.2 }) (less_is left h some)

fewer_one_more : (left : ℕ) (r : ℕ × List ℕ) (rs : Pages) → left < 2 ^ 32 → 0 < left → AreFewer (less left) rs → AreFewer left (r ∷ rs)
fewer_one_more left r rs h some are = λ limited. ⊎_elim
    (λ e. absurd (limited e.0))
    (λ n. let below : length rs < less left = are n.1 in omega (arith, n.2)) (less_is left h some)

stops_one_more : (z : Sizes) (b : List ℕ) (left nonce at : ℕ) (why : Why) → left < 2 ^ 32 → 0 < left → StopsAtRecord z b (less left) nonce at why → StopsAtRecord z b left nonce at why
stops_one_more z b left nonce at End h some s = (⊎_elim (λ e. e.0) (λ n. absurd (n.1 s.0)) (less_is left h some), s.1)
stops_one_more z b left nonce at Header h some s = s
stops_one_more z b left nonce at Short h some s = (λ e. s.0 (⊎_elim (λ p. p.1) (λ n. absurd (n.0 e)) (less_is left h some)), s.1)
stops_one_more z b left nonce at PageZero h some s = s
stops_one_more z b left nonce at Sum h some s = s

one_more : (z : Sizes) (b : List ℕ) (es rest : List Record) (e : Record) (at : ℕ) (why : Why) → HasEntries z b (es ++ (e ∷ rest)) at why → HasEntries z b ((es ++ e ∷ []) ++ rest) at why
one_more z b es rest e at why has = subst (λ (l : List Record). HasEntries z b l at why) (sym (append_assoc es (e ∷ []) rest)) has

-- a record, and more are asked for
pub record_some : (z : Sizes) (b : List ℕ) (nonce left from : ℕ) (r : ℕ × List ℕ) (es : List Record) → left < 2 ^ 32 → 0 < left
    → Continues z b (Records nonce left) from es → IsRecord z b nonce from r
    → Continues z b (Records nonce (less left)) (from + record_len z) (es ++ record { page = r.0; at = from + 4 } ∷ [])
record_some z b nonce left from r es h some go is more rs ss at why reads =
    let after = ⊎_elim
    (λ p. inl (all_one_more left r rs h some p.0, p.1))
    (λ p. inr (fewer_one_more left r rs h some p.0, p.1, p.2, stops_one_more z (b ++ more) left nonce at why h some p.3)) reads.1 in
    one_more z (b ++ more) es _ _ at why (go more (r ∷ rs) ss at why ((record_more z b more nonce from r is, reads.0), after))

-- the last record that is asked for
pub record_last : (z : Sizes) (b : List ℕ) (nonce left from : ℕ) (r : ℕ × List ℕ) (es : List Record) → left < 2 ^ 32 → 0 < left → less left ≡ 0
    → Continues z b (Records nonce left) from es → IsRecord z b nonce from r
    → Continues z b NewSegment (next_header z.sector (from + record_len z)) (es ++ record { page = r.0; at = from + 4 } ∷ [])
record_last z b nonce left from r es h some last go is more rs ss at why reads =
    let all : AreAll left (r ∷ []) = all_one_more left r [] h some (record { counted = λ e. omega arith; all = sym last }) in
    one_more z (b ++ more) es _ _ at why (go more (r ∷ []) ss at why ((record_more z b more nonce from r is, tt), inl (all, reads.1)))

-- no record
pub record_bad : (z : Sizes) (b : List ℕ) (nonce left from : ℕ) (stop : Why) (es : List Record) → 0 < left
    → Continues z b (Records nonce left) from es → ((more : List ℕ) → StopsAtRecord z (b ++ more) left nonce from stop)
    → Continues z b (Over stop) from es
record_bad z b nonce left from stop es some go stops more rs ss at why reads =
    let has : HasEntries z (b ++ more) (es ++ []) from stop = go more [] [] from stop (tt, inr (λ _. some, refl, refl, stops more)) in
    let moved : HasEntries z (b ++ more) (es ++ []) at stop = subst (λ (a : ℕ). HasEntries z (b ++ more) (es ++ []) a stop) (sym reads.2) has in
    subst (λ (w : Why). HasEntries z (b ++ more) (es ++ []) at w) (sym reads.3) moved

pub less_all : (left : ℕ) → left ≡ to_the_end → less left ≡ left
unfolding less
less_all left e = grind (arith, nat_tests, e)

pub less_one : (left : ℕ) → left ≢ to_the_end → less left ≡ left - 1
unfolding less
less_one left n = grind (arith, nat_tests, n)
