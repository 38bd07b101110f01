-- A journal that ended at a whole header or record.
use Rattle.std.proofs.Common.{◌≡◌, ◌⊎◌, inl, inr, ⊎_elim, ℕ, ◌+◌, ◌<◌, ◌≤◌, List, ◌++◌, length, Some, None, refl, sym, ◌∙◌, ap, subst, arith}
use Rattle.std.proofs.lemmas.Bool.{cases_eq, cases_lt}
use Rattle.std.proofs.lemmas.Bool.Decides.{nat_tests}
use Rattle.sqjournal.specs.Journal.{Sizes, to_the_end, IsHot, IsWholeAt, IsJournal, entries, sizes_of}
use Rattle.sqjournal.specs.Reading.{sizes, len_of, IsWholeIfOver, Stands, IsOver, UnlessOver, Waits}
use Rattle.sqjournal.specs.internal.Reading.{why_at, why_of}
use Rattle.sqjournal.specs.Took.{Took, EndsWhole, IsSettled}
use Rattle.sqjournal.specs.declared.reading.Reading.{Reading}
use Rattle.sqjournal.specs.declared.reading.Next.{Next}
use Rattle.sqjournal.specs.declared.reading.Next.TheVariants.{NewSegment, Records, Over}
use Rattle.sqjournal.specs.declared.header.JournalHeader.{JournalHeader}
use Rattle.sqjournal.specs.declared.reading.Why.{Why}
use Rattle.sqjournal.specs.declared.reading.Why.TheVariants.{End, Header, Short}
use Rattle.sqjournal.specs.declared.replay.Replay.{Replay}
use Rattle.sqjournal.proofs.read.NextStateOfReading.{stands_more}
use Rattle.sqjournal.proofs.read.JournalOfTakenBytes.{same_sizes, cold_short, ends}
use Rattle.sqjournal.proofs.read.BytesTakenByReplay.{unjudged_of, judged_of, ends_judged}
use Rattle.sqjournal.proofs.read.UniquenessOfReading.{one_journal}

over_waits : (b c begun : List ℕ) (r : Reading) → IsOver r.next → Waits b r begun → Waits c r begun
over_waits b c begun r over w = ((w.0.0, λ un. absurd (un over)), λ un. absurd (un over))

why_over : (at m n : ℕ) (next : Next) → IsOver next → why_at at m next ≡ why_at at n next
why_over at m n NewSegment over = absurd over
why_over at m n (Records nonce left) over = absurd over
why_over at m n (Over w) over = refl

pub settled : (b : List ℕ) (s : Replay) (r : Reading) → Took b s → s.reading ≡ Some r → IsOver r.next → IsSettled b
settled b s r t e over more es stop says =
    let j = judged_of b s r t e in
    let now = ends_judged b s r t e in
    let all = ends (b ++ more) s.begun.items r s.records.items (stands_more b more r s.records.items j.stands) (over_waits b (b ++ more) s.begun.items r over j.waits) in
    let same = one_journal b says.segments now.segments stop.at r.at stop.why (why_of r s.taken) says.is now.is in
    let why : why_of r (length (b ++ more)) ≡ stop.why = why_over r.at (length (b ++ more)) s.taken r.next over ∙ sym same.2 in
    record {
      segments = all.segments;
      is = subst (λ (w : Why). IsJournal (b ++ more) all.segments stop.at w) why
          (subst (λ (n : ℕ). IsJournal (b ++ more) all.segments n (why_of r (length (b ++ more)))) (sym same.1) all.is);
      records = all.all ∙ sym now.all ∙ ap (λ l. entries (sizes_of b) 0 l) (sym same.0) ∙ says.records;
    }

-- it is hot, and what it ended at is whole
hot_over : (b : List ℕ) (r : Reading) (es : _) → Stands b r es → IsOver r.next → IsHot b
hot_over b r es s over = record {
  first = s.first;
  whole = ⊎_elim (λ p. absurd (subst (λ (n : Next). IsOver n) p.1 over)) (λ hot. hot) s.begun;
}

whole_over : (z : Sizes) (b : List ℕ) (at n : ℕ) (next : Next) → IsOver next → IsWholeIfOver z b at next → IsWholeAt z b at (why_at at n next)
whole_over z b at n NewSegment over w = absurd over
whole_over z b at n (Records nonce left) over w = absurd over
whole_over z b at n (Over why) over w = w

pub ends_whole : (b : List ℕ) (s : Replay) (r : Reading) → Took b s → s.reading ≡ Some r → IsOver r.next → EndsWhole b
ends_whole b s r t e over =
    let j = judged_of b s r t e in
    let now = ends_judged b s r t e in
    record {
      hot = hot_over b r s.records.items j.stands over;
      segments = now.segments;
      stop = record { at = r.at; why = why_of r s.taken };
      is = now.is;
      whole = subst (λ (z : Sizes). IsWholeAt z b r.at (why_of r s.taken)) (same_sizes b r.header j.stands.names)
          (whole_over (sizes r.header) b r.at s.taken r.next over j.stands.whole);
    }

-- what isn't whole doesn't end it so
end_or_short : (at n nonce left : ℕ) → (why_at at n (Records nonce left) ≡ End) ⊎ (why_at at n (Records nonce left) ≡ Short)
end_or_short at n nonce left = ⊎_elim
    (λ all. ⊎_elim
    (λ more. inr (grind (arith, nat_tests, more)))
    (λ none. inl (grind (arith, nat_tests, none, all))) (cases_lt at n))
    (λ some. inr (grind (arith, nat_tests, some)))
    (cases_eq left to_the_end)

open_at : (h : JournalHeader) (b : List ℕ) (at : ℕ) (next : Next) → (IsOver next → ⊥) → UnlessOver next (length b < at + len_of h next)
    → IsWholeAt (sizes h) b at (why_at at (length b) next) → ⊥
open_at h b at NewSegment un short whole = ⊎_elim
    (λ more. let e : why_at at (length b) NewSegment ≡ Header = grind (arith, nat_tests, more) in
    let w : at + h.sector ≤ length b = subst (λ (y : Why). IsWholeAt (sizes h) b at y) e whole in
    let near : length b < at + h.sector = short un in omega (arith, w, near))
    (λ none. let e : why_at at (length b) NewSegment ≡ End = grind (arith, nat_tests, none) in
    subst (λ (y : Why). IsWholeAt (sizes h) b at y) e whole)
    (cases_lt at (length b))
open_at h b at (Records nonce left) un short whole = ⊎_elim
    (λ e. subst (λ (y : Why). IsWholeAt (sizes h) b at y) e whole)
    (λ e. subst (λ (y : Why). IsWholeAt (sizes h) b at y) e whole)
    (end_or_short at (length b) nonce left)
open_at h b at (Over why) un short whole = un tt

open_judged : (b : List ℕ) (s : Replay) (r : Reading) → Took b s → s.reading ≡ Some r → (IsOver r.next → ⊥) → EndsWhole b → ⊥
open_judged b s r t e un whole =
    let j = judged_of b s r t e in
    let now = ends b s.begun.items r s.records.items j.stands j.waits in
    let same = one_journal b whole.segments now.segments whole.stop.at r.at whole.stop.why (why_of r (length b)) whole.is now.is in
    open_at r.header b r.at r.next un j.waits.1
    (subst (λ (z : Sizes). IsWholeAt z b r.at (why_of r (length b))) (sym (same_sizes b r.header j.stands.names))
    (subst (λ (n : ℕ). IsWholeAt (sizes_of b) b n (why_of r (length b))) same.1
    (subst (λ (y : Why). IsWholeAt (sizes_of b) b whole.stop.at y) same.2 whole.whole)))

over_or_open : (next : Next) → IsOver next ⊎ (IsOver next → ⊥)
over_or_open NewSegment = inr (λ o. o)
over_or_open (Records nonce left) = inr (λ o. o)
over_or_open (Over why) = inl tt

pub over_judged : (b : List ℕ) (s : Replay) (r : Reading) → Took b s → s.reading ≡ Some r → EndsWhole b → IsOver r.next
over_judged b s r t e whole = ⊎_elim (λ over. over) (λ un. absurd (open_judged b s r t e un whole)) (over_or_open r.next)

pub open_unjudged : (b : List ℕ) (s : Replay) → Took b s → s.reading ≡ None → EndsWhole b → ⊥
open_unjudged b s t e whole = cold_short b (unjudged_of b s t e).short whole.hot
