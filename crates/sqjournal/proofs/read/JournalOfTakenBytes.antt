-- The journal of the bytes that a reading took.
use Rattle.std.proofs.Common.{◌≡◌, inl, inr, ⊎_elim, ℕ, ◌+◌, ◌<◌, ◌≤◌, List, [], ◌++◌, length, refl, sym, ◌∙◌, ap, subst, arith}
use Rattle.std.proofs.lemmas.List.{append-nil}
use Rattle.std.proofs.lemmas.Bool.{cases_eq, cases_lt}
use Rattle.std.proofs.lemmas.Bool.Decides.{nat_tests}
use Rattle.sqval.specs.Bytes.{word}
use Rattle.sqval.specs.PageSize.{IsPageSize}
use Rattle.sqval.proofs.page.PageSizes.{IsOneOf, one_of}
use Rattle.sqjournal.specs.Header.{IsFirstHeader, Names}
use Rattle.sqjournal.specs.Journal.{Segment, Sizes, sizes_of, to_the_end, StopsAtHeader, StopsAtRecord, AreSegments, IsHot, StopsCold, IsJournal, entries}
use Rattle.sqjournal.specs.Reading.{sizes, Reads, entries_from, HasEntries, Asks, Stands, len_of, UnlessOver, Waits}
use Rattle.sqjournal.specs.internal.Reading.{why_at, why_of}
use Rattle.sqjournal.specs.declared.header.JournalHeader.{JournalHeader}
use Rattle.sqjournal.specs.declared.reading.Record.{Record}
use Rattle.sqjournal.specs.declared.reading.Reading.{Reading}
use Rattle.sqjournal.specs.declared.reading.Why.{Why}
use Rattle.sqjournal.specs.declared.reading.Why.TheVariants.{End, Header, Short}
use Rattle.sqjournal.specs.declared.reading.Next.{Next}
use Rattle.sqjournal.specs.declared.reading.Next.TheVariants.{NewSegment, Records, Over}

-- a page or a sector has 512 to 65536 bytes
pub size_bounds : (n : ℕ) → IsPageSize n → (512 ≤ n) × (n ≤ 65536)
size_bounds n s = let o : IsOneOf n = one_of n s in (grind (arith, o), grind (arith, o))

make_sizes : (sector page : ℕ) → Sizes
make_sizes sector page = record { sector = sector; page = page }

pub same_sizes : (b : List ℕ) (h : JournalHeader) → Names b h → sizes h ≡ sizes_of b
unfolding make_sizes
same_sizes b h n = ap (λ x. make_sizes x h.page_size) n.sector ∙ ap (make_sizes (word b 20)) n.size

-- nothing more is read where what is next isn't whole
stops_here : (h : JournalHeader) (b : List ℕ) (next : Next) (at : ℕ) → Asks next → UnlessOver next (length b < at + len_of h next)
    → Reads (sizes h) b next at [] [] at (why_at at (length b) next)
stops_here h b NewSegment at asks short =
    let near : length b < at + h.sector = short (λ o. o) in (
      refl,
      (
        refl,
        ⊎_elim
            (λ more. let e : why_at at (length b) NewSegment ≡ Header = grind (arith, nat_tests, more) in
            subst (λ (w : Why). StopsAtHeader (sizes h) b at w) (sym e) (more, λ is. omega (arith, is.whole)))
            (λ none. let e : why_at at (length b) NewSegment ≡ End = grind (arith, nat_tests, none) in
            subst (λ (w : Why). StopsAtHeader (sizes h) b at w) (sym e) none)
            (cases_lt at (length b)),
      ),
    )
stops_here h b (Records nonce left) at asks short =
    let near : length b < at + (h.page_size + 8) = short (λ o. o) in (
      tt,
      inr (
        λ _. asks,
        refl,
        refl,
        ⊎_elim
            (λ more. let e : why_at at (length b) (Records nonce left) ≡ Short = grind (arith, nat_tests, more) in
            subst (λ (w : Why). StopsAtRecord (sizes h) b left nonce at w) (sym e) (λ _. more, near))
            (λ none. ⊎_elim
            (λ all. let e : why_at at (length b) (Records nonce left) ≡ End = grind (arith, nat_tests, none, all) in
            subst (λ (w : Why). StopsAtRecord (sizes h) b left nonce at w) (sym e) (all, none))
            (λ some. let e : why_at at (length b) (Records nonce left) ≡ Short = grind (arith, nat_tests, some) in
            subst (λ (w : Why). StopsAtRecord (sizes h) b left nonce at w) (sym e) (λ all. absurd (some all), near))
            (cases_eq left to_the_end))
            (cases_lt at (length b)),
      ),
    )
stops_here h b (Over w) at asks short = (refl, refl, refl, refl)

none_from : (z : Sizes) (next : Next) (at : ℕ) → entries_from z next at [] [] ≡ []
none_from z NewSegment at = refl
none_from z (Records nonce left) at = refl
none_from z (Over w) at = refl

-- a journal with these entries
pub record Ends (b : List ℕ) (es : List Record) (at : ℕ) (why : Why) : Type 0 where
  pub segments : List Segment
  pub is : IsJournal b segments at why
  pub all : entries (sizes_of b) 0 segments ≡ es

pub ends : (b begun : List ℕ) (r : Reading) (es : List Record) → Stands b r es → Waits b r begun → Ends b es r.at (why_of r (length b))
ends b begun r es s w =
    let z = sizes r.header in
    let why = why_of r (length b) in
    let same = same_sizes b r.header s.names in
    let nil = append-nil b in
    let read : Reads z (b ++ []) r.next r.at [] [] r.at why = subst (λ (x : List ℕ). Reads z x r.next r.at [] [] r.at why) (sym nil) (stops_here r.header b r.next r.at s.asks w.1) in
    let has : HasEntries z (b ++ []) (es ++ entries_from z r.next r.at [] []) r.at why = s.rest [] [] [] r.at why read in
    let hot_case : word b 20 ≤ length b → Ends b es r.at why = λ hot. record {
      segments = has.segments;
      is = inl (
        record { first = s.first; whole = hot },
        subst (λ (y : Sizes). AreSegments y b 0 has.segments r.at why) same (subst (λ (x : List ℕ). AreSegments z x 0 has.segments r.at why) nil has.are),
      );
      all = ap (λ (y : Sizes). entries y 0 has.segments) (sym same) ∙ has.all ∙ ap (λ l. es ++ l) (none_from z r.next r.at) ∙ append-nil es;
    } in
    ⊎_elim (λ p. ⊎_elim
    (λ cut.
    let far : r.at < length b = omega (arith, p.0, s.long) in
    let header : why ≡ Header = ap (why_at r.at (length b)) p.1 ∙ grind (arith, nat_tests, far) in
    record {
      segments = [];
      is = inr (λ hot. omega (arith, hot.whole), refl, p.0, subst (λ (x : Why). StopsCold b x) (sym header) (omega (arith, s.long)));
      all = sym p.2;
    })
    hot_case (cases_lt (length b) (word b 20))) hot_case s.begun

-- no journal is hot with fewer than 28 bytes
pub cold_short : (b : List ℕ) → length b < 28 → IsHot b → ⊥
cold_short b short hot = let s = size_bounds (word b 20) hot.first.sector in omega (arith, s.0, hot.whole)

-- where the first header is just judged
pub fresh : (w : List ℕ) (h : JournalHeader) → 28 ≤ length w → IsFirstHeader w → Names w h → Stands w (record { header = h; at = 0; next = NewSegment }) []
fresh w h long first names = record {
  long = long;
  first = first;
  names = names;
  begun = inl (refl, refl, refl);
  asks = tt;
  whole = tt;
  rest = λ more rs ss at why reads. record { segments = ss; are = reads.1; all = refl };
}
