-- What a replay took.
use Rattle.std.proofs.Common.{◌≡◌, ◌≢◌, inr, ⊎_elim, ℕ, ◌-◌, ◌^◌, ◌<◌, ◌≤◌, List, [], ◌++◌, length, Option, Some, None, MatchOption, slice_get, nat_lt, is_some, get_or, Bor, refl, sym, ◌∙◌, ap, subst, arith}
use Rattle.std.specs.Option.{IfSome, option_copied}
use Rattle.std.proofs.lemmas.Option.{slice_get_past, slice_get_read}
use Rattle.std.proofs.lemmas.Bool.{cases_eq}
use Rattle.std.proofs.lemmas.Bool.Decides.{nat_tests}
use Rattle.sqval.specs.Bytes.{word}
use Rattle.sqjournal.specs.Header.{IsFirstHeader, IsRefused, Names}
use Rattle.sqjournal.specs.Journal.{entry_of}
use Rattle.sqjournal.specs.Reading.{Stands, Waits, IsSound}
use Rattle.sqjournal.specs.internal.Reading.{why_of}
use Rattle.sqjournal.specs.Took.{IsUnjudged, IsJudged, Took, HasEntry, HasCount, IsTakeable, Refuses}
use Rattle.sqjournal.specs.internal.Took.{GoesOn}
use Rattle.sqjournal.specs.declared.error.JournalError.{JournalError}
use Rattle.sqjournal.specs.declared.error.JournalError.TheVariants.{NotAJournal, SectorSize, PageSize, NoMemory, TooLong}
use Rattle.sqjournal.specs.declared.header.JournalHeader.{JournalHeader}
use Rattle.sqjournal.specs.declared.reading.Record.{Record}
use Rattle.sqjournal.specs.declared.reading.Reading.{Reading}
use Rattle.sqjournal.specs.declared.reading.Next.TheVariants.{NewSegment}
use Rattle.sqjournal.specs.declared.reading.Why.TheVariants.{End, Header}
use Rattle.sqjournal.specs.declared.replay.Replay.{Replay}
use Rattle.sqjournal.specs.declared.replay.Stop.{Stop}
use Rattle.sqjournal.proofs.read.NextStateOfReading.{stands_more}
use Rattle.sqjournal.proofs.read.JournalOfTakenBytes.{Ends, ends, cold_short, fresh, size_bounds}

pub taken_of : (b : List ℕ) (s : Replay) → Took b s → s.taken ≡ length b
unfolding Took
taken_of b s t = t.0

pub unjudged_of : (b : List ℕ) (s : Replay) → Took b s → s.reading ≡ None → IsUnjudged b s
unfolding Took
unjudged_of b s t e = subst (λ (o : Option Reading). MatchOption o (IsUnjudged b s) (λ r. IsJudged b s r)) e t.1

pub judged_of : (b : List ℕ) (s : Replay) (r : Reading) → Took b s → s.reading ≡ Some r → IsJudged b s r
unfolding Took
judged_of b s r t e = subst (λ (o : Option Reading). MatchOption o (IsUnjudged b s) (λ r. IsJudged b s r)) e t.1

pub took_unjudged : (b : List ℕ) (s : Replay) → s.reading ≡ None → s.taken ≡ length b → length b < 28 → s.begun.items ≡ b → s.records.items ≡ [] → Took b s
unfolding Took
took_unjudged b s e t short kept none =
    (t, subst (λ (o : Option Reading). MatchOption o (IsUnjudged b s) (λ r. IsJudged b s r)) (sym e) (record { short = short; kept = kept; none = none }))

pub took_judged : (b : List ℕ) (s : Replay) (r : Reading) → s.reading ≡ Some r → s.taken ≡ length b → Stands b r s.records.items → Waits b r s.begun.items → Took b s
unfolding Took
took_judged b s r e t stands waits =
    (t, subst (λ (o : Option Reading). MatchOption o (IsUnjudged b s) (λ r. IsJudged b s r)) (sym e) (record { stands = stands; waits = waits }))

-- the same fields, the same bytes
pub took_same : (b : List ℕ) (s s' : Replay) → Took b s → s'.taken ≡ s.taken → s'.reading ≡ s.reading → s'.begun.items ≡ s.begun.items → s'.records.items ≡ s.records.items → Took b s'
unfolding Took
took_same b s s' t et er eb es = (
  et ∙ t.0,
  subst (λ (o : Option Reading). MatchOption o (IsUnjudged b s') (λ r. IsJudged b s' r)) (sym er)
      (go s.reading t.1),
)
  where
    go : (o : Option Reading) → MatchOption o (IsUnjudged b s) (λ r. IsJudged b s r) → MatchOption o (IsUnjudged b s') (λ r. IsJudged b s' r)
    go None u = record { short = u.short; kept = eb ∙ u.kept; none = es ∙ u.none }
    go (Some r) j = record {
      stands = subst (λ (l : List Record). Stands b r l) (sym es) j.stands;
      waits = subst (λ (l : List ℕ). Waits b r l) (sym eb) j.waits;
    }

-- ---- judging the first header

pub goes_on_judged : (b piece : List ℕ) (s : Replay) (r : Reading) → Took b s → s.reading ≡ Some r → (28 ≤ length (b ++ piece)) × GoesOn b piece s r
goes_on_judged b piece s r t e =
    let j = judged_of b s r t e in
    let more = stands_more b piece r s.records.items j.stands in
    (more.long, record { stands = more; keeps = j.waits.0 })

pub goes_on_fresh : (b piece : List ℕ) (s : Replay) (h : JournalHeader) → Took b s → s.reading ≡ None → 28 ≤ length (s.begun.items ++ piece)
    → IsFirstHeader (s.begun.items ++ piece) → Names (s.begun.items ++ piece) h
    → (28 ≤ length (b ++ piece)) × GoesOn b piece s (record { header = h; at = 0; next = NewSegment })
goes_on_fresh b piece s h t e long first names =
    let u = unjudged_of b s t e in
    let w : s.begun.items ++ piece ≡ b ++ piece = ap (λ l. l ++ piece) u.kept in
    let r : Reading = record { header = h; at = 0; next = NewSegment } in
    let long' : 28 ≤ length (b ++ piece) = subst (λ (l : List ℕ). 28 ≤ length l) w long in (
      long',
      record {
        stands = subst (λ (l : List Record). Stands (b ++ piece) r l) (sym u.none)
            (fresh (b ++ piece) h long' (subst IsFirstHeader w first) (subst (λ (l : List ℕ). Names l h) w names));
        keeps = (λ o. absurd o, λ _. u.kept);
      },
    )

pub sound_fresh : (w : List ℕ) (h : JournalHeader) (taken kept : ℕ) → IsFirstHeader w → Names w h → taken < 28 → kept ≡ taken
    → IsSound taken kept (record { header = h; at = 0; next = NewSegment })
sound_fresh w h taken kept first names short k =
    let size = size_bounds (word w 20) first.sector in record {
      least = omega (arith, size.0, names.sector);
      greatest = omega (arith, size.1, names.sector);
      within = omega arith;
      over = λ o. absurd o;
      short = λ _. omega (arith, size.0, names.sector);
      kept = λ _. omega arith;
    }

-- ---- answers

pub ends_judged : (b : List ℕ) (s : Replay) (r : Reading) → Took b s → s.reading ≡ Some r → Ends b s.records.items r.at (why_of r s.taken)
ends_judged b s r t e =
    let j = judged_of b s r t e in
    subst (λ (n : ℕ). Ends b s.records.items r.at (why_of r n)) (sym (taken_of b s t)) (ends b s.begun.items r s.records.items j.stands j.waits)

pub ends_empty : (b : List ℕ) (s : Replay) → Took b s → s.reading ≡ None → s.taken ≡ 0 → Ends b s.records.items 0 End
ends_empty b s t e z =
    let u = unjudged_of b s t e in record {
      segments = [];
      is = inr (cold_short b u.short, refl, refl, sym (taken_of b s t) ∙ z);
      all = sym u.none;
    }

pub ends_cut : (b : List ℕ) (s : Replay) → Took b s → s.reading ≡ None → 0 < s.taken → Ends b s.records.items 0 Header
ends_cut b s t e some =
    let u = unjudged_of b s t e in record {
      segments = [];
      is = inr (cold_short b u.short, refl, refl, omega (arith, taken_of b s t));
      all = sym u.none;
    }

-- some end
pub record EndsSome (b : List ℕ) (es : List Record) : Type 0 where
  pub stop : Stop
  pub are : Ends b es stop.at stop.why

ends_some : (b : List ℕ) (s : Replay) → Took b s → (o : Option Reading) → s.reading ≡ o → EndsSome b s.records.items
ends_some b s t None e = ⊎_elim
    (λ z. record { stop = record { at = 0; why = End }; are = ends_empty b s t e z })
    (λ n. record { stop = record { at = 0; why = Header }; are = ends_cut b s t e (omega (arith, n)) })
    (cases_eq s.taken 0)
ends_some b s t (Some r) e = record { stop = record { at = r.at; why = why_of r s.taken }; are = ends_judged b s r t e }

pub has_entry : (b : List ℕ) (s : Replay) (i : ℕ) (entry : Option Record) → Took b s → entry ≡ entry_of s.records.items i → HasEntry b i entry
has_entry b s i entry t e =
    let x = ends_some b s t s.reading refl in record {
      segments = x.are.segments;
      stop = x.stop;
      is = x.are.is;
      value = e ∙ ap (λ l. entry_of l i) (sym x.are.all);
    }

pub has_count : (b : List ℕ) (s : Replay) (n : ℕ) → Took b s → n ≡ length s.records.items → HasCount b n
has_count b s n t e =
    let x = ends_some b s t s.reading refl in record {
      segments = x.are.segments;
      stop = x.stop;
      is = x.are.is;
      value = e ∙ ap (λ l. length l) (sym x.are.all);
    }

pub entry_zero : (es : List Record) (i : ℕ) → i ≡ 0 → entry_of es i ≡ None
entry_zero es i z = ap (entry_of es) z

pub entry_some : (es : List Record) (i : ℕ) → i ≢ 0 → entry_of es i ≡ slice_get es (i - 1)
entry_some es i some = grind (arith, nat_tests, some)

-- a record looked up
pub copied_at : (es : List Record) (at : ℕ) (o : Option (Bor Record)) → is_some o ≡ nat_lt at (length es) → IfSome o (λ r. r.now ≡ get_or es at r.now) → option_copied o ≡ slice_get es at
copied_at es at None e i = sym (slice_get_past es at (grind (arith, nat_tests, e)))
copied_at es at (Some r) e i = sym (slice_get_read es (length es) at r.now refl (grind (arith, nat_tests, e)) i)

-- a first header that is judged in a piece
pub at_header : (w : List ℕ) (o : Option JournalHeader) (h : JournalHeader) → o ≡ Some h
    → MatchOption o (length w < 28) (λ h. (28 ≤ length w) × IsFirstHeader w × Names w h) → (28 ≤ length w) × IsFirstHeader w × Names w h
at_header w o h e m = subst (λ (o : Option JournalHeader). MatchOption o (length w < 28) (λ h. (28 ≤ length w) × IsFirstHeader w × Names w h)) e m

pub at_none : (w : List ℕ) (o : Option JournalHeader) → o ≡ None
    → MatchOption o (length w < 28) (λ h. (28 ≤ length w) × IsFirstHeader w × Names w h) → length w < 28
at_none w o e m = subst (λ (o : Option JournalHeader). MatchOption o (length w < 28) (λ h. (28 ≤ length w) × IsFirstHeader w × Names w h)) e m

-- ---- refusals

pub refuses_header : (w : List ℕ) (e : JournalError) → length w ≤ 2 ^ 40 → 28 ≤ length w → IsRefused w e → Refuses w e
refuses_header w NotAJournal short long is = (short, long, is)
refuses_header w SectorSize short long is = (short, long, is)
refuses_header w PageSize short long is = (short, long, is)
refuses_header w NoMemory short long is = absurd is
refuses_header w TooLong short long is = absurd is

pub refuses_memory : (w : List ℕ) (e : JournalError) → e ≡ NoMemory → IsTakeable w → Refuses w e
refuses_memory w e is t = subst (λ (x : JournalError). Refuses w x) (sym is) t
