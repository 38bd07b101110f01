-- The pages of a view that are missing are those of its files.
use Rattle.std.proofs.Common.{◌≡◌, ◌≢◌, ◌⊎◌, ⊎_elim, inl, inr, ℕ, ◌+◌, ◌<◌, ◌≤◌, List, [], ◌∷◌, ◌++◌, refl, sym, ap, subst, arith}
use Rattle.std.specs.Prelude.{◌↔◌, Option, None, Some, slice_get, zero, suc}
use Rattle.std.proofs.lemmas.Bool.{cases_eq}
use Rattle.std.proofs.lemmas.Option.{none-some, same_Some}
use Rattle.sqval.specs.Database.{Database, Pages}
use Rattle.sqval.specs.Limits.{Bounds}
use Rattle.sqwal.specs.Header.{named_size}
use Rattle.sqwal.proofs.log.UniquenessOfView.{front_unique}
use Rattle.sqjournal.specs.Header.{next_header}
use Rattle.sqjournal.specs.Journal.{Segment, Sizes, entries, placed, record_len, records_end, sizes_of}
use Rattle.sqjournal.specs.Restored.{IsRolledBack}
use Rattle.sqjournal.specs.Took.{Says}
use Rattle.sqjournal.specs.declared.reading.Record.{Record}
use Rattle.sqjournal.specs.declared.replay.Stop.{Stop}
use Rattle.sqview.specs.Laid.{place_of}
use Rattle.sqview.specs.LogView.{IsLogged, IsShownWithin}
use Rattle.sqview.specs.Origins.{AreFramePlaces, AreJournalPlaces}
use Rattle.sqview.specs.declared.view.View.{View}
use Rattle.sqdeepjudge.specs.Missing.{IsInFrames, IsInLog, IsInRecords, IsLeast, IsMissing, IsMissingOf}

-- the least page of which this holds is that of which the same holds
pub least_same : (P Q : ℕ → Type 0) (n : ℕ) (r : Option ℕ) → ((p : ℕ) → 1 ≤ p → p ≤ n → P p ↔ Q p) → IsLeast P n r → IsLeast Q n r
least_same P Q n None same least = λ p one le holds. least p one le ((same p one le).1 holds)
least_same P Q n (Some p) same least = (
  least.0,
  least.1,
  (same p least.0 least.1).0 least.2,
  λ q one lt holds. least.3 q one lt ((same q one (omega (arith, lt, least.1))).1 holds),
)

-- a page's place says whether the log has it
abbrev Tells : (at : ℕ) → (In : Type 0) → Type 0
Tells at In = (at ≡ 0 → ¬ In) × ((¬ In) → at ≡ 0)

missing_by : {F : Type 0} (v : View F) (long : ℕ) (InLog : ℕ → Type 0) (p : ℕ) → Tells (place_of v.places.items p) (InLog p)
    → IsMissingOf v long p ↔ IsMissing InLog v.page_size long p
missing_by v long InLog p tells = (λ is. (tells.0 is.0, is.1), λ is. (tells.1 is.0, is.1))

-- ---- a write-ahead log

frames_tell : (size : ℕ) (w : List ℕ) (m count : ℕ) (places : List ℕ) (p : ℕ) → AreFramePlaces size w m count places → 1 ≤ p → p ≤ count
    → Tells (place_of places p) (IsInFrames size w m p)
frames_tell size w m count places p are one le = (
  λ none has. ⊎_elim
      (λ file. file.1 has.frame has.first has.within has.holds)
      (λ last. let at = last.2 in absurd (omega (arith, none, at))) (are.each p one le),
  λ no. ⊎_elim
      (λ file. file.0)
      (λ last. absurd (no (record { frame = last.0; first = last.1.first; within = last.1.within; holds = last.1.names }))) (are.each p one le),
)

nothing_tells : (size : ℕ) (w : List ℕ) (m : ℕ) (places : List ℕ) (p : ℕ) → places ≡ [] → m ≡ 0 → Tells (place_of places p) (IsInFrames size w m p)
nothing_tells size w m places p empty none = (
  λ _ has. let first = has.first in let within = has.within in absurd (omega (arith, none, first, within)),
  λ _. ap (λ (l : List ℕ). place_of l p) empty,
)

-- at a commit
pub missing_at : {F : Type 0} (v : View F) (long : ℕ) (w : List ℕ) (m p : ℕ) → (m ≡ 0 → v.places.items ≡ []) → (1 ≤ m → AreFramePlaces v.page_size w m v.count v.places.items)
    → 1 ≤ p → p ≤ v.count → IsMissingOf v long p ↔ IsMissing (IsInFrames v.page_size w m) v.page_size long p
missing_at v long w m p unplaced framed one le = missing_by v long (IsInFrames v.page_size w m) p (⊎_elim
    (λ none. nothing_tells v.page_size w m v.places.items p (unplaced none) none)
    (λ some. frames_tell v.page_size w m v.count v.places.items p (framed (omega (arith, some))) one le) (cases_eq m 0))

-- ---- a journal: each of its records lies above 0

AreAbove : List Record → Type 0
AreAbove [] = Unit {0}
AreAbove (e ∷ es) = (0 < e.at) × AreAbove es

above_more : (es fs : List Record) → AreAbove es → AreAbove fs → AreAbove (es ++ fs)
unfolding AreAbove
above_more [] fs a b = b
above_more (e ∷ es) fs a b = (a.0, above_more es fs a.1 b)

above_placed : (z : Sizes) (at : ℕ) (rs : Pages) → AreAbove (placed z at rs)
unfolding AreAbove
above_placed z at [] = tt
above_placed z at (r ∷ rs) = (omega arith, above_placed z (at + record_len z) rs)

above_entries : (z : Sizes) (from : ℕ) (ss : List Segment) → AreAbove (entries z from ss)
unfolding AreAbove
above_entries z from [] = tt
above_entries z from (s ∷ ss) =
    let next = next_header z.sector (records_end z (from + z.sector) s.records) in
    above_more (placed z (from + z.sector) s.records) (entries z next ss) (above_placed z (from + z.sector) s.records) (above_entries z next ss)

each_above : (es : List Record) (i : ℕ) (r : Record) → AreAbove es → slice_get es i ≡ Some r → 0 < r.at
unfolding AreAbove
each_above [] i r above there = absurd (none-some r there)
each_above (e ∷ es) zero r above there = let same : e ≡ r = same_Some e r there in subst (λ (x : Record). 0 < x.at) same above.0
each_above (e ∷ es) (suc i) r above there = each_above es i r above.1 there

records_tell : (journal : List ℕ) (count : ℕ) (places : List ℕ) (p : ℕ) (file : List ℕ) (d : Database) → AreJournalPlaces journal count places → IsRolledBack file journal d
    → 1 ≤ p → p ≤ count → Tells (place_of places p) (IsInRecords journal p)
records_tell journal count places p file d are rolled one le = (
  λ zeros has. ⊎_elim
      (λ none. none.1 has.place has.it has.is has.holds)
      (λ some.
      let above : 0 < some.1.at = each_above has.records some.0 some.1
      (subst AreAbove has.says.records (above_entries (sizes_of journal) 0 has.says.segments)) some.2 in
      let at = some.4 in absurd (omega (arith, zeros, above, at)))
      (are.each has.records has.stop has.says p one le),
  λ no.
      let records = entries (sizes_of journal) 0 rolled.segments in
      let stop : Stop = record { at = rolled.at; why = rolled.why } in
      let says : Says journal records stop = record { segments = rolled.segments; is = rolled.is; records = refl } in
      ⊎_elim
      (λ none. none.0)
      (λ some. absurd (no (record { records = records; stop = stop; says = says; place = some.0; it = some.1; is = some.2; holds = some.3 })))
      (are.each records stop says p one le),
)

-- ---- the current log

module _ {F : Type 0} (limits : Bounds) (bytes : F → List ℕ) (db wal journal : List ℕ) (v : View F) (shown : IsShownWithin limits bytes db wal journal v) (p : ℕ) (one : 1 ≤ p) (le : p ≤ v.count) where
  logged_tells : (front : ℕ) → IsLogged wal journal front → Tells (place_of v.places.items p) (IsInLog v.page_size wal journal p)
  logged_tells front logged = ⊎_elim with_front (λ none. absurd (none.1 front logged)) shown.stands
    where
      with_front : IsLogged wal journal v.front → Tells (place_of v.places.items p) (IsInLog v.page_size wal journal p)
      with_front stands =
          let tells = frames_tell v.page_size wal v.front v.count v.places.items p (shown.framed stands.some) one le in (
            λ none has. ⊎_elim
                (λ hot. stands.cold hot.0)
                (λ other. tells.0 none (subst (λ (m : ℕ). IsInFrames v.page_size wal m p) (front_unique (named_size wal) wal other.0 v.front other.1.is stands.is) other.2)) has,
            λ no. tells.1 (λ held. no (inr (v.front, stands, held))),
          )

  now_tells : Tells (place_of v.places.items p) (IsInLog v.page_size wal journal p)
  now_tells = ⊎_elim
      (λ hot.
      let tells = records_tell journal v.count v.places.items p db _ (shown.recorded hot.0) hot.2 one le in (
        λ none has. ⊎_elim (λ held. tells.0 none held.1) (λ other. other.1.cold hot.0) has,
        λ no. tells.1 (λ held. no (inl (hot.0, held))),
      ))
      (λ rest. ⊎_elim
      (λ logged. logged_tells logged.0 logged.1)
      (λ alone. (
        λ none has. ⊎_elim
            (λ held. alone.0.cold held.0)
            (λ other. let some = other.1.some in let last : other.0 ≡ 0 = front_unique (named_size wal) wal other.0 0 other.1.is alone.0.none in absurd (omega (arith, some, last))) has,
        λ no. ap (λ (l : List ℕ). place_of l p) (shown.unplaced alone.0),
      )) rest) shown.shows

  pub missing_now : (long : ℕ) → IsMissingOf v long p ↔ IsMissing (IsInLog v.page_size wal journal) v.page_size long p
  missing_now long = missing_by v long (IsInLog v.page_size wal journal) p now_tells
