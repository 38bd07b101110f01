-- The records of a journal stand one behind the other.
use Rattle.std.proofs.Common.{◌≡◌, ⊎_elim, ℕ, zero, suc, ◌+◌, ◌-◌, ◌<◌, ◌≤◌, List, [], ◌∷◌, ◌++◌, length, append-nil, refl, sym, ◌∙◌, ap, subst, arith}
use Rattle.std.specs.Prelude.{Option, None, Some, slice_get}
use Rattle.std.proofs.lemmas.Bool.{cases_lt, cases_eq}
use Rattle.std.proofs.lemmas.Option.{slice_get_within, slice_get-get_or}
use Rattle.sqval.specs.Bytes.{word}
use Rattle.sqval.specs.Database.{Pages}
use Rattle.sqjournal.specs.Header.{next_header}
use Rattle.sqjournal.specs.Journal.{Segment, Sizes, sizes_of, record_len, records_end, IsJournal, placed, entries, entry_of}
use Rattle.sqjournal.specs.Took.{HasEntry, HasCount, Says}
use Rattle.sqjournal.specs.declared.reading.Record.{Record}
use Rattle.sqjournal.specs.declared.replay.Replay.{Replay}
use Rattle.sqjournal.specs.declared.replay.Stop.{Stop}
use Rattle.sqjournal.proofs.read.JournalOfTakenBytes.{size_bounds}
use Rattle.sqjournal.proofs.read.BytesTakenByReplay.{entry_zero, entry_some}
use Rattle.sqjournal.proofs.read.UniquenessOfReading.{one_journal}
use Rattle.sqview.specs.Logs.{HasRead}
use Rattle.cli_show.specs.Records.{IsRecordNumber}

-- records whose places rise, from a place on
abbrev Rise : (from : ℕ) → List Record → Type 0
Rise from [] = Unit {0}
Rise from (e ∷ es) = (from ≤ e.at) × Rise (suc e.at) es

rise_below : (a b : ℕ) (es : List Record) → a ≤ b → Rise b es → Rise a es
rise_below a b [] le rise = tt
rise_below a b (e ∷ es) le rise = (omega (arith, rise.0), rise.1)

rise_placed : (z : Sizes) (at : ℕ) (rs : Pages) (rest : List Record) → Rise (records_end z at rs) rest → Rise at (placed z at rs ++ rest)
rise_placed z at [] rest rise = rise
rise_placed z at (r ∷ rs) rest rise =
    (omega arith, rise_below (suc (at + 4)) (at + record_len z) (placed z (at + record_len z) rs ++ rest) (omega arith) (rise_placed z (at + record_len z) rs rest rise))

pub next_above : (sector end : ℕ) → 0 < sector → end ≤ next_header sector end
next_above sector end some = omega arith

rise_all : (z : Sizes) (from : ℕ) (ss : List Segment) → 0 < z.sector → Rise from (entries z from ss)
rise_all z from [] some = tt
rise_all z from (s ∷ ss) some =
    let first = from + z.sector in
    let end = records_end z first s.records in
    let next = next_header z.sector end in
    let rest = entries z next ss in
    rise_below from first (placed z first s.records ++ rest) (omega arith)
    (rise_placed z first s.records rest (rise_below end next rest (next_above z.sector end some) (rise_all z next ss some)))

rise_least : (from : ℕ) (es : List Record) (i : ℕ) (e : Record) → Rise from es → slice_get es i ≡ Some e → from ≤ e.at
rise_least from [] i e rise is = cc
rise_least from (x ∷ es) zero e rise is = let same : x ≡ e = cc in subst (λ (r : Record). from ≤ r.at) same rise.0
rise_least from (x ∷ es) (suc i) e rise is = omega (arith, rise.0, rise_least (suc x.at) es i e rise.1 is)

rise_less : (from : ℕ) (es : List Record) (i j : ℕ) (e f : Record) → Rise from es → slice_get es i ≡ Some e → slice_get es j ≡ Some f → i < j → e.at < f.at
rise_less from [] i j e f rise is_i is_j less = cc
rise_less from (x ∷ es) i zero e f rise is_i is_j less = absurd (omega (arith, less))
rise_less from (x ∷ es) zero (suc j) e f rise is_i is_j less =
    let same : x ≡ e = cc in subst (λ (r : Record). r.at < f.at) same (omega (arith, rise_least (suc x.at) es j f rise.1 is_j))
rise_less from (x ∷ es) (suc i) (suc j) e f rise is_i is_j less = rise_less (suc x.at) es i j e f rise.1 is_i is_j (omega (arith, less))

-- the records of a journal, whether it is hot or not
rise_journal : (b : List ℕ) (ss : List Segment) (stop : Stop) → IsJournal b ss stop.at stop.why → Rise 0 (entries (sizes_of b) 0 ss)
rise_journal b ss stop is = ⊎_elim
    (λ hot. rise_all (sizes_of b) 0 ss (omega (arith, (size_bounds (word b 20) hot.0.first.sector).0)))
    (λ cold. subst (λ (l : List Segment). Rise 0 (entries (sizes_of b) 0 l)) (sym cold.1) tt) is

-- what is found at a number is an element
entry_is : (es : List Record) (n : ℕ) (r : Record) → Some r ≡ entry_of es n → (0 < n) × (slice_get es (n - 1) ≡ Some r)
entry_is es n r is = ⊎_elim
    (λ z. let none = entry_zero es n z in let e : Some r ≡ None = is ∙ none in cc)
    (λ some. let at = entry_some es n some in (omega (arith, some), sym at ∙ sym is)) (cases_eq n 0)

-- the same, of one list of segments
pub in_segments : (b : List ℕ) (ss : List Segment) (stop : Stop) → IsJournal b ss stop.at stop.why → (n : ℕ) (o : Option Record) → HasEntry b n o → o ≡ entry_of (entries (sizes_of b) 0 ss) n
in_segments b ss stop is n o entry =
    let same = one_journal b entry.segments ss entry.stop.at stop.at entry.stop.why stop.why entry.is is in
    entry.value ∙ ap (λ l. entry_of (entries (sizes_of b) 0 l) n) same.0

-- as many
pub count_of : (b : List ℕ) (ss : List Segment) (stop : Stop) → IsJournal b ss stop.at stop.why → (n : ℕ) → HasCount b n → n ≡ length (entries (sizes_of b) 0 ss)
count_of b ss stop is n counted =
    let same = one_journal b counted.segments ss counted.stop.at stop.at counted.stop.why stop.why counted.is is in
    counted.value ∙ ap (λ l. length (entries (sizes_of b) 0 l)) same.0

pub entry_less : (b : List ℕ) (i j : ℕ) (e f : Record) → HasEntry b i (Some e) → HasEntry b j (Some f) → i < j → e.at < f.at
entry_less b i j e f here there less =
    let ss = here.segments in
    let es = entries (sizes_of b) 0 ss in
    let x = entry_is es i e here.value in
    let y = entry_is es j f (in_segments b ss here.stop here.is j (Some f) there) in
    rise_less 0 es (i - 1) (j - 1) e f (rise_journal b ss here.stop here.is) x.1 y.1 (omega (arith, x.0, y.0, less))

-- the number of a record is known
entry_one : (b : List ℕ) (n : ℕ) (e f : Record) → HasEntry b n (Some e) → HasEntry b n (Some f) → e ≡ f
entry_one b n e f here there =
    let other = in_segments b here.segments here.stop here.is n (Some f) there in
    let same : Some e ≡ Some f = here.value ∙ sym other in cc

-- there are so many
entry_within : (b : List ℕ) (count n : ℕ) (r : Record) → HasCount b count → HasEntry b n (Some r) → (0 < n) × (n ≤ count)
entry_within b count n r counted entry =
    let es = entries (sizes_of b) 0 counted.segments in
    let x = entry_is es n r (in_segments b counted.segments counted.stop counted.is n (Some r) entry) in
    (x.0, omega (arith, x.0, slice_get_within es (n - 1) r x.1, counted.value))

pub entry_there : (b : List ℕ) (count n : ℕ) → HasCount b count → 0 < n → n ≤ count → HasEntry b n None → ⊥
entry_there b count n counted some within entry =
    let es = entries (sizes_of b) 0 counted.segments in
    let none = in_segments b counted.segments counted.stop counted.is n None entry in
    let d : Record = record { page = 0; at = 0 } in
    let there = slice_get-get_or es (n - 1) d (omega (arith, some, within, counted.value)) in
    let at = entry_some es n (omega (arith, some)) in
    let e = none ∙ at ∙ there in cc

-- the count is known
count_one : (b : List ℕ) (m n : ℕ) → HasCount b m → HasCount b n → m ≡ n
count_one b m n p q =
    p.value ∙ ap (λ l. length (entries (sizes_of b) 0 l)) (one_journal b p.segments q.segments p.stop.at q.stop.at p.stop.why q.stop.why p.is q.is).0 ∙ sym q.value

-- ---- the search

-- the records up to `low` stand before the place, and those above `high` behind it
pub record Sought (b : List ℕ) (at low high : ℕ) : Type 0 where
  pub within : (n : ℕ) → HasCount b n → high ≤ n
  pub below : (n : ℕ) (r : Record) → HasEntry b n (Some r) → n ≤ low → r.at < at
  pub above : (n : ℕ) (r : Record) → HasEntry b n (Some r) → high < n → at < r.at

pub sought_all : (b : List ℕ) (at count : ℕ) → HasCount b count → Sought b at 0 count
sought_all b at count counted = record {
  within = λ n other. omega (arith, count_one b count n counted other);
  below = λ n r entry le. absurd (omega (arith, (entry_within b count n r counted entry).0, le));
  above = λ n r entry less. absurd (omega (arith, (entry_within b count n r counted entry).1, less));
}

pub sought_behind : (b : List ℕ) (at low high number : ℕ) (e : Record) → Sought b at low high → HasEntry b number (Some e) → e.at < at → Sought b at number high
sought_behind b at low high number e s here before = record {
  within = s.within;
  below = λ n r entry le. ⊎_elim
      (λ less. omega (arith, entry_less b n number r e entry here less, before))
      (λ least. let same : n ≡ number = omega (arith, le, least) in
      let one = entry_one b number r e (subst (λ (k : ℕ). HasEntry b k (Some r)) same entry) here in
      omega (arith, ap (λ (x : Record). x.at) one, before)) (cases_lt n number);
  above = s.above;
}

pub sought_before : (b : List ℕ) (at low high middle : ℕ) (e : Record) → Sought b at low high → middle ≤ high → HasEntry b (middle + 1) (Some e) → at < e.at → Sought b at low middle
sought_before b at low high middle e s le here behind = record {
  within = λ n counted. omega (arith, s.within n counted, le);
  below = s.below;
  above = λ n r entry less. ⊎_elim
      (λ more. omega (arith, entry_less b (middle + 1) n e r here entry more, behind))
      (λ most. let same : n ≡ middle + 1 = omega (arith, less, most) in
      let one = entry_one b (middle + 1) r e (subst (λ (k : ℕ). HasEntry b k (Some r)) same entry) here in
      omega (arith, ap (λ (x : Record). x.at) one, behind)) (cases_lt (middle + 1) n);
}

pub sought_none : (b : List ℕ) (at low high : ℕ) → Sought b at low high → high ≤ low → IsRecordNumber b at None
sought_none b at low high s over n r entry same = ⊎_elim
    (λ below. omega (arith, s.above n r entry below, same))
    (λ above. omega (arith, s.below n r entry (omega (arith, above, over)), same)) (cases_lt high n)

-- ---- a journal of which only a front was read

-- what is said of the front is said of all of it
pub read_says : (b : List ℕ) (replay : Replay) (read : HasRead b replay) (es : List Record) (stop : Stop) → Says read.front es stop → Says b es stop
read_says b replay read es stop says = ⊎_elim
    (λ (whole : read.more ≡ []). subst (λ (l : List ℕ). Says l es stop) (sym (read.split ∙ ap (λ l. read.front ++ l) whole ∙ append-nil read.front)) says)
    (λ settled. subst (λ (l : List ℕ). Says l es stop) (sym read.split) (settled read.more es stop says)) read.rest

pub front_count : (b : List ℕ) (replay : Replay) (read : HasRead b replay) (n : ℕ) → HasCount read.front n → HasCount b n
front_count b replay read n counted =
    let says = read_says b replay read (entries (sizes_of read.front) 0 counted.segments) counted.stop (record { segments = counted.segments; is = counted.is; records = refl }) in
    record { segments = says.segments; stop = counted.stop; is = says.is; value = counted.value ∙ ap (λ l. length l) (sym says.records) }

pub front_entry : (b : List ℕ) (replay : Replay) (read : HasRead b replay) (n : ℕ) (o : Option Record) → HasEntry read.front n o → HasEntry b n o
front_entry b replay read n o entry =
    let says = read_says b replay read (entries (sizes_of read.front) 0 entry.segments) entry.stop (record { segments = entry.segments; is = entry.is; records = refl }) in
    record { segments = says.segments; stop = entry.stop; is = says.is; value = entry.value ∙ ap (λ l. entry_of l n) (sym says.records) }

entry_front : (b : List ℕ) (replay : Replay) (read : HasRead b replay) (count n : ℕ) (o : Option Record) → HasCount read.front count → HasEntry b n o → HasEntry read.front n o
entry_front b replay read count n o counted entry =
    let says = read_says b replay read (entries (sizes_of read.front) 0 counted.segments) counted.stop (record { segments = counted.segments; is = counted.is; records = refl }) in
    record {
      segments = counted.segments;
      stop = counted.stop;
      is = counted.is;
      value = in_segments b says.segments counted.stop says.is n o entry ∙ ap (λ l. entry_of l n) says.records;
    }

pub number_of_front : (b : List ℕ) (replay : Replay) (read : HasRead b replay) (count at : ℕ) (o : Option ℕ) → HasCount read.front count → IsRecordNumber read.front at o → IsRecordNumber b at o
number_of_front b replay read count at None counted none = λ n r entry. none n r (entry_front b replay read count n (Some r) counted entry)
number_of_front b replay read count at (Some n) counted found = (found.0, front_entry b replay read n (Some found.0) found.1, found.2)
