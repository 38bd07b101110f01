-- From any place on some segments are read.
use Rattle.rollcore.proofs.Below.{AreRecords, AreSegments, End, HasHeaderAt, HasMagic, Header, IsHeader, IsRecord, List, PageZero, Pages, Segment, Short, Sizes, StopsAtHeader, StopsAtRecord, Sum, Why, [], ap, arith, bytes_eq, bytes_eq-Decides, cases_Bool, cases_eq, cases_lt, inl, inr, length, magic, next_of, next_place, nonce_sum, not_from_Decides, part, record_len, records_end, refl, subst, suc, sym, to_the_end, word, zero, ℕ, ⊎_elim, ◌+◌, ◌<◌, ◌∷◌, ◌≡◌, ◌≤◌, ◌⊎◌}

-- ---- Tests.

pub magic_or : (w : List ℕ) (at : ℕ) → HasMagic w at ⊎ (HasMagic w at → ⊥)
magic_or w at = ⊎_elim
    (λ yes. inl ((bytes_eq-Decides (part w at 8) magic).0 yes))
    (λ no. inr (not_from_Decides (bytes_eq (part w at 8) magic) (bytes_eq-Decides (part w at 8) magic) no))
    (cases_Bool (bytes_eq (part w at 8) magic))

header_or : (z : Sizes) (w : List ℕ) (at : ℕ) → IsHeader z w at ⊎ (IsHeader z w at → ⊥)
header_or z w at = ⊎_elim
    (λ has. ⊎_elim (λ short. inr (λ is. omega (arith, is.whole))) (λ whole. inl (record { magic = has; whole = whole })) (cases_lt (length w) (at + z.sector)))
    (λ none. inr (λ is. none is.magic))
    (magic_or w at)

-- a journal ends where no header stands
pub stops_or : (z : Sizes) (w : List ℕ) (at : ℕ) → (IsHeader z w at → ⊥) → (why : Why) × StopsAtHeader z w at why
stops_or z w at none = ⊎_elim (λ more. (Header, (more, none))) (λ past. (End, past)) (cases_lt at (length w))

-- a record, or why there is none
record_or : (z : Sizes) (w : List ℕ) (count nonce at : ℕ) → ((r : ℕ × List ℕ) × IsRecord z w nonce at r) ⊎ ((why : Why) × StopsAtRecord z w count nonce at why)
record_or z w count nonce at = ⊎_elim
    (λ short. inr (⊎_elim
    (λ all. ⊎_elim
    (λ more. (Short, (λ _. more, short)))
    (λ past. (End, (all, past)))
    (cases_lt at (length w)))
    (λ some. (Short, (λ all. absurd (some all), short)))
    (cases_eq count to_the_end)))
    (λ whole. ⊎_elim
    (λ none. inr (PageZero, (whole, none)))
    (λ named. ⊎_elim
    (λ right. inl ((word w at, part w (at + 4) z.page), record { whole = whole; page = refl; named = named; content = refl; sum = right }))
    (λ wrong. inr (Sum, (whole, named, wrong)))
    (cases_eq (word w (at + 4 + z.page)) (nonce_sum nonce (part w (at + 4) z.page))))
    (cases_eq (word w at) 0))
    (cases_lt (length w) (at + record_len z))

-- ---- Records.

-- so many records, or fewer, and why there are no more
pub record Counted (z : Sizes) (w : List ℕ) (count nonce at n : ℕ) : Type 0 where
  pub records : Pages
  pub are : AreRecords z w nonce at records
  pub ends : (length records ≡ n) ⊎ ((length records < n) × ((why : Why) × StopsAtRecord z w count nonce (records_end z at records) why))

counted : (z : Sizes) (w : List ℕ) (count nonce at n : ℕ) → Counted z w count nonce at n
counted z w count nonce at zero = record { records = []; are = tt; ends = inl refl }
counted z w count nonce at (suc n) = ⊎_elim
    (λ found. let rest = counted z w count nonce (at + record_len z) n in record {
      records = found.0 ∷ rest.records;
      are = (found.1, rest.are);
      ends = ⊎_elim (λ all. inl (ap suc all)) (λ few. inr (let lt : length rest.records < n = few.0 in omega arith, few.1)) rest.ends;
    })
    (λ stop. record { records = []; are = tt; ends = inr (omega arith, stop) })
    (record_or z w count nonce at)

-- all records up to the end of the file
pub record Ended (z : Sizes) (w : List ℕ) (count nonce at : ℕ) : Type 0 where
  pub records : Pages
  pub are : AreRecords z w nonce at records
  pub why : Why
  pub stops : StopsAtRecord z w count nonce (records_end z at records) why

ended : (z : Sizes) (w : List ℕ) (count nonce at left : ℕ) → count ≡ to_the_end → length w < at + left → Ended z w count nonce at
ended z w count nonce at zero all short = record { records = []; are = tt; why = End; stops = (all, omega arith) }
ended z w count nonce at (suc left) all short = ⊎_elim
    (λ found. let rest = ended z w count nonce (at + record_len z) left all (omega arith) in record {
      records = found.0 ∷ rest.records;
      are = (found.1, rest.are);
      why = rest.why;
      stops = rest.stops;
    })
    (λ stop. record { records = []; are = tt; why = stop.0; stops = stop.1 })
    (record_or z w count nonce at)

-- ---- Segments.

pub record Read (z : Sizes) (w : List ℕ) (from : ℕ) : Type 0 where
  pub segments : List Segment
  pub at : ℕ
  pub why : Why
  pub are : AreSegments z w from segments at why

-- one segment, and what is read behind it
read_one : (z : Sizes) (w : List ℕ) (from count nonce : ℕ) → IsHeader z w from → count ≡ word w (from + 8) → nonce ≡ word w (from + 12)
    → ((records : Pages) → Read z w (next_place z from records)) → Read z w from
read_one z w from count nonce is c n rest = ⊎_elim
    (λ all. let has = ended z w count nonce (from + z.sector) (length w + 1) all (omega arith) in record {
      segments = record { count = count; nonce = nonce; records = has.records } ∷ [];
      at = records_end z (from + z.sector) has.records;
      why = has.why;
      are = (is, c, n, has.are, inr (λ other. absurd (other all), refl, refl, has.stops));
    })
    (λ other. let has = counted z w count nonce (from + z.sector) count in ⊎_elim
    (λ all. let more = rest has.records in record {
      segments = record { count = count; nonce = nonce; records = has.records } ∷ more.segments;
      at = more.at;
      why = more.why;
      are = (is, c, n, has.are, inl (record { counted = other; all = all }, more.are));
    })
    (λ few. record {
      segments = record { count = count; nonce = nonce; records = has.records } ∷ [];
      at = records_end z (from + z.sector) has.records;
      why = few.1.0;
      are = (is, c, n, has.are, inr (λ _. few.0, refl, refl, few.1.1));
    })
    has.ends)
    (cases_eq count to_the_end)

pub read : (z : Sizes) (w : List ℕ) (from left : ℕ) → 1 ≤ z.sector → length w < from + left → Read z w from
read z w from zero some short = record { segments = []; at = from; why = End; are = (refl, omega arith) }
read z w from (suc left) some short = ⊎_elim
    (λ is. read_one z w from (word w (from + 8)) (word w (from + 12)) is refl refl (λ records. read z w (next_place z from records) left some (omega (arith, next_of z from records some))))
    (λ none. let stop = stops_or z w from none in record { segments = []; at = from; why = stop.0; are = (refl, stop.1) })
    (header_or z w from)

-- a header that stands at a place is read there
pub read_header : (z : Sizes) (w : List ℕ) (from : ℕ) (r : Read z w from) → IsHeader z w from → 1 ≤ z.sector → HasHeaderAt z from r.segments from
read_header z w from r is some = by r.segments r.are
  where
    stops : (at : ℕ) (why : Why) → at ≡ from → StopsAtHeader z w at why → ⊥
    stops at End e stop = omega (arith, is.whole, stop)
    stops at Header e stop = stop.1 (subst (λ (n : ℕ). IsHeader z w n) (sym e) is)
    stops at Short e stop = stop
    stops at PageZero e stop = stop
    stops at Sum e stop = stop

    by : (segments : List Segment) → AreSegments z w from segments r.at r.why → HasHeaderAt z from segments from
    by [] are = absurd (stops r.at r.why are.0 are.1)
    by (s ∷ segments) are = inl refl
