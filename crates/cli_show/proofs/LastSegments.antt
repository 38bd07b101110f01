-- Where the last segment of a hot journal ends: behind its last record, or behind its header.
use Rattle.std.proofs.Common.{◌≡◌, ⊎_elim, inl, inr, ℕ, ◌+◌, ◌-◌, ◌*◌, ◌/◌, ◌^◌, ◌<◌, ◌≤◌, List, [], ◌∷◌, ◌++◌, length, refl, sym, ◌∙◌, ap, subst, arith}
use Rattle.std.specs.Prelude.{◌⊎◌, min, Option, None, Some, slice_get}
use Rattle.std.proofs.lemmas.Nat.{div-mul-add}
use Rattle.std.proofs.Math.Nat.{div-mul-le_self}
use Rattle.sqval.specs.Bytes.{AreBytes, word}
use Rattle.sqval.specs.Database.{Pages}
use Rattle.sqjournal.specs.Header.{next_header}
use Rattle.sqjournal.specs.Journal.{Segment, Sizes, sizes_of, record_len, records_end, IsHeader, IsRecord, AreRecords, StopsAtHeader, AreSegments, IsHot, IsJournal, placed, entries, entry_of}
use Rattle.sqjournal.specs.Slots.{IsRecordSlot}
use Rattle.sqjournal.specs.NonceSum.{nonce_sum}
use Rattle.sqjournal.specs.Took.{HasEntry, HasCount, StopsSo}
use Rattle.sqjournal.specs.declared.reading.Record.{Record}
use Rattle.sqjournal.specs.declared.reading.Why.{Why}
use Rattle.sqjournal.specs.declared.reading.Why.TheVariants.{End, Header, Short, PageZero, Sum}
use Rattle.sqjournal.specs.declared.replay.Replay.{Replay}
use Rattle.sqjournal.specs.declared.replay.Stop.{Stop}
use Rattle.sqjournal.proofs.read.JournalOfTakenBytes.{size_bounds}
use Rattle.sqjournal.proofs.read.BytesTakenByReplay.{entry_some}
use Rattle.sqjournal.proofs.read.UniquenessOfReading.{one_journal}
use Rattle.sqjournal.proofs.journal.DependenceOnPrefix.{word_part}
use Rattle.sqjournal.specs.declared.slots.RecordSlot.{RecordSlot}
use Rattle.sqwal.proofs.log.LogWithAppendedFrame.{word_fits}
use Rattle.sqview.specs.Laid.{part_or_zeros}
use Rattle.sqview.specs.Logs.{HasRead}
use Rattle.sqview.proofs.file.FileHeads.{part_is}
use Rattle.cli_show.specs.Behind.{EndsLast, EndsSegments}
use Rattle.cli_show.specs.internal.Behind.{EndsBare, IsLastPlace, IsLastRecord}
use Rattle.cli_show.proofs.LinesBehind.{nonce_is}
use Rattle.cli_show.proofs.RecordPlaces.{count_of, front_count, front_entry, in_segments, next_above, read_says}

-- ---- the last of records

-- the last of these, or the one before them
abbrev last_of : Option Record → List Record → Option Record
last_of o [] = o
last_of o (e ∷ es) = last_of (Some e) es

last_append : (o : Option Record) (es fs : List Record) → last_of o (es ++ fs) ≡ last_of (last_of o es) fs
last_append o [] fs = refl
last_append o (e ∷ es) fs = last_append (Some e) es fs

last_get : (o : Option Record) (e : Record) (es : List Record) → slice_get (e ∷ es) (length es) ≡ last_of o (e ∷ es)
last_get o e [] = refl
last_get o e (f ∷ fs) = last_get (Some e) f fs

-- the entry of the number that there are
last_entry : (es : List Record) → entry_of es (length es) ≡ last_of None es
last_entry [] = refl
last_entry (e ∷ es) =
    let at = entry_some (e ∷ es) (length (e ∷ es)) (λ z. omega (arith, z)) in
    let back : length (e ∷ es) - 1 ≡ length es = omega arith in
    at ∙ ap (λ (n : ℕ). slice_get (e ∷ es) n) back ∙ last_get None e es

-- the last record stands here, before the end of its segment
pub record LastOne (z : Sizes) (b : List ℕ) (o : Option Record) (nonce end : ℕ) : Type 0 where
  pub one : Record
  pub page : ℕ × List ℕ
  pub is : o ≡ Some one
  pub behind : 4 ≤ one.at
  pub ends : one.at - 4 + record_len z ≡ end
  pub stands : IsRecord z b nonce (one.at - 4) page

last_placed : (z : Sizes) (b : List ℕ) (nonce at : ℕ) (r : ℕ × List ℕ) (rs : Pages) (o : Option Record) → AreRecords z b nonce at (r ∷ rs)
    → LastOne z b (last_of o (placed z at (r ∷ rs))) nonce (records_end z at (r ∷ rs))
last_placed z b nonce at r [] o are =
    let back : at ≡ at + 4 - 4 = omega arith in
    record {
      one = record { page = r.0; at = at + 4 };
      page = r;
      is = refl;
      behind = omega arith;
      ends = omega arith;
      stands = subst (λ (n : ℕ). IsRecord z b nonce n r) back are.0;
    }
last_placed z b nonce at r (s ∷ rs) o are = last_placed z b nonce (at + record_len z) s rs (Some (record { page = r.0; at = at + 4 })) are.1

-- the last record before a place ends no further
abbrev Below : Sizes → Option Record → (place : ℕ) → Type 0
Below z o place = (r : Record) → o ≡ Some r → r.at - 4 + record_len z ≤ place

below_records : (z : Sizes) (b : List ℕ) (nonce from at : ℕ) (rs : Pages) (o : Option Record) → Below z o from → from ≤ at → AreRecords z b nonce at rs
    → Below z (last_of o (placed z at rs)) (records_end z at rs)
below_records z b nonce from at [] o below le are = λ r is. omega (arith, below r is, le)
below_records z b nonce from at (p ∷ rs) o below le are = λ r is.
    let l = last_placed z b nonce at p rs o are in
    let both : Some l.one ≡ Some r = sym l.is ∙ is in
    let same : l.one ≡ r = cc in
    omega (arith, l.ends, ap (λ (x : Record). x.at) same)

-- ---- the next header

next_below : (sector end : ℕ) → 0 < sector → next_header sector end < end + sector
next_below sector end some = omega (arith, div-mul-le_self (end + sector - 1) sector)

next_same : (sector k end : ℕ) → 0 < sector → end ≡ k * sector → next_header sector end ≡ end
next_same sector k end some is =
    let e : end + sector - 1 ≡ k * sector + (sector - 1) = omega (arith, is) in
    ap (λ (n : ℕ). n / sector * sector) e ∙ ap (λ (n : ℕ). n * sector) (div-mul-add k sector (sector - 1) (omega arith)) ∙ sym is

-- ---- the last segment

-- it has no record: its header stands before the stop
pub record Bare (z : Sizes) (b : List ℕ) (o : Option Record) (at end nonce : ℕ) : Type 0 where
  pub here : at ≡ end
  pub sector : z.sector ≤ at
  pub whole : at ≤ length b
  pub named : nonce ≡ word b (at - z.sector + 12)
  pub behind : (r : Record) → o ≡ Some r → r.at - 4 + record_len z + z.sector ≤ at

-- it has some: the last one stands less than a sector before the stop
pub record Kept (z : Sizes) (b : List ℕ) (o : Option Record) (at end nonce : ℕ) : Type 0 where
  pub last : LastOne z b o nonce end
  pub least : end ≤ at
  pub most : at < end + z.sector

-- one of both
pub record Found (z : Sizes) (b : List ℕ) (o : Option Record) (from : ℕ) (ss : List Segment) (at : ℕ) : Type 0 where
  pub end : ℕ
  pub nonce : ℕ
  pub last : EndsLast z from ss end nonce
  pub place : ℕ
  pub named : nonce ≡ word b place
  pub before : Kept z b o at end nonce ⊎ Bare z b o at end nonce

before_stop : (z : Sizes) (b : List ℕ) (from k nonce at : ℕ) (rs : Pages) (o : Option Record) → 0 < z.sector → from ≡ k * z.sector → Below z o from
    → IsHeader z b from → nonce ≡ word b (from + 12) → AreRecords z b nonce (from + z.sector) rs
    → (at ≡ records_end z (from + z.sector) rs) ⊎ (at ≡ next_header z.sector (records_end z (from + z.sector) rs))
    → let end = records_end z (from + z.sector) rs in let last = last_of o (placed z (from + z.sector) rs) in Kept z b last at end nonce ⊎ Bare z b last at end nonce
before_stop z b from k nonce at [] o some multiple below header named are stop =
    let next : from + z.sector ≡ (k + 1) * z.sector = omega (arith, multiple) in
    let here : at ≡ from + z.sector = ⊎_elim (λ (e : at ≡ from + z.sector). e) (λ (e : at ≡ next_header z.sector (from + z.sector)). e ∙ next_same z.sector (k + 1) (from + z.sector) some next) stop in
    let back : from ≡ at - z.sector = omega (arith, here) in
    inr (record {
      here = here;
      sector = omega (arith, here);
      whole = omega (arith, here, header.whole);
      named = named ∙ ap (λ (n : ℕ). word b (n + 12)) back;
      behind = λ r is. omega (arith, here, below r is);
    })
before_stop z b from k nonce at (p ∷ rs) o some multiple below header named are stop =
    let end = records_end z (from + z.sector) (p ∷ rs) in
    let above = next_above z.sector end some in
    let near = next_below z.sector end some in
    inl (record {
      last = last_placed z b nonce (from + z.sector) p rs o are;
      least = ⊎_elim (λ (e : at ≡ end). omega (arith, e)) (λ (e : at ≡ next_header z.sector end). omega (arith, e, above)) stop;
      most = ⊎_elim (λ (e : at ≡ end). omega (arith, e, some)) (λ (e : at ≡ next_header z.sector end). omega (arith, e, near)) stop;
    })

last_found : (z : Sizes) (b : List ℕ) (from k at : ℕ) (why : Why) (s : Segment) (ss : List Segment) (o : Option Record) → 0 < z.sector → from ≡ k * z.sector
    → Below z o from → AreSegments z b from (s ∷ ss) at why → Found z b (last_of o (entries z from (s ∷ ss))) from (s ∷ ss) at
last_found z b from k at why s [] o some multiple below are =
    let first = from + z.sector in
    let end = records_end z first s.records in
    let here = placed z first s.records in
    let stop : (at ≡ end) ⊎ (at ≡ next_header z.sector end) = ⊎_elim (λ all. inr all.1.0) (λ few. inl few.2) are.4 in
    let before = before_stop z b from k s.nonce at s.records o some multiple below are.0 are.2 are.3 stop in
    record {
      end = end;
      nonce = s.nonce;
      last = (refl, refl);
      place = from + 12;
      named = are.2;
      before = subst (λ (p : Option Record). Kept z b p at end s.nonce ⊎ Bare z b p at end s.nonce) (sym (last_append o here [])) before;
    }
last_found z b from k at why s (t ∷ us) o some multiple below are =
    let first = from + z.sector in
    let end = records_end z first s.records in
    let here = placed z first s.records in
    let next = next_header z.sector end in
    ⊎_elim
    (λ all.
    let ends = below_records z b s.nonce from first s.records o below (omega arith) are.3 in
    let f = last_found z b next ((end + z.sector - 1) / z.sector) at why t us (last_of o here) some refl
    (λ r is. omega (arith, ends r is, next_above z.sector end some)) all.1 in
    record {
      end = f.end;
      nonce = f.nonce;
      last = f.last;
      place = f.place;
      named = f.named;
      before = subst (λ (p : Option Record). Kept z b p at f.end f.nonce ⊎ Bare z b p at f.end f.nonce) (sym (last_append o here (entries z next (t ∷ us)))) f.before;
    })
    (λ few. absurd (let none : t ∷ us ≡ [] = few.1 in cc)) are.4

-- ---- a hot journal

no_stop : (z : Sizes) (b : List ℕ) (at : ℕ) (why : Why) → IsHeader z b at → 0 < z.sector → StopsAtHeader z b at why → ⊥
no_stop z b at End is some stops = omega (arith, is.whole, stops)
no_stop z b at Header is some stops = stops.1 is
no_stop z b at Short is some stops = stops
no_stop z b at PageZero is some stops = stops
no_stop z b at Sum is some stops = stops

hot_found : (b : List ℕ) (at : ℕ) (why : Why) (ss : List Segment) → IsHot b → AreSegments (sizes_of b) b 0 ss at why
    → Found (sizes_of b) b (last_of None (entries (sizes_of b) 0 ss)) 0 ss at
hot_found b at why [] hot are =
    let size = size_bounds (word b 20) hot.first.sector in
    let header : IsHeader (sizes_of b) b 0 = record { magic = hot.first.magic; whole = omega (arith, hot.whole) } in
    absurd (no_stop (sizes_of b) b 0 why header (omega (arith, size.0)) (subst (λ (n : ℕ). StopsAtHeader (sizes_of b) b n why) are.0 are.1))
hot_found b at why (s ∷ ss) hot are =
    let size = size_bounds (word b 20) hot.first.sector in
    last_found (sizes_of b) b 0 0 at why s ss None (omega (arith, size.0)) (omega arith) (λ r is. let no : None ≡ Some r = is in cc) are

-- the stop of a journal, and what stands before it
pub record Stopped (b : List ℕ) (o : Option Record) (stop : Stop) : Type 0 where
  pub segments : List Segment
  pub is : IsJournal b segments stop.at stop.why
  pub found : Found (sizes_of b) b o 0 segments stop.at

stopped_at : (b : List ℕ) (count : ℕ) (o : Option Record) (ss : List Segment) (stop : Stop) → IsHot b → HasCount b count → HasEntry b count o → IsJournal b ss stop.at stop.why → Stopped b o stop
stopped_at b count o ss stop hot counted entry is =
    let es = entries (sizes_of b) 0 ss in
    let many = count_of b ss stop is count counted in
    let one = in_segments b ss stop is count o entry in
    let last : o ≡ last_of None es = one ∙ ap (λ (n : ℕ). entry_of es n) many ∙ last_entry es in
    let are = ⊎_elim (λ (h : IsHot b × AreSegments (sizes_of b) b 0 ss stop.at stop.why). h.1) (λ cold. absurd (cold.0 hot)) is in
    record {
      segments = ss;
      is = is;
      found = subst (λ (p : Option Record). Found (sizes_of b) b p 0 ss stop.at) (sym last) (hot_found b stop.at stop.why ss hot are);
    }

-- the journal of which a front was read ends there
pub journal_stop : (b : List ℕ) (replay : Replay) (read : HasRead b replay) (stop : Stop) → StopsSo read.front stop → (ss : List Segment) × IsJournal b ss stop.at stop.why
journal_stop b replay read stop stops =
    let says = read_says b replay read (entries (sizes_of read.front) 0 stops.segments) stop (record { segments = stops.segments; is = stops.is; records = refl }) in
    (says.segments, says.is)

pub stopped : (b : List ℕ) (replay : Replay) (read : HasRead b replay) (count : ℕ) (o : Option Record) (stop : Stop) → IsHot b → HasCount read.front count
    → HasEntry read.front count o → StopsSo read.front stop → Stopped b o stop
stopped b replay read count o stop hot counted entry stops =
    let j = journal_stop b replay read stop stops in
    stopped_at b count o j.0 stop hot (front_count b replay read count counted) (front_entry b replay read count o entry) j.1

-- ---- the place of the last record

bare_place : (b : List ℕ) (o : Option Record) (stop : Stop) (s : Stopped b o stop) → IsHot b → Bare (sizes_of b) b o stop.at s.found.end s.found.nonce → IsLastPlace b None
bare_place b o stop s hot bare = λ ss at why is.
    let same : at ≡ stop.at = (one_journal b ss s.segments at stop.at why stop.why is s.is).1 in
    let size = size_bounds (word b 20) hot.first.sector in
    let ends : EndsSegments b stop.at (word b (stop.at - word b 20 + 12)) = record {
      segments = s.segments;
      stop = stop;
      is = s.is;
      last = subst (λ (n : ℕ). EndsLast (sizes_of b) 0 s.segments n (word b (stop.at - word b 20 + 12))) (sym bare.here)
          (subst (λ (n : ℕ). EndsLast (sizes_of b) 0 s.segments s.found.end n) bare.named s.found.last);
    } in
    subst (λ (n : ℕ). EndsBare b n) (sym same) (record { sector = bare.sector; least = size.0; whole = bare.whole; ends = ends })

-- no record passed
pub no_place : (b : List ℕ) (replay : Replay) (read : HasRead b replay) (count : ℕ) (o : Option Record) → o ≡ None → IsHot b → HasCount read.front count → HasEntry read.front count o → IsLastPlace b None
no_place b replay read count o none hot counted entry = λ ss at why is.
    let stop : Stop = record { at = at; why = why } in
    let s = stopped_at b count o ss stop hot (front_count b replay read count counted) (front_entry b replay read count o entry) is in
    ⊎_elim
    (λ (kept : Kept (sizes_of b) b o at s.found.end s.found.nonce). let is_some : o ≡ Some kept.last.one = kept.last.is in absurd (cc))
    (λ bare. bare_place b o stop s hot bare ss at why is) s.found.before

module _ (b : List ℕ) (e : Record) (stop : Stop) (size sector place end : ℕ) (hot : IsHot b) (size_is : size ≡ word b 24) (sector_is : sector ≡ word b 20)
    (place_is : place ≡ e.at - 4) (end_is : end ≡ min (place + (size + 8)) (2 ^ 64 - 1)) (fits : stop.at < 2 ^ 64) (s : Stopped b (Some e) stop) where
  -- the last one is of the last segment
  pub near_place : stop.at - end < sector → IsLastPlace b (Some place)
  near_place near = ⊎_elim
      (λ (kept : Kept (sizes_of b) b (Some e) stop.at s.found.end s.found.nonce).
      let is : Some e ≡ Some kept.last.one = kept.last.is in
      let same : e ≡ kept.last.one = cc in
      let at : kept.last.one.at - 4 ≡ place = omega (arith, ap (λ (r : Record). r.at) same, place_is) in
      let ends : s.found.end ≡ place + (word b 24 + 8) = omega (arith, at, kept.last.ends) in
      let stands = subst (λ (n : ℕ). IsRecord (sizes_of b) b s.found.nonce n kept.last.page) at kept.last.stands in
      record {
        nonce = s.found.nonce;
        ends = record {
          segments = s.segments;
          stop = stop;
          is = s.is;
          last = subst (λ (n : ℕ). EndsLast (sizes_of b) 0 s.segments n s.found.nonce) ends s.found.last;
        };
        fits = omega (arith, ends, kept.least, fits);
        whole = stands.whole;
        follows = stands.sum ∙ ap (λ (l : List ℕ). nonce_sum s.found.nonce l) stands.content;
        from = s.found.place;
        named = s.found.named;
      })
      (λ (bare : Bare (sizes_of b) b (Some e) stop.at s.found.end s.found.nonce).
      absurd (omega (arith, bare.behind e refl, near, size_is, sector_is, place_is, end_is, fits))) s.found.before

  -- a header without a record lies behind it
  pub far_place : sector ≤ stop.at - end → IsLastPlace b None
  far_place far = ⊎_elim
      (λ (kept : Kept (sizes_of b) b (Some e) stop.at s.found.end s.found.nonce).
      let is : Some e ≡ Some kept.last.one = kept.last.is in
      let same : e ≡ kept.last.one = cc in
      absurd (omega (arith, ap (λ (r : Record). r.at) same, kept.last.ends, kept.least, kept.most, far, size_is, sector_is, place_is, end_is, fits)))
      (λ bare. bare_place b (Some e) stop s hot bare) s.found.before

-- ---- the end and the nonce

-- a place that isn't one of a record
pub default_none : (b : List ℕ) (place : Option ℕ) → ((p : ℕ) → place ≡ Some p → ⊥) → IsLastPlace b place → IsLastPlace b None
default_none b None none is = is
default_none b (Some p) none is = absurd (none p refl)

-- behind the last record, whose nonce is that of its segment
pub behind_record : (b : List ℕ) (size place end length_of : ℕ) (slot : RecordSlot) → AreBytes b → IsLastRecord b place → size ≡ word b 24 → IsRecordSlot size b place slot
    → length_of ≡ size + 8 → end ≡ min (place + length_of) (2 ^ 64 - 1) → EndsSegments b end slot.nonce
behind_record b size place end length_of slot bytes last size_is is long end_is =
    let fits : last.nonce < 2 ^ 32 = subst (λ (n : ℕ). n < 2 ^ 32) (sym last.named) (word_fits b last.from bytes) in
    let same : last.nonce ≡ slot.nonce = nonce_is (word b 24) last.nonce b place slot fits (subst (λ (n : ℕ). IsRecordSlot n b place slot) size_is is) last.follows in
    let there : place + (word b 24 + 8) ≡ end = omega (arith, last.fits, size_is, long, end_is) in
    subst (λ (n : ℕ). EndsSegments b n slot.nonce) there (subst (λ (n : ℕ). EndsSegments b (place + (word b 24 + 8)) n) same last.ends)

-- behind a header, whose nonce was read
pub behind_header : (b head : List ℕ) (at place sector nonce : ℕ) → EndsBare b at → sector ≡ word b 20 → place ≡ at - sector → head ≡ part_or_zeros 16 place b → nonce ≡ word head 12
    → EndsSegments b at nonce
behind_header b head at place sector nonce bare sector_is place_is read is =
    let within : place + 16 ≤ length b = omega (arith, bare.sector, bare.least, bare.whole, sector_is, place_is) in
    let there : place + 12 ≡ at - word b 20 + 12 = omega (arith, sector_is, place_is) in
    let same : word b (at - word b 20 + 12) ≡ nonce =
    ap (λ (n : ℕ). word b n) (sym there) ∙ sym (word_part b place 16 12 (omega arith)) ∙ ap (λ (l : List ℕ). word l 12) (sym (read ∙ part_is 16 place b within)) ∙ sym is in
    subst (λ (n : ℕ). EndsSegments b at n) same bare.ends
