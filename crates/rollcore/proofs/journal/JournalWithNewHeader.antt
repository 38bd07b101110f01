-- A log that journals pages does so while nothing below the next header changes; and once the header of a segment stands, it journals that too.
use Rattle.rollcore.proofs.Below.{AreAll, AreFull, AreRecords, AreSegments, AreWhole, Contains, Contains-push_cases, Database, HasHeaderAt, HasMagic, HasParts, IsHeader, IsHeaderOf, IsHot, IsJournal, IsJournaled, IsPageSize, IsPrepared, JournalHeader, List, Names, Pages, SameBelow, Segment, Sizes, StandsWhole, Tells, [], all_records, ap, append-nil, append_assoc, arith, cases_eq, cases_lt, drop, end_within, full_begun, full_header, full_join, full_kept, full_more, full_none, get_or, get_or-drop, get_or-take, header_bytes, hot_long, inl, inr, is_page_size, length, length-map, map-append, next_of, next_place, old_pages, one_of, page, part, part_at, part_front, records_kept, refl, size_bounds, sizes, sizes_of, subst, suc, sym, word, word_at, ℕ, ⊎_elim, ◌++◌, ◌+◌, ◌-◌, ◌<◌, ◌∙◌, ◌∷◌, ◌≡◌, ◌≤◌, ◌⊎◌}
use Rattle.rollcore.proofs.journal.SegmentsFromAnyPlace.{magic_or, read, read_header}
use Rattle.rollcore.proofs.journal.RecordAndHeaderBytes.{gate_same}

-- ---- Records of several segments.

all_more : (segments : List Segment) (s : Segment) → all_records (segments ++ s ∷ []) ≡ all_records segments ++ s.records
all_more [] s = append-nil s.records
all_more (x ∷ segments) s = ap (λ (l : Pages). x.records ++ l) (all_more segments s) ∙ sym (append_assoc x.records (all_records segments) s.records)

old_more : (d : Database) (named part : List ℕ) → old_pages d (named ++ part) ≡ old_pages d named ++ old_pages d part
old_more d named part = map-append (λ (p : ℕ). (p, page d p)) named part

pub old_none : (d : Database) (named : List ℕ) → [] ≡ old_pages d named → named ≡ []
old_none d [] e = refl
old_none d (p ∷ named) e = absurd (let len : 0 ≡ suc (length (old_pages d named)) = ap (λ (l : Pages). length l) e in omega arith)

-- ---- Whether a journal is hot.

size_or : (n : ℕ) → IsPageSize n ⊎ (IsPageSize n → ⊥)
size_or n =
    ⊎_elim (λ e. inl (is_page_size n (inl e))) (λ n1.
    ⊎_elim (λ e. inl (is_page_size n (inr (inl e)))) (λ n2.
    ⊎_elim (λ e. inl (is_page_size n (inr (inr (inl e))))) (λ n3.
    ⊎_elim (λ e. inl (is_page_size n (inr (inr (inr (inl e)))))) (λ n4.
    ⊎_elim (λ e. inl (is_page_size n (inr (inr (inr (inr (inl e))))))) (λ n5.
    ⊎_elim (λ e. inl (is_page_size n (inr (inr (inr (inr (inr (inl e)))))))) (λ n6.
    ⊎_elim (λ e. inl (is_page_size n (inr (inr (inr (inr (inr (inr (inl e))))))))) (λ n7.
    ⊎_elim (λ e. inl (is_page_size n (inr (inr (inr (inr (inr (inr (inr e))))))))) (λ n8.
    inr (λ is. ⊎_elim n1 (⊎_elim n2 (⊎_elim n3 (⊎_elim n4 (⊎_elim n5 (⊎_elim n6 (⊎_elim n7 n8)))))) (one_of n is))
    ) (cases_eq n 65536)) (cases_eq n 32768)) (cases_eq n 16384)) (cases_eq n 8192)) (cases_eq n 4096)) (cases_eq n 2048)) (cases_eq n 1024)) (cases_eq n 512)

pub hot_or : (w : List ℕ) → IsHot w ⊎ (IsHot w → ⊥)
hot_or w = ⊎_elim
    (λ has. ⊎_elim
    (λ sector. ⊎_elim
    (λ size. ⊎_elim
    (λ short. inr (λ hot. omega (arith, hot.whole)))
    (λ whole. inl (record { first = record { magic = has; sector = sector; size = size }; whole = whole }))
    (cases_lt (length w) (word w 20)))
    (λ none. inr (λ hot. none hot.first.size))
    (size_or (word w 24)))
    (λ none. inr (λ hot. none hot.first.sector))
    (size_or (word w 20)))
    (λ none. inr (λ hot. none hot.first.magic))
    (magic_or w 0)

make_sizes : (sector page : ℕ) → Sizes
make_sizes sector page = record { sector = sector; page = page }

-- the words of the first header
pub record NamesFirst (size sector : ℕ) (d : Database) (w : List ℕ) : Type 0 where
  pub count : word w 16 ≡ length d
  pub sector_is : word w 20 ≡ sector
  pub size_is : word w 24 ≡ size

pub sizes_are : (size sector : ℕ) (d : Database) (w : List ℕ) → NamesFirst size sector d w → sizes sector size ≡ sizes_of w
unfolding make_sizes
sizes_are size sector d w names = ap (λ (x : ℕ). make_sizes x size) (sym names.sector_is) ∙ ap (make_sizes (word w 20)) (sym names.size_is)

pub begun_hot : (size sector : ℕ) (d : Database) (w : List ℕ) → IsPageSize sector → IsPageSize size → IsHeader (sizes sector size) w 0 → NamesFirst size sector d w → IsHot w
begun_hot size sector d w sectors pages header names = record {
  first = record { magic = header.magic; sector = subst IsPageSize (sym names.sector_is) sectors; size = subst IsPageSize (sym names.size_is) pages };
  whole = omega (arith, header.whole, names.sector_is);
}

-- ---- While nothing below the place of the next header changes.

pub parts_kept : (z : Sizes) (w v : List ℕ) (place : ℕ) → 512 ≤ z.sector → SameBelow (place + 8) w v → (parts : List (ℕ × Pages)) → HasParts z w place parts → HasParts z v place parts
parts_kept z w v place some same parts has = (has.0, full_kept z w v 0 has.0 place some (λ i _ lt _. same.each i (omega arith)) same.long has.1, has.2)

module _ (size sector : ℕ) (d : Database) (some : 512 ≤ sector) (named : List ℕ) (place : ℕ) (w v : List ℕ) (is : IsJournaled size sector d named place w) where
  begun : 0 < place → (sector ≤ place) × IsHeader (sizes sector size) w 0
  begun above = full_begun (sizes sector size) w is.segments place (omega arith) is.are above

  -- the bytes of the first header's padding may change
  abbrev Same : Type 0
  Same = (i : ℕ) → i < place → (i < 28) ⊎ (sector ≤ i) → get_or v i 0 ≡ get_or w i 0

  kept_names : Same → length w ≤ length v → 0 < place → NamesFirst size sector d v
  kept_names same long above =
      let b = begun above in
      let n = is.begun above in
      let first : sector ≤ length w = omega (arith, b.1.whole) in
      let here : (k : ℕ) → k + 4 ≤ 28 → word v k ≡ word w k = λ k le. word_at v w k k (omega (arith, b.0)) (omega arith) (λ i lt. same (k + i) (omega (arith, b.0)) (inl (omega arith))) in
      record { count = here 16 (omega arith) ∙ n.0; sector_is = here 20 (omega arith) ∙ n.1; size_is = here 24 (omega arith) ∙ n.2 }

  kept_full : Same → length w ≤ length v → AreFull (sizes sector size) v 0 is.segments place
  kept_full same long = full_kept (sizes sector size) w v 0 is.segments place some (λ i a b c. same i b (⊎_elim (λ lt. inl (omega arith)) (λ le. inr (omega arith)) c)) long is.are

  kept : Same → length w ≤ length v → (HasMagic v place → ⊥) → IsJournaled size sector d named place v
  kept same long ends =
      let names : 0 < place → NamesFirst size sector d v = kept_names same long in
      record {
        segments = is.segments;
        are = kept_full same long;
        records = is.records;
        ends = ends;
        begun = λ above. let n = names above in (n.count, n.sector_is, n.size_is);
      }

  pub journaled_same : SameBelow (place + 8) w v → IsJournaled size sector d named place v
  journaled_same same = kept (λ i lt _. same.each i (omega arith)) same.long (gate_same w v place (λ j lt. same.each (place + j) (omega arith)) is.ends)

  pub journaled_front : ((i : ℕ) → (i < 28) ⊎ (sector ≤ i) → get_or v i 0 ≡ get_or w i 0) → length w ≤ length v → IsJournaled size sector d named place v
  journaled_front same long = kept (λ i lt at. same i at) long (gate_same w v place (λ j lt. same (place + j) (⊎_elim
      (λ zero. inl (omega arith))
      (λ more. inr (let b = begun (omega arith) in omega (arith, b.0)))
      (cases_eq place 0))) is.ends)

-- ---- A header is written behind the segments that stand.

module _ (size sector : ℕ) (d : Database) (sectors : IsPageSize sector) (pages : IsPageSize size) (named more : List ℕ) (nonce place : ℕ) (h : JournalHeader) (w v : List ℕ)
    (few : length more ≤ 64) (of : IsHeaderOf size sector d more nonce h) (names : Names (header_bytes h) h) (is : IsPrepared size sector d named more nonce place w)
    (same : (i : ℕ) → (i < place) ⊎ (place + sector ≤ i) → get_or v i 0 ≡ get_or w i 0) (long : length w ≤ length v) where
  some : 512 ≤ sector
  some = (size_bounds sector sectors).0

  -- below the place nothing has changed
  front : (i : ℕ) → i < place → (i < 28) ⊎ (sector ≤ i) → get_or v i 0 ≡ get_or w i 0
  front i lt _ = same i (inl lt)

  segments_kept : AreFull (sizes sector size) v 0 is.journaled.segments place
  segments_kept = kept_full size sector d some named place w v is.journaled front long

  names_kept : 0 < place → NamesFirst size sector d v
  names_kept = kept_names size sector d some named place w v is.journaled front long

  -- the 28 bytes of the header stand at the place
  abbrev Stands : Type 0
  Stands = (j : ℕ) → j < 28 → get_or v (place + j) 0 ≡ get_or (header_bytes h) j 0

  header_word : Stands → place + 28 ≤ length v → (k : ℕ) → k + 4 ≤ 28 → word v (place + k) ≡ word (header_bytes h) k
  header_word stands whole k le =
      let len : length (header_bytes h) ≡ 28 = refl in
      word_at v (header_bytes h) (place + k) k (omega arith) (omega arith)
      (λ i lt. ap (λ (j : ℕ). get_or v j 0) (let e : place + k + i ≡ place + (k + i) = omega arith in e) ∙ stands (k + i) (omega arith))

  header_new : Stands → place + sector ≤ length v → IsHeader (sizes sector size) v place
  unfolding some
  header_new stands whole =
      let len : length (header_bytes h) ≡ 28 = refl in
      let least : 512 ≤ sector = some in
      record {
        magic = part_at v (header_bytes h) place 0 8 (omega arith) (omega arith) (λ i lt. stands i (omega arith) ∙ ap (λ (j : ℕ). get_or (header_bytes h) j 0) (let e : i ≡ 0 + i = omega arith in e));
        whole = whole;
      }

  names_header : Stands → place + 28 ≤ length v → place ≡ 0 → NamesFirst size sector d v
  names_header stands whole zero =
      let here : (k : ℕ) → k + 4 ≤ 28 → word v k ≡ word (header_bytes h) k = λ k le. ap (λ (j : ℕ). word v j) (let e : k ≡ place + k = omega arith in e) ∙ header_word stands whole k le in
      record {
        count = here 16 (omega arith) ∙ sym names.first_size ∙ of.first_size;
        sector_is = here 20 (omega arith) ∙ sym names.sector ∙ of.sector_is;
        size_is = here 24 (omega arith) ∙ sym names.size ∙ of.page_size;
      }

  names_new : Stands → place + 28 ≤ length v → NamesFirst size sector d v
  names_new stands whole = ⊎_elim (λ zero. names_header stands whole zero) (λ other. names_kept (omega arith)) (cases_eq place 0)

  all_new : AreAll h.count (old_pages d more)
  all_new = record { counted = λ e. omega (arith, of.count, e); all = length-map more (λ (p : ℕ). (p, page d p)) ∙ sym of.count }

  records_new : place + sector ≤ length v → AreRecords (sizes sector size) v nonce (place + sector) (old_pages d more)
  records_new whole = records_kept (sizes sector size) w v nonce (place + sector) (old_pages d more) (λ i a b. same i (inr a))
      (end_within (sizes sector size) w nonce (place + sector) (old_pages d more) (length v) whole long is.records) is.records

  -- the new segment
  abbrev added : Segment
  added = record { count = h.count; nonce = nonce; records = old_pages d more }

  -- it stands behind these
  stands_behind : (segments : List Segment) → AreFull (sizes sector size) v 0 segments place → Stands → place + sector ≤ length v
      → AreFull (sizes sector size) v 0 (segments ++ added ∷ []) (next_place (sizes sector size) place (old_pages d more))
  unfolding some
  stands_behind segments full stands whole =
      let least : 512 ≤ sector = some in
      full_more (sizes sector size) v 0 segments place added full (header_new stands whole)
      (names.count ∙ sym (header_word stands (omega arith) 8 (omega arith)))
      (sym of.nonce_is ∙ names.nonce ∙ sym (header_word stands (omega arith) 12 (omega arith)))
      (records_new whole) all_new

  pub part_new : ((j : ℕ) → j < 28 → get_or v (place + j) 0 ≡ get_or (header_bytes h) j 0) → place + sector ≤ length v
      → (parts : List (ℕ × Pages)) → HasParts (sizes sector size) w place parts → HasParts (sizes sector size) v (next_place (sizes sector size) place (old_pages d more)) (parts ++ (nonce, old_pages d more) ∷ [])
  part_new stands whole parts has = (
    has.0 ++ added ∷ [],
    stands_behind has.0 (full_kept (sizes sector size) w v 0 has.0 place some (λ i _ lt _. same i (inl lt)) long has.1) stands whole,
    map-append (λ (s : Segment). (s.nonce, s.records)) has.0 (added ∷ []) ∙ ap (λ (l : List (ℕ × Pages)). l ++ (nonce, old_pages d more) ∷ []) has.2,
  )

  -- the header stands whole
  pub headed_new : ((j : ℕ) → j < 28 → get_or v (place + j) 0 ≡ get_or (header_bytes h) j 0) → place + sector ≤ length v
      → IsJournaled size sector d (named ++ more) (next_place (sizes sector size) place (old_pages d more)) v
  unfolding some
  headed_new stands whole =
      let least : 512 ≤ sector = some in
      let behind : place + sector ≤ next_place (sizes sector size) place (old_pages d more) = next_of (sizes sector size) place (old_pages d more) (omega arith) in
      record {
        segments = is.journaled.segments ++ added ∷ [];
        are = stands_behind is.journaled.segments segments_kept stands whole;
        records = all_more is.journaled.segments added ∙ ap (λ (l : Pages). l ++ old_pages d more) is.journaled.records ∙ sym (old_more d named more);
        ends = gate_same w v (next_place (sizes sector size) place (old_pages d more)) (λ j lt. same (next_place (sizes sector size) place (old_pages d more) + j) (inr (omega arith))) is.ends;
        begun = λ above. let n = names_new stands (omega arith) in (n.count, n.sector_is, n.size_is);
      }

  -- at the front nothing is named yet
  none_named : place ≡ 0 → named ≡ []
  unfolding some
  none_named zero = let least : 512 ≤ sector = some in
      old_none d named (ap (λ (l : List Segment). all_records l) (sym (full_none (sizes sector size) w is.journaled.segments place (omega arith) is.journaled.are zero)) ∙ is.journaled.records)

  -- its sector doesn't: that is so at the front alone
  pub headed_cold : ((j : ℕ) → j < 28 → get_or v (place + j) 0 ≡ get_or (header_bytes h) j 0) → length v < place + sector → (named ≡ []) × (place ≡ 0) × (IsHot v → ⊥)
  headed_cold stands short = ⊎_elim
      (λ zero. (
        none_named zero,
        zero,
        λ hot. let far = hot_long v hot in
            let n = names_header stands (omega arith) zero in omega (arith, hot.whole, n.sector_is),
      ))
      (λ within. absurd (omega arith))
      is.long

  -- ---- On a disk that tears.

  -- the bytes at the place lie whole in a piece that was handed over
  abbrev LiesIn : List (ℕ × List ℕ) → Type 0
  LiesIn handed = (write : ℕ × List ℕ) × Contains handed write × (write.0 ≤ place) × (place + 28 ≤ write.0 + length write.1) × (part v place 28 ≡ part write.1 (place - write.0) 28)

  stood : (handed : List (ℕ × List ℕ)) → StandsWhole w handed v place 28 → HasMagic v place → LiesIn handed
  stood handed (inl in_kept) has = absurd (is.journaled.ends (sym (part_front w place 28 8 (omega arith)) ∙ ap (λ (l : List ℕ). part l 0 8) (sym in_kept.1) ∙ part_front v place 28 8 (omega arith) ∙ has))
  stood handed (inr lies) has = lies

  pub headed_same : (HasMagic v place → ⊥) → IsJournaled size sector d named place v
  headed_same none = kept size sector d some named place w v is.journaled front long none

  -- a later header
  later : (handed : List (ℕ × List ℕ)) → AreWhole w handed v → 0 < place → HasMagic v place → LiesIn handed
  unfolding some
  later handed whole above has =
      let least : 512 ≤ sector = some in
      let least_one : 1 ≤ sector = omega arith in
      let n : NamesFirst size sector d v = names_kept above in
      let header : IsHeader (sizes sector size) v place = record { magic = has; whole = ⊎_elim (λ zero. absurd (omega arith)) (λ within. omega arith) is.long } in
      let first = full_begun (sizes sector size) v is.journaled.segments place least_one segments_kept above in
      let hot : IsHot v = begun_hot size sector d v sectors pages first.1 n in
      let r = read (sizes sector size) v place (length v + 1) least_one (omega arith) in
      let same_sizes = sizes_are size sector d v n in
      let journal : IsJournal v (is.journaled.segments ++ r.segments) r.at r.why = inl (
        hot,
        subst (λ (y : Sizes). AreSegments y v 0 (is.journaled.segments ++ r.segments) r.at r.why) same_sizes (full_join (sizes sector size) v 0 is.journaled.segments r.segments place r.at r.why segments_kept r.are),
      ) in
      let at = subst (λ (y : Sizes). HasHeaderAt y 0 (is.journaled.segments ++ r.segments) place) same_sizes (full_header (sizes sector size) v 0 is.journaled.segments r.segments place place segments_kept (read_header (sizes sector size) v place r header least_one)) in
      stood handed (whole.later (is.journaled.segments ++ r.segments) r.at r.why journal place at) has

  -- the first
  first_one : (handed : List (ℕ × List ℕ)) → AreWhole w handed v → place ≡ 0 → IsHot v → LiesIn handed
  first_one handed whole zero hot = stood handed (subst (λ (n : ℕ). StandsWhole w handed v n 28) (sym zero) (whole.first hot)) (subst (λ (n : ℕ). HasMagic v n) (sym zero) hot.first.magic)

  -- the log says what it said, or a header was handed over
  torn_or : (handed : List (ℕ × List ℕ)) → AreWhole w handed v → Tells size sector d named place v ⊎ (LiesIn handed × (place ≡ 0 → IsHot v))
  unfolding some
  torn_or handed whole = ⊎_elim
      (λ zero. ⊎_elim
      (λ hot. inr (first_one handed whole zero hot, λ _. hot))
      (λ cold. inl (inr (none_named zero, zero, cold)))
      (hot_or v))
      (λ other. ⊎_elim
      (λ has. inr (later handed whole (omega arith) has, λ zero. absurd (other zero)))
      (λ none. inl (inl (headed_same none)))
      (magic_or v place))
      (cases_eq place 0)

  one_write : (bytes : List ℕ) (write : ℕ × List ℕ) → Contains ((place, bytes) ∷ []) write → (place, bytes) ≡ write
  one_write bytes write has = ⊎_elim (λ empty. absurd (omega (arith, empty.1))) (λ e. e) (Contains-push_cases [] (place, bytes) write has)

  -- the header was
  pub headed_torn : (bytes : List ℕ) → ((j : ℕ) → j < 28 → get_or bytes j 0 ≡ get_or (header_bytes h) j 0) → 28 ≤ length bytes → AreWhole w ((place, bytes) ∷ []) v
      → Tells size sector d named place v ⊎ Tells size sector d (named ++ more) (next_place (sizes sector size) place (old_pages d more)) v
  headed_torn bytes header enough whole = ⊎_elim (λ same. inl same)
      (λ lies.
      let P : ℕ × List ℕ → Type 0 = λ y. part v place 28 ≡ part y.1 (place - y.0) 28 in
      let at : part v place 28 ≡ part bytes (place - place) 28 = subst P (sym (one_write bytes lies.0.0 lies.0.1)) lies.0.4 in
      let zero : place - place ≡ 0 = omega arith in
      let stands : (j : ℕ) → j < 28 → get_or v (place + j) 0 ≡ get_or (header_bytes h) j 0 = λ j lt.
      sym (get_or-drop place v j 0) ∙ sym (get_or-take 28 (drop place v) j 0 lt) ∙ ap (λ (l : List ℕ). get_or l j 0) (at ∙ ap (λ (n : ℕ). part bytes n 28) zero)
      ∙ get_or-take 28 bytes j 0 lt ∙ header j lt in
      ⊎_elim
      (λ short. let c = headed_cold stands short in absurd (c.2 (lies.1 c.1)))
      (λ long_enough. inr (inl (headed_new stands long_enough)))
      (cases_lt (length v) (place + sector)))
      (torn_or ((place, bytes) ∷ []) whole)
