-- The places of a journal's last records.
use Rattle.std.proofs.Common.{◌≡◌, ◌≢◌, ◌⊎◌, inl, inr, ⊎_elim, ℕ, zero, suc, ◌+◌, ◌-◌, ◌*◌, ◌/◌, ◌^◌, ◌<◌, ◌≤◌, cond, true, false, List, [], ◌∷◌, ◌++◌, map, length, drop, get_or, refl, sym, ◌∙◌, ap, subst, arith, eq-eqb, ne_eqb, length-append, reverse}
use Rattle.std.specs.Prelude.{◌==◌, Some, None, unwrap_or, slice_get}
use Rattle.std.proofs.lemmas.Bool.{cases_lt, cases_eq}
use Rattle.std.proofs.lemmas.List.{append-nil, reverse-append, drop_more, drop_all}
use Rattle.std.proofs.lemmas.Option.{none-some, slice_get_within, get_or_from_slice_get, slice_get-get_or}
use Rattle.std.proofs.Math.Nat.{add-mul, lt-div-mul-add, suc-mul, zero-mul}
use Rattle.sqval.specs.Bytes.{part, word}
use Rattle.sqval.specs.Database.{Pages, file_page, supplied}
use Rattle.sqjournal.specs.Header.{next_header}
use Rattle.sqjournal.specs.Journal.{Segment, Sizes, sizes_of, record_len, records_end, AreRecords, AreSegments, IsHot, IsJournal, placed, entries}
use Rattle.sqjournal.specs.Restored.{all_records, last_content, IsRolledBack}
use Rattle.sqjournal.specs.Took.{Took, HasCount, HasEntry, Says}
use Rattle.sqjournal.specs.declared.replay.Replay.{Replay}
use Rattle.sqjournal.specs.declared.reading.Record.{Record}
use Rattle.sqjournal.specs.declared.reading.Why.{Why}
use Rattle.sqjournal.specs.declared.replay.Stop.{Stop}
use Rattle.sqjournal.proofs.journal.RecordsOfEntries.{content_at, contents}
use Rattle.sqjournal.proofs.read.JournalOfTakenBytes.{size_bounds}
use Rattle.sqjournal.proofs.read.BytesTakenByReplay.{has_entry}
use Rattle.sqjournal.proofs.read.UniquenessOfReading.{one_journal}
use Rattle.sqview.specs.Laid.{part_or_zeros, place_of, laid}
use Rattle.sqview.specs.Logs.{HasRead}
use Rattle.sqview.specs.Origins.{AreJournalPlaces, IsRecordPlace}
use Rattle.sqview.specs.Places.{most_kept}
use Rattle.sqview.specs.internal.Places.{Noted}
use Rattle.sqview.specs.internal.ViewParts.{last_place, AreFew, AreNoted, AreRecordPlaces}
use Rattle.sqview.proofs.file.FileHeads.{part_is}
use Rattle.sqview.proofs.place.FewPlaces.{kept_few}
use Rattle.sqview.proofs.openings.PagesOfView.{length_laid, page_laid, laid_own, laid_log}

-- ---- Each entry is the place of a whole page, above 0.

AreWithin : (size long : ℕ) → List Record → Type 0
AreWithin size long [] = Unit {0}
AreWithin size long (e ∷ es) = (0 < e.at) × (e.at + size ≤ long) × AreWithin size long es

within_more : (size long : ℕ) (es fs : List Record) → AreWithin size long es → AreWithin size long fs → AreWithin size long (es ++ fs)
unfolding AreWithin
within_more size long [] fs a b = b
within_more size long (e ∷ es) fs a b = (a.0, a.1, within_more size long es fs a.2 b)

within_placed : (z : Sizes) (b : List ℕ) (nonce at : ℕ) (rs : Pages) → AreRecords z b nonce at rs → AreWithin z.page (length b) (placed z at rs)
unfolding AreWithin
within_placed z b nonce at [] are = tt
within_placed z b nonce at (r ∷ rs) are = (omega arith, omega (arith, are.0.whole), within_placed z b nonce (at + record_len z) rs are.1)

within_entries : (z : Sizes) (b : List ℕ) (from : ℕ) (ss : List Segment) (stop : ℕ) (why : Why) → AreSegments z b from ss stop why → AreWithin z.page (length b) (entries z from ss)
unfolding AreWithin
within_entries z b from [] stop why are = tt
within_entries z b from (s ∷ ss) stop why are =
    let next = next_header z.sector (records_end z (from + z.sector) s.records) in
    within_more z.page (length b) (placed z (from + z.sector) s.records) (entries z next ss) (within_placed z b s.nonce (from + z.sector) s.records are.3) (⊎_elim
    (λ all. within_entries z b next ss stop why all.1)
    (λ few. subst (λ (l : List Segment). AreWithin z.page (length b) (entries z next l)) (sym few.1) tt) are.4)

-- ---- The bytes have room for the pages of all entries.

not_below : (sector end : ℕ) → 0 < sector → end ≤ next_header sector end
not_below sector end pos = let up : end + sector - 1 < (end + sector - 1) / sector * sector + sector = lt-div-mul-add pos in omega arith

nothing : (size most : ℕ) → 0 * size ≤ most
nothing size most = let none : 0 * size ≡ 0 = zero-mul size in omega (arith, none)

room_placed : (z : Sizes) (b : List ℕ) (nonce at : ℕ) (rs : Pages) → AreRecords z b nonce at rs
    → (length (placed z at rs) * z.page + at ≤ records_end z at rs) × ((records_end z at rs ≤ length b) ⊎ (records_end z at rs ≡ at))
room_placed z b nonce at [] are = (omega arith, inr refl)
room_placed z b nonce at (r ∷ rs) are =
    let rest = room_placed z b nonce (at + record_len z) rs are.1 in
    let n = length (placed z (at + record_len z) rs) in
    let one_more : suc n * z.page ≡ n * z.page + z.page = suc-mul n z.page in
    let left : n * z.page + (at + (z.page + 8)) ≤ records_end z (at + record_len z) rs = rest.0 in
    let here : suc n * z.page + at ≤ records_end z (at + record_len z) rs = omega (arith, one_more, left) in
    (here, inl (⊎_elim (λ le. le) (λ e. omega (arith, are.0.whole)) rest.1))

room_entries : (z : Sizes) (b : List ℕ) (from : ℕ) (ss : List Segment) (stop : ℕ) (why : Why) → 0 < z.sector → AreSegments z b from ss stop why → length (entries z from ss) * z.page ≤ length b - from
room_entries z b from [] stop why pos are = omega arith
room_entries z b from (s ∷ ss) stop why pos are =
    let end = records_end z (from + z.sector) s.records in
    let next = next_header z.sector end in
    let here = room_placed z b s.nonce (from + z.sector) s.records are.3 in
    let up : end ≤ next = not_below z.sector end pos in
    let rest : length (entries z next ss) * z.page ≤ length b - next = ⊎_elim (λ all. room_entries z b next ss stop why pos all.1)
    (λ few. subst (λ (l : List Segment). length (entries z next l) * z.page ≤ length b - next) (sym few.1) (nothing z.page (length b - next))) are.4 in
    let m = length (placed z (from + z.sector) s.records) in
    let n = length (entries z next ss) in
    let both : length (placed z (from + z.sector) s.records ++ entries z next ss) ≡ m + n = length-append (placed z (from + z.sector) s.records) (entries z next ss) in
    let split : (m + n) * z.page ≡ m * z.page + n * z.page = add-mul m n z.page in
    let fits : (m + n) * z.page ≤ length b - from = ⊎_elim (λ le. omega (arith, split, rest, here.0, are.0.whole)) (λ e. omega (arith, split, rest, here.0, are.0.whole)) here.1 in
    subst (λ (k : ℕ). k * z.page ≤ length b - from) (sym both) fits

pub room : (b : List ℕ) (segments : List Segment) (at : ℕ) (why : Why) → IsJournal b segments at why → length (entries (sizes_of b) 0 segments) * word b 24 ≤ length b
room b segments at why is = ⊎_elim
    (λ hot. let bounds = size_bounds (word b 20) hot.0.first.sector in
    let r : length (entries (sizes_of b) 0 segments) * word b 24 ≤ length b - 0 = room_entries (sizes_of b) b 0 segments at why (omega (arith, bounds.0)) hot.1 in omega (arith, r))
    (λ cold. subst (λ (l : List Segment). length (entries (sizes_of b) 0 l) * word b 24 ≤ length b) (sym cold.1) (nothing (word b 24) (length b))) is

-- ---- What the last place holds.

value : (size : ℕ) (b : List ℕ) (x : List ℕ) → (at : ℕ) → List ℕ
value size b x at = cond (at == 0) x (part b at size)

value_none : (size : ℕ) (b x : List ℕ) (at : ℕ) → at ≡ 0 → value size b x at ≡ x
unfolding value
value_none size b x at e = let t : (at == 0) ≡ true = eq-eqb at 0 e in rw t refl

value_some : (size : ℕ) (b x : List ℕ) (at : ℕ) → at ≢ 0 → value size b x at ≡ part b at size
unfolding value
value_some size b x at ne = let t : (at == 0) ≡ false = ne_eqb at 0 ne in rw t refl

supplied_more : (xs ys : Pages) (p : ℕ) (x : List ℕ) → unwrap_or (supplied (xs ++ ys) p) x ≡ unwrap_or (supplied xs p) (unwrap_or (supplied ys p) x)
supplied_more [] ys p x = refl
supplied_more (y ∷ xs) ys p x = elim (y.0 == p) as (λ t. unwrap_or (cond t (Some y.1) (supplied (xs ++ ys) p)) x ≡ unwrap_or (cond t (Some y.1) (supplied xs p)) (unwrap_or (supplied ys p) x)) [
  | true ↦ refl
  | false ↦ supplied_more xs ys p x
]

module _ (z : Sizes) (b : List ℕ) (p : ℕ) (x : List ℕ) where
  one_more : (e : Record) (was : ℕ) → 0 < e.at → unwrap_or (supplied (content_at z b e ∷ []) p) (value z.page b x was) ≡ value z.page b x (cond (e.page == p) e.at was)
  one_more e was some = elim (e.page == p) as (λ t. unwrap_or (cond t (Some (part b e.at z.page)) None) (value z.page b x was) ≡ value z.page b x (cond t e.at was)) [
    | true ↦ sym (value_some z.page b x e.at (λ zero. omega arith))
    | false ↦ refl
  ]

  last_value : (es : List Record) (was : ℕ) → AreWithin z.page (length b) es
      → unwrap_or (supplied (reverse (map (content_at z b) es)) p) (value z.page b x was) ≡ value z.page b x (last_place es p was)
  unfolding AreWithin
  last_value [] was are = refl
  last_value (e ∷ es) was are =
      let rest = reverse (map (content_at z b) es) in
      let one = content_at z b e ∷ [] in
      let split : reverse (one ++ map (content_at z b) es) ≡ rest ++ one = reverse-append one (map (content_at z b) es) in
      ap (λ l. unwrap_or (supplied l p) (value z.page b x was)) split ∙ supplied_more rest one p (value z.page b x was)
      ∙ ap (λ v. unwrap_or (supplied rest p) v) (one_more e was are.0)
      ∙ last_value es (cond (e.page == p) e.at was) are.2

  -- the last of them is within the journal
  last_within : (es : List Record) (was : ℕ) → AreWithin z.page (length b) es → (was ≢ 0 → was + z.page ≤ length b) → last_place es p was ≢ 0 → last_place es p was + z.page ≤ length b
  unfolding AreWithin
  last_within [] was are old = old
  last_within (e ∷ es) was are old = last_within es (cond (e.page == p) e.at was) are.2
      (elim (e.page == p) as (λ t. cond t e.at was ≢ 0 → cond t e.at was + z.page ≤ length b) [ true ↦ (λ _. are.1) | false ↦ old ])

-- ---- Putting the places down.

same_entries : (b : List ℕ) (ss us : List Segment) (m n : ℕ) (v w : Why) → IsJournal b ss m v → IsJournal b us n w → entries (sizes_of b) 0 ss ≡ entries (sizes_of b) 0 us
same_entries b ss us m n v w p q = ap (λ l. entries (sizes_of b) 0 l) (one_journal b ss us m n v w p q).0

pub noted_none : (r : Replay) (count : ℕ) (places : List ℕ) → ((p : ℕ) → place_of places p ≡ 0) → AreNoted r 0 count places
noted_none r count places zeros b segments at why t is p one le = ap (λ w. last_place (entries (sizes_of b) 0 segments) p w) (zeros p)

pub noted_more : (r : Replay) (i count : ℕ) (old new : List ℕ) (e : Record) → 1 ≤ i → length old ≡ count → AreNoted r (i - 1) count old → Noted e.page e.at old new
    → ((b : List ℕ) → Took b r → HasEntry b i (Some e)) → AreNoted r i count new
noted_more r i count old new e some long are noted has b segments at why t is p one le =
    let h = has b t in
    let es = entries (sizes_of b) 0 segments in
    let k = i - 1 in
    let ne : (i == 0) ≡ false = ne_eqb i 0 (λ z. omega arith) in
    let here : slice_get es k ≡ Some e =
    ap (λ l. slice_get l k) (same_entries b segments h.segments at h.stop.at why h.stop.why is h.is)
    ∙ sym (h.value ∙ rw ne refl) in
    let lt : k < length es = slice_get_within es k e here in
    let at_k : get_or es k e ≡ e = get_or_from_slice_get es k e e here in
    let next : k + 1 ≡ i = omega arith in
    let split : drop k es ≡ e ∷ drop i es = drop_more es k e lt ∙ ap (λ x. x ∷ drop (k + 1) es) at_k ∙ ap (λ n. e ∷ drop n es) next in
    ap (λ w. last_place (drop i es) p w) (noted.1 p one (omega arith))
    ∙ sym (ap (λ l. last_place l p (place_of old p)) split) ∙ are b segments at why t is p one le

-- how many there are
pub counted : (b : List ℕ) (n : ℕ) (segments : List Segment) (at : ℕ) (why : Why) → HasCount b n → IsJournal b segments at why → length (entries (sizes_of b) 0 segments) ≡ n
counted b n segments at why has is = ap length (same_entries b segments has.segments at has.stop.at why has.stop.why is has.is) ∙ sym has.value

pub noted_all : (r : Replay) (n count : ℕ) (places : List ℕ) (b : List ℕ) → length places ≡ count → AreNoted r n count places → Took b r
    → ((segments : List Segment) (at : ℕ) (why : Why) → IsJournal b segments at why → length (entries (sizes_of b) 0 segments) ≤ n) → AreRecordPlaces b count places
noted_all r n count places b long are t most = record {
  long = long;
  each = λ segments at why is p one le.
      ap (λ l. last_place l p (place_of places p)) (sym (drop_all n (entries (sizes_of b) 0 segments) (most segments at why is))) ∙ are b segments at why t is p one le;
}

pub noted_end : (r : Replay) (i count : ℕ) (places : List ℕ) (b : List ℕ) → 1 ≤ i → length places ≡ count → AreNoted r (i - 1) count places → Took b r → HasEntry b i None → AreRecordPlaces b count places
noted_end r i count places b some long are t has = noted_all r (i - 1) count places b long are t (λ segments at why is.
    let es = entries (sizes_of b) 0 segments in
    let ne : (i == 0) ≡ false = ne_eqb i 0 (λ z. omega arith) in
    let none : slice_get es (i - 1) ≡ None = ap (λ l. slice_get l (i - 1)) (same_entries b segments has.segments at has.stop.at why has.stop.why is has.is) ∙ sym (has.value ∙ rw ne refl) in
    ⊎_elim (λ lt. absurd (let d : Record = record { page = 0; at = 0 } in let there : slice_get es (i - 1) ≡ Some (get_or es (i - 1) d) = slice_get-get_or es (i - 1) d lt in cc)) (λ le. le) (cases_lt (i - 1) (length es)))

-- ---- The last record that names a page.

last_named : (es : List Record) (p was : ℕ)
    → ((last_place es p was ≡ was) × ((i : ℕ) (r : Record) → slice_get es i ≡ Some r → r.page ≢ p))
    ⊎ ((i : ℕ) × (r : Record) × (slice_get es i ≡ Some r) × (r.page ≡ p) × (last_place es p was ≡ r.at)
    × ((k : ℕ) (s : Record) → i < k → slice_get es k ≡ Some s → s.page ≢ p))
last_named [] p was = inl (refl, λ i r there. absurd (none-some r there))
last_named (e ∷ es) p was = ⊎_elim
    (λ none. ⊎_elim
    (λ same. inr (0, e, refl, same, none.0 ∙ ap (λ b. cond b e.at was) (eq-eqb e.page p same), λ k s lt there. behind none.1 k s lt there))
    (λ ne. inl (none.0 ∙ ap (λ b. cond b e.at was) (ne_eqb e.page p ne), λ i r there. each ne none.1 i r there))
    (cases_eq e.page p))
    (λ some. inr (suc some.0, some.1, some.2, some.3, some.4, λ k s lt there. later some.0 some.5 k s lt there))
    (last_named es p (cond (e.page == p) e.at was))
  where
    behind : ((i : ℕ) (r : Record) → slice_get es i ≡ Some r → r.page ≢ p) → (k : ℕ) (s : Record) → 0 < k → slice_get (e ∷ es) k ≡ Some s → s.page ≢ p
    behind none zero s lt there = absurd (omega (arith, lt))
    behind none (suc k) s lt there = none k s there

    each : e.page ≢ p → ((i : ℕ) (r : Record) → slice_get es i ≡ Some r → r.page ≢ p) → (i : ℕ) (r : Record) → slice_get (e ∷ es) i ≡ Some r → r.page ≢ p
    each ne none zero r there = let same : e ≡ r = cc in λ is. ne (ap (λ (x : Record). x.page) same ∙ is)
    each ne none (suc i) r there = none i r there

    later : (i : ℕ) → ((k : ℕ) (s : Record) → i < k → slice_get es k ≡ Some s → s.page ≢ p) → (k : ℕ) (s : Record) → suc i < k → slice_get (e ∷ es) k ≡ Some s → s.page ≢ p
    later i none zero s lt there = absurd (omega (arith, lt))
    later i none (suc k) s lt there = none k s (omega (arith, lt)) there

pub journal_places : (b : List ℕ) (count : ℕ) (places : List ℕ) → AreRecordPlaces b count places → AreJournalPlaces b count places
journal_places b count places are = record {
  long = are.long;
  each = λ records stop says p one le.
      let here : place_of places p ≡ last_place records p 0 =
      are.each says.segments stop.at stop.why says.is p one le ∙ ap (λ l. last_place l p 0) says.records in
      subst (λ (n : ℕ). IsRecordPlace records p n) (sym here) (last_named records p 0);
}

-- ---- The database.

module _ (b : List ℕ) (count : ℕ) (places : List ℕ) (are : AreRecordPlaces b count places) (segments : List Segment) (at : ℕ) (why : Why) (is : IsJournal b segments at why) (hot : IsHot b) where
  z : Sizes
  z = sizes_of b

  segs : AreSegments (sizes_of b) b 0 segments at why
  segs = ⊎_elim (λ h. h.1) (λ cold. absurd (cold.0 hot)) is

  inside : AreWithin (word b 24) (length b) (entries (sizes_of b) 0 segments)
  inside = within_entries (sizes_of b) b 0 segments at why segs

  pub rolled_back : (size : ℕ) (file : List ℕ) → size ≡ word b 24 → count ≡ word b 16 → IsRolledBack file b (laid size count file b places)
  rolled_back size file e f = record {
    segments = segments;
    at = at;
    why = why;
    is = is;
    count = length_laid size count file b places ∙ f;
    each = λ p one le.
        let most : p ≤ count = omega (arith, length_laid size count file b places) in
        let own = file_page (word b 24) file p in
        let here : place_of places p ≡ last_place (entries (sizes_of b) 0 segments) p 0 = are.each segments at why is p one most in
        let records : all_records segments ≡ map (content_at (sizes_of b) b) (entries (sizes_of b) 0 segments) = contents (sizes_of b) b 0 segments at why segs in
        let last : unwrap_or (last_content (all_records segments) p) own ≡ value (word b 24) b own (place_of places p) =
        ap (λ l. unwrap_or (supplied (reverse l) p) own) records
        ∙ ap (λ v. unwrap_or (supplied (reverse (map (content_at (sizes_of b) b) (entries (sizes_of b) 0 segments))) p) v) (sym (value_none (word b 24) b own 0 refl))
        ∙ last_value (sizes_of b) b p own (entries (sizes_of b) 0 segments) 0 inside ∙ ap (value (word b 24) b own) (sym here) in
        page_laid size count file b places p one most
        ∙ ⊎_elim
        (λ none. laid_own size file b places p none ∙ ap (λ n. file_page n file p) e ∙ sym (value_none (word b 24) b own (place_of places p) none))
        (λ some.
        let end : last_place (entries (sizes_of b) 0 segments) p 0 + word b 24 ≤ length b = last_within (sizes_of b) b p [] (entries (sizes_of b) 0 segments) 0 inside (λ ne. absurd (ne refl)) (λ z. some (here ∙ z)) in
        let there : place_of places p + word b 24 ≤ length b = subst (λ (n : ℕ). n + word b 24 ≤ length b) (sym here) end in
        laid_log size file b places p some ∙ ap (λ n. part_or_zeros n (place_of places p) b) e ∙ part_is (word b 24) (place_of places p) b there
        ∙ sym (value_some (word b 24) b own (place_of places p) some))
        (cases_eq (place_of places p) 0)
        ∙ sym last;
  }

-- ---- A journal of which a front was read.

module _ (b : List ℕ) (r : Replay) (read : HasRead b r) where
  -- what the front says the whole journal says
  front_says : (es : List Record) (stop : Stop) → Says read.front es stop → Says b es stop
  front_says es stop says = subst (λ (l : List ℕ). Says l es stop) (sym read.split) (⊎_elim
      (λ none. subst (λ (l : List ℕ). Says l es stop) (sym (ap (λ l. read.front ++ l) none ∙ append-nil read.front)) says)
      (λ settled. settled read.more es stop says)
      read.rest)

  read_says : (es : List Record) × (stop : Stop) × Says read.front es stop
  read_says =
      let has = has_entry read.front r 0 _ read.took refl in
      (entries (sizes_of read.front) 0 has.segments, has.stop, record { segments = has.segments; is = has.is; records = refl })

  pub read_journal : (segments : List Segment) × (at : ℕ) × (why : Why) × IsJournal b segments at why
  read_journal = let s = read_says in let is = front_says s.0 s.1 s.2 in (is.segments, s.1.at, s.1.why, is.is)

  front_short : length read.front ≤ length b
  front_short = omega (arith, ap length read.split, length-append read.front read.more)

  pub read_places : (count : ℕ) (places : List ℕ) → length b ≤ 2 ^ 40
      → ((c : List ℕ) → Took c r → length c ≤ 2 ^ 40 → AreRecordPlaces c count places) → AreRecordPlaces b count places
  read_places count places short are =
      let s = read_says in
      let here = s.2 in
      let all = front_says s.0 s.1 s.2 in
      let front = are read.front read.took (omega (arith, front_short)) in
      record {
        long = front.long;
        each = λ segments at why is p one le.
            front.each here.segments s.1.at s.1.why here.is p one le
            ∙ ap (λ l. last_place l p 0) (here.records ∙ sym all.records ∙ same_entries b all.segments segments s.1.at at s.1.why why all.is is);
      }

  -- and what is kept for its places is no more than it has room for
  pub read_kept : (kept : ℕ) → IsHot b → ((c : List ℕ) → Took c r → AreFew c kept) → kept ≤ most_kept (word b 24) b
  read_kept kept hot few =
      let s = read_says in
      let all = front_says s.0 s.1 s.2 in
      let fits : length s.0 * word b 24 ≤ length b =
      subst (λ (l : List Record). length l * word b 24 ≤ length b) all.records (room b all.segments s.1.at s.1.why all.is) in
      let has : HasCount read.front (length s.0) = record { segments = s.2.segments; stop = s.1; is = s.2.is; value = sym (ap length s.2.records) } in
      let bounds = size_bounds (word b 24) hot.first.size in
      kept_few (word b 24) (length b) (length s.0) kept (omega (arith, bounds.0)) fits (few read.front read.took (length s.0) has)
