-- The header of a segment is written, and becomes durable.
use Rattle.rollcore.proofs.Between.{AddsPart, ArePresent, AreWhole, Bool, Changed, Contains-append_left, Database, DiskError, DiskState, Err, Heading, IsAt, IsHeaderOf, IsImage, IsJournaled, IsPageSize, IsSound, JournalHeader, Journaled, List, Log, MayBeRead, Names, Ok, Prepared, Result, SinceSync, Spreads, SyncedBy, Syncs, Tells, WriteTouches, Writes, [], alters_write, ap, arith, at_by, byte, cases_lt, comes, div-mul-add, false, gate_same, get_or, get_or_append_left, get_or_past, headed_cold, headed_new, headed_same, headed_torn, header_bytes, hot_long, inl, inr, journal_log, journaled_cold, length, length-append, length-replicate, log_syncs, max, next_of, next_place, old_pages, page_sector, part_new, present_byte, present_image, present_list, present_written, records_end, refl, replicate, sector_some, sectors_of, settled_one, settled_synced, sizes, subst, suits_syncs, suits_writes, sym, sync_down, table, true, written, written_inside, written_read, ℕ, ⊎_elim, ◌*◌, ◌++◌, ◌+◌, ◌-◌, ◌/◌, ◌<◌, ◌∙◌, ◌∷◌, ◌≡◌, ◌≤◌, ◌⊎◌}

-- a write of one whole sector stays in it
clear : (s k place n i : ℕ) (tears : Bool) → 1 ≤ s → n ≡ s → place ≡ k * s → (i < place) ⊎ (place + s ≤ i) → Spreads s tears place (place + n) i → ⊥
clear s k place n i tears some len at out (inl in_range) = ⊎_elim (λ below. omega arith) (λ behind. omega arith) out
clear s k place n i tears some len at out (inr torn) =
    let here : (k + 1 - 1) * s ≡ place = ap (λ (m : ℕ). m * s) (let e : k + 1 - 1 ≡ k = omega arith in e) ∙ sym at in
    let one : s ≡ 1 * s = omega arith in
    let within = page_sector s s (k + 1) i torn.1.0 (1, one) some (omega arith) (omega (arith, here, torn.1.1)) (omega (arith, here, torn.1.2)) torn.1.3 in
    ⊎_elim (λ below. omega (arith, here, within.0)) (λ behind. omega (arith, here, within.1)) out

-- A log that may be read after a sync might have been read before it.
pub read_syncs : {T : Type 0} (called : Result T DiskError) (old new : DiskState) → IsSound old.sector old.log → Syncs Log called old new → (v : List ℕ) → MayBeRead journal_log new v → MayBeRead journal_log old v
read_syncs {T = T} called old new sound synced v (inl listed) =
    inl (log_syncs old.sector false called old.log new.log sound synced.file v (subst (λ (n : ℕ). IsImage n false new.log v) synced.elsewhere.sector listed))
read_syncs {T = T} called old new sound synced v (inr left) = by old.tears called refl synced.file synced.since
    (subst (λ (n : ℕ). IsImage n old.tears new.log v) synced.elsewhere.sector (subst (λ (b : Bool). IsImage new.sector b new.log v) synced.elsewhere.tears left.image))
    (λ torn. left.whole (synced.elsewhere.tears ∙ torn))
  where
    kept_whole : old.tears ≡ true → (new.kept ≡ old.kept) × (new.handed ≡ old.handed) → AreWhole new.kept new.handed v → AreWhole old.kept old.handed v
    kept_whole torn since whole = subst (λ (x : List ℕ). AreWhole x old.handed v) since.0 (subst (λ (x : List (ℕ × List ℕ)). AreWhole new.kept x v) since.1 whole)

    by : (tears : Bool) (called : Result T DiskError) → old.tears ≡ tears → SyncedBy old.sector called old.log new.log → SinceSync tears Log called old new → IsImage old.sector tears new.log v → (tears ≡ true → AreWhole new.kept new.handed v) → MayBeRead journal_log old v
    by true (Ok u) e file since image whole =
        let same : v ≡ new.kept = settled_one new.log new.kept (settled_synced old.sector old.log new.log new.kept sound file since.0) old.sector true v image in
        inl (subst (λ (x : List ℕ). IsImage old.sector false old.log x) (sym same) (present_image old.sector false old.log new.kept sound since.0))
    by true (Err x) e file since image whole = inr (record {
      image = subst (λ (b : Bool). IsImage old.sector b old.log v) (sym e) (log_syncs {T = T} old.sector true (Err x) old.log new.log sound file v image);
      whole = λ torn. kept_whole torn since (whole refl);
    })
    by false result e file since image whole = inl (log_syncs old.sector false result old.log new.log sound file v image)

module _ (size sector : ℕ) (d : Database) (named added : List ℕ) (nonce place : ℕ) (h : JournalHeader) (w bytes : List ℕ)
    (few : length added ≤ 64) (head : IsHeaderOf size sector d added nonce h) (names : Names (header_bytes h) h) (padded : bytes ≡ header_bytes h ++ replicate (sector - 28) 0) where
  wide : (s : DiskState) → IsAt size sector d named place s → 512 ≤ sector
  wide s at = omega (arith, sector_some s.sector at.suits.sectors, at.sector_is)

  -- the bytes of the header, and zeros up to the end of its sector
  long_bytes : 512 ≤ sector → length bytes ≡ sector
  long_bytes wide_sector =
      let head_long : length (header_bytes h) ≡ 28 = refl in
      ap (λ (l : List ℕ). length l) padded ∙ (let e : length (header_bytes h ++ replicate (sector - 28) 0) ≡ sector = omega (arith, length-append (header_bytes h) (replicate (sector - 28) 0), length-replicate {A = ℕ} (sector - 28) 0) in e)

  head_at : (j : ℕ) → j < 28 → get_or bytes j 0 ≡ get_or (header_bytes h) j 0
  head_at j lt = let head_long : length (header_bytes h) ≡ 28 = refl in
      ap (λ (l : List ℕ). get_or l j 0) padded ∙ get_or_append_left (header_bytes h) (replicate (sector - 28) 0) 0 j (omega arith)

  -- the header was put, or half put
  abbrev Put : (old new : DiskState) → Type 0
  Put old new = Changed old.sector (WriteTouches old.sector old.log place bytes) (written old.log place bytes) (max old.log.len (place + length bytes)) old.log new.log

  module _ (old new : DiskState) (is : Prepared size sector d named place added nonce w old) where
    sectors : IsPageSize sector
    sectors = sectors_of size sector d named place old is.at

    -- no log becomes shorter
    longer : Put old new → (tears : Bool) (v : List ℕ) → IsImage old.sector tears new.log v → length w ≤ length v
    longer changed tears v image = omega (arith, image.least, changed.least, is.durable.settled.least, is.durable.settled.len)

    -- what isn't of the header's sector stays
    outside : Put old new → IsSound old.sector new.log → (tears : Bool) (v : List ℕ) → IsImage old.sector tears new.log v → (i : ℕ) → (i < place) ⊎ (place + sector ≤ i) → get_or v i 0 ≡ get_or w i 0
    outside changed after tears v image i out =
        let was = (alters_write old.sector tears place bytes old.log new.log is.at.suits.sound.log after changed).comes v image in
        let is_w : was.file ≡ w = settled_one old.log w is.durable.settled old.sector tears was.file was.image in
        let wide_sector : 512 ≤ sector = wide old is.at in
        let len : length bytes ≡ sector = long_bytes wide_sector in
        let at : place ≡ is.at.multiple.0 * old.sector = is.at.multiple.1 ∙ ap (λ (n : ℕ). is.at.multiple.0 * n) (sym is.at.sector_is) in
        ⊎_elim
        (λ lt. ⊎_elim
        (λ e. e ∙ ap (λ (x : List ℕ). get_or x i 0) is_w)
        (λ past. absurd (omega (arith, past.0, is.durable.settled.len)))
        (was.each i (omega (arith, ap (λ (x : List ℕ). length x) is_w))
        (clear old.sector is.at.multiple.0 place (length bytes) i tears (omega (arith, is.at.sector_is)) (len ∙ sym is.at.sector_is) at (⊎_elim (λ a. inl a) (λ b. inr (omega (arith, is.at.sector_is))) out))))
        (λ ge.
        let short : length v ≤ i = ⊎_elim
        (λ below. absurd (⊎_elim (λ front. omega arith) (λ within. omega arith) is.is.long))
        (λ behind. omega (arith, image.greatest, changed.greatest, is.durable.settled.greatest, is.durable.settled.len, len))
        out in
        get_or_past v i 0 short ∙ sym (get_or_past w i 0 ge))
        (cases_lt i (length w))

    cold_short : (v : List ℕ) → length w ≤ length v → length v < place + 28 → Tells size sector d named place v
    cold_short v le short = ⊎_elim
        (λ front. inr ((journaled_cold size sector d sectors is.at.suits.pages named place w is.is.journaled front).0, front, λ hot. omega (arith, hot_long v hot)))
        (λ within. absurd (omega (arith, wide old is.at)))
        is.is.long

    abbrev Left : List ℕ → Type 0
    Left v = Tells size sector d named place v ⊎ Tells size sector d (named ++ added) (next_place (sizes sector size) place (old_pages d added)) v

    -- where the header stands
    stands_left : (v : List ℕ) → ((i : ℕ) → (i < place) ⊎ (place + sector ≤ i) → get_or v i 0 ≡ get_or w i 0) → length w ≤ length v → ((j : ℕ) → j < 28 → get_or v (place + j) 0 ≡ get_or (header_bytes h) j 0) → Left v
    stands_left v same le stands = ⊎_elim
        (λ short. inl (inr (headed_cold size sector d sectors is.at.suits.pages named added nonce place h w v few head names is.is same le stands short)))
        (λ whole. inr (inl (headed_new size sector d sectors is.at.suits.pages named added nonce place h w v few head names is.is same le stands whole)))
        (cases_lt (length v) (place + sector))

    in_sector : (j : ℕ) → j < 28 → (place + j) / old.sector ≡ is.at.multiple.0
    in_sector j lt =
        let at : place ≡ is.at.multiple.0 * old.sector = is.at.multiple.1 ∙ ap (λ (n : ℕ). is.at.multiple.0 * n) (sym is.at.sector_is) in
        ap (λ (n : ℕ). (n + j) / old.sector) at ∙ div-mul-add is.at.multiple.0 old.sector j (omega (arith, wide old is.at, is.at.sector_is))

    -- a log of listed values
    listed_put : Put old new → IsSound old.sector new.log → (v : List ℕ) → IsImage old.sector false new.log v → Left v
    listed_put changed after v image =
        let same = outside changed after false v image in
        let le : length w ≤ length v = longer changed false v image in
        let c = comes old.sector false (WriteTouches old.sector old.log place bytes) (written old.log place bytes) (max old.log.len (place + length bytes)) old.log new.log is.at.suits.sound.log changed v image in
        let is_w : c.file ≡ w = settled_one old.log w is.durable.settled old.sector false c.file c.image in
        let len : length bytes ≡ sector = long_bytes (wide old is.at) in
        ⊎_elim
        (λ short. inl (cold_short v le short))
        (λ enough. ⊎_elim
        (λ kept. inl (inl (headed_same size sector d sectors is.at.suits.pages named added nonce place h w v few head names is.is same le
        (gate_same w v place (λ j lt. kept (place + j) (in_sector j (omega arith)) (omega arith) (inr refl) ∙ ap (λ (x : List ℕ). get_or x (place + j) 0) is_w) is.is.journaled.ends))))
        (λ put. ⊎_elim
        (λ shows. stands_left v same le (λ j lt. shows (place + j) (in_sector j lt) (omega arith)
        ∙ written_inside old.log place bytes (place + j) (omega arith) (omega (arith, wide old is.at)) ∙ ap (λ (n : ℕ). get_or bytes n 0) (let e : place + j - place ≡ j = omega arith in e) ∙ head_at j lt))
        (λ torn. absurd (cc torn.0))
        put.2)
        (c.each is.at.multiple.0))
        (cases_lt (length v) (place + 28))

    torn_put : old.tears ≡ true → Put old new → IsSound old.sector new.log → (v : List ℕ) → IsImage old.sector true new.log v → AreWhole w ((place, bytes) ∷ []) v → Left v
    torn_put torn changed after v image whole =
        let len : length bytes ≡ sector = long_bytes (wide old is.at) in
        headed_torn size sector d sectors is.at.suits.pages named added nonce place h w v few head names is.is (outside changed after true v image) (longer changed true v image)
        bytes head_at (omega (arith, len, wide old is.at)) whole

    after_sound : {T : Type 0} (called : Result T DiskError) → Writes Log place bytes called old new → IsSound old.sector new.log
    after_sound called wrote = subst (λ (n : ℕ). IsSound n new.log) wrote.elsewhere.sector (suits_writes size Log place bytes called old new is.at.suits wrote).sound.log

    -- whatever was answered
    pub heading_writes : {T : Type 0} (called : Result T DiskError) → Writes Log place bytes called old new → Heading size sector d named place added new
    heading_writes {T = T} called wrote = record {
      at = at_by size sector d named place old new is.at (suits_writes size Log place bytes called old new is.at.suits wrote) wrote.elsewhere.sector wrote.elsewhere.tears wrote.elsewhere.other;
      left = written_read journal_log Left w place bytes old new is.at.suits.sound is.durable (inl (inl is.is.journaled)) (λ after changed v image. listed_put changed after v image)
          (λ torn after changed v image whole. torn_put torn changed after v image whole) called wrote;
    }

    -- it was written
    pub headed : {T : Type 0} {u : T} → Writes Log place bytes (Ok u) old new → (v : List ℕ) → ArePresent new.log v
        → IsJournaled size sector d (named ++ added) (next_place (sizes sector size) place (old_pages d added)) v
        × AddsPart (sizes sector size) place w (nonce, old_pages d added) (next_place (sizes sector size) place (old_pages d added)) v
    headed {T = T} {u = u} wrote v are =
        let after : IsSound old.sector new.log = after_sound {T = T} (Ok u) wrote in
        let image : IsImage old.sector false new.log v = present_image old.sector false new.log v after are in
        let len : length bytes ≡ sector = long_bytes (wide old is.at) in
        let le : length w ≤ length v = longer wrote.file.0 false v image in
        let same = outside wrote.file.0 after false v image in
        let stands : (j : ℕ) → j < 28 → get_or v (place + j) 0 ≡ get_or (header_bytes h) j 0 =
        λ j lt. present_byte new.log v are (place + j) ∙ present_written Log place bytes old new wrote (place + j)
        ∙ written_inside old.log place bytes (place + j) (omega arith) (omega (arith, wide old is.at)) ∙ ap (λ (n : ℕ). get_or bytes n 0) (let e : place + j - place ≡ j = omega arith in e) ∙ head_at j lt in
        let whole : place + sector ≤ length v = omega (arith, are.len, wrote.file.1.len, len) in (
          headed_new size sector d sectors is.at.suits.pages named added nonce place h w v few head names is.is same le stands whole,
          part_new size sector d sectors is.at.suits.pages named added nonce place h w v few head names is.is same le stands whole,
        )

-- ---- The log is synced.

module _ (size sector : ℕ) (d : Database) (named added : List ℕ) (place : ℕ) where
  pub heading_syncs : {T : Type 0} (called : Result T DiskError) (old new : DiskState) → Heading size sector d named place added old → Syncs Log called old new → Heading size sector d named place added new
  heading_syncs called old new is synced = record {
    at = at_by size sector d named place old new is.at (suits_syncs size Log called old new is.at.suits synced) synced.elsewhere.sector synced.elsewhere.tears synced.elsewhere.other;
    left = λ v may. is.left v (read_syncs called old new is.at.suits.sound.log synced v may);
  }

  -- behind the new segment
  pub at_next : (s : DiskState) → IsAt size sector d named place s → IsAt size sector d (named ++ added) (next_place (sizes sector size) place (old_pages d added)) s
  at_next s at =
      let wide : 512 ≤ sector = omega (arith, sector_some s.sector at.suits.sectors, at.sector_is) in
      let behind : place + sector ≤ next_place (sizes sector size) place (old_pages d added) = next_of (sizes sector size) place (old_pages d added) (omega arith) in
      record {
        suits = at.suits;
        sector_is = at.sector_is;
        multiple = ((records_end (sizes sector size) (place + sector) (old_pages d added) + sector - 1) / sector, refl);
        others = record {
          held = at.others.held;
          each = λ p i a b un lt. at.others.each p i a b (λ there. un (Contains-append_left named added p there)) lt;
          whole = λ front. absurd (omega arith);
        };
      }

  -- it is durable, and the journal has one segment more, of which P holds
  pub heading_down : (P : List ℕ → Type 0) {T : Type 0} {u : T} (old new : DiskState) → Heading size sector d named place added old
      → ((v : List ℕ) → ArePresent old.log v → IsJournaled size sector d (named ++ added) (next_place (sizes sector size) place (old_pages d added)) v × P v)
      → Syncs Log (Ok u) old new → (v : List ℕ) × Journaled size sector d (named ++ added) (next_place (sizes sector size) place (old_pages d added)) v new × P v
  heading_down P {T = T} {u = u} old new is there synced = (
    table old.log.len (byte old.log),
    record {
      at = at_next new (at_by size sector d named place old new is.at (suits_syncs size Log (Ok u) old new is.at.suits synced) synced.elsewhere.sector synced.elsewhere.tears synced.elsewhere.other);
      durable = sync_down {T = T} (Ok u) u (table old.log.len (byte old.log)) old new is.at.suits.sound refl (Ok u, tt, synced) (present_list old.log);
      is = (there (table old.log.len (byte old.log)) (present_list old.log)).0;
    },
    (there (table old.log.len (byte old.log)) (present_list old.log)).1,
  )
