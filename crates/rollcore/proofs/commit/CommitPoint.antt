-- The end of a commit: zeros are written over the journal's first header, and come durable.
use Rattle.rollcore.proofs.Between.{AreWhole, Database, DiskError, DiskState, FileState, IsAt, IsHot, IsImage, IsJournaled, IsJust, IsPageSize, IsSettled, IsSound, Journaled, List, Log, MayBeRead, Ok, Overwritten, Rests, Result, ShowsEither, ShowsWhole, Syncs, Writes, [], arith, cases_lt, down_present, false, file_count, get_or, get_or-replicate, get_or_past, has_others, hot_long, hot_or, inl, inr, journal_log, journaled_front, journaled_hot, length, length-replicate, refl, replicate, sector_some, sector_told, sectors_of, settled_one, shows, subst, sym, true, word, written_read, zero_done, zeroed, zeroed_gate, zeroed_listed, zeroed_torn, ℕ, ⊎_elim, ◌<◌, ◌∙◌, ◌∷◌, ◌≡◌, ◌≤◌, ◌⊎◌}

zeros_at : (i : ℕ) → ◌≡◌ {A = ℕ} (get_or (replicate 28 0) i 0) 0
zeros_at i = ⊎_elim (λ lt. get_or-replicate 28 i 0 0 lt) (λ past. get_or_past (replicate 28 0) i 0 (omega (arith, length-replicate {A = ℕ} 28 0))) (cases_lt i 28)

module _ (size sector : ℕ) (d : Database) (named : List ℕ) (place : ℕ) (w : List ℕ) (above : 0 < place) where
  abbrev Left : List ℕ → Type 0
  Left v = IsJournaled size sector d named place v ⊎ (IsHot v → ⊥)

  module _ (old new : DiskState) (is : Journaled size sector d named place w old) where
    sectors : IsPageSize sector
    sectors = sectors_of size sector d named place old is.at

    hot : IsHot w
    hot = journaled_hot size sector d sectors is.at.suits.pages named place w is.is above

    wide : 512 ≤ old.sector
    wide = sector_some old.sector is.at.suits.sectors

    sector_word : word w 20 ≡ sector
    sector_word = sector_told size sector d sectors is.at.suits.pages named place w (inl is.is) hot

    as_it_was : (v : List ℕ) → v ≡ w → Left v
    as_it_was v e = inl (subst (λ (x : List ℕ). IsJournaled size sector d named place x) (sym e) is.is)

    listed_put : IsSound old.sector new.log → Overwritten 0 (replicate 28 0) old new → (v : List ℕ) → IsImage old.sector false new.log v → Left v
    listed_put after changed v image = ⊎_elim
        (λ hot_v. as_it_was v (zeroed_listed old.sector w (replicate 28 0) old.log new.log wide is.durable.settled hot (length-replicate {A = ℕ} 28 0) zeros_at is.at.suits.sound.log after changed v image hot_v))
        (λ cold. inr cold)
        (hot_or v)

    torn_put : old.tears ≡ true → IsSound old.sector new.log → Overwritten 0 (replicate 28 0) old new → (v : List ℕ) → IsImage old.sector true new.log v → AreWhole w ((0, replicate 28 0) ∷ []) v → Left v
    torn_put torn after changed v image whole = ⊎_elim
        (λ hot_v.
        let same = zeroed_torn old.sector w (replicate 28 0) old.log new.log wide is.durable.settled hot (length-replicate {A = ℕ} 28 0) zeros_at is.at.suits.sound.log after changed v (omega (arith, sector_word, is.at.sector_is)) image whole hot_v in
        inl (journaled_front size sector d (omega (arith, wide, is.at.sector_is)) named place w v is.is
        (λ i at. ⊎_elim (λ front. same.front i front) (λ behind. same.behind i (omega (arith, sector_word))) at) (omega (arith, same.long))))
        (λ cold. inr cold)
        (hot_or v)

    -- the journal says what it said, or isn't hot
    pub closing_left : {T : Type 0} (called : Result T DiskError) → Writes Log 0 (replicate 28 0) called old new → (v : List ℕ) → MayBeRead journal_log new v → Left v
    closing_left called wrote = written_read journal_log Left w 0 (replicate 28 0) old new is.at.suits.sound is.durable (as_it_was w refl) listed_put torn_put called wrote

    -- both are durable
    pub closing_down : {T : Type 0} {u x : T} (e : Database) (mid : DiskState) (db : List ℕ) → Writes Log 0 (replicate 28 0) (Ok u) old mid → Syncs Log (Ok x) mid new
        → IsSettled old.db db → IsJust size e db → Rests size e new
    closing_down {T = T} {u = u} {x = x} e mid db wrote synced settled just =
        let file : new.db ≡ old.db = synced.elsewhere.other ∙ wrote.elsewhere.other in
        record {
          file = λ c image. subst (λ (y : List ℕ). IsJust size e y) (sym (settled_one old.db db settled new.sector new.tears c (subst (λ (s : FileState). IsImage new.sector new.tears s c) file image))) just;
          log = (zeroed w, zero_done {T = T} (Ok x) x w old new is.at.suits.sound refl (inr (mid, (u, wrote), (Ok x, tt, synced))) (down_present w old is.durable) (omega (arith, hot_long w hot)), zeroed_gate w);
        }

-- ---- What that shows.

module _ (size sector : ℕ) (d e : Database) (named : List ℕ) (place : ℕ) (s : DiskState) (db : List ℕ) (at : IsAt size sector d named place s) (above : 0 < place)
    (settled : IsSettled s.db db) (just : IsJust size e db) (left : (v : List ℕ) → MayBeRead journal_log s v → IsJournaled size sector d named place v ⊎ (IsHot v → ⊥)) where
  some_size : 1 ≤ size
  some_size = let b = sector_some size at.suits.pages in omega arith

  -- the new database, where no journal is hot
  cold_shows : (v c : List ℕ) → (IsHot v → ⊥) → IsImage s.sector s.tears s.db c → ShowsWhole journal_log size c v e
  cold_shows v c cold image =
      let same : c ≡ db = settled_one s.db db settled s.sector s.tears c image in
      let is : IsJust size e c = subst (λ (y : List ℕ). IsJust size e y) (sym same) just in
      record {
        shows = record { hot = λ hot. absurd (cold hot); cold = λ _. record { count = file_count size c (length e) some_size is.long; each = is.each } };
        whole = λ _. is.long;
      }

  pub closing_shows : ShowsEither size d e s
  closing_shows v may = ⊎_elim
      (λ is. inl (λ c image. shows size sector d (sectors_of size sector d named place s at) at.suits.pages named place v c (inl is) (has_others size sector d named place s at.others c image)))
      (λ cold. inr (λ c image. cold_shows v c cold image))
      (left v may)

  pub closing_sectors : s.tears ≡ true → (v : List ℕ) → MayBeRead journal_log s v → IsHot v → s.sector ≤ word v 20
  closing_sectors torn v may hot_v = ⊎_elim
      (λ is. omega (arith, sector_told size sector d (sectors_of size sector d named place s at) at.suits.pages named place v (inl is) hot_v, at.sector_is))
      (λ cold. absurd (cold hot_v))
      (left v may)
