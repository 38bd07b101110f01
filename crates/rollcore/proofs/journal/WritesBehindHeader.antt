-- What is written behind the place of a header.
use Rattle.rollcore.proofs.Between.{Bool, Database, DiskError, DiskState, FileState, IsAt, IsClear, IsImage, IsSteady, Journaled, List, Log, MayBeRead, Meets, Recording, Result, Spreads, Steady, Still, Syncs, Tells, Unharmed, Writes, ap, arith, at_by, div-lt_iff_lt-mul, get_or, image_read, inl, inr, journal_log, journaled_same, length, sector_some, settled_one, started, steady_syncs, steady_writes, still_sound, subst, suits_by, suits_syncs, suits_writes, sym, then_sync, then_write, unharmed_still, untouched, ℕ, ◌*◌, ◌+◌, ◌/◌, ◌<◌, ◌≡◌, ◌≤◌}

-- places in one sector are all below the end of a sector, or none is
below_sector : (sector k i j : ℕ) → 1 ≤ sector → i < k * sector → j / sector ≡ i / sector → j < k * sector
below_sector sector k i j some lt same =
    let in_k : i / sector < k = (div-lt_iff_lt-mul {k = sector} {x = i} {y = k} some).1 lt in
    (div-lt_iff_lt-mul {k = sector} {x = j} {y = k} some).0 (omega arith)

module _ (size sector : ℕ) (d : Database) (named : List ℕ) (place : ℕ) where
  -- the end of the header's sector is the end of a sector of the disk
  end_of : (s : DiskState) → IsAt size sector d named place s → (k : ℕ) × (place + sector ≡ k * s.sector)
  end_of s at = (at.multiple.0 + 1, omega (arith, at.multiple.1, ap (λ (n : ℕ). (at.multiple.0 + 1) * n) at.sector_is))

  module _ (w : List ℕ) where
    -- a place below there isn't in a sector that was touched
    below_clear : (s : DiskState) → Recording size sector d named place w s → (i : ℕ) → i < place + sector → IsClear s.sector s.tears s.log i
    below_clear s is i lt torn far touched =
        let meets : Meets s.sector 0 s.log.greatest (i / s.sector) = is.at.suits.sound.log.touched (i / s.sector) touched in
        let end = end_of s is.at in
        let below : meets.0 < end.0 * s.sector = below_sector s.sector end.0 i meets.0 (omega (arith, sector_some s.sector is.at.suits.sectors)) (omega (arith, end.1)) meets.3 in
        untouched s.sector s.log meets.0 (get_or w meets.0 0) is.at.suits.sound.log
        (subst (λ (t : Bool). IsSteady s.sector t s.log meets.0 (get_or w meets.0 0)) torn (is.below meets.0 (omega (arith, end.1))))
        meets.2 (subst (λ (x : ℕ). 0 < length (s.log.earlier x)) (sym meets.3) touched)

    out_of : (s : DiskState) → Recording size sector d named place w s → (from to i : ℕ) → place + sector ≤ from → i < place + sector → Spreads s.sector s.tears from to i → ⊥
    out_of s is from to i le lt (inl in_range) = omega (arith, in_range.0)
    out_of s is from to i le lt (inr torn) =
        let end = end_of s is.at in
        let below : torn.1.0 < end.0 * s.sector = below_sector s.sector end.0 i torn.1.0 (omega (arith, sector_some s.sector is.at.suits.sectors)) (omega (arith, end.1)) torn.1.3 in
        omega (arith, end.1, torn.1.1)

    pub recording_begins : (s : DiskState) → Journaled size sector d named place w s → Recording size sector d named place w s
    recording_begins s is = record {
      at = is.at;
      is = is.is;
      below = λ i lt v image. ap (λ (x : List ℕ). get_or x i 0) (settled_one s.log w is.durable.settled s.sector s.tears v image);
      long = omega (arith, is.durable.settled.least);
    }

    pub recording_writes : {T : Type 0} (at : ℕ) (bytes : List ℕ) (result : Result T DiskError) (old new : DiskState) → Recording size sector d named place w old → place + sector ≤ at
        → Writes Log at bytes result old new → Recording size sector d named place w new
    recording_writes at bytes result old new is le wrote = record {
      at = at_by size sector d named place old new is.at (suits_writes size Log at bytes result old new is.at.suits wrote) wrote.elsewhere.sector wrote.elsewhere.tears wrote.elsewhere.other;
      is = is.is;
      below = λ i lt. steady_writes Log at bytes result old new i (get_or w i 0) is.at.suits.sound.log wrote (is.below i lt) (out_of old is at (at + length bytes) i le lt) (below_clear old is i lt);
      long =
          let alters = then_write Log at (at + length bytes) at bytes result old old new (omega arith) (omega arith) (started Log at (at + length bytes) old is.at.suits.sound.log) wrote in
          omega (arith, is.long, alters.file.least);
    }

    pub recording_syncs : {T : Type 0} (result : Result T DiskError) (old new : DiskState) → Recording size sector d named place w old → Syncs Log result old new → Recording size sector d named place w new
    recording_syncs result old new is synced = record {
      at = at_by size sector d named place old new is.at (suits_syncs size Log result old new is.at.suits synced) synced.elsewhere.sector synced.elsewhere.tears synced.elsewhere.other;
      is = is.is;
      below = λ i lt. steady_syncs Log result old new i (get_or w i 0) is.at.suits.sound.log synced (is.below i lt);
      long =
          let alters = then_sync Log 0 0 result old old new (started Log 0 0 old is.at.suits.sound.log) synced in
          omega (arith, is.long, alters.file.least);
    }

    pub recording_still : (old new : DiskState) → Recording size sector d named place w old → Still old new → Recording size sector d named place w new
    recording_still old new is still = record {
      at = at_by size sector d named place old new is.at (suits_by size old new is.at.suits (still_sound old new is.at.suits.sound still) still.sector still.tears) still.sector still.tears still.db;
      is = is.is;
      below = λ i lt. same old new still i (get_or w i 0) (is.below i lt);
      long = omega (arith, is.long, ap (λ (s : FileState). s.least) still.log);
    }
      where
        same : (old new : DiskState) → Still old new → (i b : ℕ) → Steady Log old i b → Steady Log new i b
        same old new still i b steady = subst (λ (n : ℕ). IsSteady n new.tears new.log i b) (sym still.sector)
            (subst (λ (t : Bool). IsSteady old.sector t new.log i b) (sym still.tears) (subst (λ (s : FileState). IsSteady old.sector old.tears s i b) (sym still.log) steady))

    -- whatever is left, the journal is as it was
    pub recording_left : (s : DiskState) → Recording size sector d named place w s → (v : List ℕ) → MayBeRead journal_log s v → Tells size sector d named place v
    recording_left s is v may =
        let image : IsImage s.sector s.tears s.log v = image_read s v may in
        let wide : 512 ≤ sector = omega (arith, sector_some s.sector is.at.suits.sectors, is.at.sector_is) in
        inl (journaled_same size sector d wide named place w v is.is (record { each = λ i lt. is.below i (omega arith) v image; long = omega (arith, is.long, image.least) }))

    pub recording_unharmed : (s : DiskState) → Recording size sector d named place w s → Unharmed size d s
    recording_unharmed s is = unharmed_still size sector d named place s is.at (recording_left s is)
