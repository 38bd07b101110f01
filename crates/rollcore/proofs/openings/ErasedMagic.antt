-- The first byte of a magic is made a zero at the front of a log that isn't hot: no log that may be read is.
use Rattle.rollcore.proofs.Below.{AreCold, ArePresent, AreWhole, Bool, BreakSteps, Changed, Contains, Contains-push_cases, Database, Device, DiskError, DiskState, Err, FileState, FrontAnswer, HasMagic, InFile, IsHot, IsImage, IsLogDurable, IsPageSize, IsSectorSize, IsSound, IsSoundDisk, Later, List, Log, LosesMagic, Ok, PutsZero, Result, RollError, Show, ShowsAlone, ShowsOne, Still, SyncStep, WriteTouches, Writes, [], alters_write, ap, arith, byte, cases_lt, down_by, down_present, down_read, drop, ext_get_or, false, get_or, get_or-append_right, get_or-drop, get_or-take, goes_broken, inl, inr, journal_log, length, length-drop, length-take, max, may_down, narrows_syncs, part_same, present_byte, present_written, refl, refusal_after, settled_one, shows_by, still_sound, subst, sym, sync_down, sync_refused, take, true, whole_write, word, word_same, written, written_inside, written_outside, written_read, zeros_cold, ℕ, ⊎_elim, ◌+◌, ◌-◌, ◌/◌, ◌<◌, ◌∙◌, ◌∷◌, ◌≡◌, ◌≤◌}
use Rattle.rollcore.proofs.crash.ImagesOfSyncedLog.{down_left}

-- a log with a magic at its front has eight bytes
pub magic_long : (w : List ℕ) → HasMagic w 0 → 8 ≤ length w
magic_long w is =
    let eight : length (take 8 (drop 0 w)) ≡ 8 = ap (λ (x : List ℕ). length x) is in
    omega (arith, eight, length-take 8 (drop 0 w), length-drop 0 w)

-- a zero at the front is no magic
pub zero_gate : (v : List ℕ) → get_or v 0 0 ≡ 0 → HasMagic v 0 → ⊥
zero_gate v zero is =
    let first : get_or (take 8 v) 0 0 ≡ 0 = get_or-take 8 v 0 0 (omega arith) ∙ zero in
    let there : get_or (take 8 v) 0 0 ≡ 217 = ap (λ (l : List ℕ). get_or l 0 0) is in
    omega (arith, first, there)

-- where the first 28 bytes are the same and the length is, both are hot
hot_by : (w v : List ℕ) → length v ≡ length w → ((i : ℕ) → i < 28 → get_or v i 0 ≡ get_or w i 0) → IsHot v → IsHot w
hot_by w v long front hot =
    let same : (at : ℕ) → at + 4 ≤ 28 → word w at ≡ word v at = λ at le. sym (word_same v w at long (λ i a b. front i (omega arith))) in
    record {
      first = record {
        magic = sym (part_same v w 0 8 long (λ i a b. front i (omega arith))) ∙ hot.first.magic;
        sector = subst IsPageSize (sym (same 20 (omega arith))) hot.first.sector;
        size = subst IsPageSize (sym (same 24 (omega arith))) hot.first.size;
      };
      whole = omega (arith, hot.whole, long, same 20 (omega arith));
    }

-- a log that lost its magic has none
pub lost_magic : (w v : List ℕ) → LosesMagic w v → HasMagic v 0 → ⊥
lost_magic w v loses is =
    let none : HasMagic w 0 → ⊥ = λ had. zero_gate v (ap (λ (l : List ℕ). get_or l 0 0) (loses.broken had)) is in
    none (subst (λ (l : List ℕ). HasMagic l 0) (loses.same none) is)

-- a log whose first byte was made a zero
zero_present : (w : List ℕ) (a b : DiskState) → ArePresent a.log w → 8 ≤ length w → (u : Unit {0}) → Writes Log 0 (0 ∷ []) (Ok u) a b → ArePresent b.log (0 ∷ drop 1 w)
zero_present w a b are some u wrote = record {
  len = omega (arith, length-drop 1 w, are.len, wrote.file.1.len, some);
  each = λ i lt. ⊎_elim
      (λ first. let z : i ≡ 0 = omega arith in
      ap (λ (j : ℕ). get_or (0 ∷ drop 1 w) j 0) z ∙ sym (ap (λ (j : ℕ). byte b.log j) z ∙ present_written Log 0 (0 ∷ []) a b wrote 0 ∙ written_inside a.log 0 (0 ∷ []) 0 (omega arith) (omega arith)))
      (λ rest. get_or-append_right (0 ∷ []) (drop 1 w) 1 i 0 refl rest ∙ get_or-drop 1 w (i - 1) 0 ∙ ap (λ (n : ℕ). get_or w n 0) (back i rest)
      ∙ present_byte a.log w are i ∙ sym (present_written Log 0 (0 ∷ []) a b wrote i ∙ written_outside a.log 0 (0 ∷ []) i (inr (omega arith))))
      (cases_lt i 1);
}
  where
    back : (i : ℕ) → 1 ≤ i → 1 + (i - 1) ≡ i
    back i le = omega arith

one_write : (write : ℕ × List ℕ) → Contains ((0, 0 ∷ []) ∷ []) write → (0, 0 ∷ []) ≡ write
one_write write has = ⊎_elim (λ empty. absurd (omega (arith, empty.1))) (λ e. e) (Contains-push_cases [] (0, 0 ∷ []) write has)

zero_plus : (i : ℕ) → 0 + i ≡ i
zero_plus i = omega arith

module _ (w : List ℕ) (old new : DiskState) (sound : IsSoundDisk old) (sectors : IsSectorSize old.sector) (durable : IsLogDurable old w) (some : 8 ≤ length w) (cold : IsHot w → ⊥) where
  module _ (after : IsSound old.sector new.log) (changed : Changed old.sector (WriteTouches old.sector old.log 0 (0 ∷ [])) (written old.log 0 (0 ∷ [])) (max old.log.len (0 + length {A = ℕ} (0 ∷ []))) old.log new.log) where
    same_length : (tears : Bool) (v : List ℕ) → IsImage old.sector tears new.log v → length v ≡ length w
    same_length tears v image = omega (arith, some, image.greatest, image.least, changed.greatest, changed.least, durable.settled.greatest, durable.settled.len, durable.settled.least)

    put_listed : (v : List ℕ) → IsImage old.sector false new.log v → IsHot v → ⊥
    put_listed v image hot =
        let long = same_length false v image in
        let was = (alters_write old.sector false 0 (0 ∷ []) old.log new.log sound.log after changed).comes v image in
        let is_w : was.file ≡ w = settled_one old.log w durable.settled old.sector false was.file was.image in
        ⊎_elim
        (λ put. zeros_cold v (ap (λ (j : ℕ). get_or v j 0) (sym (zero_plus 0)) ∙ put 0 (omega arith)) hot)
        (λ kept. cold (subst IsHot (ext_get_or 0 v w long (λ i lt. ⊎_elim
        (λ a. let z : i ≡ 0 = omega arith in ap (λ (j : ℕ). get_or v j 0) (z ∙ sym (zero_plus 0)) ∙ kept.2 0 (omega arith) ∙ ap (λ (x : List ℕ). get_or x (0 + 0) 0) (settled_one old.log w durable.settled old.sector false kept.0 kept.1) ∙ ap (λ (j : ℕ). get_or w j 0) (zero_plus 0 ∙ sym z))
        (λ b. ⊎_elim
        (λ e. e ∙ ap (λ (x : List ℕ). get_or x i 0) is_w)
        (λ past. absurd (omega (arith, past.0, durable.settled.len)))
        (was.each i (omega (arith, ap (λ (x : List ℕ). length x) is_w)) (λ spreads. ⊎_elim (λ in_range. omega (arith, in_range.1)) (λ torn. cc torn.0) spreads)))
        (cases_lt i 1))) hot))
        (whole_write old.sector 0 (0 ∷ []) old.log new.log sound.log changed (λ i le lt. let z : i ≡ 0 = omega arith in ap (λ (j : ℕ). j / old.sector) z) v image (omega (arith, long, some)))

    put_torn : (v : List ℕ) → IsImage old.sector true new.log v → AreWhole w ((0, 0 ∷ []) ∷ []) v → IsHot v → ⊥
    put_torn v image whole hot =
        let long = same_length true v image in
        ⊎_elim
        (λ stands. cold (hot_by w v long (λ i lt. sym (get_or-take 28 v i 0 lt) ∙ ap (λ y. get_or y i 0) stands.1 ∙ get_or-take 28 w i 0 lt) hot))
        (λ lies.
        let e : (0, 0 ∷ []) ≡ lies.0 = one_write lies.0 lies.1 in
        let L : ℕ × List ℕ → Type 0 = λ y. 0 + 28 ≤ y.0 + length y.1 in
        let short : 0 + 28 ≤ 0 + length {A = ℕ} (0 ∷ []) = subst L (sym e) lies.3 in
        omega (arith, short))
        (whole.first hot)

  pub written_cold : {T : Type 0} (result : Result T DiskError) → Writes Log 0 (0 ∷ []) result old new → AreCold new
  written_cold result wrote =
      written_read journal_log (λ v. IsHot v → ⊥) w 0 (0 ∷ []) old new sound durable cold put_listed (λ torn after changed v image whole hot. put_torn after changed v image whole hot) result wrote

-- ---- what was shown still is

-- the file is left alone, and no log is hot
module _ (size : ℕ) (d : Database) (w : List ℕ) (old new : DiskState) (durable : IsLogDurable old w) (cold : IsHot w → ⊥) (sound : IsSoundDisk new)
    (sector : new.sector ≡ old.sector) (tears : new.tears ≡ old.tears) (same : new.db ≡ old.db) (are_cold : AreCold new) where
  file_before : (db : List ℕ) → IsImage new.sector new.tears new.db db → IsImage old.sector old.tears old.db db
  file_before db image = subst (λ (n : ℕ). IsImage n old.tears old.db db) sector (subst (λ (x : Bool). IsImage new.sector x old.db db) tears (subst (λ (s : FileState). IsImage new.sector new.tears s db) same image))

  pub cold_alone : ((db : List ℕ) → IsImage old.sector old.tears old.db db → Show size db w d) → ShowsAlone journal_log size d new
  cold_alone images = shows_by journal_log size d new sound (λ v. IsHot v → ⊥)
      (λ v left. are_cold v (inr left))
      (λ v image. are_cold v (inl image))
      (λ db v image none. record { hot = λ hot. absurd (none hot); cold = λ c. (images db (file_before db image)).cold cold })

  pub cold_one : ShowsOne size d old → ShowsOne size d new
  cold_one one = record {
    alone = cold_alone (λ db image. one.alone.images db w image (down_left w old durable));
    ends = record {
      cold = λ db v image may c. one.ends.cold db w (file_before db image) (may_down journal_log w old durable) cold;
      sectors = λ torn v may hot. absurd (are_cold v may hot);
    };
  }

-- ---- the steps

module _ (w : List ℕ) (a b : DiskState) (sound : IsSoundDisk a) (sectors : IsSectorSize a.sector) (durable : IsLogDurable a w) (cold : IsHot w → ⊥) where
  still_down : Still a b → IsLogDurable b w
  still_down is = down_by w a b durable is.log is.tears is.kept is.handed

  still_cold : Still a b → AreCold b
  still_cold is v may hot = cold (subst IsHot (down_read journal_log w b (still_down is) v may) hot)

  puts_cold : {T : Type 0} (called : Result T DiskError) → PutsZero 0 called a b → AreCold b
  puts_cold called puts =
      let is = puts.still in
      written_cold w puts.mid b (still_sound a puts.mid sound is) (subst IsSectorSize (sym is.sector) sectors) (down_by w a puts.mid durable is.log is.tears is.kept is.handed)
      (magic_long w (puts.magic w (down_present w a durable))) cold called puts.wrote

  failed_cold : (e : RollError) → BreakSteps 0 (Err e) a b → AreCold b
  failed_cold e steps = ⊎_elim (λ is. still_cold is) (λ puts. puts_cold puts.0 puts.1) steps.2

  pub front_failed : {T : Type 0} (e : RollError) (r : Result Bool RollError) (q : Result T RollError) → r ≡ Err e → BreakSteps 0 r a b → q ≡ Err e → FrontAnswer w q a b
  front_failed {T = T} e r q was steps given =
      let failed = subst (λ (x : Result Bool RollError). BreakSteps 0 x a b) was steps in
      subst (λ (x : Result T RollError). FrontAnswer w x a b) (sym given) (record { cold = failed_cold e failed; done = tt; refused = (failed.0, failed.1) })

  -- no magic stood there
  pub front_none : (r : Result Bool RollError) → r ≡ Ok false → BreakSteps 0 r a b → FrontAnswer {T = Unit {0}} w (Ok tt) a b
  front_none r was steps =
      let none = subst (λ (x : Result Bool RollError). BreakSteps 0 x a b) was steps in
      record { cold = still_cold none.0; done = (w, still_down none.0, record { broken = λ magic. absurd (none.1 w (down_present w a durable) magic); same = λ _. refl }); refused = tt }

  -- one stood there, and the log is synced
  module _ (r : Result Bool RollError) (was : r ≡ Ok true) (steps : BreakSteps 0 r a b) (c : DiskState) where
    puts : PutsZero {T = Unit {0}} 0 (Ok tt) a b
    puts = subst (λ (x : Result Bool RollError). BreakSteps 0 x a b) was steps

    goes : Later (InFile Log) a b
    goes = goes_broken 0 r a b refl sound steps

    synced_cold : {T : Type 0} (q : Result T RollError) → SyncStep Device Log q b c → AreCold c
    synced_cold q step v may hot = puts_cold (Ok tt) puts v ((narrows_syncs journal_log Log step.0 b c goes.sound step.2).log v may) hot

    pub front_unsynced : {T U : Type 0} (e : RollError) (q : Result T RollError) (x : Result U RollError) → q ≡ Err e → SyncStep Device Log q b c → x ≡ Err e → FrontAnswer w x a c
    front_unsynced {U = U} e q x is step given =
        let refused = sync_refused Device Log q e b c goes.sound is step in
        subst (λ (y : Result U RollError). FrontAnswer w y a c) (sym given) (record { cold = synced_cold q step; done = tt; refused = (refused.0, refusal_after a b c goes.refused refused.1) })

    there_magic : HasMagic w 0
    there_magic = puts.magic w (down_present w a durable)

    there_are : ArePresent b.log (0 ∷ drop 1 w)
    there_are =
        let is = puts.still in
        let are = down_present w puts.mid (down_by w a puts.mid durable is.log is.tears is.kept is.handed) in
        zero_present w puts.mid b are (magic_long w there_magic) tt puts.wrote

    pub front_synced : {T : Type 0} (v : T) (q : Result T RollError) → q ≡ Ok v → SyncStep Device Log q b c → FrontAnswer {T = Unit {0}} w (Ok tt) a c
    front_synced v q is step = record {
      cold = synced_cold q step;
      done = (
        0 ∷ drop 1 w,
        sync_down q v (0 ∷ drop 1 w) b c goes.sound is step there_are,
        record { broken = λ _. refl; same = λ none. absurd (none there_magic) },
      );
      refused = tt;
    }
