-- The end of a restore: the database is synced, and then zeros are written over the log's header.
use Rattle.std.proofs.Common.{◌≡◌, inl, inr, ⊎_elim, ℕ, ◌≤◌, List, length, take, replicate, refl, sym, ◌∙◌, subst, arith, Result, Ok, Err, IsErr}
use Rattle.recovery.proofs.Below.{take-replicate, FileState, IsSettled, longest, DiskState, IsSoundDisk, ArePresent, Writes, Syncs, Elsewhere, Change, write, sync, InFile, HadRefusal, IsLong, Later, TellsRefusal, SyncStep, Told, File, Db, Log, DiskError, later_then, later_write, sync_later, sync_refused, sync_done, image_elsewhere, sound_writes, refusal_after, file_syncs, Ends, ZeroSteps, EndSteps}
use Rattle.recovery.proofs.AnswersOfSteps.{zero_refused, zero_db}
use Rattle.recovery.proofs.ToldRefusals.{quiet_ok, tells_then, tells_sync, tells_zero}

module _ {T E : Type 0} (device : E) (count : ℕ) (r : Result T E) (a b : DiskState) where
  -- what is asked for
  pub zero_later : {May : Change → Type 0} → May (write Log 0 (replicate count 0)) → May (sync Log) → IsSoundDisk a → ZeroSteps device count r a b → Later May a b
  zero_later {May} zeros syncs sound steps = ⊎_elim
      (λ failed. later_write Log 0 (replicate count 0) failed.0 a b zeros sound failed.3)
      (λ done. let mid : Later May a done.0 = later_write Log 0 (replicate count 0) (Ok done.1.0) a done.0 zeros sound done.1.1 in
      later_then a done.0 b mid (sync_later device Log r done.0 b syncs mid.sound done.2))
      steps

module _ {T E : Type 0} (device : E) (count : ℕ) (r : Result T E) (a b : DiskState) (steps : EndSteps device count r a b) where
  pub end_later : {May : Change → Type 0} → ((f : File) → May (sync f)) → May (write Log 0 (replicate count 0)) → IsSoundDisk a → Later May a b
  end_later {May} syncs zeros sound = ⊎_elim
      (λ failed. sync_later device Db r a b (syncs Db) sound failed.1)
      (λ done. let mid : Later May a done.0 = sync_later device Db (Ok done.1.0) a done.0 (syncs Db) sound done.1.1 in
      later_then a done.0 b mid (zero_later device count r done.0 b zeros (syncs Log) mid.sound done.2))
      steps

  pub tells_end : TellsRefusal device r a b
  tells_end = ⊎_elim
      (λ failed. tells_sync device Db r a b failed.1)
      (λ done. tells_then device r a done.0 b (quiet_ok device (Ok done.1.0) done.1.0 a done.0 refl (tells_sync device Db (Ok done.1.0) a done.0 done.1.1)) (tells_zero device count r done.0 b done.2))
      steps

  pub end_refused : count ≤ longest → (e : E) → IsSoundDisk a → r ≡ Err e → (e ≡ device) × HadRefusal a b
  end_refused short e sound is = ⊎_elim
      (λ failed. sync_refused device Db r e a b sound is failed.1)
      (λ done. let mid : Later (InFile Db) a done.0 = sync_later device Db (Ok done.1.0) a done.0 refl sound done.1.1 in
      let last = zero_refused device count short r e done.0 b mid.sound is done.2 in (last.0, refusal_after a done.0 b mid.refused last.1))
      steps

  -- where it was done the file is durable as it was
  pub end_settled : (v : T) (db : List ℕ) → IsSoundDisk a → r ≡ Ok v → ArePresent a.db db → IsSettled b.db db
  end_settled v db sound is are = ⊎_elim
      (λ failed. absurd (let bad = failed.0 in cc))
      (λ done. subst (λ (s : FileState). IsSettled s db) (sym (zero_db device count r done.0 b done.2)) (sync_done device Db (Ok done.1.0) done.1.0 db a done.0 sound refl done.1.1 are))
      steps

-- ---- Its calls.

front_zeros : (count : ℕ) → count ≤ 32 → ◌≡◌ {A = List ℕ} (take count (replicate 32 0)) (replicate count 0)
front_zeros count le = take-replicate count 32 0 le

module _ (count : ℕ) (r : Result (Unit {0}) DiskError) where
  -- a refused call of the three
  pub end_unsynced : (called : Result (Unit {0}) DiskError) (e : DiskError) (a b : DiskState) → called ≡ Err e → r ≡ Err e → Syncs Db called a b → Ends count r a b
  end_unsynced called e a b was is synced = let same : called ≡ r = was ∙ sym is in
      inl (subst (λ (x : Result (Unit {0}) DiskError). IsErr x) (sym is) refl, subst (λ (x : Result (Unit {0}) DiskError). Syncs Db x a b) same synced)

  module _ (short : count ≤ 32) (a b c : DiskState) (first : Syncs Db (Ok (tt {0})) a b) where
    pub end_unwritten : (called : Result (Unit {0}) DiskError) (e : DiskError) → called ≡ Err e → r ≡ Err e → Writes Log 0 (take count (replicate 32 0)) called b c → Ends count r a c
    end_unwritten called e was is wrote = let same : called ≡ r = was ∙ sym is in
        inr (
          b,
          first,
          inl (
            subst (λ (x : Result (Unit {0}) DiskError). IsErr x) (sym is) refl,
            subst (λ (x : Result (Unit {0}) DiskError). Writes Log 0 (replicate count 0) x b c) same (subst (λ (x : List ℕ). Writes Log 0 x called b c) (front_zeros count short) wrote),
          ),
        )

    -- or all of them
    pub end_written : (d : DiskState) → Writes Log 0 (take count (replicate 32 0)) (Ok (tt {0})) b c → Syncs Log r c d → Ends count r a d
    end_written d wrote synced = inr (b, first, inr (c, subst (λ (x : List ℕ). Writes Log 0 x (Ok (tt {0})) b c) (front_zeros count short) wrote, synced))

-- ---- An engine tells them by its own error.

module _ {E : Type 0} (device : E) where
  pub told_device : (called : Result (Unit {0}) DiskError) (e : DiskError) (r : Result (Unit {0}) E) → called ≡ Err e → r ≡ Err device → Told device called r
  told_device called e r was is = subst (λ (x : Result (Unit {0}) DiskError). Told device x r) (sym was) (subst (λ (x : Result (Unit {0}) E). Told {T = Unit {0}} device (Err e) x) (sym is) refl)

  pub told_done : (called : Result (Unit {0}) DiskError) (u v : Unit {0}) → called ≡ Ok u → Told device called (Ok v)
  told_done called u v was = subst (λ (x : Result (Unit {0}) DiskError). Told {E = E} device x (Ok v)) (sym was) tt

  err_told : (called : Result (Unit {0}) DiskError) (r : Result (Unit {0}) E) → IsErr called → Told device called r → IsErr r
  err_told (Err e) (Err x) bad told = refl
  err_told (Err e) (Ok v) bad told = absurd told
  err_told (Ok u) r bad told = absurd (let no = bad in cc)

  pub end_told : (count : ℕ) (called : Result (Unit {0}) DiskError) (r : Result (Unit {0}) E) (a b : DiskState) → Told device called r → Ends count called a b → EndSteps device count r a b
  end_told count called r a b told ends = ⊎_elim
      (λ failed. inl (err_told called r failed.0 told, (called, told, failed.1)))
      (λ done. inr (
        done.0,
        (tt, (Ok tt, tt, done.1)),
        ⊎_elim
            (λ failed. inl (called, failed.0, told, failed.1))
            (λ all. inr (all.0, (tt, all.1), (called, told, all.2)))
            done.2,
      ))
      ends

-- it was done
pub ended : {T E : Type 0} (device : E) (count : ℕ) (v : T) (a b : DiskState) → EndSteps {T = T} device count (Ok v) a b → (mid : DiskState) × ((done : T) × SyncStep device Db (Ok done) a mid) × ZeroSteps {T = T} device count (Ok v) mid b
ended device count v a b steps = ⊎_elim (λ failed. absurd (let bad = failed.0 in cc)) (λ done. done) steps

-- ---- How long the file is.

module _ (n : ℕ) where
  pub long_syncs : {T : Type 0} (f : File) (result : Result T DiskError) (old new : DiskState) → IsSoundDisk old → Syncs f result old new → IsLong n old → IsLong n new
  long_syncs f result old new sound synced long db image = long db (file_syncs f result old new sound synced db image)

  -- what is done to the log alone
  pub long_else : {T : Type 0} (result : Result T DiskError) (old new : DiskState) → Elsewhere Log result old new → IsLong n old → IsLong n new
  long_else result old new elsewhere long db image = long db (image_elsewhere Log result old new elsewhere db image)

  pub long_zero : {T E : Type 0} (device : E) (count : ℕ) (result : Result T E) (old new : DiskState) → IsSoundDisk old → ZeroSteps device count result old new → IsLong n old → IsLong n new
  long_zero device count result old new sound steps long = ⊎_elim
      (λ failed. long_else failed.0 old new failed.3.elsewhere long)
      (λ done. long_syncs Log done.2.0 done.0 new (sound_writes Log 0 (replicate count 0) (Ok done.1.0) old done.0 sound done.1.1) done.2.2 (long_else (Ok done.1.0) old done.0 done.1.1.elsewhere long))
      steps

  -- it is so long as it is when it is synced
  long_synced : {T E : Type 0} (device : E) (v : T) (called : Result T DiskError) (old new : DiskState) → old.db.len ≡ n → Told {E = E} device called (Ok v) → Syncs Db called old new → IsLong n new
  long_synced device v (Ok x) old new len told synced db image =
      let least : old.db.len ≤ length db = subst (λ (k : ℕ). k ≤ length db) synced.file.least image.least in
      let greatest : length db ≤ old.db.len = subst (λ (k : ℕ). length db ≤ k) synced.file.greatest image.greatest in
      omega (arith, len)
  long_synced device v (Err e) old new len told synced db image = absurd told

  pub long_done : {T E : Type 0} (device : E) (v : T) (old new : DiskState) → old.db.len ≡ n → SyncStep {T = T} device Db (Ok v) old new → IsLong n new
  long_done device v old new len step = long_synced device v step.0 old new len step.1 step.2
