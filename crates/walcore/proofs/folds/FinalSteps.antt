-- The end of a fold: the database is synced, the log's header zeroed and synced, and the log cut and synced.
use Rattle.walcore.proofs.Below.{CutSteps, Device, DiskError, DiskState, EndAnswer, EndSteps, Err, FileState, HadRefusal, IsLogDurable, IsSettled, IsSoundDisk, Later, Log, MayFoldWithin, Ok, Result, Syncs, WalError, [], arith, end_later, end_settled, had_refusal, inr, later_cut, later_then, may_sync, none_ok, refl, refusal_after, subst, sym, sync_later, sync_refused, synced_down, told_err, told_ok, ℕ, ⊎_elim, ◌∙◌, ◌≡◌}

module _ {T : Type 0} where
  -- ---- The database is synced, and the header zeroed.

  pub fold_end : (most size : ℕ) (r : Result T WalError) (a b : DiskState) → IsSoundDisk a → EndSteps Device 32 r a b → Later (MayFoldWithin most size) a b
  fold_end most size r a b sound steps = end_later Device 32 r a b steps (may_sync most size) (inr (refl, refl)) sound

  -- ---- The log is cut.

  pub cut_later : (most size : ℕ) (r : Result T WalError) (a b : DiskState) → IsSoundDisk a → CutSteps r a b → Later (MayFoldWithin most size) a b
  cut_later most size r a b sound steps = ⊎_elim
      (λ failed. later_cut Log 0 failed.0 a b (inr refl) sound failed.3)
      (λ done. let mid : Later (MayFoldWithin most size) a done.0 = later_cut Log 0 (Ok done.1.0) a done.0 (inr refl) sound done.1.1 in
      later_then a done.0 b mid (sync_later Device Log r done.0 b (inr tt) mid.sound done.2))
      steps

  pub cut_off : (r : Result T WalError) (e : WalError) (a b : DiskState) → IsSoundDisk a → r ≡ Err e → CutSteps r a b → (e ≡ Device) × HadRefusal a b
  cut_off r e a b sound is steps = ⊎_elim
      (λ failed. let t = told_err Device failed.0 r e is failed.2 in
      (t.0, had_refusal failed.0 t.1.0 0 a b sound.refused t.1.1 failed.3.within (omega arith) failed.3.elsewhere.refused))
      (λ done. let mid : Later (MayFoldWithin 0 0) a done.0 = later_cut Log 0 (Ok done.1.0) a done.0 (inr refl) sound done.1.1 in
      let last = sync_refused Device Log r e done.0 b mid.sound is done.2 in (last.0, refusal_after a done.0 b mid.refused last.1))
      steps

  pub cut_db : (r : Result T WalError) (a b : DiskState) → CutSteps r a b → b.db ≡ a.db
  cut_db r a b steps = ⊎_elim (λ failed. failed.3.elsewhere.other) (λ done. done.2.2.elsewhere.other ∙ done.1.1.elsewhere.other) steps

  pub cut_done : (r : Result T WalError) (v : T) (a b : DiskState) → IsSoundDisk a → r ≡ Ok v → CutSteps r a b → IsLogDurable b []
  cut_done r v a b sound is steps = ⊎_elim
      (λ failed. absurd (none_ok Device failed.0 r v failed.1 is failed.2))
      (λ done. let mid : Later (MayFoldWithin 0 0) a done.0 = later_cut Log 0 (Ok done.1.0) a done.0 (inr refl) sound done.1.1 in
      let t = told_ok Device done.2.0 r v is done.2.1 in
      synced_down [] done.0 b mid.sound (record { len = sym done.1.1.file.1.len; each = λ i lt. absurd (omega (arith, done.1.1.file.1.len)) }) (subst (λ (x : Result T DiskError). Syncs Log x done.0 b) t.1 done.2.2))
      steps

  -- ---- All of it.

  pub end_err : (q : Result T WalError) (e : WalError) (a b : DiskState) → q ≡ Err e → (e ≡ Device) × HadRefusal a b → EndAnswer q a b
  unfolding EndAnswer
  end_err q e a b is had = subst (λ (x : Result T WalError). EndAnswer x a b) (sym is) had

  pub end_cut : (u : T) (r : Result T WalError) (a b c : DiskState) → IsSoundDisk a → EndSteps {T = T} Device 32 (Ok u) a b → CutSteps r b c → EndAnswer r a c
  unfolding EndAnswer
  end_cut u (Ok v) a b c sound steps cut = (
    λ db are. subst (λ (s : FileState). IsSettled s db) (sym (cut_db (Ok v) b c cut)) (end_settled Device 32 (Ok u) a b steps u db sound refl are),
    cut_done (Ok v) v b c (fold_end 0 0 (Ok u) a b sound steps).sound refl cut,
  )
  end_cut u (Err e) a b c sound steps cut =
      let mid = fold_end 0 0 (Ok u) a b sound steps in
      let had = cut_off (Err e) e b c mid.sound refl cut in (had.0, refusal_after a b c mid.refused had.1)
