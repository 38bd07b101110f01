-- What is told of a call, and disks after it; and a sync that is told of.
use Rattle.crashdisk.proofs.Facts.{ArePresent, Change, Cuts, DiskError, DiskState, Elsewhere, Err, File, HadRefusal, HasCalls, IsErr, IsSettled, IsSoundDisk, Later, List, Looks, Ok, PlaceAnswer, Result, Still, SyncStep, Syncs, Told, Writes, arith, byte, calls_then, calls_wider, counted_grows, get_or, length, no_calls, of, one_cut, one_sync, one_write, refl, set_len, settled_sync, sound_cuts, sound_of, sound_syncs, sound_writes, subst, sym, sync, write, ℕ, ◌+◌, ◌<◌, ◌∙◌, ◌≡◌}
use Rattle.crashdisk.proofs.call.UnchangingCalls.{still_sound, still_looks, had_refusal}

module _ {May : Change → Type 0} where
  pub later_same : (a : DiskState) → IsSoundDisk a → Later May a a
  later_same a sound = record { sector = refl; tears = refl; refused = omega arith; sound = sound; calls = no_calls a }

  pub later_then : (a b c : DiskState) → Later May a b → Later May b c → Later May a c
  later_then a b c first second = record { sector = second.sector ∙ first.sector; tears = second.tears ∙ first.tears; refused = omega (arith, first.refused, second.refused); sound = second.sound; calls = calls_then a b c first.calls second.calls }

  pub later_still : (a b : DiskState) → IsSoundDisk a → Still a b → Later May a b
  later_still a b sound still = record { sector = still.sector; tears = still.tears; refused = still.refused; sound = still_sound a b sound still; calls = calls_wider (λ change none. absurd none) a b still.calls }

  later_by : {T : Type 0} (f : File) (r : Result T DiskError) (a b : DiskState) → IsSoundDisk a → Elsewhere f r a b → HasCalls May a b → IsSoundDisk b → Later May a b
  later_by f r a b sound elsewhere calls after = record { sector = elsewhere.sector; tears = elsewhere.tears; refused = omega (arith, counted_grows r a.refused sound.refused, elsewhere.refused); sound = after; calls = calls }

  pub later_sync : {T : Type 0} (f : File) (r : Result T DiskError) (a b : DiskState) → May (sync f) → IsSoundDisk a → Syncs f r a b → Later May a b
  later_sync f r a b may sound synced = later_by f r a b sound synced.elsewhere (one_sync f r a b may synced) (sound_syncs f r a b sound synced)

  pub later_write : {T : Type 0} (f : File) (at : ℕ) (bytes : List ℕ) (r : Result T DiskError) (a b : DiskState) → May (write f at bytes) → IsSoundDisk a → Writes f at bytes r a b → Later May a b
  later_write f at bytes r a b may sound wrote = later_by f r a b sound wrote.elsewhere (one_write f at bytes r a b may wrote) (sound_writes f at bytes r a b sound wrote)

  pub later_cut : {T : Type 0} (f : File) (n : ℕ) (r : Result T DiskError) (a b : DiskState) → May (set_len f n) → IsSoundDisk a → Cuts f n r a b → Later May a b
  later_cut f n r a b may sound cut = later_by f r a b sound cut.elsewhere (one_cut f n r a b may cut) (sound_cuts f n r a b sound cut)

  pub later_wider : {Might : Change → Type 0} (a b : DiskState) → ((change : Change) → May change → Might change) → Later May a b → Later Might a b
  later_wider a b more later = record { sector = later.sector; tears = later.tears; refused = later.refused; sound = later.sound; calls = calls_wider more a b later.calls }

module _ {T E : Type 0} (device : E) where
  pub told_err : (called : Result T DiskError) (r : Result T E) (e : E) → r ≡ Err e → Told device called r → (e ≡ device) × ((x : DiskError) × (called ≡ Err x))
  told_err called r e is told = by called (subst (λ (y : Result T E). Told device called y) is told)
    where
      by : (c : Result T DiskError) → Told device c (Err e) → (e ≡ device) × ((x : DiskError) × (c ≡ Err x))
      by (Ok _) t = absurd t
      by (Err x) t = (t, (x, refl))

  pub told_ok : (called : Result T DiskError) (r : Result T E) (v : T) → r ≡ Ok v → Told device called r → (x : T) × (called ≡ Ok x)
  told_ok called r v is told = by called (subst (λ (y : Result T E). Told device called y) is told)
    where
      by : (c : Result T DiskError) → Told device c (Ok v) → (x : T) × (c ≡ Ok x)
      by (Ok x) t = (x, refl)
      by (Err _) t = absurd t

  pub none_ok : (called : Result T DiskError) (r : Result T E) (v : T) → IsErr called → r ≡ Ok v → Told device called r → ⊥
  none_ok called r v bad is told = by called bad (subst (λ (y : Result T E). Told device called y) is told)
    where
      by : (c : Result T DiskError) → IsErr c → Told device c (Ok v) → ⊥
      by (Ok x) bad t = cc
      by (Err _) bad t = t

  pub told_refused : (called : Result T DiskError) (r : Result T E) (x : DiskError) → called ≡ Err x → r ≡ Err device → Told device called r
  told_refused called r x is same = subst (λ (q : Result T E). Told device called q) (sym same) (subst (λ (q : Result T DiskError). Told device q (Err device)) (sym is) refl)

  pub sync_later : {May : Change → Type 0} (f : File) (r : Result T E) (a b : DiskState) → May (sync f) → IsSoundDisk a → SyncStep device f r a b → Later May a b
  sync_later f r a b may sound step = later_sync f step.0 a b may sound step.2

  pub sync_refused : (f : File) (r : Result T E) (e : E) (a b : DiskState) → IsSoundDisk a → r ≡ Err e → SyncStep device f r a b → (e ≡ device) × HadRefusal a b
  sync_refused f r e a b sound is step =
      let t = told_err step.0 r e is step.1 in
      (t.0, had_refusal step.0 t.1.0 0 a b sound.refused t.1.1 step.2.within (omega arith) step.2.elsewhere.refused)

  pub sync_done : (f : File) (r : Result T E) (v : T) (c : List ℕ) (a b : DiskState) → IsSoundDisk a → r ≡ Ok v → SyncStep device f r a b → ArePresent (of f a) c → IsSettled (of f b) c
  sync_done f r v c a b sound is step are =
      let t = told_ok step.0 r v is step.1 in
      settled_sync f a b c (sound_of f a sound) (subst (λ (x : Result T DiskError). Syncs f x a b) t.1 step.2) are

-- ---- bytes that were read

module _ {T U E : Type 0} (device : E) (f : File) (place : ℕ) (out : List ℕ) (a b : DiskState) (sound : IsSoundDisk a) where
  pub place_read : (v : T) (end : ℕ) (called : Result U DiskError) → Looks end called a b → ((j : ℕ) → j < length out → get_or out j 0 ≡ byte (of f a) (place + j)) → PlaceAnswer device f place out (Ok v) a b
  unfolding PlaceAnswer
  place_read v end called looked bytes = (still_looks end called a b sound looked, bytes)

  pub place_refused : (r : Result T E) (end : ℕ) (called : Result U DiskError) (e : DiskError) → end ≡ place + length out → called ≡ Err e → r ≡ Err device → Looks end called a b → PlaceAnswer device f place out r a b
  unfolding PlaceAnswer
  place_refused r end called e same was is looked = subst (λ (x : Result T E). PlaceAnswer device f place out x a b) (sym is)
      (still_looks end called a b sound looked, refl, λ fits. had_refusal called e end a b sound.refused was looked.within (omega arith) looked.refused)
