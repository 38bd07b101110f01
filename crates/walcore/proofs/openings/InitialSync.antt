-- An opening that syncs the log first.
use Rattle.walcore.proofs.Words.{Agrees, Database, Device, DiskError, DiskState, Err, Log, Ok, OpensOn, OpensSynced, Result, ShowsAlone, Syncs, WalError, refl, subst, sym, wal_log, ℕ, ◌≡◌}

module _ (size : ℕ) (old mid : DiskState) where
  -- the sync is refused
  pub unsynced : {T : Type 0} (called : Result (Unit {0}) DiskError) (e : DiskError) (q : Result T WalError) → called ≡ Err e → q ≡ Err Device → Syncs Log called old mid → OpensSynced size q old mid
  unsynced called e q was is sync = record {
    called = called;
    mid = mid;
    sync = sync;
    rest = subst (λ (x : Result (Unit {0}) DiskError). OpensOn size x q mid mid) (sym was) (is, refl);
  }

  -- or done
  pub synced_first : {T : Type 0} (new : DiskState) (called : Result (Unit {0}) DiskError) (v : Unit {0}) (q : Result T WalError) → called ≡ Ok v → Syncs Log called old mid → Agrees wal_log size mid new → OpensSynced size q old new
  synced_first new called v q was sync agrees = record {
    called = called;
    mid = mid;
    sync = sync;
    rest = subst (λ (x : Result (Unit {0}) DiskError). OpensOn size x q mid new) (sym was) agrees;
  }

module _ {S T : Type 0} (size : ℕ) (r : Result S WalError) (q : Result T WalError) where
  on_err : (e : WalError) (called : Result (Unit {0}) DiskError) (mid new : DiskState) → r ≡ Err e → q ≡ Err e → OpensOn size called r mid new → OpensOn size called q mid new
  on_err e (Ok v) mid new was is rest = rest
  on_err e (Err x) mid new was is rest = (let same : r ≡ Err Device = rest.0 in cc, rest.1)

  -- the same refusal
  pub first_err : (e : WalError) (old new : DiskState) → r ≡ Err e → q ≡ Err e → OpensSynced size r old new → OpensSynced size q old new
  first_err e old new was is first = record { called = first.called; mid = first.mid; sync = first.sync; rest = on_err e first.called first.mid new was is first.rest }

  on_then : (v : S) (called : Result (Unit {0}) DiskError) (mid b c : DiskState) → r ≡ Ok v → OpensOn size called r mid b → ((d : Database) → ShowsAlone wal_log size d b → ShowsAlone wal_log size d c) → OpensOn size called q mid c
  on_then v (Ok u) mid b c was rest then = λ w d durable alone. then d (rest w d durable alone)
  on_then v (Err x) mid b c was rest then = absurd (let same : r ≡ Err Device = rest.0 in cc)

  -- a step more
  pub first_then : (v : S) (old b c : DiskState) → r ≡ Ok v → OpensSynced size r old b → ((d : Database) → ShowsAlone wal_log size d b → ShowsAlone wal_log size d c) → OpensSynced size q old c
  first_then v old b c was first then = record { called = first.called; mid = first.mid; sync = first.sync; rest = on_then v first.called first.mid b c was first.rest then }
