-- What calls may ask for: where fewer may, more may; and the pieces of a log.
use Rattle.walcore.proofs.Words.{CallSyncs, Change, Checkpoints, Db, DiskError, DiskState, File, HasCalls, IsSameDisk, IsSoundDisk, Later, List, Log, MayBegin, MayChange, MayExtend, MayFill, MayFoldWithin, Nothing, Result, [], calls_then, calls_wider, inl, inr, later_sync, length, refl, set_len, subst, sync, write, ℕ, ⊎_elim, ◌∙◌, ◌∷◌, ◌≡◌}
use Rattle.walcore.specs.Machine.{Syncs}

-- ---- more logs

wider_may : (size : ℕ) (f : List ℕ) (rest : List (List ℕ)) (change : Change) → MayExtend size (f ∷ []) change → MayExtend size (f ∷ rest) change
wider_may size f rest (write Log at bytes) is = (is.0, is.1, (rest, let same : f ∷ [] ≡ is.0 ∷ is.2.0 = is.2.1 in cc), is.3, is.4, is.5, is.6)
wider_may size f rest (write Db at bytes) is = absurd is
wider_may size f rest (set_len g n) is = absurd is
wider_may size f rest (sync g) is = absurd is

-- what one log lets be asked for, the newest of more logs does
pub newest_calls : (size n : ℕ) (f : List ℕ) (rest : List (List ℕ)) (a b : DiskState) → size ≡ n → HasCalls (MayExtend size (f ∷ [])) a b → HasCalls (MayExtend n (f ∷ rest)) a b
newest_calls size n f rest a b same calls =
    subst (λ (k : ℕ). HasCalls (MayExtend k (f ∷ rest)) a b) same (calls_wider (wider_may size f rest) a b calls)

-- ---- pieces of a log

pub header_may : (logs : List (List ℕ)) (f : List ℕ) → length f ≡ 32 → MayBegin (f ∷ logs) (write Log 0 f)
header_may logs f alone = ((logs, refl), refl, alone)

-- ---- no change

pub nothing_may : {May : Change → Type 0} (a b : DiskState) → HasCalls Nothing a b → HasCalls May a b
nothing_may a b calls = calls_wider (λ change none. absurd none) a b calls

-- ---- a sync, and what a checkpoint does besides

pub copies_may : (size n : ℕ) (f : List ℕ) (rest : List (List ℕ)) (a b : DiskState) → size ≡ n → HasCalls (MayExtend size (f ∷ [])) a b → HasCalls (MayChange Syncs n (f ∷ rest)) a b
copies_may size n f rest a b same calls = calls_wider (λ change may. inl may) a b (newest_calls size n f rest a b same calls)

module _ (size : ℕ) (logs : List (List ℕ)) (a b : DiskState) (synced : IsSameDisk (MayChange Syncs size logs) a b) where
  synced_calls : HasCalls (MayChange Checkpoints size logs) a b
  synced_calls = calls_wider (λ change may. ⊎_elim (λ copy. inl copy) (λ settled. inr (inl settled)) may) a b synced.calls

  pub synced_same : IsSameDisk (MayChange Checkpoints size logs) a b
  synced_same = record { sector = synced.sector; tears = synced.tears; calls = synced_calls }

  pub filled_same : (c : DiskState) → IsSameDisk (MayFill size) b c → IsSameDisk (MayChange Checkpoints size logs) a c
  filled_same c filled = record {
    sector = filled.sector ∙ synced.sector;
    tears = filled.tears ∙ synced.tears;
    calls = calls_then a b c synced_calls (calls_wider (λ change may. inr (inr may)) b c filled.calls);
  }

-- ---- syncs of a fold

pub may_sync : (most size : ℕ) (f : File) → MayFoldWithin most size (sync f)
may_sync most size Db = inl tt
may_sync most size Log = inr tt

pub fold_sync : {T : Type 0} (most size : ℕ) (f : File) (r : Result T DiskError) (a b : DiskState) → IsSoundDisk a → CallSyncs f r a b → Later (MayFoldWithin most size) a b
fold_sync most size f r a b sound synced = later_sync f r a b (may_sync most size f) sound synced
