-- An opening syncs the log before anything else.
use Rattle.rollcore.proofs.Words.{Agrees, AgreesSynced, Device, DiskError, DiskState, Err, Log, MatchResult, Ok, RefusedSynced, Result, RollError, SyncStep, Syncs, inl, inr, journal_log, subst, told_err, told_ok, ℕ, ◌≡◌}

-- what an opening does, by its answer
abbrev pub Opens : {U : Type 0} → Result U RollError → (old new : DiskState) → Type 0
Opens q old new = MatchResult q (λ _. AgreesSynced old new) (λ e. RefusedSynced e old new)

module _ (s a : DiskState) (r : Result (Unit {0}) RollError) (step : SyncStep {T = Unit {0}} Device Log r s a) where
  -- the log isn't synced
  pub sync_fails : (e : RollError) → r ≡ Err e → RefusedSynced e s a
  sync_fails e was =
      let t = told_err Device step.0 r e was step.1 in
      inr (inl (t.1.0, t.0, subst (λ (x : Result (Unit {0}) DiskError). Syncs Log x s a) t.1.1 step.2))

  -- it is, and what follows is answered so
  pub sync_goes : r ≡ Ok tt → (b : DiskState) → ((size : ℕ) → Agrees journal_log size a b) → {U : Type 0} → (q : Result U RollError) → Opens q s b
  sync_goes was b agrees q = by q
    where
      synced : AgreesSynced s b
      synced = record {
        mid = a;
        sync = (let t = told_ok Device step.0 r tt was step.1 in subst (λ (x : Result (Unit {0}) DiskError). Syncs Log x s a) t.1 step.2);
        agrees = agrees;
      }

      by : {U : Type 0} (q : Result U RollError) → Opens q s b
      by (Ok u) = synced
      by (Err e) = inr (inr synced)

pub opens_err : {U : Type 0} (q : Result U RollError) (e : RollError) (s b : DiskState) → q ≡ Err e → Opens q s b → RefusedSynced e s b
opens_err {U = U} q e s b was answer = subst (λ (x : Result U RollError). Opens x s b) was answer
