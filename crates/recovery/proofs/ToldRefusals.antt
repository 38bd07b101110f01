-- A refused call of the disk is told: by one call, and by calls after others that weren't refused.
use Rattle.std.proofs.Common.{◌≡◌, ⊎_elim, ℕ, ◌<◌, ◌≤◌, refl, ◌∙◌, ap, subst, arith, Result, Ok, Err, IsErrAnd}
use Rattle.recovery.proofs.Below.{passed, DiskState, counted, TellsRefusal, Told, SyncStep, File, DiskError, ZeroSteps}

module _ {T E : Type 0} (device : E) (r : Result T E) where
  -- the call was done
  pub tells_ok : {U : Type 0} (called : Result U DiskError) (u : U) (a b : DiskState) → called ≡ Ok u → b.refused ≡ counted called a.refused → TellsRefusal device r a b
  tells_ok {U = U} called u a b was count more = absurd (let same = subst (λ (q : Result U DiskError). b.refused ≡ counted q a.refused) was count in omega (arith, same, more))

  pub quiet_ok : (v : T) (a b : DiskState) → r ≡ Ok v → TellsRefusal device r a b → a.refused < b.refused → ⊥
  quiet_ok v a b is told more = let bad : r ≡ Err device = told more in cc

  pub quiet_same : (v : T) (a b : DiskState) → r ≡ Ok v → a.refused ≤ b.refused → TellsRefusal device r a b → b.refused ≡ a.refused
  quiet_same v a b is le told = let quiet : a.refused < b.refused → ⊥ = quiet_ok v a b is told in omega (arith, quiet)

  -- what another answer tells, where that is done
  pub tells_again : {U : Type 0} (q : Result U E) (v : U) (a b : DiskState) → q ≡ Ok v → TellsRefusal device q a b → TellsRefusal device r a b
  tells_again q v a b is told more = absurd (let bad : q ≡ Err device = told more in cc)

  -- no call was refused, and then none either
  pub tells_quiet : (v : T) (a b c : DiskState) → r ≡ Ok v → (a.refused < b.refused → ⊥) → TellsRefusal device r b c → a.refused < c.refused → ⊥
  tells_quiet v a b c is quiet told more = quiet_ok v b c is told (omega (arith, quiet))

  pub passes_device : {U : Type 0} (q : Result U E) (e : E) → r ≡ Err e → IsErrAnd q (λ x. x ≡ e) → r ≡ Err device → q ≡ Err device
  passes_device q e is end said = passed q e end ∙ ap Err (let same : e ≡ device = cc in same)

  -- nor where it is refused by another error
  pub quiet_err : (e : E) (a b : DiskState) → r ≡ Err e → (e ≡ device → ⊥) → TellsRefusal device r a b → a.refused < b.refused → ⊥
  quiet_err e a b is other told more = other (let said : r ≡ Err device = told more in cc)

  -- after calls that were done
  pub tells_then : (a b c : DiskState) → (a.refused < b.refused → ⊥) → TellsRefusal device r b c → TellsRefusal device r a c
  tells_then a b c quiet told more = told (omega (arith, quiet))

pub called_quiet : {U : Type 0} (called : Result U DiskError) (u : U) (a b : DiskState) → called ≡ Ok u → b.refused ≡ counted called a.refused → a.refused < b.refused → ⊥
called_quiet {U = U} called u a b was count more = let same = subst (λ (q : Result U DiskError). b.refused ≡ counted q a.refused) was count in omega (arith, same, more)

pub tells_called : {T E : Type 0} (device : E) (called : Result T DiskError) (r : Result T E) (a b : DiskState) → b.refused ≡ counted called a.refused → Told device called r → TellsRefusal device r a b
tells_called device (Ok u) r a b count told more = absurd (called_quiet (Ok u) u a b refl count more)
tells_called device (Err x) (Ok v) a b count told more = absurd told
tells_called device (Err x) (Err e) a b count told more = ap Err told

pub tells_sync : {T E : Type 0} (device : E) (f : File) (r : Result T E) (a b : DiskState) → SyncStep device f r a b → TellsRefusal device r a b
tells_sync device f r a b step = tells_called device step.0 r a b step.2.elsewhere.refused step.1

pub tells_zero : {T E : Type 0} (device : E) (count : ℕ) (r : Result T E) (a b : DiskState) → ZeroSteps device count r a b → TellsRefusal device r a b
tells_zero device count r a b steps = ⊎_elim
    (λ failed. tells_called device failed.0 r a b failed.3.elsewhere.refused failed.2)
    (λ done. tells_then device r a done.0 b (λ more. omega (arith, done.1.1.elsewhere.refused)) (tells_sync device _ r done.0 b done.2))
    steps

-- an error that was turned into another is told by it
pub turned : {T E : Type 0} (device : E) (Gives : E → Type 0) (r : Result T E) → IsErrAnd r Gives → ((e : E) → Gives e → e ≡ device) → r ≡ Err device
turned device Gives (Err e) gives is = ap Err (is e gives)
turned device Gives (Ok v) gives is = absurd gives
