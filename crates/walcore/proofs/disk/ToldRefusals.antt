-- A refused call of the disk is told: by one call, by calls after others that weren't refused, and by the steps of the log.
use Rattle.walcore.proofs.Words.{CutSteps, Device, DiskState, HeaderSteps, List, Result, TellsRefusal, WalError, arith, tells_called, tells_sync, tells_then, ℕ, ⊎_elim}

pub tells_header : {T : Type 0} (f : List ℕ) (r : Result T WalError) (a b : DiskState) → HeaderSteps f r a b → TellsRefusal Device r a b
tells_header f r a b steps = ⊎_elim
    (λ failed. tells_called Device failed.0 r a b failed.3.elsewhere.refused failed.2)
    (λ done. tells_then Device r a done.0 b (λ more. omega (arith, done.1.1.elsewhere.refused)) (tells_sync Device _ r done.0 b done.2))
    steps

pub tells_cut : {T : Type 0} (r : Result T WalError) (a b : DiskState) → CutSteps r a b → TellsRefusal Device r a b
tells_cut r a b steps = ⊎_elim
    (λ failed. tells_called Device failed.0 r a b failed.3.elsewhere.refused failed.2)
    (λ done. tells_then Device r a done.0 b (λ more. omega (arith, done.1.1.elsewhere.refused)) (tells_sync Device _ r done.0 b done.2))
    steps
