-- Calls of a disk, one after another: that one was refused is told.
use Rattle.rollcore.proofs.Words.{Asks, Device, DiskError, DiskState, Err, File, IsSoundDisk, Later, List, Ok, Result, RollError, Still, SyncStep, TellsRefusal, arith, cases_lt, counted, later_same, later_still, later_then, later_wider, length, most_bytes, subst, sym, sync, sync_later, tells_again, tells_called, tells_ok, ℕ, ⊎_elim, ◌*◌, ◌≡◌, ◌≤◌}
use Rattle.recovery.proofs.Words.{Change}

-- ---- That a call was refused is told.

module _ {T : Type 0} (q : Result T RollError) where
  pub told_same : (a b : DiskState) → b.refused ≤ a.refused → TellsRefusal Device q a b
  told_same a b le lt = absurd (omega arith)

  pub told_device : (a b : DiskState) → q ≡ Err Device → TellsRefusal Device q a b
  told_device a b is lt = is

  module _ {U : Type 0} (r : Result U RollError) where
    pub told_err : (e : RollError) (a b : DiskState) → r ≡ Err e → q ≡ Err e → TellsRefusal Device r a b → TellsRefusal Device q a b
    told_err e a b was is told lt = (let d = told lt in cc)

    pub told_then : (v : U) (a b c : DiskState) → r ≡ Ok v → TellsRefusal Device r a b → TellsRefusal Device q b c → TellsRefusal Device q a c
    told_then v a b c was first second lt = ⊎_elim (λ early. absurd (let e = first early in cc)) (λ late. second (omega (arith, late, lt))) (cases_lt a.refused b.refused)

-- a page of the size that is wanted
pub page_within : (size : ℕ) (content : List ℕ) (number : ℕ) → length content ≡ size → number * size ≤ most_bytes → number * length content ≤ most_bytes
page_within size content number full within = subst (λ (n : ℕ). number * n ≤ most_bytes) (sym full) within

pub one_page : (size : ℕ) → size ≡ 1 * size
one_page size = omega arith

-- ---- What is asked for, as well.

module _ {May : Change → Type 0} where
  pub asks_same : {T : Type 0} (q : Result T RollError) (a : DiskState) → IsSoundDisk a → Asks May q a a
  asks_same q a sound = record { later = later_same a sound; told = told_same q a a (omega arith) }

  -- one call, that was refused or carried out
  pub asks_device : {T : Type 0} (q : Result T RollError) (a b : DiskState) → q ≡ Err Device → Later May a b → Asks May q a b
  asks_device q a b is later = record { later = later; told = told_device q a b is }

  pub asks_done : {T U : Type 0} (q : Result T RollError) (called : Result U DiskError) (v : U) (a b : DiskState) → called ≡ Ok v → b.refused ≡ counted called a.refused → Later May a b → Asks May q a b
  asks_done q called v a b was count later = record { later = later; told = tells_ok Device q called v a b was count }

  pub asks_still : {T : Type 0} (q : Result T RollError) (a b : DiskState) → IsSoundDisk a → Still a b → TellsRefusal Device q a b → Asks May q a b
  asks_still q a b sound is told = record { later = later_still a b sound is; told = told }

  pub asks_wider : {Might : Change → Type 0} {T : Type 0} (q : Result T RollError) (a b : DiskState) → ((change : Change) → May change → Might change) → Asks May q a b → Asks Might q a b
  asks_wider q a b more goes = record { later = later_wider a b more goes.later; told = goes.told }

  pub asks_step : {T : Type 0} (f : File) (q : Result T RollError) (a b : DiskState) → May (sync f) → IsSoundDisk a → SyncStep Device f q a b → Asks May q a b
  asks_step f q a b may sound step = record { later = sync_later Device f q a b may sound step; told = tells_called Device step.0 q a b step.2.elsewhere.refused step.1 }

  module _ {T U : Type 0} (q : Result T RollError) (r : Result U RollError) where
    pub asks_as : (v : U) (a b : DiskState) → r ≡ Ok v → Asks May r a b → Asks May q a b
    asks_as v a b was goes = record { later = goes.later; told = tells_again Device q r v a b was goes.told }

    pub asks_err : (e : RollError) (a b : DiskState) → r ≡ Err e → q ≡ Err e → Asks May r a b → Asks May q a b
    asks_err e a b was is goes = record { later = goes.later; told = told_err q r e a b was is goes.told }

    pub asks_then : (v : U) (a b c : DiskState) → r ≡ Ok v → Asks May r a b → Asks May q b c → Asks May q a c
    asks_then v a b c was first second = record { later = later_then a b c first.later second.later; told = told_then q r v a b c was first.told second.told }
