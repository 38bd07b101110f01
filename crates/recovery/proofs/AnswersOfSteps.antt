-- What the steps of a recovery answer, case by case.
use Rattle.std.proofs.Common.{◌≡◌, inl, inr, ⊎_elim, ℕ, ◌+◌, ◌≤◌, length, replicate, refl, sym, ◌∙◌, ap, subst, arith, Result, Ok, Err, IsErrAnd}
use Rattle.recovery.proofs.Below.{length-replicate, Database, passed, longest, DiskState, IsSoundDisk, InFile, Still, KeepsBytes, HadRefusal, Later, Log, DiskError, refusal_after, had_refusal, present_in, later_write, told_err, sync_refused, ArePages, CopyAnswer, GoesOn, ZeroSteps, MayRefuse}

pub still_bytes : (a b : DiskState) → Still a b → KeepsBytes a b
still_bytes a b is = record { db = is.db; log = λ bytes are. present_in a.log b.log bytes is.log are }

module _ {E : Type 0} where
  -- the error of a call that was short of memory is passed on
  pub no_memory : {T U : Type 0} (memory : E) (v : Result T E) (r : Result U E) (x : E) → v ≡ Err x → v ≡ Err memory → IsErrAnd r (λ e. e ≡ x) → r ≡ Err memory
  no_memory memory v r x was is end = passed r x end ∙ ap Err (let same : x ≡ memory = cc in same)

  pub may_after : (memory device e : E) (a b c : DiskState) → a.refused ≤ b.refused → MayRefuse memory device e b c → MayRefuse memory device e a c
  may_after memory device e a b c le may = ⊎_elim (λ is. inl is) (λ is. inr (is.0, refusal_after a b c le is.1)) may

  pub copy_done : {T : Type 0} (device : E) (size : ℕ) (d : Database) (r : Result T E) (v : T) (a b : DiskState) → r ≡ Ok v → CopyAnswer device size d r a b → ArePages size d b.db
  unfolding CopyAnswer
  copy_done {T = T} device size d r v a b was answer = let got = subst (λ (x : Result T E). CopyAnswer device size d x a b) was answer in got

  -- ---- The front of the log is zeroed.

  module _ {T : Type 0} (device : E) (count : ℕ) where
    pub zero_refused : count ≤ longest → (r : Result T E) (e : E) (a b : DiskState) → IsSoundDisk a → r ≡ Err e → ZeroSteps device count r a b → (e ≡ device) × HadRefusal a b
    zero_refused short r e a b sound is steps = ⊎_elim
        (λ failed. let t = told_err device failed.0 r e is failed.2 in
        (t.0, had_refusal failed.0 t.1.0 (0 + length {A = ℕ} (replicate count 0)) a b sound.refused t.1.1 failed.3.within (omega (arith, length-replicate {A = ℕ} count 0, short)) failed.3.elsewhere.refused))
        (λ done. let mid : Later (InFile Log) a done.0 = later_write Log 0 (replicate count 0) (Ok done.1.0) a done.0 refl sound done.1.1 in
        let last = sync_refused device Log r e done.0 b mid.sound is done.2 in (last.0, refusal_after a done.0 b mid.refused last.1))
        steps

    pub zero_db : (r : Result T E) (a b : DiskState) → ZeroSteps device count r a b → b.db ≡ a.db
    zero_db r a b steps = ⊎_elim (λ failed. failed.3.elsewhere.other) (λ done. done.2.2.elsewhere.other ∙ done.1.1.elsewhere.other) steps

  -- ---- The log is synced first.

  module _ {S T : Type 0} (device : E) (Rest : (old new : DiskState) → Type 0) (called : Result S DiskError) where
    pub goes_on : (v : S) (q : Result T E) (a b : DiskState) → called ≡ Ok v → Rest a b → GoesOn device Rest called q a b
    goes_on v q a b is rest = subst (λ (x : Result S DiskError). GoesOn device Rest x q a b) (sym is) rest

    pub stays : (e : DiskError) (q : Result T E) (b : DiskState) → called ≡ Err e → q ≡ Err device → GoesOn device Rest called q b b
    stays e q b is device_is = subst (λ (x : Result S DiskError). GoesOn device Rest x q b b) (sym is) (device_is, refl)
