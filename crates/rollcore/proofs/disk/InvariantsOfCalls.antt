-- What calls of a disk leave as it was.
use Rattle.rollcore.proofs.Words.{Asks, Bool, BreakSteps, Device, DiskError, DiskState, Err, IsSectorSize, IsSoundDisk, Later, Log, Ok, PutsZero, Result, RollError, Suits, TellsRefusal, [], false, later_still, later_then, later_write, subst, suits_by, sym, true, write, ℕ, ⊎_elim, ◌∷◌}
use Rattle.recovery.proofs.Words.{Change}

pub sectors_go : {May : Change → Type 0} (a b : DiskState) → Later May a b → IsSectorSize a.sector → IsSectorSize b.sector
sectors_go a b goes sectors = subst IsSectorSize (sym goes.sector) sectors

pub suits_go : {May : Change → Type 0} (size : ℕ) (a b : DiskState) → Later May a b → Suits size a → Suits size b
suits_go size a b goes suits = suits_by size a b suits goes.sound goes.sector goes.tears

module _ {T : Type 0} where
  pub goes_puts : {May : Change → Type 0} (at : ℕ) (r : Result T DiskError) (a b : DiskState) → May (write Log at (0 ∷ [])) → IsSoundDisk a → PutsZero at r a b → Later May a b
  goes_puts at r a b may sound puts =
      let mid = later_still a puts.mid sound puts.still in
      later_then a puts.mid b mid (later_write Log at (0 ∷ []) r puts.mid b may mid.sound puts.wrote)

pub goes_broken : {May : Change → Type 0} (at : ℕ) (r : Result Bool RollError) (a b : DiskState) → May (write Log at (0 ∷ [])) → IsSoundDisk a → BreakSteps at r a b → Later May a b
goes_broken at (Ok true) a b may sound puts = goes_puts at (Ok tt) a b may sound puts
goes_broken at (Ok false) a b may sound none = later_still a b sound none.0
goes_broken at (Err e) a b may sound failed = ⊎_elim (λ is. later_still a b sound is) (λ puts. goes_puts at puts.0 a b may sound puts.1) failed.2

pub asks_broken : {May : Change → Type 0} (at : ℕ) (r : Result Bool RollError) (a b : DiskState) → May (write Log at (0 ∷ [])) → IsSoundDisk a → BreakSteps at r a b → TellsRefusal Device r a b → Asks May r a b
asks_broken at r a b may sound steps told = record { later = goes_broken at r a b may sound steps; told = told }
