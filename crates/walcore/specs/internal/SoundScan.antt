-- What the trait of a scan of the log asks.
use Rattle.std.proofs.Common.{◌≡◌, ℕ, ◌≤◌, List, sym, subst}
use Rattle.crashdisk.specs.Call.{DiskState}
use Rattle.crashdisk.specs.Keeps.{HadRefusal}
use Rattle.crashdisk.proofs.call.UnchangingCalls.{refusal_after}
use Rattle.walcore.specs.internal.Steps.{ScanRefused, wal_scan}
use Rattle.walcore.specs.declared.error.WalError.{WalError}
use Rattle.walcore.specs.declared.error.WalError.TheVariants.{Device, NoMemory}
use Rattle.recovery.specs.Scanning.{IsSoundKind}

module _ (most : ℕ) where
  after : (w : List ℕ) (e : WalError) (a b c : DiskState) → a.refused ≤ b.refused → ScanRefused most w e b c → ScanRefused most w e a c
  unfolding ScanRefused
  after w Device a b c le had = refusal_after a b c le had
  after w _ a b c le had = had

  device : (w : List ℕ) (a b : DiskState) → HadRefusal a b → ScanRefused most w Device a b
  unfolding ScanRefused
  device w a b had = had

  pub wal_sound : IsSoundKind (wal_scan most) Device
  wal_sound = record { whole = λ w s took. took; later = after; refused = device }

  pub scan_memory : (w : List ℕ) (e : WalError) (a b : DiskState) → e ≡ NoMemory → ScanRefused most w e a b
  unfolding ScanRefused
  scan_memory w e a b is = subst (λ (x : WalError). ScanRefused most w x a b) (sym is) tt
