-- What the trait of a scan of the log asks.
use Rattle.std.proofs.Common.{◌≡◌, inl, refl, ℕ, ◌≤◌, List, [], sym, subst}
use Rattle.std.proofs.lemmas.List.{append-nil}
use Rattle.crashdisk.specs.Call.{DiskState}
use Rattle.crashdisk.specs.Keeps.{HadRefusal}
use Rattle.crashdisk.proofs.call.UnchangingCalls.{refusal_after}
use Rattle.sqjournal.specs.Took.{Took}
use Rattle.sqjournal.specs.declared.replay.Replay.{Replay}
use Rattle.rollcore.specs.internal.Steps.{ScanRefused, HasRead, journal_scan}
use Rattle.rollcore.specs.declared.error.RollError.{RollError}
use Rattle.rollcore.specs.declared.error.RollError.TheVariants.{Device, NoMemory}
use Rattle.recovery.specs.Scanning.{IsSoundKind}

whole : (w : List ℕ) (s : Replay) → Took w s → HasRead w s
whole w s took = record { front = w; more = []; split = sym (append-nil w); took = took; rest = inl refl }

after : (w : List ℕ) (e : RollError) (a b c : DiskState) → a.refused ≤ b.refused → ScanRefused w e b c → ScanRefused w e a c
unfolding ScanRefused
after w Device a b c le had = refusal_after a b c le had
after w _ a b c le had = had

device : (w : List ℕ) (a b : DiskState) → HadRefusal a b → ScanRefused w Device a b
unfolding ScanRefused
device w a b had = had

pub journal_sound : IsSoundKind journal_scan Device
journal_sound = record { whole = whole; later = after; refused = device }

pub scan_memory : (w : List ℕ) (e : RollError) (a b : DiskState) → e ≡ NoMemory → ScanRefused w e a b
unfolding ScanRefused
scan_memory w e a b is = subst (λ (x : RollError). ScanRefused w x a b) (sym is) tt
