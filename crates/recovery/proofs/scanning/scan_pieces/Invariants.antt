use Rattle.std.proofs.Common.{◌-◌, ◌≡◌, ◌↔◌, ◌<◌, ◌≤◌, ℕ, List, length, take, []}
use Rattle.recovery.proofs.Below.{ArePresent, Still}
use Rattle.recovery.proofs.scanning.scan_pieces.Given as goal

abbrev pub invariant-loop-at : goal.invariant-loop-at
invariant-loop-at g l = record {
  word : g.D.Disk.keeps_word l.initial.disk ↔ g.D.Disk.keeps_word l.disk;
  still : g.D.Disk.keeps_word l.initial.disk → Still (g.D.Disk.state l.initial.disk) (g.D.Disk.state l.disk);
  took : g.D.Disk.keeps_word l.initial.disk → (most : ℕ) (w : List ℕ) → ArePresent (g.D.Disk.state l.initial.disk).log w → length w ≡ l.long → (g.S.LogScan.kind most).Took [] l.initial.scan → (g.S.LogScan.kind most).Took (take l.at w) l.scan;
  quiet : g.D.Disk.keeps_word l.initial.disk → (g.D.Disk.state l.initial.disk).refused < (g.D.Disk.state l.disk).refused → ⊥;
  place : l.at ≤ l.long;
}

abbrev pub decreases-loop-at : goal.decreases-loop-at
decreases-loop-at g l = l.long - l.at
