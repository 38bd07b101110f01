use Rattle.std.proofs.Common.{◌↔◌, ◌-◌, ◌*◌, ◌<◌, ◌≤◌, ℕ, List}
use Rattle.recovery.proofs.Below.{Database, longest, ArePresent, HasCalls, KeepsLog, MayFill, Begins, Upto, Filling}
use Rattle.recovery.proofs.copying.copy_pages.Given as goal

abbrev pub invariant-loop-done : goal.invariant-loop-done
invariant-loop-done g l = record {
  within : l.done ≤ l.total;
  word : g.D.Disk.keeps_word l.initial.disk ↔ g.D.Disk.keeps_word l.disk;
  log : g.D.Disk.keeps_word l.initial.disk → KeepsLog (g.D.Disk.state l.initial.disk) (g.D.Disk.state l.disk);
  calls : g.D.Disk.keeps_word l.initial.disk → (most : ℕ) → l.shape.count * l.shape.size ≤ most → HasCalls (MayFill most l.shape.size) (g.D.Disk.state l.initial.disk) (g.D.Disk.state l.disk);
  quiet : g.D.Disk.keeps_word l.initial.disk → (g.D.Disk.state l.initial.disk).refused < (g.D.Disk.state l.disk).refused → ⊥;
  pages : g.D.Disk.keeps_word l.initial.disk → (db w : List ℕ) → ArePresent (g.D.Disk.state l.initial.disk).db db → ArePresent (g.D.Disk.state l.initial.disk).log w
      → g.P.CopyPlan.kind.IsOf l.plan l.shape.size l.shape.count w → l.shape.count * l.shape.size ≤ longest → Begins g.P.CopyPlan.kind l.plan l.shape.size db w → Upto g.P.CopyPlan.kind l.plan l.shape.size l.shape.count db w l.done (g.D.Disk.state l.disk);
  filling : g.D.Disk.keeps_word l.initial.disk → (w : List ℕ) (d : Database) → ArePresent (g.D.Disk.state l.initial.disk).log w → g.P.CopyPlan.kind.IsOf l.plan l.shape.size l.shape.count w
      → Filling l.shape.size d (g.P.CopyPlan.kind.Lacks l.plan l.shape.size w) (g.D.Disk.state l.initial.disk) → Filling l.shape.size d (g.P.CopyPlan.kind.Lacks l.plan l.shape.size w) (g.D.Disk.state l.disk);
}

abbrev pub decreases-loop-done : goal.decreases-loop-done
decreases-loop-done g l = l.total - l.done
