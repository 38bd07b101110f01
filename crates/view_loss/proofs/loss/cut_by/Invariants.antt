use Rattle.std.proofs.Common.{ℕ, List}
use Rattle.sqwal.specs.Header.{named_size}
use Rattle.sqwal.specs.Took.{TookWithin}
use Rattle.view_loss.specs.internal.Reasons.{IsNoCut}
use Rattle.view_loss.proofs.loss.cut_by.Given as goal

abbrev pub invariant-loop-before : goal.invariant-loop-before
invariant-loop-before l = (most : ℕ) (w : List ℕ) → TookWithin most w l.scan → IsNoCut (named_size w) w l.before l.page l.long
