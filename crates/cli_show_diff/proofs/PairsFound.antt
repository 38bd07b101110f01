-- Which tables have their turn, and what was printed of them.
use Rattle.std.proofs.Common.{ℕ, List, Option, Result, Ok, Err, OnOk, inl}
use Rattle.std.specs.Prelude.{IfErr}
use Rattle.sqval.specs.Database.{Database}
use Rattle.sqtables.specs.declared.list.Object.{Object}
use Rattle.cli_show_rows.specs.declared.stop.Stop.{Stop}
use Rattle.cli_show_diff.specs.declared.form.ChangeForm.{ChangeForm}
use Rattle.cli_show_diff.specs.declared.pair.Pair.{Pair}
use Rattle.cli_show_diff.specs.declared.turn.Turn.{Turn}
use Rattle.cli_show_diff.specs.Pairs.{IsPairPrinted, IsPairStopped}
use Rattle.cli_show_diff.specs.Turns.{IsAtPrinted, IsAtStopped, IsInTurn, IsPairOf}

module _ {T : Type 0} (d e : Database) (turn : Turn) (form : ChangeForm) (o : Object) (pair : Pair) (is : IsInTurn turn o) (of : IsPairOf turn o pair) (before after : Option (List ℕ)) where
  pub at_printed : (answer : Result T Stop) → OnOk answer (IsPairPrinted d e pair form before after) → OnOk answer (IsAtPrinted d e turn form o before after)
  at_printed (Ok _) w = inl (is, (pair, of, w))
  at_printed (Err _) w = tt

  pub at_stopped : (answer : Result T Stop) → IfErr answer (λ stop. IsPairStopped d e pair form stop before after)
      → IfErr answer (λ stop. IsAtStopped d e turn form o stop before after)
  at_stopped (Ok _) w = tt
  at_stopped (Err stop) w = (is, (pair, of, w))
