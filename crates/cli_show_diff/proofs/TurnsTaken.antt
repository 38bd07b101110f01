-- Objects whose changes are printed one by one.
use Rattle.std.proofs.Common.{◌≡◌, ◌<◌, ◌+◌, List, [], ◌∷◌, ◌++◌, Option, ℕ, length, take, get_or, refl, sym, ap, ◌∙◌, subst, add-one}
use Rattle.std.proofs.Math.Seq.{take-suc}
use Rattle.sqval.specs.Database.{Database}
use Rattle.sqtables.specs.declared.list.Object.{Object}
use Rattle.cli_show_diff.specs.declared.form.ChangeForm.{ChangeForm}
use Rattle.cli_show_diff.specs.declared.turn.Turn.{Turn}
use Rattle.cli_show_diff.specs.Turns.{AreTurnsPrinted, IsAtPrinted}

module _ (d e : Database) (turn : Turn) (form : ChangeForm) where
  -- one more
  turns_snoc : (objects : List Object) (o : Object) (before mid after : Option (List ℕ))
      → AreTurnsPrinted d e turn form objects before mid → IsAtPrinted d e turn form o mid after → AreTurnsPrinted d e turn form (objects ++ o ∷ []) before after
  turns_snoc [] o before mid after are is =
      (after, subst (λ (b : Option (List ℕ)). IsAtPrinted d e turn form o b after) (sym are) is, refl)
  turns_snoc (x ∷ objects) o before mid after are is = (are.0, are.1, turns_snoc objects o are.0 mid after are.2 is)

  -- the same of the first objects of a list
  pub turns_more : (objects : List Object) (i : ℕ) (x : Object) (before mid after : Option (List ℕ)) → i < length objects
      → AreTurnsPrinted d e turn form (take i objects) before mid → IsAtPrinted d e turn form (get_or objects i x) mid after
      → AreTurnsPrinted d e turn form (take (i + 1) objects) before after
  turns_more objects i x before mid after within are is =
      let more : take (i + 1) objects ≡ take i objects ++ get_or objects i x ∷ [] = ap (λ n. take n objects) (add-one i) ∙ take-suc objects i x within in
      subst (λ (os : List Object). AreTurnsPrinted d e turn form os before after) (sym more)
      (turns_snoc (take i objects) (get_or objects i x) before mid after are is)
