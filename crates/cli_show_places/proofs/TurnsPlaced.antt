-- Objects of which it is printed one by one where their rows stand.
use Rattle.std.proofs.Common.{◌≡◌, ◌<◌, ◌+◌, List, [], ◌∷◌, ◌++◌, Option, ℕ, Bool, length, take, get_or, refl, sym, ap, ◌∙◌, subst, add-one}
use Rattle.std.proofs.Math.Seq.{take-suc}
use Rattle.sqval.specs.Database.{Database}
use Rattle.sqtables.specs.declared.list.Object.{Object}
use Rattle.cli_show_places.specs.declared.table.Form.{Form}
use Rattle.cli_show_places.specs.Places.{AreTurnsPlaced, IsTurnPlaced}

turns_snoc : (d : Database) (frames : ℕ → Option ℕ) (form : Form) (own : Bool) (objects : List Object) (o : Object) (before mid after : Option (List ℕ))
    → AreTurnsPlaced d frames form own objects before mid → IsTurnPlaced d frames form own o mid after → AreTurnsPlaced d frames form own (objects ++ o ∷ []) before after
turns_snoc d frames form own [] o before mid after are is =
    (after, subst (λ (b : Option (List ℕ)). IsTurnPlaced d frames form own o b after) (sym are) is, refl)
turns_snoc d frames form own (x ∷ objects) o before mid after are is = (are.0, are.1, turns_snoc d frames form own objects o are.0 mid after are.2 is)

-- one more of the first objects of a list
pub turns_more : (d : Database) (frames : ℕ → Option ℕ) (form : Form) (own : Bool) (objects : List Object) (i : ℕ) (x : Object) (before mid after : Option (List ℕ)) → i < length objects
    → AreTurnsPlaced d frames form own (take i objects) before mid → IsTurnPlaced d frames form own (get_or objects i x) mid after
    → AreTurnsPlaced d frames form own (take (i + 1) objects) before after
turns_more d frames form own objects i x before mid after within are is =
    let more : take (i + 1) objects ≡ take i objects ++ get_or objects i x ∷ [] = ap (λ n. take n objects) (add-one i) ∙ take-suc objects i x within in
    subst (λ (os : List Object). AreTurnsPlaced d frames form own os before after) (sym more)
    (turns_snoc d frames form own (take i objects) (get_or objects i x) before mid after are is)
