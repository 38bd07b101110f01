-- Objects that are printed one by one.
use Rattle.std.proofs.Common.{◌≡◌, ◌<◌, ◌+◌, List, [], ◌∷◌, ◌++◌, Option, ℕ, length, take, get_or, refl, sym, ap, ◌∙◌, subst, add-one}
use Rattle.std.specs.List.{Contains}
use Rattle.std.proofs.Math.Seq.{take-suc}
use Rattle.std.proofs.lemmas.Option.{get_or_from_slice_get, slice_get-get_or}
use Rattle.sqval.specs.Database.{Database}
use Rattle.sqtables.specs.declared.list.Object.{Object}
use Rattle.cli_row_text.specs.declared.form.Form.{Form}
use Rattle.cli_show_rows.specs.declared.dump.Turn.{Turn}
use Rattle.cli_show_rows.specs.Dumps.{AreTurnsTaken, IsTurnTaken}

-- one more
pub turns_snoc : (d : Database) (form : Form) (turn : Turn) (objects : List Object) (o : Object) (before mid after : Option (List ℕ))
    → AreTurnsTaken d form turn objects before mid → IsTurnTaken d form turn o mid after → AreTurnsTaken d form turn (objects ++ o ∷ []) before after
turns_snoc d form turn [] o before mid after are is =
    (after, subst (λ (b : Option (List ℕ)). IsTurnTaken d form turn o b after) (sym are) is, refl)
turns_snoc d form turn (x ∷ objects) o before mid after are is = (are.0, are.1, turns_snoc d form turn objects o are.0 mid after are.2 is)

-- the same of the first objects of a list
pub turns_more : (d : Database) (form : Form) (turn : Turn) (objects : List Object) (i : ℕ) (x : Object) (before mid after : Option (List ℕ)) → i < length objects
    → AreTurnsTaken d form turn (take i objects) before mid → IsTurnTaken d form turn (get_or objects i x) mid after
    → AreTurnsTaken d form turn (take (i + 1) objects) before after
turns_more d form turn objects i x before mid after within are is =
    let more : take (i + 1) objects ≡ take i objects ++ get_or objects i x ∷ [] = ap (λ n. take n objects) (add-one i) ∙ take-suc objects i x within in
    subst (λ (os : List Object). AreTurnsTaken d form turn os before after) (sym more)
    (turns_snoc d form turn (take i objects) (get_or objects i x) before mid after are is)

pub among : (objects : List Object) (i : ℕ) (x : Object) → i < length objects → Contains objects (get_or objects i x)
among objects i x within =
    let o = get_or objects i x in
    (i, within, get_or_from_slice_get objects i o o (slice_get-get_or objects i x within))
