-- The columns of a row that changed, written one by one.
use Rattle.std.proofs.Common.{◌≡◌, ℕ, suc, Bool, true, List, [], ◌++◌, inl, inr, refl, sym, subst}
use Rattle.sqrows.specs.Rows.{Row}
use Rattle.sqdeep.specs.declared.text.Encoding.{Encoding}
use Rattle.sqtables.specs.declared.columns.Columns.{Columns}
use Rattle.cli_change_text.specs.Changes.{AreDifferences}
use Rattle.cli_change_text.specs.internal.Steps.{TakesColumn}

-- one more before those that follow
pub takes_one : (encoding : Encoding) (columns : Columns) (old new : Row) (begun written : Bool) (j m : ℕ) (own more : List ℕ) → TakesColumn encoding columns old new j begun written own
    → AreDifferences encoding columns old new written (suc j) m more → AreDifferences encoding columns old new begun j (suc m) (own ++ more)
takes_one encoding columns old new begun written j m own more (inl (same, kept, none)) are =
    let own_begun : AreDifferences encoding columns old new begun (suc j) m more = subst (λ (b : Bool). AreDifferences encoding columns old new b (suc j) m more) kept are in
    subst (λ (t : List ℕ). AreDifferences encoding columns old new begun j (suc m) (t ++ more)) (sym none) (inl (same, own_begun))
takes_one encoding columns old new begun written j m own more (inr (differs, kept, is)) are =
    inr (differs, (own, more, is, subst (λ (b : Bool). AreDifferences encoding columns old new b (suc j) m more) kept are, refl))
