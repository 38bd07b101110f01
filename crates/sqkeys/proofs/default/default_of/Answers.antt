use Rattle.std.proofs.Common.{◌≡◌, ◌∙◌, List, ℕ, ap, subst}
use Rattle.std.specs.Prelude.{IfOk, Option}
use Rattle.sqlite_value.specs.declared.value.Value.{Value}
use Rattle.sqdefaults.specs.declared.affinity.Affinity.{Affinity}
use Rattle.sqdefaults.specs.Affinities.{affinity_of}
use Rattle.sqkeys.specs.Columns.{default_by}
use Rattle.sqkeys.proofs.default.default_of.Goals as goal

pub returns : goal.returns
returns c =
    let column = c.args.column.now in
    let rules = c.args.rules.now in
    let affinity = c.affinity_of-affinity.ensures ∙ ap affinity_of c.as_slice-written.ensures in
    let e = ap (λ (a : Affinity). default_by a c.as_slice.result.now rules) affinity ∙ ap (λ (name : List ℕ). default_by (affinity_of column.1) name rules) c.as_slice.ensures in
    subst (λ (v : Option Value). IfOk c.default_by.result (λ found. found ≡ v)) e c.default_by.ensures
