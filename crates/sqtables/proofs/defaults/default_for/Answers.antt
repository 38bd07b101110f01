use Rattle.std.proofs.Common.{◌≡◌, ◌∙◌, List, ℕ, ap, subst}
use Rattle.std.specs.Prelude.{IfOk, option_map}
use Rattle.sqlite_ast.specs.declared.Rule.{Rule}
use Rattle.sqdefaults.specs.declared.affinity.Affinity.{Affinity}
use Rattle.sqdefaults.specs.Affinities.{affinity_in}
use Rattle.sqdefaults.specs.Defaults.{default_of}
use Rattle.sqdefaults.specs.Literals.{datum_in}
use Rattle.sqtables.specs.Defaults.{default_for}
use Rattle.sqtables.proofs.defaults.default_for.Goals as goal

pub returns : goal.returns
unfolding default_for
returns c =
    let def = c.args.def.now in
    let column = c.args.column.now in
    let affinity = c.affinity_in-affinity.ensures ∙ ap (affinity_in def.is_strict) c.as_slice.ensures in
    let named = subst (λ (name : List ℕ). IfOk c.default_of.result (λ found. option_map datum_in found ≡ default_of c.affinity_in-affinity.result name c.as_slice-3.result.now)) c.as_slice-2.ensures c.default_of.ensures in
    let ruled = subst (λ (rules : List Rule). IfOk c.default_of.result (λ found. option_map datum_in found ≡ default_of c.affinity_in-affinity.result column.0 rules)) c.as_slice-3.ensures named in
    subst (λ (a : Affinity). IfOk c.default_of.result (λ found. option_map datum_in found ≡ default_of a column.0 def.body.rules)) affinity ruled
