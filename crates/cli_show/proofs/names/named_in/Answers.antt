use Rattle.std.proofs.Common.{◌≡◌, ◌≢◌, ◌∙◌, ℕ, length, refl, sym, ap, arith, rules}
use Rattle.std.specs.Prelude.{ltb, slice_get, IfNone, Option, None, Some}
use Rattle.std.proofs.lemmas.List.Sorted.{IsPartitionPoint-from_clause, IsPartitionedBy-ltb}
use Rattle.std.proofs.lemmas.Option.{get_or_from_slice_get, slice_get_read, slice_get_within}
use Rattle.cli_show.specs.declared.names.Name.{Name}
use Rattle.cli_show.proofs.ElementsInOrder.{none_there}
use Rattle.cli_show.proofs.names.named_in.Goals as goal

if_none : {X : Type 0} (o : Option X) (P : Type 0) → P → IfNone o P
if_none None P p = p
if_none (Some x) P p = tt

pub returns-in_err-name-clause-missing : goal.returns-in_err-name-clause-missing
returns-in_err-name-clause-missing c =
    let names = c.args.found.now in
    let parted = IsPartitionedBy-ltb (λ (x : Name). x.root) names c.args.root c.requires in
    let point = IsPartitionPoint-from_clause (λ (x : Name). ltb x.root c.args.root) _ _ c.partition_point-place.ensures.partitioned parted (λ a r q k. search rules) in
    let e = c.in_err-name.ensures.lookup in
    if_none c.from_residual.result ((i : ℕ) (x : Name) → slice_get names i ≡ Some x → x.root ≢ c.args.root)
    (none_there (λ (x : Name). x.root) names c.args.root c.partition_point-place.result c.requires point (λ x is eq. omega (arith, e.3, slice_get_within names c.partition_point-place.result x is)))

pub returns-then-name-root-clause-there : goal.returns-then-name-root-clause-there
returns-then-name-root-clause-there c =
    let names = c.args.found.now in
    let e = c.in_ok-name.ensures.lookup in (
      c.partition_point-place.result,
      c.in_ok-name.name.now,
      slice_get_read names (length names) c.partition_point-place.result c.in_ok-name.name.now refl e.3.0 e.1,
      c.if-name-root.true,
      sym c.as_str.ensures.value,
    )

pub returns-else-name-root-clause-missing : goal.returns-else-name-root-clause-missing
returns-else-name-root-clause-missing c =
    let names = c.args.found.now in
    let parted = IsPartitionedBy-ltb (λ (x : Name). x.root) names c.args.root c.requires in
    let point = IsPartitionPoint-from_clause (λ (x : Name). ltb x.root c.args.root) _ _ c.partition_point-place.ensures.partitioned parted (λ a r q k. search rules) in
    let e = c.in_ok-name.ensures.lookup in
    none_there (λ (x : Name). x.root) names c.args.root c.partition_point-place.result c.requires point
    (λ x is eq.
    let same : c.in_ok-name.name.now ≡ x = e.1 ∙ get_or_from_slice_get names c.partition_point-place.result x c.in_ok-name.name.now is in
    c.if-name-root.false (ap (λ (y : Name). y.root) same ∙ eq))
