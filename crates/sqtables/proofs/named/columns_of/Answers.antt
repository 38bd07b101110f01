use Rattle.std.proofs.Common.{Option, subst}
use Rattle.std.specs.Prelude.{IfSome}
use Rattle.schema_ast.specs.Tables.{MakesTable}
use Rattle.schema_ast.specs.declared.tables.MadeTable.{MadeTable}
use Rattle.sqtables.proofs.ColumnsNamed.{none_made, computed_made, keyed_made}
use Rattle.sqtables.proofs.named.columns_of.Goals as goal

pub returns-in_default : goal.returns-in_default
returns-in_default c = record { ok = none_made c.args.text.now c.in_ok-found.field-0 c.bare.result c.in_default.is c.in_ok-found.ensures.only c.bare.ensures }

pub returns-then-found : goal.returns-then-found
returns-then-found c = record {
  ok = computed_made c.args.text.now c.in_ok-found.field-0 c.in-Some.found c.bare-then-found.result c.in-Some.is c.in_ok-found.ensures.only c.if-found.true c.bare-then-found.ensures;
}

pub returns-then-found-2 : goal.returns-then-found-2
returns-then-found-2 c =
    let makes = subst (λ (r : Option MadeTable). IfSome r (λ t. MakesTable c.args.text.now t)) c.in-Some.is c.in_ok-found.ensures.found in
    record {
      ok = keyed_made c.args.text.now c.in_ok-found.field-0 c.in-Some.found c.in_ok-columns.columns c.in-Some.is makes c.in_ok-found.ensures.only c.if-found.false c.if-found-2.true c.in_ok-columns.ensures;
    }
