use Rattle.std.proofs.Common.{◌≡◌, ◌≤◌, ℕ, List, length, Option, Some, subst, arith}
use Rattle.std.specs.Prelude.{IfSome}
use Rattle.schema_ast.specs.Tables.{MakesTable}
use Rattle.schema_ast.specs.declared.tables.MadeTable.{MadeTable}
use Rattle.sqschema.specs.Roots.{most_text}
use Rattle.sqschema.proofs.RowidsSaid.{not_made, one_made}
use Rattle.sqschema.proofs.roots.has_rowids.Goals as goal

pub returns-in-Some-2 : goal.returns-in-Some-2
returns-in-Some-2 c =
    let sql = c.in-Some.sql.items in
    let r = c.in_ok-made.field-0 in
    let few : length sql ≤ most_text = omega (arith, c.if-len-gt-MOST_TEXT.false, c.len.ensures) in
    let found = subst (λ (t : List ℕ). IfSome r (λ made. MakesTable t made)) c.deref.ensures.value c.in_ok-made.ensures.found in
    let only = subst (λ (t : List ℕ). (other : MadeTable) → MakesTable t other → r ≡ Some other) c.deref.ensures.value c.in_ok-made.ensures.only in
    let makes = subst (λ (q : Option MadeTable). IfSome q (λ made. MakesTable sql made)) c.in-Some-2.is found in
    rw c.in-Some.is (one_made sql r c.in-Some-2.made few c.in-Some-2.is makes only)

pub returns-in-None : goal.returns-in-None
returns-in-None c =
    let sql = c.in-Some.sql.items in
    let r = c.in_ok-made.field-0 in
    let only = subst (λ (t : List ℕ). (other : MadeTable) → MakesTable t other → r ≡ Some other) c.deref.ensures.value c.in_ok-made.ensures.only in
    rw c.in-Some.is (not_made sql r c.in-None.is only)
