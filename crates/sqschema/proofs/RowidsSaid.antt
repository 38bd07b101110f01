-- What is said of the rowids of a text.
use Rattle.std.proofs.Common.{◌≡◌, ◌<◌, ◌≤◌, ◌∙◌, ℕ, Bool, List, length, Option, Some, None, sym, ap, arith}
use Rattle.std.specs.Prelude.{not}
use Rattle.schema_ast.specs.Tables.{MakesTable}
use Rattle.schema_ast.specs.declared.tables.MadeTable.{MadeTable}
use Rattle.sqschema.specs.Roots.{most_text}
use Rattle.sqschema.specs.internal.Judging.{SaysRowids}

pub too_long : (sql : List ℕ) → most_text < length sql → SaysRowids (Some sql) None
too_long sql long = λ made u. let few = u.0 in absurd (omega (arith, few, long))

pub not_made : (sql : List ℕ) (r : Option MadeTable) → r ≡ None → ((other : MadeTable) → MakesTable sql other → r ≡ Some other) → SaysRowids (Some sql) None
not_made sql r is only = λ other u.
    let e : ◌≡◌ {A = Option MadeTable} None (Some other) = sym is ∙ only other u.1 in
    let held : ⊥ = cc in
    held

pub one_made : (sql : List ℕ) (r : Option MadeTable) (made : MadeTable) → length sql ≤ most_text → r ≡ Some made → MakesTable sql made
    → ((other : MadeTable) → MakesTable sql other → r ≡ Some other) → SaysRowids (Some sql) (Some (not made.without_rowid))
one_made sql r made few is makes only = (
  (made, (few, makes)),
  λ other u.
      let e : ◌≡◌ {A = Option MadeTable} (Some made) (Some other) = sym is ∙ only other u.1 in
      let same : made ≡ other = cc in
      ap (λ (t : MadeTable). not t.without_rowid) same,
)
