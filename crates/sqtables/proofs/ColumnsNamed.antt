-- The columns of the only table that a text makes.
use Rattle.std.proofs.Common.{◌≡◌, ◌∙◌, inl, inr, ⊎_elim, ℕ, true, false, List, [], Option, Some, None, sym, ap, subst}
use Rattle.std.specs.Prelude.{MatchOption}
use Rattle.sqlite_ast.specs.declared.Keyed.{Keyed}
use Rattle.schema_ast.specs.Tables.{MakesTable}
use Rattle.schema_ast.specs.declared.tables.MadeTable.{MadeTable}
use Rattle.sqtables.specs.declared.columns.Columns.{Columns}
use Rattle.sqtables.specs.Keys.{HasPlainKey}
use Rattle.sqtables.specs.Named.{HasColumns, IsUnnamed, IsBare, AreColumns}
use Rattle.sqtables.specs.Texts.{IsAlias}
use Rattle.sqtables.specs.internal.KeyColumns.{AreKeyed}

one_made : (text : List ℕ) (r : Option MadeTable) (made other : MadeTable) → r ≡ Some made → ((t : MadeTable) → MakesTable text t → r ≡ Some t) → MakesTable text other → made ≡ other
one_made text r made other is only makes =
    let e : ◌≡◌ {A = Option MadeTable} (Some made) (Some other) = sym is ∙ only other makes in
    cc

pub none_made : (text : List ℕ) (r : Option MadeTable) (columns : Columns) → r ≡ None → ((t : MadeTable) → MakesTable text t → r ≡ Some t) → IsBare columns → AreColumns text columns
none_made text r columns is only bare = inr (inr (
  λ other makes.
      let e : ◌≡◌ {A = Option MadeTable} None (Some other) = sym is ∙ only other makes in
      let held : ⊥ = cc in
      absurd held,
  bare,
))

pub computed_made : (text : List ℕ) (r : Option MadeTable) (made : MadeTable) (columns : Columns) → r ≡ Some made → ((t : MadeTable) → MakesTable text t → r ≡ Some t)
    → made.computed ≡ true → IsBare columns → AreColumns text columns
computed_made text r made columns is only computed bare =
    inr (inr (λ other makes. inl (ap (λ (t : MadeTable). t.computed) (sym (one_made text r made other is only makes)) ∙ computed), bare))

unkeyed : (made other : MadeTable) → made ≡ other → made.without_rowid ≡ true → ((keys : List Keyed) → ¬ HasPlainKey made.def.body keys) → IsUnnamed other
unkeyed made other same keyed never = subst (λ (t : MadeTable). IsUnnamed t) same (inr (keyed, never))

pub keyed_made : (text : List ℕ) (r : Option MadeTable) (made : MadeTable) (columns : Columns) → r ≡ Some made → MakesTable text made → ((t : MadeTable) → MakesTable text t → r ≡ Some t)
    → made.computed ≡ false → made.without_rowid ≡ true → AreKeyed made.def columns → AreColumns text columns
keyed_made text r made columns is makes only plain keyed are = ⊎_elim
    (λ some. inr (inl (record { made = made; makes = makes; plain = plain; keyed = keyed; keys = some.0; key = some.1; has = some.2 })))
    (λ none. inr (inr (λ other u. unkeyed made other (one_made text r made other is only u) keyed none.0, none.1)))
    are

pub rows_made : (text : List ℕ) (made : MadeTable) (columns : Columns) (alias : Option ℕ) → MakesTable text made
    → made.computed ≡ false → made.without_rowid ≡ false → MatchOption alias ((i : ℕ) → ¬ IsAlias made.def.body i) (IsAlias made.def.body)
    → HasColumns made.def alias [] columns → AreColumns text columns
rows_made text made columns alias makes plain rowids names has =
    inl (record { made = made; makes = makes; plain = plain; rowids = rowids; alias = alias; names = names; has = has })
