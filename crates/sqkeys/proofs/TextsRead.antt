-- What is known of a text, by what is read of it.
use Rattle.std.proofs.Common.{◌≡◌, ◌⊎◌, ◌<◌, ◌∙◌, inl, inr, ⊎_elim, ℕ, Bool, true, false, List, length, Option, Some, None, sym, refl, ap}
use Rattle.std.specs.Prelude.{Result, Ok, Err, IfOk, IfSome, MatchOption}
use Rattle.sqlite_ast.specs.declared.CreateTable.{CreateTable}
use Rattle.sqlite_ast.specs.declared.CreateIndex.{CreateIndex}
use Rattle.schema_ast.specs.Tables.{MakesTable}
use Rattle.schema_ast.specs.Indexes.{MakesIndex}
use Rattle.schema_ast.specs.declared.tables.MadeTable.{MadeTable}
use Rattle.schema_ast.specs.declared.indexes.MadeIndex.{MadeIndex}
use Rattle.sqkeys.specs.Keys.{most_text, MakesSorted, ReadsAs}
use Rattle.sqkeys.specs.Entries.{ReadsAsNone}
use Rattle.sqkeys.specs.RowRules.{HasNoRows}
use Rattle.sqkeys.specs.internal.Reading.{IsOnlyTable, HasNoTable, IsOnlyIndex, HasNoIndex}

pub only_table : (text : List ℕ) (r : Option MadeTable) (made : MadeTable) → r ≡ Some made → MakesTable text made → made.bound ≡ false
    → ((other : MadeTable) → MakesTable text other → r ≡ Some other) → IsOnlyTable text made
only_table text r made is makes free only = record {
  makes = makes;
  free = free;
  only = λ other u. let e : ◌≡◌ {A = Option MadeTable} (Some made) (Some other) = sym is ∙ only other u in let same : made ≡ other = cc in same;
}

pub no_table : (text : List ℕ) (r : Option MadeTable) → r ≡ None → ((other : MadeTable) → MakesTable text other → r ≡ Some other) → HasNoTable text
no_table text r is only =
    inr (λ other u. let e : ◌≡◌ {A = Option MadeTable} None (Some other) = sym is ∙ only other u in let held : ⊥ = cc in absurd held)

pub bound_table : (text : List ℕ) (r : Option MadeTable) (made : MadeTable) → r ≡ Some made
    → ((other : MadeTable) → MakesTable text other → r ≡ Some other) → made.bound ≡ true → HasNoTable text
bound_table text r made is only bound =
    inr (λ other u. (let e : ◌≡◌ {A = Option MadeTable} (Some made) (Some other) = sym is ∙ only other u in let same : made ≡ other = cc in ap (λ (t : MadeTable). t.bound) (sym same) ∙ bound))

only_index : (text : List ℕ) (r : Option MadeIndex) (made : MadeIndex) → r ≡ Some made → MakesIndex text made
    → ((other : MadeIndex) → MakesIndex text other → r ≡ Some other) → IsOnlyIndex text made
only_index text r made is makes only = record {
  makes = makes;
  only = λ other u. let e : ◌≡◌ {A = Option MadeIndex} (Some made) (Some other) = sym is ∙ only other u in let same : made ≡ other = cc in same;
}

no_index : (text : List ℕ) (r : Option MadeIndex) → r ≡ None → ((other : MadeIndex) → MakesIndex text other → r ≡ Some other) → HasNoIndex text
no_index text r is only =
    inr (λ other u. let e : ◌≡◌ {A = Option MadeIndex} None (Some other) = sym is ∙ only other u in let held : ⊥ = cc in held)

-- what is read of an index
pub index_read : {E : Type 0} (text : List ℕ) (r : Result (Option MadeIndex) E) → IfOk r (λ found. IfSome found (λ i. MakesIndex text i))
    → IfOk r (λ found. (other : MadeIndex) → MakesIndex text other → found ≡ Some other) → IfOk r (λ found. MatchOption found (HasNoIndex text) (IsOnlyIndex text))
index_read text (Err e) found only = tt
index_read text (Ok None) found only = no_index text None refl only
index_read text (Ok (Some made)) found only = only_index text (Some made) made refl found only

pub apart : (a b : Bool) → a ≡ true → b ≡ false → a ≡ b → ⊥
apart a b one two same = cc

-- a table of the other kind, or with other collations
pub other_rows : (text : List ℕ) (made : MadeTable) → IsOnlyTable text made → made.without_rowid ≡ true → HasNoRows text
other_rows text made only keyed =
    inr (λ def m. apart made.without_rowid m.made.without_rowid keyed m.rowids (ap (λ (t : MadeTable). t.without_rowid) (only.only m.made m.makes)))

pub other_kind : (text : List ℕ) (without : Bool) (made : MadeTable) → IsOnlyTable text made → (made.without_rowid ≡ without → ⊥)
    → (most_text < length text) ⊎ ((def : CreateTable) → ¬ MakesSorted text without def)
other_kind text without made only other =
    inr (λ def m. other (ap (λ (t : MadeTable). t.without_rowid) (only.only m.made m.makes) ∙ m.is))

pub not_clear : (text : List ℕ) (without : Bool) (made : MadeTable) → IsOnlyTable text made → made.clear ≡ false
    → (most_text < length text) ⊎ ((def : CreateTable) → ¬ MakesSorted text without def)
not_clear text without made only unclear =
    inr (λ def m. apart m.made.clear made.clear m.clear unclear (ap (λ (t : MadeTable). t.clear) (sym (only.only m.made m.makes))))

pub none_sorted : (text : List ℕ) (without : Bool) → HasNoTable text → (most_text < length text) ⊎ ((def : CreateTable) → ¬ MakesSorted text without def)
none_sorted text without none =
    ⊎_elim (λ long. inl long) (λ never. inr (λ def m. apart m.made.bound m.made.bound (never m.made m.makes) m.free refl)) none

pub none_rows : (text : List ℕ) → HasNoTable text → HasNoRows text
none_rows text none =
    ⊎_elim (λ long. inl long) (λ never. inr (λ def m. apart m.made.bound m.made.bound (never m.made m.makes) m.free refl)) none

pub other_end : (text : List ℕ) (partial : Bool) (made : MadeIndex) → IsOnlyIndex text made → (made.partial ≡ partial → ⊥)
    → (most_text < length text) ⊎ ((def : CreateIndex) → ¬ ReadsAs text partial def)
other_end text partial made only other =
    inr (λ def m. other (ap (λ (i : MadeIndex). i.partial) (only.only m.made m.makes) ∙ m.is))

pub none_read : (text : List ℕ) (partial : Bool) → HasNoIndex text → (most_text < length text) ⊎ ((def : CreateIndex) → ¬ ReadsAs text partial def)
none_read text partial none = ⊎_elim (λ long. inl long) (λ never. inr (λ def m. never m.made m.makes)) none

pub reads_none : (text : List ℕ) → HasNoIndex text → ReadsAsNone text
reads_none text none = ⊎_elim (λ long. inl long) (λ never. inr (λ partial def m. never m.made m.makes)) none
