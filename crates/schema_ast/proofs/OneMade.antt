-- The text makes one table at most, and one index.
use Rattle.std.proofs.Common.{◌≡◌, ◌∙◌, ℕ, Bool, List, Option, Some, sym, refl, ap}
use Rattle.std.specs.List.{list_any}
use Rattle.std.specs.Option.{is_some}
use Rattle.std.specs.Prelude.{map}
use Rattle.sqlite_ast.specs.declared.CreateTable.{CreateTable}
use Rattle.sqlite_ast.specs.declared.CreateIndex.{CreateIndex}
use Rattle.sqlite_ast.specs.declared.Keyed.{Keyed}
use Rattle.schema_tokens.specs.Pieces.{text_of}
use Rattle.schema_tokens.specs.declared.kinds.Piece.{Piece}
use Rattle.schema_print.specs.declared.heads.Head.{Head}
use Rattle.schema_text.specs.declared.clauses.Clause.{Clause}
use Rattle.schema_columns.specs.Columns.{columns_of, is_strict, is_without_rowid}
use Rattle.schema_index.specs.Terms.{index_terms}
use Rattle.schema_index.specs.declared.create.Index.{Index}
use Rattle.schema_index.specs.declared.terms.IndexTerm.{IndexTerm}
use Rattle.schema_ast.specs.Tables.{is_computed, is_bound, is_clear, table_of, MakesTable}
use Rattle.schema_ast.specs.Indexes.{keyed_in, all_of, index_over, MakesIndex}
use Rattle.schema_ast.specs.declared.tables.MadeTable.{MadeTable}
use Rattle.schema_ast.specs.declared.indexes.MadeIndex.{MadeIndex}

same_table : (a b : MadeTable) → a.without_rowid ≡ b.without_rowid → a.computed ≡ b.computed → a.bound ≡ b.bound → a.clear ≡ b.clear → a.def ≡ b.def → a ≡ b
same_table a b p q o r s =
    let one : ◌≡◌ {A = MadeTable} a (record { without_rowid = b.without_rowid; computed = a.computed; bound = a.bound; clear = a.clear; def = a.def })
    = ap (λ (x : Bool). record { without_rowid = x; computed = a.computed; bound = a.bound; clear = a.clear; def = a.def }) p in
    let two : ◌≡◌ {A = MadeTable} (record { without_rowid = b.without_rowid; computed = a.computed; bound = a.bound; clear = a.clear; def = a.def }) (record { without_rowid = b.without_rowid; computed = b.computed; bound = a.bound; clear = a.clear; def = a.def })
    = ap (λ (x : Bool). record { without_rowid = b.without_rowid; computed = x; bound = a.bound; clear = a.clear; def = a.def }) q in
    let three : ◌≡◌ {A = MadeTable} (record { without_rowid = b.without_rowid; computed = b.computed; bound = a.bound; clear = a.clear; def = a.def }) (record { without_rowid = b.without_rowid; computed = b.computed; bound = b.bound; clear = a.clear; def = a.def })
    = ap (λ (x : Bool). record { without_rowid = b.without_rowid; computed = b.computed; bound = x; clear = a.clear; def = a.def }) o in
    let four : ◌≡◌ {A = MadeTable} (record { without_rowid = b.without_rowid; computed = b.computed; bound = b.bound; clear = a.clear; def = a.def }) (record { without_rowid = b.without_rowid; computed = b.computed; bound = b.bound; clear = b.clear; def = a.def })
    = ap (λ (x : Bool). record { without_rowid = b.without_rowid; computed = b.computed; bound = b.bound; clear = x; def = a.def }) r in
    let five : ◌≡◌ {A = MadeTable} (record { without_rowid = b.without_rowid; computed = b.computed; bound = b.bound; clear = b.clear; def = a.def }) b
    = ap (λ (x : CreateTable). record { without_rowid = b.without_rowid; computed = b.computed; bound = b.bound; clear = b.clear; def = x }) s in
    one ∙ two ∙ three ∙ four ∙ five

-- a table of the tokens and clauses that the text has is the one that it makes
pub one_table : (bytes text : List ℕ) (made other : MadeTable) (ts : List Piece) (head : Head) (cs : List Clause) (k : MakesTable bytes other)
    → text ≡ text_of bytes → ts ≡ k.tokens → head ≡ k.head → cs ≡ k.clauses → made.without_rowid ≡ is_without_rowid cs
    → made.computed ≡ list_any (is_computed text ts) (columns_of cs)
    → made.bound ≡ list_any (is_bound text ts (is_strict cs)) (columns_of cs) → made.clear ≡ is_clear text ts cs → made.def ≡ table_of text ts head cs → made ≡ other
one_table bytes text made other ts head cs k t e h d p q o r s =
    let rowid : made.without_rowid ≡ other.without_rowid = p ∙ ap is_without_rowid d ∙ sym k.without_rowid in
    let computed : made.computed ≡ other.computed =
    q ∙ ap (λ z. list_any (is_computed z ts) (columns_of cs)) t ∙ ap (λ z. list_any (is_computed (text_of bytes) z) (columns_of cs)) e
    ∙ ap (λ z. list_any (is_computed (text_of bytes) k.tokens) (columns_of z)) d ∙ sym k.computed in
    let bound : made.bound ≡ other.bound =
    o ∙ ap (λ z. list_any (is_bound z ts (is_strict cs)) (columns_of cs)) t
    ∙ ap (λ z. list_any (is_bound (text_of bytes) z (is_strict cs)) (columns_of cs)) e
    ∙ ap (λ z. list_any (is_bound (text_of bytes) k.tokens (is_strict z)) (columns_of z)) d ∙ sym k.bound in
    let clear : made.clear ≡ other.clear =
    r ∙ ap (λ z. is_clear z ts cs) t ∙ ap (λ z. is_clear (text_of bytes) z cs) e ∙ ap (λ z. is_clear (text_of bytes) k.tokens z) d ∙ sym k.clear in
    let def : made.def ≡ other.def =
    s ∙ ap (λ z. table_of z ts head cs) t ∙ ap (λ z. table_of (text_of bytes) z head cs) e ∙ ap (λ z. table_of (text_of bytes) k.tokens z cs) h
    ∙ ap (λ z. table_of (text_of bytes) k.tokens k.head z) d ∙ sym k.def in
    same_table made other rowid computed bound clear def

same_index : (a b : MadeIndex) → a.partial ≡ b.partial → a.def ≡ b.def → a ≡ b
same_index a b p q =
    let one : ◌≡◌ {A = MadeIndex} a (record { partial = b.partial; def = a.def }) = ap (λ (x : Bool). record { partial = x; def = a.def }) p in
    let two : ◌≡◌ {A = MadeIndex} (record { partial = b.partial; def = a.def }) b = ap (λ (x : CreateIndex). record { partial = b.partial; def = x }) q in
    one ∙ two

-- what the terms of the statement are
pub all_terms : (bytes text : List ℕ) (other : MadeIndex) (ts us : List Piece) (index : Index) (terms : List IndexTerm) (k : MakesIndex bytes other) (found : Option (List Keyed))
    → text ≡ text_of bytes → ts ≡ k.tokens → us ≡ k.tokens → index ≡ k.index → terms ≡ index_terms text us index → found ≡ all_of (map (keyed_in text ts) terms) → found ≡ Some k.columns
all_terms bytes text other ts us index terms k found t e u i g h =
    let same : terms ≡ index_terms (text_of bytes) k.tokens k.index =
    g ∙ ap (λ z. index_terms z us index) t ∙ ap (λ z. index_terms (text_of bytes) z index) u ∙ ap (λ z. index_terms (text_of bytes) k.tokens z) i in
    h ∙ ap (λ z. all_of (map (keyed_in z ts) terms)) t
    ∙ ap (λ z. all_of (map (keyed_in (text_of bytes) z) terms)) e
    ∙ ap (λ z. all_of (map (keyed_in (text_of bytes) k.tokens) z)) same
    ∙ k.plain

pub one_index : (bytes text : List ℕ) (made other : MadeIndex) (ts : List Piece) (index : Index) (columns : List Keyed) (k : MakesIndex bytes other)
    → text ≡ text_of bytes → ts ≡ k.tokens → index ≡ k.index → columns ≡ k.columns → made.partial ≡ is_some index.condition
    → made.def ≡ index_over text ts index columns → made ≡ other
one_index bytes text made other ts index columns k t e i m p q =
    let partial : made.partial ≡ other.partial = p ∙ ap (λ (z : Index). is_some z.condition) i ∙ sym k.partial in
    let def : made.def ≡ other.def =
    q ∙ ap (λ z. index_over z ts index columns) t ∙ ap (λ z. index_over (text_of bytes) z index columns) e
    ∙ ap (λ z. index_over (text_of bytes) k.tokens z columns) i ∙ ap (λ z. index_over (text_of bytes) k.tokens k.index z) m ∙ sym k.def in
    same_index made other partial def
