-- The clauses are those of the only table among the tokens of the only statement.
use Rattle.std.proofs.Common.{◌≡◌, ℕ, List, Option, Vec, Global, sym, subst, ◌∙◌, option_map}
use Rattle.schema_tokens.specs.Pieces.{text_of}
use Rattle.schema_tokens.specs.declared.kinds.Piece.{Piece}
use Rattle.schema_text.specs.Clauses.{IsTable, IsTableHeld}
use Rattle.schema_text.specs.Texts.{IsStatementHeld}
use Rattle.schema_text.specs.declared.clauses.Table.{Table}
use Rattle.schema_text.proofs.texts.read_table.Goals as goal

pub returns-in_default-clause-only : goal.returns-in_default-clause-only
returns-in_default-clause-only c ts h cs k =
    let held : ⊥ = subst (λ (r : Option (Vec Piece Global)). IsStatementHeld ts (option_map (λ v. v.items) r)) c.in_default.is (c.in_ok-statement.ensures.only ts k.statement) in
    held

pub returns-in-Some-2-clause-only : goal.returns-in-Some-2-clause-only
returns-in-Some-2-clause-only c ts h cs k =
    let same : c.in-Some.statement.items ≡ ts =
    subst (λ (r : Option (Vec Piece Global)). IsStatementHeld ts (option_map (λ v. v.items) r)) c.in-Some.is (c.in_ok-statement.ensures.only ts k.statement) in
    let here = subst (λ (x : List Piece). IsTable (text_of c.args.bytes.now) x h cs) (sym (c.deref.ensures.value ∙ same)) k.is_table in
    let moved = subst (λ (x : List ℕ). IsTable x c.deref.result.now h cs) (sym c.text_of.ensures) here in
    let held = subst (λ (r : Option Table). IsTableHeld h cs r) c.in-Some-2.is (c.in_ok-table.ensures.only h cs moved) in
    (same, held.0, held.1)

pub returns-in-None-clause-only : goal.returns-in-None-clause-only
returns-in-None-clause-only c ts h cs k =
    let same : c.in-Some.statement.items ≡ ts =
    subst (λ (r : Option (Vec Piece Global)). IsStatementHeld ts (option_map (λ v. v.items) r)) c.in-Some.is (c.in_ok-statement.ensures.only ts k.statement) in
    let here = subst (λ (x : List Piece). IsTable (text_of c.args.bytes.now) x h cs) (sym (c.deref.ensures.value ∙ same)) k.is_table in
    let moved = subst (λ (x : List ℕ). IsTable x c.deref.result.now h cs) (sym c.text_of.ensures) here in
    let held : ⊥ = subst (λ (r : Option Table). IsTableHeld h cs r) c.in-None.is (c.in_ok-table.ensures.only h cs moved) in
    held
