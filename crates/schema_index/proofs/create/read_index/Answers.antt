-- The statement is the only one, and its tokens make one index at most.
use Rattle.std.proofs.Common.{◌≡◌, ℕ, List, Option, Some, None, Vec, Global, sym, subst, ◌∙◌, option_map}
use Rattle.schema_tokens.specs.Pieces.{text_of}
use Rattle.schema_tokens.specs.declared.kinds.Piece.{Piece}
use Rattle.schema_text.specs.Texts.{IsStatementHeld}
use Rattle.schema_index.specs.Create.{index_of}
use Rattle.schema_index.specs.declared.create.Index.{Index}
use Rattle.schema_index.proofs.create.read_index.Goals as goal

pub returns-in_default-clause-only : goal.returns-in_default-clause-only
returns-in_default-clause-only c ts i k =
    let held : ⊥ = subst (λ (r : Option (Vec Piece Global)). IsStatementHeld ts (option_map (λ v. v.items) r)) c.in_default.is (c.in_ok-statement.ensures.only ts k.statement) in
    held

pub returns-in-Some-index_of-clause-only : goal.returns-in-Some-index_of-clause-only
returns-in-Some-index_of-clause-only c ts i k =
    let same : c.in-Some.statement.items ≡ ts =
    subst (λ (r : Option (Vec Piece Global)). IsStatementHeld ts (option_map (λ v. v.items) r)) c.in-Some.is (c.in_ok-statement.ensures.only ts k.statement) in
    let here = subst (λ (x : List Piece). index_of (text_of c.args.bytes.now) x ≡ Some i) (sym (c.deref.ensures.value ∙ same)) k.is_index in
    let moved = subst (λ (x : List ℕ). index_of x c.deref.result.now ≡ Some i) (sym c.text_of.ensures) here in
    let found : ◌≡◌ {A = Option Index} (Some c.in-Some-index_of.index) (Some i) = sym c.in-Some-index_of.is ∙ c.index_of.ensures ∙ moved in
    let one : c.in-Some-index_of.index ≡ i = cc in
    (same, one)

pub returns-in-None-clause-only : goal.returns-in-None-clause-only
returns-in-None-clause-only c ts i k =
    let same : c.in-Some.statement.items ≡ ts =
    subst (λ (r : Option (Vec Piece Global)). IsStatementHeld ts (option_map (λ v. v.items) r)) c.in-Some.is (c.in_ok-statement.ensures.only ts k.statement) in
    let here = subst (λ (x : List Piece). index_of (text_of c.args.bytes.now) x ≡ Some i) (sym (c.deref.ensures.value ∙ same)) k.is_index in
    let moved = subst (λ (x : List ℕ). index_of x c.deref.result.now ≡ Some i) (sym c.text_of.ensures) here in
    let clash : ◌≡◌ {A = Option Index} None (Some i) = sym c.in-None.is ∙ c.index_of.ensures ∙ moved in
    cc
