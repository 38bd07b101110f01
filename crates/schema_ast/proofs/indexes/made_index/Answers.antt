-- The statement is the only one.
use Rattle.std.proofs.Common.{◌≡◌, ◌∙◌, List, Option, Some, None, sym, subst, ap}
use Rattle.sqlite_ast.specs.declared.Keyed.{Keyed}
use Rattle.schema_index.specs.Texts.{IsIndexHeld}
use Rattle.schema_index.specs.declared.create.IndexText.{IndexText}
use Rattle.schema_ast.specs.declared.indexes.MadeIndex.{MadeIndex}
use Rattle.schema_ast.proofs.OneMade.{all_terms, one_index}
use Rattle.schema_ast.proofs.indexes.made_index.Goals as goal

pub returns-in_default-clause-only : goal.returns-in_default-clause-only
returns-in_default-clause-only c i k =
    let held : ⊥ = subst (λ (r : Option IndexText). IsIndexHeld k.tokens k.index r) c.in_default.is (c.in_ok-tokens.ensures.only k.tokens k.index k.statement) in
    absurd held

pub returns-in_default-2-clause-only : goal.returns-in_default-2-clause-only
returns-in_default-2-clause-only c i k =
    let held = subst (λ (r : Option IndexText). IsIndexHeld k.tokens k.index r) c.in-Some.is (c.in_ok-tokens.ensures.only k.tokens k.index k.statement) in
    let ts = held.0 in
    let at = held.1 in
    let first : c.deref.result.now ≡ k.tokens = cc in
    let second : c.deref-2.result.now ≡ k.tokens = cc in
    let index : c.in-Some.field-0.index ≡ k.index = cc in
    let terms = c.deref-3.ensures.value ∙ c.in_ok-terms.ensures in
    let found = all_terms c.args.bytes.now c.text_of-text.result.now i c.deref-2.result.now c.deref.result.now c.in-Some.field-0.index c.deref-3.result.now k c.in_ok-columns.field-0
    c.text_of-text.ensures second first index terms c.in_ok-columns.ensures in
    let clash : ◌≡◌ {A = Option (List Keyed)} None (Some k.columns) = sym c.in_default-2.is ∙ found in
    let held : ⊥ = cc in
    absurd held

pub returns-clause-only : goal.returns-clause-only
returns-clause-only c i k =
    let held = subst (λ (r : Option IndexText). IsIndexHeld k.tokens k.index r) c.in-Some.is (c.in_ok-tokens.ensures.only k.tokens k.index k.statement) in
    let ts = held.0 in
    let at = held.1 in
    let first : c.deref.result.now ≡ k.tokens = cc in
    let second : c.deref-2.result.now ≡ k.tokens = cc in
    let last : c.deref-4.result.now ≡ k.tokens = cc in
    let index : c.in-Some.field-0.index ≡ k.index = cc in
    let terms = c.deref-3.ensures.value ∙ c.in_ok-terms.ensures in
    let found = all_terms c.args.bytes.now c.text_of-text.result.now i c.deref-2.result.now c.deref.result.now c.in-Some.field-0.index c.deref-3.result.now k c.in_ok-columns.field-0
    c.text_of-text.ensures second first index terms c.in_ok-columns.ensures in
    let both : ◌≡◌ {A = Option (List Keyed)} (Some c.in-Some-2.columns) (Some k.columns) = sym c.in-Some-2.is ∙ found in
    let columns : c.in-Some-2.columns ≡ k.columns = cc in
    let made : MadeIndex = record { partial = c.is_some.result; def = c.in_ok-index_over.field-0 } in
    ap Some (one_index c.args.bytes.now c.text_of-text.result.now made i c.deref-4.result.now c.in-Some.field-0.index c.in-Some-2.columns k
    c.text_of-text.ensures last index columns c.is_some.ensures c.in_ok-index_over.ensures)
