-- The statement is the only one.
use Rattle.std.proofs.Common.{◌≡◌, List, Option, Some, sym, subst, ap}
use Rattle.schema_tokens.specs.declared.kinds.Piece.{Piece}
use Rattle.schema_print.specs.declared.heads.Head.{Head}
use Rattle.schema_text.specs.Texts.{IsAnswered}
use Rattle.schema_text.specs.declared.clauses.Clause.{Clause}
use Rattle.schema_text.specs.declared.texts.TableText.{TableText}
use Rattle.schema_ast.proofs.OneMade.{one_table}
use Rattle.schema_ast.proofs.tables.made_table.Goals as goal

pub returns-in_default-clause-only : goal.returns-in_default-clause-only
returns-in_default-clause-only c t k =
    let held : ⊥ = subst (λ (r : Option TableText). IsAnswered k.tokens k.head k.clauses r) c.in_default.is (c.in_ok-tokens.ensures.only k.tokens k.head k.clauses k.statement) in
    absurd held

pub returns-clause-only : goal.returns-clause-only
returns-clause-only c t k =
    let held = subst (λ (r : Option TableText). IsAnswered k.tokens k.head k.clauses r) c.in-Some.is (c.in_ok-tokens.ensures.only k.tokens k.head k.clauses k.statement) in
    let ts = held.0 in
    let hd = held.1 in
    let cs = held.2 in
    let tokens : c.deref.result.now ≡ k.tokens = cc in
    let head : c.in-Some.field-0.table.head ≡ k.head = cc in
    let clauses : c.deref-2.result.now ≡ k.clauses = cc in
    ap Some (one_table c.args.bytes.now c.text_of.result.now c.in_ok-made.made t c.deref.result.now c.in-Some.field-0.table.head c.deref-2.result.now k
    c.text_of.ensures tokens head clauses c.in_ok-made.ensures.without_rowid c.in_ok-made.ensures.computed c.in_ok-made.ensures.bound c.in_ok-made.ensures.clear c.in_ok-made.ensures.def)
