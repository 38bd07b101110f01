-- Clauses one after another: one more, and that no others are a statement.
use Rattle.std.proofs.Common.{◌≡◌, ℕ, ◌<◌, ◌≤◌, ◌+◌, List, [], ◌∷◌, ◌++◌, length, drop, true, false, Option, Some, None, refl, sym, subst, ap, ◌∙◌, arith}
use Rattle.schema_tokens.specs.declared.kinds.Piece.{Piece}
use Rattle.schema_print.specs.Statements.{head_of}
use Rattle.schema_print.specs.declared.heads.Head.{Head}
use Rattle.schema_text.specs.Clauses.{clause_at, after_rule, may_end, IsClauseAt, AreClauses, IsTable}
use Rattle.schema_text.specs.declared.clauses.Rule.{Rule}
use Rattle.schema_text.specs.declared.clauses.Rule.TheVariants.{Comma}
use Rattle.schema_text.specs.declared.clauses.Place.{Place}
use Rattle.schema_text.specs.declared.clauses.Place.TheVariants.{First}
use Rattle.schema_text.specs.declared.clauses.Found.{Found}
use Rattle.schema_text.specs.declared.clauses.Clause.{Clause}

pub one_more : (text : List ℕ) (ts : List Piece) (place : Place) (from : ℕ) (cs : List Clause) (at : ℕ) (here : Place) (c : Clause) → AreClauses text ts place from cs at here → at < c.to → IsClauseAt text ts here at c → AreClauses text ts place from (cs ++ c ∷ []) c.to (after_rule here c.rule)
one_more text ts place from [] at here c h lt is =
    let Chain : ℕ → Place → Type 0 = λ (x : ℕ) (p : Place). AreClauses text ts p x (c ∷ []) c.to (after_rule here c.rule) in
    subst (λ (x : ℕ). Chain x place) (sym h.0) (subst (λ (p : Place). Chain at p) (sym h.1) (lt, is, (refl, refl)))
one_more text ts place from (d ∷ cs) at here c h lt is =
    (h.0, h.1, one_more text ts (after_rule place d.rule) d.to cs at here c h.2 lt is)

abbrev rule_of : Option Found → Rule
rule_of None = Comma
rule_of (Some f) = f.rule

abbrev length_of : Option Found → ℕ
length_of None = 0
length_of (Some f) = f.length

-- one place has one clause
same_clause : (text : List ℕ) (ts : List Piece) (place : Place) (at : ℕ) (c d : Clause) → IsClauseAt text ts place at c → IsClauseAt text ts place at d → c ≡ d
same_clause text ts place at c d h k =
    let forms : Some (record { rule = c.rule; length = h.length }) ≡ Some (record { rule = d.rule; length = k.length }) = sym h.is_found ∙ k.is_found in
    let rules : c.rule ≡ d.rule = ap rule_of forms in
    let lengths : h.length ≡ k.length = ap length_of forms in
    let ends : c.to ≡ d.to = h.ends ∙ ap (λ n. at + n) lengths ∙ sym k.ends in
    let begins : c.from ≡ d.from = h.begins ∙ sym k.begins in
    ap (λ x. let r : Clause = record { rule = x; from = c.from; to = c.to } in r) rules
    ∙ ap (λ x. let r : Clause = record { rule = d.rule; from = x; to = c.to } in r) begins
    ∙ ap (λ x. let r : Clause = record { rule = d.rule; from = d.from; to = x } in r) ends

no_clause : (text : List ℕ) (ts : List Piece) (place : Place) (at : ℕ) (c : Clause) → IsClauseAt text ts place at c → clause_at text place (drop at ts) ≡ None → ⊥
no_clause text ts place at c h none = let clash : ◌≡◌ {A = Option Found} (Some (record { rule = c.rule; length = h.length })) None = sym h.is_found ∙ none in cc

-- clauses don't end before they begin
ends_later : (text : List ℕ) (ts : List Piece) (place : Place) (from : ℕ) (cs : List Clause) (to : ℕ) (last : Place) → AreClauses text ts place from cs to last → from ≤ to
ends_later text ts place from [] to last h = let e : from ≡ to = h.0 in omega arith
ends_later text ts place from (c ∷ cs) to last h =
    let first : from < c.to = h.0 in
    let rest : c.to ≤ to = ends_later text ts (after_rule place c.rule) c.to cs to last h.2 in
    omega arith

-- Of clauses up to where none begins, and others up to the end of all tokens, both are the same.
pub same_clauses : (text : List ℕ) (ts : List Piece) (place : Place) (from : ℕ) (cs : List Clause) (to : ℕ) (last : Place) (ds : List Clause) (final : Place) → AreClauses text ts place from cs to last → clause_at text last (drop to ts) ≡ None → to ≤ length ts → AreClauses text ts place from ds (length ts) final → (cs ≡ ds) × (to ≡ length ts) × (last ≡ final)
same_clauses text ts place from [] to last [] final h none within k = (refl, sym h.0 ∙ k.0, sym h.1 ∙ k.1)
same_clauses text ts place from [] to last (d ∷ ds) final h none within k =
    let here : clause_at text place (drop from ts) ≡ None = subst (λ (p : Place). clause_at text p (drop from ts) ≡ None) (sym h.1) (subst (λ (x : ℕ). clause_at text last (drop x ts) ≡ None) (sym h.0) none) in
    absurd (no_clause text ts place from d k.1 here)
same_clauses text ts place from (c ∷ cs) to last [] final h none within k =
    let e : from ≡ length ts = k.0 in
    let first : from < c.to = h.0 in
    let rest : c.to ≤ to = ends_later text ts (after_rule place c.rule) c.to cs to last h.2 in
    absurd (omega arith)
same_clauses text ts place from (c ∷ cs) to last (d ∷ ds) final h none within k =
    let first : c ≡ d = same_clause text ts place from c d h.1 k.1 in
    let left = subst (λ (r : Clause). AreClauses text ts (after_rule place r.rule) r.to ds (length ts) final) (sym first) k.2 in
    let rest = same_clauses text ts (after_rule place c.rule) c.to cs to last ds final h.2 none within left in
    (ap (λ x. x ∷ cs) first ∙ ap (λ xs. d ∷ xs) rest.0, rest.1, rest.2)

-- What a statement is whose clauses are these up to where none begins.
pub record Are_only (head h : Head) (cs ds : List Clause) (to size : ℕ) (last : Place) : Type 0 where
  pub heads : head ≡ h
  pub clauses : cs ≡ ds
  pub reach : to ≡ size
  pub ended : may_end last ≡ true

pub only_table : (text : List ℕ) (ts : List Piece) (head : Head) (cs : List Clause) (to : ℕ) (last : Place) (h : Head) (ds : List Clause) → head_of text ts ≡ Some head → AreClauses text ts First (head.name + 2) cs to last → clause_at text last (drop to ts) ≡ None → to ≤ length ts → IsTable text ts h ds → Are_only head h cs ds to (length ts) last
only_table text ts head cs to last h ds is_head are none within k =
    let somes : Some head ≡ Some h = sym is_head ∙ k.begins in
    let heads : head ≡ h = cc in
    let moved = subst (λ (x : Head). AreClauses text ts First (x.name + 2) ds (length ts) k.last) (sym heads) k.clauses in
    let same = same_clauses text ts First (head.name + 2) cs to last ds k.last are none within moved in
    record { heads = heads; clauses = same.0; reach = same.1; ended = subst (λ (p : Place). may_end p ≡ true) (sym same.2) k.ended }
