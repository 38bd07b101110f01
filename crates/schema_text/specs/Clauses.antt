-- The clauses of CREATE TABLE from its first column on, one after another (parse.y; lang_createtable).
use Rattle.std.specs.Prelude.{◌≡◌, ℕ, ◌+◌, ◌-◌, ◌<◌, ◌==◌, ◌||◌, ◌&&◌, Bool, true, false, not, if◌then◌else◌, List, [], ◌∷◌, length, drop, take_while, codes, Option, Some, None, is_some, MatchOption}
use Rattle.schema_tokens.specs.declared.kinds.Piece.{Piece}
use Rattle.schema_print.specs.Statements.{is_word, is_name, is_open, head_of}
use Rattle.schema_print.specs.declared.heads.Object.{Object}
use Rattle.schema_print.specs.declared.heads.Object.TheVariants as objects
use Rattle.schema_print.specs.declared.heads.Head.{Head}
use Rattle.schema_text.specs.Kinds.{is_close_kind, is_comma_kind, is_semicolon_kind, has_kind}
use Rattle.schema_text.specs.Rules.{column_length, conflict_length, named_length, primary_length, defer_length, default_length, collate_length, references_length, check_length, as_length, generated_length, action_length, listed_length, foreign_length, is_operand}
use Rattle.schema_text.specs.declared.clauses.Rule.{Rule}
use Rattle.schema_text.specs.declared.clauses.Rule.TheVariants as rules
use Rattle.schema_text.specs.declared.clauses.Place.{Place}
use Rattle.schema_text.specs.declared.clauses.Place.TheVariants as places
use Rattle.schema_text.specs.declared.clauses.Found.{Found}
use Rattle.schema_text.specs.declared.clauses.Clause.{Clause}
use Rattle.schema_text.specs.declared.clauses.Table.{Table}

-- a clause of this rule and length; none of length 0
abbrev pub clause_of : Rule → (length : ℕ) → Option Found
clause_of rule n = if n == 0 then None else Some (record { rule = rule; length = n })

-- `,` or `)`
unfoldable pub separator_at : List Piece → Option Found
separator_at ts =
    if has_kind is_comma_kind ts 0 then clause_of rules.Comma 1
    else (if has_kind is_close_kind ts 0 then clause_of rules.Close 1 else None)

-- a key of a column, a CHECK, a reference, or DEFERRABLE with NOT or without (`ccons`)
unfoldable pub key_at : (text : List ℕ) → List Piece → Option Found
key_at text ts =
    if is_word text ts 0 (codes "PRIMARY") then clause_of rules.PrimaryKey (primary_length text ts)
    else (if is_word text ts 0 (codes "UNIQUE") then clause_of rules.Unique (1 + conflict_length text (drop 1 ts))
    else (if is_word text ts 0 (codes "CHECK") then clause_of rules.Check (check_length ts)
    else (if is_word text ts 0 (codes "REFERENCES") then clause_of rules.References (references_length ts)
    else clause_of rules.Deferrable (defer_length text ts))))

-- a constraint of a column (`ccons`)
unfoldable pub constraint_at : (text : List ℕ) → List Piece → Option Found
constraint_at text ts =
    if is_word text ts 0 (codes "CONSTRAINT") then clause_of rules.Named (named_length ts)
    else (if is_word text ts 0 (codes "NULL") then clause_of rules.Null (1 + conflict_length text (drop 1 ts))
    else (if is_word text ts 0 (codes "NOT") && is_word text ts 1 (codes "NULL")
    then clause_of rules.NotNull (2 + conflict_length text (drop 2 ts))
    else (if is_word text ts 0 (codes "DEFAULT") then clause_of rules.Default (default_length text ts)
    else (if is_word text ts 0 (codes "COLLATE") then clause_of rules.Collate (collate_length ts)
    else (if is_word text ts 0 (codes "AS") then clause_of rules.Generated (as_length text ts)
    else (if is_word text ts 0 (codes "GENERATED") then clause_of rules.Generated (generated_length text ts)
    else key_at text ts))))))

-- a constraint of a table (`tcons`)
unfoldable pub table_constraint_at : (text : List ℕ) → List Piece → Option Found
table_constraint_at text ts =
    if is_word text ts 0 (codes "CONSTRAINT") then clause_of rules.TableNamed (named_length ts)
    else (if is_word text ts 0 (codes "PRIMARY") && is_word text ts 1 (codes "KEY")
    then clause_of rules.TablePrimaryKey (if is_open ts 2 then 3 else 0)
    else (if is_word text ts 0 (codes "UNIQUE") then clause_of rules.TableUnique (if is_open ts 1 then 2 else 0)
    else (if is_word text ts 0 (codes "CHECK") then clause_of rules.TableCheck (listed_length 1 text ts)
    else (if is_word text ts 0 (codes "FOREIGN") then clause_of rules.ForeignKey (foreign_length text ts)
    else None))))

-- an option of a table (`table_option`)
unfoldable pub option_at : (text : List ℕ) → List Piece → Option Found
option_at text ts =
    if is_word text ts 0 (codes "WITHOUT") && is_word text ts 1 (codes "ROWID") then clause_of rules.WithoutRowid 2
    else (if is_word text ts 0 (codes "STRICT") then clause_of rules.Strict 1 else None)

-- In a key: the name of a column, or `(` before it. A name in parentheses is the column too.
unfoldable pub term_at : (text : List ℕ) → List Piece → Option Found
term_at text ts =
    if is_open ts 0 then clause_of rules.TermOpen 1
    else (if is_name ts 0 && not (is_operand text ts) then clause_of rules.Term 1 else None)

-- after a term of a key: `)` that ends the key, a comma, or AUTOINCREMENT in a PRIMARY KEY
unfoldable pub key_rest_at : (text : List ℕ) → (primary : Bool) → List Piece → Option Found
key_rest_at text primary ts =
    if has_kind is_close_kind ts 0 then clause_of rules.KeyEnd (1 + conflict_length text (drop 1 ts))
    else (if has_kind is_comma_kind ts 0 then clause_of rules.TermComma 1
    else (if primary && is_word text ts 0 (codes "AUTOINCREMENT") then clause_of rules.Autoincrement 1 else None))

-- after the name of a column in so many parentheses: COLLATE, `)`, or what ends the term
unfoldable pub in_term_at : (text : List ℕ) → (primary : Bool) → (depth : ℕ) → List Piece → Option Found
in_term_at text primary depth ts =
    if is_word text ts 0 (codes "COLLATE") then clause_of rules.TermCollate (collate_length ts)
    else (if not (depth == 0) then (if has_kind is_close_kind ts 0 then clause_of rules.TermClose 1 else None)
    else (if is_word text ts 0 (codes "ASC") then clause_of rules.TermAscends 1
    else (if is_word text ts 0 (codes "DESC") then clause_of rules.TermDescends 1
    else key_rest_at text primary ts)))

-- the first of two, if there is one
abbrev pub first_of : Option Found → Option Found → Option Found
first_of a b = if is_some a then a else b

abbrev pub comma_at : List Piece → Option Found
comma_at ts = if has_kind is_comma_kind ts 0 then clause_of rules.Comma 1 else None

-- The clause that begins here, at this place of the statement.
unfoldable pub clause_at : (text : List ℕ) → Place → List Piece → Option Found
clause_at text places.First ts = clause_of rules.Column (column_length text ts)
clause_at text places.InColumn ts = first_of (separator_at ts) (constraint_at text ts)
clause_at text places.InReference ts =
    first_of (clause_of rules.Action (action_length text ts)) (first_of (separator_at ts) (constraint_at text ts))
clause_at text places.Next ts = first_of (table_constraint_at text ts) (clause_of rules.Column (column_length text ts))
clause_at text places.InConstraints ts = first_of (separator_at ts) (table_constraint_at text ts)
clause_at text places.InForeignKey ts =
    first_of (clause_of rules.Action (action_length text ts))
    (first_of (clause_of rules.TableDeferrable (defer_length text ts))
    (first_of (separator_at ts) (table_constraint_at text ts)))
clause_at text places.NextConstraint ts = table_constraint_at text ts
clause_at text (places.TermDue primary depth) ts = term_at text ts
clause_at text (places.InTerm primary depth) ts = in_term_at text primary depth ts
clause_at text (places.AfterTerm primary) ts = key_rest_at text primary ts
clause_at text places.KeyDone ts =
    if has_kind is_close_kind ts 0 then clause_of rules.KeyEnd (1 + conflict_length text (drop 1 ts)) else None
clause_at text places.Closed ts = first_of (comma_at ts) (option_at text ts)
clause_at text places.NextOption ts = option_at text ts
clause_at text places.InOptions ts = comma_at ts

-- After a comma a column or a constraint of the table is due; after such a constraint another one; after `)` an option.
abbrev pub after_comma : Place → Place
after_comma places.InColumn = places.Next
after_comma places.InReference = places.Next
after_comma places.InConstraints = places.NextConstraint
after_comma places.InForeignKey = places.NextConstraint
after_comma _ = places.NextOption

-- a key is of a PRIMARY KEY; in how many parentheses a term is
abbrev pub is_in_primary : Place → Bool
is_in_primary (places.TermDue primary depth) = primary
is_in_primary (places.InTerm primary depth) = primary
is_in_primary (places.AfterTerm primary) = primary
is_in_primary _ = false

abbrev pub depth_of : Place → ℕ
depth_of (places.TermDue primary depth) = depth
depth_of (places.InTerm primary depth) = depth
depth_of _ = 0

-- where the statement is after a clause of this rule
abbrev pub after_rule : Place → Rule → Place
after_rule place rules.Comma = after_comma place
after_rule place rules.Close = places.Closed
after_rule place rules.References = places.InReference
after_rule place rules.Action = place
after_rule place rules.TableNamed = places.InConstraints
after_rule place rules.TablePrimaryKey = places.TermDue true 0
after_rule place rules.TableUnique = places.TermDue false 0
after_rule place rules.TermOpen = places.TermDue (is_in_primary place) (depth_of place + 1)
after_rule place rules.Term = places.InTerm (is_in_primary place) (depth_of place)
after_rule place rules.TermClose = places.InTerm (is_in_primary place) (depth_of place - 1)
after_rule place rules.TermCollate = place
after_rule place rules.TermAscends = places.AfterTerm (is_in_primary place)
after_rule place rules.TermDescends = places.AfterTerm (is_in_primary place)
after_rule place rules.TermComma = places.TermDue (is_in_primary place) 0
after_rule place rules.Autoincrement = places.KeyDone
after_rule place rules.KeyEnd = places.InConstraints
after_rule place rules.TableCheck = places.InConstraints
after_rule place rules.TableDeferrable = places.InConstraints
after_rule place rules.ForeignKey = places.InForeignKey
after_rule place rules.WithoutRowid = places.InOptions
after_rule place rules.Strict = places.InOptions
after_rule place _ = places.InColumn

-- the statement may end here
abbrev pub may_end : Place → Bool
may_end places.Closed = true
may_end places.InOptions = true
may_end _ = false

-- c begins with the token at this place, is of the rule that fits there, and has as many tokens
pub record IsClauseAt (text : List ℕ) (ts : List Piece) (place : Place) (at : ℕ) (c : Clause) : Type 0 where
  pub begins : c.from ≡ at
  pub length : ℕ
  pub ends : c.to ≡ at + length
  pub is_found : clause_at text place (drop at ts) ≡ Some (record { rule = c.rule; length = length })

-- from one token up to another, each clause begins at the end of the one before
abbrev pub AreClauses : (text : List ℕ) (ts : List Piece) (place : Place) (from : ℕ) → List Clause → (to : ℕ) (last : Place) → Type 0
AreClauses text ts place from [] to last = (from ≡ to) × (place ≡ last)
AreClauses text ts place from (c ∷ cs) to last =
    (from < c.to) × IsClauseAt text ts place from c × AreClauses text ts (after_rule place c.rule) c.to cs to last

abbrev pub makes_table : Object → Bool
makes_table objects.Table = true
makes_table _ = false

-- the tokens of a text's first statement: those before its first `;`
unfoldable pub first_statement : List Piece → List Piece
first_statement ts = take_while (λ p. not (is_semicolon_kind p.kind)) ts

-- CREATE TABLE, a name, `(`, and clauses up to the statement's end
pub record IsTable (text : List ℕ) (ts : List Piece) (head : Head) (cs : List Clause) : Type 0 where
  pub begins : head_of text ts ≡ Some head
  pub is_table : makes_table head.object ≡ true
  pub opens : is_open ts (head.name + 1) ≡ true
  pub last : Place
  pub clauses : AreClauses text ts places.First (head.name + 2) cs (length ts) last
  pub ended : may_end last ≡ true

-- an answer is this statement
abbrev pub IsTableHeld : Head → List Clause → Option Table → Type 0
IsTableHeld head cs None = ⊥
IsTableHeld head cs (Some t) = (t.head ≡ head) × (t.clauses.items ≡ cs)
