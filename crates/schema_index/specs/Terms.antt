-- The terms of CREATE INDEX: columns, or expressions by their extent (parse.y, `sortlist`; lang_createindex).
use Rattle.std.specs.Prelude.{ℕ, ◌+◌, ◌-◌, ◌==◌, ◌||◌, ◌&&◌, Bool, true, false, not, if◌then◌else◌, nat_lt, List, [], ◌∷◌, length, take, drop, reverse, map, codes, Option, Some, None}
use Rattle.std.specs.List.{prefix_len, list_any, fold}
use Rattle.std.specs.Option.{is_some, option_map}
use Rattle.schema_tokens.specs.Keywords.{is_same_word}
use Rattle.schema_tokens.specs.declared.kinds.Kind.{Kind}
use Rattle.schema_tokens.specs.declared.kinds.Kind.TheVariants.{Word, Fallback, Joining, Quoted, Text, Blob, Integer, Float, Variable, Open, Close, Comma, Dot, Operator}
use Rattle.schema_tokens.specs.declared.kinds.Piece.{Piece}
use Rattle.schema_print.specs.Statements.{bytes_of, is_word, is_name, is_open_kind}
use Rattle.schema_print.specs.Printable.{deeper}
use Rattle.schema_text.specs.Kinds.{is_type_kind, is_close_kind, is_comma_kind}
use Rattle.schema_text.specs.Rules.{is_operand}
use Rattle.schema_index.specs.declared.create.Index.{Index}
use Rattle.schema_index.specs.declared.terms.Extent.{Extent}
use Rattle.schema_index.specs.declared.terms.IndexTerm.{IndexTerm}
use Rattle.schema_index.specs.declared.walk.TheConstants.{ASKING}

-- The members of a list, cut at the commas outside of parentheses. The member that these tokens go on begins at `from`.
abbrev pub extents : (from at depth : ℕ) → List Piece → List Extent
extents from at depth [] = record { from = from; to = at } ∷ []
extents from at depth (p ∷ ps) =
    if is_comma_kind p.kind && depth == 0 then record { from = from; to = at } ∷ extents (at + 1) (at + 1) 0 ps
    else extents from (at + 1) (deeper p.kind depth) ps

-- what ends an operand: a literal, a name or `)`
abbrev pub is_operand_kind : Kind → Bool
is_operand_kind Word = true
is_operand_kind Fallback = true
is_operand_kind Joining = true
is_operand_kind Quoted = true
is_operand_kind Text = true
is_operand_kind Blob = true
is_operand_kind Integer = true
is_operand_kind Float = true
is_operand_kind Variable = true
is_operand_kind Close = true
is_operand_kind _ = false

-- what an operand follows
abbrev pub is_asking_kind : Kind → Bool
is_asking_kind Operator = true
is_asking_kind Dot = true
is_asking_kind Open = true
is_asking_kind Comma = true
is_asking_kind _ = false

unfoldable pub ends_operand : (text : List ℕ) → Piece → Bool
ends_operand text p =
    is_operand_kind p.kind || is_same_word (codes "*") (bytes_of text p) || is_same_word (codes "NULL") (bytes_of text p)

-- an operator, or a keyword that an operand follows
unfoldable pub asks_operand : (text : List ℕ) → Piece → Bool
asks_operand text p = is_asking_kind p.kind || list_any (λ k. is_same_word k.now (bytes_of text p)) ASKING

-- After a token: whether an operand is due, given whether one was due before it. Where one is due, a keyword that may be
-- a name is a name (`%fallback`).
unfoldable pub due_after : (text : List ℕ) → (due : Bool) → Piece → Bool
due_after text due p = if due then not (ends_operand text p) else asks_operand text p

-- an operand is due after these tokens of an expression
unfoldable pub is_due : (text : List ℕ) → List Piece → Bool
is_due text ps = fold (due_after text) true ps

-- the tokens of a member
abbrev pub tokens_in : List Piece → (from to : ℕ) → List Piece
tokens_in ts from to = take (to - from) (drop from ts)

-- it ends with ASC or DESC after an operand
unfoldable pub is_ordered : (text : List ℕ) → List Piece → Extent → Bool
is_ordered text ts e =
    nat_lt 1 (e.to - e.from) && (is_word text ts (e.to - 1) (codes "ASC") || is_word text ts (e.to - 1) (codes "DESC"))
    && not (is_due text (tokens_in ts e.from (e.to - 1)))

-- after a name in so many parentheses: these, and COLLATE with names; `due` says that such a name is next
abbrev pub is_wrapped : (text : List ℕ) → (depth : ℕ) → (due : Bool) → List Piece → Bool
is_wrapped text depth due [] = depth == 0 && not due
is_wrapped text depth due (p ∷ ps) =
    if due then is_type_kind p.kind && is_wrapped text depth false ps
    else (if is_close_kind p.kind then nat_lt 0 depth && is_wrapped text (depth - 1) false ps
    else is_same_word (codes "COLLATE") (bytes_of text p) && is_wrapped text depth true ps)

-- Which of these tokens is the name of a column: they are one, also in parentheses and with COLLATE.
unfoldable pub name_in : (text : List ℕ) → List Piece → Option ℕ
name_in text ps =
    let n = prefix_len (λ p. is_open_kind p.kind) ps in
    if is_name ps n && not (is_operand text (drop n ps)) && is_wrapped text n false (drop (n + 1) ps) then Some n
    else None

-- which of these tokens follows the last COLLATE
unfoldable pub collation_in : (text : List ℕ) → List Piece → Option ℕ
collation_in text ps =
    let n = length ps - prefix_len (λ p. not (is_same_word (codes "COLLATE") (bytes_of text p))) (reverse ps) in
    if n == 0 then None else Some n

-- the same in all tokens, of a member of a list
unfoldable pub own_name : (text : List ℕ) → List Piece → (from to : ℕ) → Option ℕ
own_name text ts from to = option_map (λ n. from + n) (name_in text (tokens_in ts from to))

unfoldable pub own_collation : (text : List ℕ) → List Piece → (from to : ℕ) → Option ℕ
own_collation text ts from to = option_map (λ n. from + n) (collation_in text (tokens_in ts from to))

-- a term: its expression without ASC or DESC; its name and collation, if it is a column
unfoldable pub index_term : (text : List ℕ) → List Piece → Extent → IndexTerm
index_term text ts e =
    let ordered = is_ordered text ts e in
    let to = (if ordered then e.to - 1 else e.to) in
    let name = own_name text ts e.from to in
    record {
      from = e.from;
      to = to;
      name = name;
      collation = if is_some name then own_collation text ts e.from to else None;
      descends = ordered && is_word text ts (e.to - 1) (codes "DESC");
    }

-- all terms of an index, in order
unfoldable pub index_terms : (text : List ℕ) → List Piece → Index → List IndexTerm
index_terms text ts i = map (index_term text ts) (extents i.first i.first 0 (tokens_in ts i.first i.close))
