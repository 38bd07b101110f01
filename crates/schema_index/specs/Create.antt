-- CREATE INDEX (parse.y; lang_createindex). `ts` are the tokens of a statement.
use Rattle.std.specs.Prelude.{ℕ, ◌+◌, ◌==◌, ◌||◌, ◌&&◌, Bool, true, false, not, if◌then◌else◌, nat_lt, List, length, drop, codes, Option, Some, None}
use Rattle.std.specs.Option.{option_and_then}
use Rattle.schema_tokens.specs.declared.kinds.Piece.{Piece}
use Rattle.schema_print.specs.Statements.{is_word, is_name, head_of}
use Rattle.schema_print.specs.declared.heads.Object.{Object}
use Rattle.schema_print.specs.declared.heads.Object.TheVariants as objects
use Rattle.schema_print.specs.declared.heads.Head.{Head}
use Rattle.schema_text.specs.Rules.{group_length}
use Rattle.schema_index.specs.declared.create.Index.{Index}

abbrev pub makes_index : Object → Bool
makes_index objects.Index = true
makes_index _ = false

-- nothing, or WHERE and an expression up to the end (`where_opt`)
unfoldable pub is_condition : (text : List ℕ) → List Piece → Bool
is_condition text ts = length ts == 0 || (is_word text ts 0 (codes "WHERE") && nat_lt 1 (length ts))

-- after CREATE INDEX and a name: ON, a table's name, terms in parentheses, and WHERE or nothing
unfoldable pub index_from : (text : List ℕ) → List Piece → Head → Option Index
index_from text ts h =
    let n = group_length (drop (h.name + 3) ts) in
    let rest = drop (h.name + 3 + n) ts in
    if makes_index h.object && is_word text ts (h.name + 1) (codes "ON") && is_name ts (h.name + 2) && not (n == 0)
    && is_condition text rest
    then Some (record {
      head = h;
      unique = is_word text ts 1 (codes "UNIQUE");
      table = h.name + 2;
      first = h.name + 4;
      close = h.name + 2 + n;
      condition = if length rest == 0 then None else Some (h.name + 4 + n);
    })
    else None

unfoldable pub index_of : (text : List ℕ) → List Piece → Option Index
index_of text ts = option_and_then (index_from text ts) (head_of text ts)
