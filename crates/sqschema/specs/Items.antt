-- What the rows of the schema say (fileformat2, 2.6).
use Rattle.std.specs.Prelude.{ℕ, Bool, true, false, ◌&&◌, nat_eq, List, [], map, length, slice_get, Option, Some, None, option_map, ℤ, pos}
use Rattle.sqval.specs.Database.{Database}
use Rattle.sqval.specs.Datum.{Datum, null, integer, text}
use Rattle.sqrows.specs.Rows.{Row}
use Rattle.sqdeep.specs.declared.text.Encoding.{Encoding}
use Rattle.sqschema.specs.Texts.{utf8_of}
use Rattle.sqdeep.specs.Records.{encoding_of}
use Rattle.sqschema.specs.declared.item.Item.{Item as OwnItem}

-- What a row says of an object: its type, its name, that of its table, the root of its tree, 0 for none, and the text that
-- made it, where there is one; the texts in UTF-8. A row that is formed has just these five columns.
pub record Item : Type 0 where
  pub formed : Bool
  pub kind : List ℕ
  pub name : List ℕ
  pub table : List ℕ
  pub root : ℤ
  pub sql : Option (List ℕ)

-- a column holds a text, an integer or NULL, or a text or NULL
abbrev pub is_text : Option Datum → Bool
is_text (Some (text bytes)) = true
is_text _ = false

abbrev pub is_number : Option Datum → Bool
is_number (Some null) = true
is_number (Some (integer n)) = true
is_number _ = false

abbrev pub is_text_or_null : Option Datum → Bool
is_text_or_null (Some null) = true
is_text_or_null (Some (text bytes)) = true
is_text_or_null _ = false

abbrev pub is_formed : List Datum → Bool
is_formed values = nat_eq (length values) 5 && is_text (slice_get values 0) && is_text (slice_get values 1) && is_text (slice_get values 2)
    && is_number (slice_get values 3) && is_text_or_null (slice_get values 4)

-- what a column says: a text that may be missing, one that isn't, and a number
abbrev pub sql_in : Encoding → Option Datum → Option (List ℕ)
sql_in encoding (Some (text bytes)) = Some (utf8_of encoding bytes)
sql_in encoding _ = None

abbrev pub text_in : Encoding → Option Datum → List ℕ
text_in encoding (Some (text bytes)) = utf8_of encoding bytes
text_in encoding _ = []

abbrev pub number_in : Option Datum → ℤ
number_in (Some (integer n)) = n
number_in _ = pos 0

abbrev pub item_of : Encoding → List Datum → Item
item_of encoding values = record {
  formed = is_formed values;
  kind = text_in encoding (slice_get values 0);
  name = text_in encoding (slice_get values 1);
  table = text_in encoding (slice_get values 2);
  root = number_in (slice_get values 3);
  sql = sql_in encoding (slice_get values 4);
}

-- what each row of the schema of a database says
abbrev pub items_of : Database → List Row → List Item
items_of d rows = map (λ row. item_of (encoding_of d) row.values) rows

-- an item as the call hands it out
abbrev pub seen : OwnItem → Item
seen x = record { formed = x.formed; kind = x.kind.items; name = x.name.items; table = x.table.items; root = x.root; sql = option_map (λ sql. sql.items) x.sql }
