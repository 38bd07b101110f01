-- What stands before and behind the changes of a script (own).
use Rattle.std.specs.Prelude.{◌≡◌, ◌⊎◌, ℕ, Bool, true, false, if◌then◌else◌, MatchBool, All, List, [], ◌∷◌, ◌++◌, codes, nat_eq, Option}
use Rattle.std.specs.Cmp.Lexicographic.{pointwise}
use Rattle.std.specs.List.{Contains}
use Rattle.std.specs.Str.{str_eq_ignore_ascii_case}
use Rattle.sqdeep.specs.declared.text.Encoding.{Encoding}
use Rattle.sqtables.specs.declared.list.Object.{Object}
use Rattle.schema_print.specs.declared.refusals.Printed.{Printed}
use Rattle.cli_row_text.specs.Lines.{between_marks}
use Rattle.cli_schema_text.specs.Comments.{hex_line, left_text, unnamed_text}
use Rattle.cli_schema_text.specs.Names.{can_be_named}
use Rattle.cli_schema_text.specs.Texts.{IsJudged, is_left_out}
use Rattle.cli_show_rows.specs.Dumps.{IsStatementText, IsVirtual, start_text}
use Rattle.cli_show_rows.specs.Stops.{IsFailingWritten}
use Rattle.cli_show_diff.specs.declared.form.ChangeForm.{ChangeForm}
use Rattle.cli_show_diff.specs.declared.form.ChangeForm.TheVariants.{Lines, Json, Sql}

abbrev pub is_trigger : Object → Bool
is_trigger o = pointwise nat_eq o.kind.items (codes "trigger")

-- An object is a trigger of this name, as SQLite compares names.
abbrev pub IsTriggerNamed : (name : List ℕ) → Object → Type 0
IsTriggerNamed name o = (is_trigger o ≡ true) × (str_eq_ignore_ascii_case o.name.items name ≡ true)

-- A comment stands for the text of an object, or none does.
abbrev pub IsTextLeft : Object → Bool → Type 0
IsTextLeft o left = (p : Printed) × IsJudged o.kind.items o.name.items o.sql.items p × (left ≡ is_left_out p)

-- Whether a script can't make the trigger of this name that the new database has: of one of that name the text isn't printed.
abbrev pub IsStaying : (name : List ℕ) → (objects : List Object) → Bool → Type 0
IsStaying name objects stays =
    MatchBool stays ((o : Object) × Contains objects o × IsTriggerNamed name o × IsTextLeft o true)
    (All (λ o. (¬ IsTriggerNamed name o) ⊎ IsTextLeft o false) objects)

-- what drops a trigger, or says that it stays
abbrev pub drop_trigger : (stays : Bool) → (name : List ℕ) → List ℕ
drop_trigger stays name =
    if stays then codes "-- not dropped, its new text isn't printed" ++ hex_line name else codes "DROP TRIGGER " ++ (between_marks 34 name ++ codes ";\n")

-- Both are virtual tables of one name and one text.
pub record IsSameVirtual (o p : Object) : Type 0 where
  pub first : IsVirtual o
  pub second : IsVirtual p
  pub name : p.name.items ≡ o.name.items
  pub sql : p.sql.items ≡ o.sql.items

-- An object is a virtual table that the other database lacks, or has with another text.
abbrev pub IsVirtualChanged : (others : List Object) → Object → Type 0
IsVirtualChanged others o = IsVirtual o × All (λ p. ¬ IsSameVirtual o p) others

-- Whether it is one.
abbrev pub IsVirtualLeft : (others : List Object) → Object → Bool → Type 0
IsVirtualLeft others o left = MatchBool left (IsVirtualChanged others o) (¬ IsVirtualChanged others o)

-- a comment that says so of an object of the old database, and of one of the new one; nothing of any other
abbrev pub undropped_text : (left : Bool) → Object → List ℕ
undropped_text left o = if left then codes "-- not dropped, a virtual table" ++ hex_line o.name.items else []

abbrev pub unmade_text : (left : Bool) → Object → List ℕ
unmade_text left o = if left then codes "-- not made, a virtual table" ++ hex_line o.sql.items else []

-- What is written of an object of the old database: what drops a trigger, unless it stays or no statement can name it, and a
-- comment for a virtual table that the new one lacks.
abbrev pub IsDropText : (news : List Object) → Object → List ℕ → Type 0
IsDropText news o t =
    MatchBool (is_trigger o)
    (MatchBool (can_be_named o.name.items) ((stays : Bool) × IsStaying o.name.items news stays × (t ≡ drop_trigger stays o.name.items)) (t ≡ unnamed_text o.name.items))
    ((left : Bool) × IsVirtualLeft news o left × (t ≡ undropped_text left o))

-- What is written of one of the new database: the text of a trigger, and a comment for a virtual table that the old one lacks.
abbrev pub IsMakeText : (olds : List Object) → Object → List ℕ → Type 0
IsMakeText olds o t = MatchBool (is_trigger o) (IsStatementText o t) ((left : Bool) × IsVirtualLeft olds o left × (t ≡ unmade_text left o))

-- The texts of these objects, of which each is such a one.
abbrev pub AreTextsOf : (Object → List ℕ → Type 0) → List Object → List ℕ → Type 0
AreTextsOf is [] t = t ≡ []
AreTextsOf is (o ∷ objects) t = (own more : List ℕ) × is o own × AreTextsOf is objects more × (t ≡ own ++ more)

-- A script is one transaction, in the encoding of the databases, in which no trigger is there that its statements would run, but
-- those that stay.
abbrev pub IsOpeningText : ChangeForm → Encoding → (olds news : List Object) → List ℕ → Type 0
IsOpeningText Lines encoding olds news t = t ≡ []
IsOpeningText (Json commit) encoding olds news t = t ≡ []
IsOpeningText Sql encoding olds news t = (drops : List ℕ) × AreTextsOf (IsDropText news) olds drops × (t ≡ start_text encoding ++ drops)

abbrev pub IsClosingText : ChangeForm → (olds news : List Object) → List ℕ → Type 0
IsClosingText Lines olds news t = t ≡ []
IsClosingText (Json commit) olds news t = t ≡ []
IsClosingText Sql olds news t = (makes : List ℕ) × AreTextsOf (IsMakeText olds) news makes × (t ≡ codes "COMMIT;\n" ++ makes)

-- That it had to stop is told in a script alone.
abbrev pub IsStopToldIn : ChangeForm → (before after : Option (List ℕ)) → Type 0
IsStopToldIn Lines before after = before ≡ after
IsStopToldIn (Json commit) before after = before ≡ after
IsStopToldIn Sql before after = IsFailingWritten before after

-- of the rows of a schema that describe no object a script alone says something
abbrev pub strays_in : {A : Type 0} → ChangeForm → List A → List A
strays_in Lines strays = []
strays_in (Json commit) strays = []
strays_in Sql strays = strays

-- behind all else in a script: the rows of both schemas that describe no object, and how much is left out with them
abbrev pub left_text_of : ChangeForm → (strays : List (List ℕ)) → (count : ℕ) → List ℕ
left_text_of Lines strays count = []
left_text_of (Json commit) strays count = []
left_text_of Sql strays count = left_text strays count
