-- One column of a row that changed (own).
use Rattle.std.specs.Prelude.{◌≡◌, ◌≢◌, ◌⊎◌, ℕ, Bool, true, false, List, [], ◌++◌, codes}
use Rattle.sqval.specs.Datum.{Datum}
use Rattle.sqrows.specs.Rows.{Row}
use Rattle.sqdeep.specs.declared.text.Encoding.{Encoding}
use Rattle.sqtables.specs.declared.columns.Columns.{Columns}
use Rattle.sqtables.specs.Columns.{shown_at}
use Rattle.cli_change_text.specs.declared.style.Style.{Style}
use Rattle.cli_change_text.specs.declared.style.Naming.TheVariants.{InObject}
use Rattle.cli_change_text.specs.Names.{IsRowName, names_of}
use Rattle.cli_change_text.specs.Changes.{IsChangedText, IsDifference, IsMember, IsOneText, member_of, object_start}

-- Nothing was written of a column that shows the same value, or its change was.
abbrev pub TakesColumn : Encoding → Columns → (old new : Row) → (j : ℕ) → (begun written : Bool) → List ℕ → Type 0
TakesColumn encoding columns old new j begun written t =
    ((shown_at columns old j ≡ shown_at columns new j) × (written ≡ begun) × (t ≡ []))
    ⊎ ((shown_at columns old j ≢ shown_at columns new j) × (written ≡ true) × IsDifference encoding columns begun j (shown_at columns old j) (shown_at columns new j) t)

-- Behind what stands before it the text of a row that came or went was written.
abbrev pub IsBegunOne : Style → (comes : Bool) → (row : Row) → List Datum → List ℕ → Type 0
IsBegunOne style comes row values t =
    (own : List ℕ) × IsOneText style.encoding style.writing style.head.now style.columns.now style.leads style.key comes row values own
    × (t ≡ style.before.now ++ own)

-- The same of one that changed.
abbrev pub IsBegunChanged : Style → (old new : Row) → List ℕ → Type 0
IsBegunChanged style old new t =
    (own : List ℕ) × IsChangedText style.encoding style.writing style.head.now style.columns.now style.leads style.key old new own × (t ≡ style.before.now ++ own)

-- The object of a row whose columns showed these values and show those.
abbrev pub IsChangedObject : Style → Row → (was is : List Datum) → List ℕ → Type 0
IsChangedObject style row was is t =
    (name old new : List ℕ) × IsRowName style.encoding InObject style.columns.now style.key row name
    × IsMember style.encoding (member_of false) (names_of style.columns.now) was old
    × IsMember style.encoding (member_of true) (names_of style.columns.now) is new
    × (t ≡ object_start style.head.now (codes "update") name ++ (old ++ (new ++ codes "}\n")))
