-- The changes of tables as they are printed (own).
use Rattle.std.specs.Prelude.{◌≡◌, ℕ, Bool, List, [], ◌∷◌, ◌++◌, map}
use Rattle.sqval.specs.Database.{Database}
use Rattle.sqrows.specs.Rows.{Row, HasRows}
use Rattle.sqdiff.specs.Changes.{Change}
use Rattle.cli_change_text.specs.declared.style.Style.{Style}
use Rattle.cli_change_text.specs.Changes.{IsChangeText}
use Rattle.cli_change_text.specs.Refusals.{side_of}
use Rattle.cli_show_diff.specs.Sorted.{HasChangesBy}

-- The texts of these changes, one after another.
abbrev pub AreChangeTexts : Style → List Change → List ℕ → Type 0
AreChangeTexts style [] t = t ≡ []
AreChangeTexts style (c ∷ cs) t =
    (own more : List ℕ) × IsChangeText style.encoding style.writing style.head.now style.columns.now style.leads style.key c own × AreChangeTexts style cs more × (t ≡ own ++ more)

-- what stands before them, where there is one
abbrev pub start_of : (before : List ℕ) → List Change → List ℕ
start_of before [] = []
start_of before (c ∷ cs) = before

-- The same behind that.
abbrev pub AreTold : Style → List Change → List ℕ → Type 0
AreTold style cs t = (texts : List ℕ) × AreChangeTexts style cs texts × (t ≡ start_of style.before.now cs ++ texts)

-- All rows of a table that came, or that went.
abbrev pub sides_of : (comes : Bool) → List Row → List Change
sides_of comes rows = map (side_of comes) rows

-- The text of the changes between two tables, and of all rows of one that the other database lacks.
abbrev pub AreBothTold : Database → (old_root : ℕ) → Database → (new_root : ℕ) → Style → List ℕ → Type 0
AreBothTold d old_root e new_root style t = (cs : List Change) × HasChangesBy style.key d old_root e new_root cs × AreTold style cs t

abbrev pub IsOneTold : Database → (root : ℕ) → (comes : Bool) → Style → List ℕ → Type 0
IsOneTold d root comes style t = (rows : List Row) × HasRows d root rows × AreTold style (sides_of comes rows) t
