-- The rows of a table of a kind, read one after another.
use Rattle.std.proofs.Common.{◌≡◌, ℕ, Bool, List, [], ◌∷◌, ◌++◌, Some, None, is_none, sym, subst, arith, Contains}
use Rattle.std.proofs.lemmas.List.Elements.{All-push, All-contains}
use Rattle.sqval.specs.Database.{Database}
use Rattle.sqrows.specs.declared.cells.Cells.{Cells}
use Rattle.sqindex.specs.declared.walk.Found.{Found}
use Rattle.sqindex.specs.declared.walk.Walk.{Walk}
use Rattle.sqindex.specs.Stored.{Stored}
use Rattle.sqindex.specs.EntryIndexes.{HasRows, NoRowsOf}
use Rattle.sqindex.specs.internal.Marking.{AreOfKind}
use Rattle.sqindex.specs.internal.Reading.{stored_of, WalkMoves, AreTaken}
use Rattle.sqindex.proofs.CellsTaken.{one_taken, all_taken, taken_first}
use Rattle.sqindex.proofs.EntriesRead.{among}

module _ (d : Database) (table : ℕ) (kind : Bool) where
  pub none_of_kind : (cells : Cells) → AreTaken d table cells [] → AreOfKind d table kind cells []
  none_of_kind cells w = record { taken = w; kind = λ k d less. absurd (omega (arith, less)) }

  pub one_of_kind : (old : Cells) (walk : Walk) (found : Found) (rows : List Stored) → AreOfKind d table kind old rows → WalkMoves d old (Some found) walk → is_none found.rowid ≡ kind
      → AreOfKind d table kind walk.cells (rows ++ stored_of found walk.payload.items ∷ [])
  one_of_kind old walk found rows w m is = record {
    taken = one_taken d table old walk found rows w.taken m;
    kind = All-push (λ row. is_none row.rowid ≡ kind) rows (stored_of found walk.payload.items) w.kind is;
  }

  pub all_of_kind : (old : Cells) (walk : Walk) (rows : List Stored) → AreOfKind d table kind old rows → WalkMoves d old None walk → HasRows d table kind rows
  all_of_kind old walk rows w m = record { stored = (all_taken d table old walk rows w.taken m).has; kind = w.kind }

  -- a cell is of another kind
  pub other_kind_of : (cells : Cells) (taken : List Stored) (x : Stored) → AreTaken d table cells (taken ++ x ∷ []) → (is_none x.rowid ≡ kind → ⊥) → NoRowsOf d table kind
  other_kind_of cells taken x w other rows has =
      let f = taken_first d table cells (taken ++ x ∷ []) rows w has.stored in
      other (All-contains (λ x. is_none x.rowid ≡ kind) rows x has.kind (subst (λ z. Contains z x) (sym f.3) (among taken f.1 x)))
