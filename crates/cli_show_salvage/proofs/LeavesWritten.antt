-- Pieces of trees and leaves, one more at the end.
use Rattle.std.proofs.Common.{◌≡◌, ◌∙◌, ◌↔◌, ◌⊎◌, ℕ, ◌<◌, List, [], ◌∷◌, ◌++◌, Bool, true, Option, Some, None, refl, sym, ap, subst, inl, inr, append_assoc, append-nil, arith}
use Rattle.sqval.specs.Database.{Database}
use Rattle.sqpage.specs.declared.kind.Kind.{Kind}
use Rattle.sqpage.specs.Page.{Page, cell_count}
use Rattle.sqcheck.specs.Places.{page_as}
use Rattle.sqcheck.proofs.checks.ListsByRecursion.{map_append}
use Rattle.sqsalvage.specs.declared.page.TreePage.{TreePage}
use Rattle.sqsalvage.specs.declared.cursor.Piece.{Piece}
use Rattle.sqsalvage.specs.declared.cursor.Piece.TheVariants.{Whole, Part}
use Rattle.sqsalvage.specs.declared.cursor.Salvage.{Salvage}
use Rattle.sqsalvage.specs.declared.piece.PieceRead.{PieceRead}
use Rattle.sqsalvage.specs.TreePages.{page_of, IsPageRead}
use Rattle.sqsalvage.specs.Reached.{leaf_kind, interior_kind, page_in, IsPiece, IsReachedFrom}
use Rattle.sqsalvage.specs.SalvageCursor.{AreLeft, ArePending, IsAhead, IsLeft, IsMarked, IsOver, IsPassed, IsToCome, IsLeafRead, IsPieceRead, LeafMoves, PiecesLeft, LostLeft, TreeMoves}
use Rattle.sqsalvage.proofs.StepsOfWalk.{ahead_last, none_comes, none_left, left_none}
use Rattle.cli_show_salvage.specs.declared.book.Book.{Book}
use Rattle.cli_show_salvage.specs.declared.book.Target.{Target}
use Rattle.cli_show_salvage.specs.Cells.{IsCellTold}
use Rattle.cli_show_salvage.specs.Leaves.{AreCellsTold, ArePiecesTold, IsLeafTold, IsPieceTold, IsTreeTold, AreLostTold, nothing, next}
use Rattle.cli_show_salvage.specs.internal.Walks.{IsReadTold, Walked, LostWalked}

-- the page that was read
page_same : (d : Database) (p : ℕ) (k : Kind) (page : TreePage) → IsPageRead d p page → page.kind ≡ k → page_of page ≡ page_as d k p
page_same d p k page r is = r.is ∙ ap (λ (k : Kind). page_as d k p) is

leaf_told : (d : Database) (table : Bool) (target : Target) (p : ℕ) (page : TreePage) (old new : Book) (before after : Option (List ℕ)) → IsLeafRead d table p page
    → AreCellsTold d target (page_of page) old before (cell_count (page_of page)) new after → IsLeafTold d table target p old new before after
leaf_told d table target p page old new before after r cells =
    subst (λ (b : Page). AreCellsTold d target b old before (cell_count b) new after) (page_same d p (leaf_kind table) page r.1 r.2) cells

piece_told : (d : Database) (table : Bool) (target : Target) (x : Piece) (read : PieceRead) (old new : Book) (before after : Option (List ℕ)) → IsPieceRead d table x read
    → IsReadTold d target (page_of read.page) read.cell old new before after → IsPieceTold d table target x old new before after
piece_told d table target (Whole p) read old new before after r told =
    leaf_told d table target p read.page old new before after r.0 (subst (λ (o : Option ℕ). IsReadTold d target (page_of read.page) o old new before after) r.1 told)
piece_told d table target (Part p i) read old new before after r told =
    subst (λ (b : Page). IsCellTold d target b i old new before after) (page_same d p (interior_kind table) read.page r.0.1 r.0.2)
    (subst (λ (o : Option ℕ). IsReadTold d target (page_of read.page) o old new before after) r.1 told)

one_behind : {A : Type 0} (xs leaves : List A) (p : A) → xs ++ (p ∷ leaves) ≡ (xs ++ p ∷ []) ++ leaves
one_behind xs leaves p = sym (append_assoc xs (p ∷ []) leaves)

pub walk_begun : (d : Database) (target : Target) (s : Salvage) (book : Book) (before : Option (List ℕ)) → IsOver d s → Walked d target s s book book before before
walk_begun d target s book before over = record {
  done = [];
  over = over;
  kind = refl;
  left = λ pieces h. h;
  passed = λ p. (λ h. h, λ h. h);
  told = nothing;
}

pub walk_more : (d : Database) (target : Target) (start s moved : Salvage) (read : PieceRead) (old mid new : Book) (before at after : Option (List ℕ))
    → moved.table ≡ s.table → Walked d target start s old mid before at → TreeMoves d s moved (Some read)
    → IsReadTold d target (page_of read.page) read.cell mid new at after → Walked d target start moved old new before after
walk_more d target start s moved read old mid new before at after kind w t told =
    let m = t.moves in
    record {
      done = w.done ++ m.0 ∷ [];
      over = t.over;
      kind = kind ∙ w.kind;
      left = λ pieces h. subst (λ (xs : List Piece). PiecesLeft d start xs) (one_behind w.done pieces m.0) (w.left (m.0 ∷ pieces) (m.2 pieces h));
      passed = λ p. (λ h. (t.passed p).0 ((w.passed p).0 h), λ h. (w.passed p).1 ((t.passed p).1 h));
      told = next m.0 w.told (piece_told d start.table target m.0 read mid new at after (subst (λ (b : Bool). IsPieceRead d b m.0 read) w.kind m.1) told);
    }

-- where none is left the cursor is at the end
pub walk_ended : (d : Database) (target : Target) (start s moved : Salvage) (old new : Book) (before after : Option (List ℕ))
    → moved.table ≡ s.table → Walked d target start s old new before after → TreeMoves d s moved None → Walked d target start moved old new before after
walk_ended d target start s moved old new before after kind w t = record {
  done = w.done;
  over = t.over;
  kind = kind ∙ w.kind;
  left = λ pieces h. subst (λ (xs : List Piece). PiecesLeft d start (w.done ++ xs)) (sym (same pieces h)) (w.left [] t.moves);
  passed = λ p. (λ h. (t.passed p).0 ((w.passed p).0 h), λ h. (w.passed p).1 ((t.passed p).1 h));
  told = w.told;
}
  where
    same : (pieces : List Piece) → PiecesLeft d moved pieces → pieces ≡ []
    same [] h = refl
    same (x ∷ pieces) h = absurd (none_left d moved.table moved.marks.items moved.pending.items (t.ended refl) x ((h.1 x).0 (inl refl)))

-- no place stands for a cell where a tree begins
only_comes : (d : Database) (table : Bool) (marks : List Bool) (pending : List Piece) (root : ℕ) → pending ≡ Whole root ∷ [] → (x : Piece) → IsLeft d table marks pending x
    → IsPiece d table x × IsToCome d table marks pending (page_in x)
only_comes d table marks pending root only (Whole p) h = h
only_comes d table marks pending root only (Part p i) (is, inl a) =
    let e : Part p i ≡ Whole root = ahead_last d table (Whole root) (Part p i) (subst (λ (l : List Piece). IsAhead d table l (Part p i)) only a) in absurd cc
only_comes d table marks pending root only (Part p i) (is, inr c) = (is, c)

comes_left : (d : Database) (table : Bool) (marks : List Bool) (pending : List Piece) (x : Piece) → IsPiece d table x → IsToCome d table marks pending (page_in x) → IsLeft d table marks pending x
comes_left d table marks pending (Whole p) is c = (is, c)
comes_left d table marks pending (Part p i) is c = (is, inr c)

-- the pieces of a tree, where its walk is at the end
pub tree_told : (d : Database) (target : Target) (root : ℕ) (marks : List Bool) (s moved : Salvage) (old new : Book) (before after : Option (List ℕ))
    → s.table ≡ target.table → s.pending.items ≡ Whole root ∷ []
    → ((p : ℕ) → IsPassed d s p ↔ (IsMarked marks p ⊎ IsReachedFrom d target.table (IsMarked marks) root p))
    → ((p : ℕ) → IsToCome d target.table s.marks.items s.pending.items p ↔ IsReachedFrom d target.table (IsMarked marks) root p)
    → Walked d target s moved old new before after → moved.pending.items ≡ [] → IsTreeTold d target root marks moved.marks.items old new before after
tree_told d target root marks s moved old new before after kind only passed comes w ended =
    let left : PiecesLeft d s w.done = subst (λ (xs : List Piece). PiecesLeft d s xs) (append-nil w.done) (w.left [] (left_none d moved.table moved.marks.items moved.pending.items ended)) in
    let all = subst (λ (b : Bool). AreLeft d b s.marks.items s.pending.items w.done) kind left in
    record {
      pieces = w.done;
      once = all.0;
      all = λ x. (
        λ h. (let is = only_comes d target.table s.marks.items s.pending.items root only x ((all.1 x).0 h) in (is.0, (comes (page_in x)).0 is.1)),
        λ h. (all.1 x).1 (comes_left d target.table s.marks.items s.pending.items x h.0 ((comes (page_in x)).1 h.1)),
      );
      passes = λ p. (λ h. (passed p).0 ((w.passed p).1 (inl h)), λ h. marked p ((w.passed p).0 ((passed p).1 h)));
      told = subst (λ (b : Bool). ArePiecesTold d b target old before w.done new after) kind w.told;
    }
  where
    marked : (p : ℕ) → IsPassed d moved p → IsMarked moved.marks.items p
    marked p (inl h) = h
    marked p (inr h) = absurd (none_comes d moved.table moved.marks.items moved.pending.items ended h)

-- the same of leaves that no tree reaches
pub lost_begun : (d : Database) (target : Target) (s : Salvage) (book : Book) (before : Option (List ℕ)) → IsOver d s → LostWalked d target s s book book before before
lost_begun d target s book before over = record {
  done = [];
  over = over;
  left = λ leaves h. h;
  told = nothing;
}

still_over : (d : Database) (s moved : Salvage) → moved.usable ≡ s.usable → moved.marks ≡ s.marks → moved.pending ≡ s.pending → IsOver d s → IsOver d moved
still_over d s moved usable marks pending over = (
  usable ∙ over.0,
  subst (λ (bs : List Bool). ArePending d bs moved.pending.items) (sym (ap (λ v. v.items) marks)) (subst (λ (ps : List Piece). ArePending d s.marks.items ps) (sym (ap (λ v. v.items) pending)) over.1),
)

pub lost_more : (d : Database) (target : Target) (start s moved : Salvage) (page : TreePage) (old mid new : Book) (before at after : Option (List ℕ))
    → moved.usable ≡ s.usable → moved.marks ≡ s.marks → moved.pending ≡ s.pending
    → LostWalked d target start s old mid before at → LeafMoves (LostLeft d s) (LostLeft d moved) d (Some page)
    → AreCellsTold d target (page_of page) mid at (cell_count (page_of page)) new after → LostWalked d target start moved old new before after
lost_more d target start s moved page old mid new before at after usable marks pending w m cells = record {
  done = w.done ++ m.0 ∷ [];
  over = still_over d s moved usable marks pending w.over;
  left = λ leaves h. subst (λ (xs : List ℕ). LostLeft d start xs) (one_behind w.done leaves m.0) (w.left (m.0 ∷ leaves) (m.2 leaves h));
  told = subst (λ (xs : List Piece). ArePiecesTold d true target old before xs new after) (sym (map_append (λ (p : ℕ). Whole p) w.done (m.0 ∷ [])))
      (next (Whole m.0) w.told (leaf_told d true target m.0 page mid new at after m.1 cells));
}

pub lost_told : (d : Database) (target : Target) (start s : Salvage) (old new : Book) (before after : Option (List ℕ)) → start.at ≡ 0
    → LostWalked d target start s old new before after → LostLeft d s [] → AreLostTold d target start.marks.items old new before after
lost_told d target start s old new before after first w none =
    let all : LostLeft d start w.done = subst (λ (xs : List ℕ). LostLeft d start xs) (append-nil w.done) (w.left [] none) in
    record {
      leaves = w.done;
      once = all.0;
      all = λ p. (λ h. (((all.1 p).0 h).0, ((all.1 p).0 h).2), λ h. (all.1 p).1 (h.0, (let above : 0 < p = h.0.0.0 in omega (arith, above, first)), h.1));
      told = w.told;
    }
