-- One turn of the walk over a tree, and its end.
use Rattle.std.proofs.Common.{◌≡◌, ◌↔◌, ◌⊎◌, ℕ, ◌+◌, Bool, List, [], ◌∷◌, ◌++◌, Some, None, sym, subst, ◌∙◌, inl, inr}
use Rattle.sqval.specs.Database.{Database}
use Rattle.sqsalvage.specs.declared.cursor.Piece.{Piece}
use Rattle.sqsalvage.specs.declared.cursor.Piece.TheVariants.{Whole, Part}
use Rattle.sqsalvage.specs.declared.cursor.Salvage.{Salvage}
use Rattle.sqsalvage.specs.declared.piece.PieceRead.{PieceRead}
use Rattle.sqpage.specs.Freelist.{usable_size}
use Rattle.sqsalvage.specs.Reached.{IsLeaf}
use Rattle.sqsalvage.specs.SalvageCursor.{AreLeft, ArePending, IsMarked, IsOver, IsPassed, IsPieceRead, IsToCome, PiecesLeft, TreeMoves}
use Rattle.sqsalvage.specs.internal.Taking.{Follows, Goes, IsCellTaken, IsPieceTaken, IsSkipped, Opens}
use Rattle.sqsalvage.proofs.PagesOfTrees.{leaf_read}
use Rattle.sqsalvage.proofs.StepsOfWalk.{drop_last, skipped, skipped_same, followed_same, followed_pending, cell_skipped, cell_taken, opened, opened_pending, opened_same, leaf_taken, left_none}

pub starts : (d : Database) (start : Salvage) → IsOver d start → Goes d start start.usable start.marks.items start.pending.items
starts d start over = record { over = over.0; are = over.1; left = λ pieces l. l; passed = λ p. (λ h. h, λ h. h) }

-- a page that is opened
opens : (d : Database) (start : Salvage) (usable : ℕ) (marks new : List Bool) (rest more : List Piece) (p : ℕ) → Goes d start usable marks (rest ++ Whole p ∷ []) → Opens d start.table p marks new rest more
    → ¬ IsLeaf d start.table p → Goes d start usable new more
opens d start usable marks new rest more p h o none =
    let same = opened_same d start.table p marks new rest more o in
    record {
      over = h.over;
      are = opened_pending d start.table p marks new rest more h.are o;
      left = λ pieces l. h.left pieces (opened d start.table p marks new rest more o none pieces l);
      passed = λ q. (λ x. (same q).0 ((h.passed q).0 x), λ x. (h.passed q).1 ((same q).1 x));
    }

-- one that is passed over
skips : (d : Database) (start : Salvage) (usable : ℕ) (marks new : List Bool) (rest more : List Piece) (p : ℕ) → Goes d start usable marks (rest ++ Whole p ∷ []) → IsSkipped d start.table p marks new rest more
    → Goes d start usable new more
skips d start usable marks new rest more p h (none, m, r) =
    let same = skipped_same d start.table marks rest p none in
    subst (λ (l : List Piece). Goes d start usable new l) r (subst (λ (b : List Bool). Goes d start usable b rest) m (record {
      over = h.over;
      are = drop_last d marks rest (Whole p) h.are;
      left = λ pieces l. h.left pieces (skipped d start.table marks rest p none pieces l);
      passed = λ q. (λ x. (same q).0 ((h.passed q).0 x), λ x. (h.passed q).1 ((same q).1 x));
    }))

-- a cell that is none of the tree's pieces
follows : (d : Database) (start : Salvage) (usable : ℕ) (marks new : List Bool) (rest more : List Piece) (p i : ℕ) → Goes d start usable marks (rest ++ Part p i ∷ [])
    → IsCellTaken d start.table p i marks new rest more None → Goes d start usable new more
follows d start usable marks new rest more p i h (none, m, f) =
    let o = subst (λ (b : List Bool). Follows d start.table p (i + 1) b rest more) (sym m) f in
    let same = followed_same d start.table p i marks rest more o in
    subst (λ (b : List Bool). Goes d start usable b more) m (record {
      over = h.over;
      are = followed_pending d start.table p i marks rest more h.are o;
      left = λ pieces l. h.left pieces (cell_skipped d start.table p i marks rest more o none pieces l);
      passed = λ q. (λ x. (same q).0 ((h.passed q).0 x), λ x. (h.passed q).1 ((same q).1 x));
    })

-- nothing is read
pub goes_on : (d : Database) (start : Salvage) (usable : ℕ) (marks new : List Bool) (pending rest more : List Piece) (x : Piece) → Goes d start usable marks pending → pending ≡ rest ++ x ∷ []
    → IsPieceTaken d start.table x marks new rest more None → Goes d start usable new more
goes_on d start usable marks new pending rest more (Whole p) go e (inl s) = skips d start usable marks new rest more p (subst (λ (l : List Piece). Goes d start usable marks l) e go) s
goes_on d start usable marks new pending rest more (Whole p) go e (inr o) = opens d start usable marks new rest more p (subst (λ (l : List Piece). Goes d start usable marks l) e go) o.0 o.1
goes_on d start usable marks new pending rest more (Part p i) go e taken = follows d start usable marks new rest more p i (subst (λ (l : List Piece). Goes d start usable marks l) e go) taken

-- where the cursor is behind a piece
comes_behind : (d : Database) (start new : Salvage) (usable : ℕ) (x : Piece) (read : PieceRead) → new.usable ≡ usable → new.table ≡ start.table → usable ≡ usable_size d → ArePending d new.marks.items new.pending.items
    → IsPieceRead d start.table x read → ((pieces : List Piece) → AreLeft d start.table new.marks.items new.pending.items pieces → PiecesLeft d start (x ∷ pieces))
    → ((q : ℕ) → IsPassed d start q ↔ (IsMarked new.marks.items q ⊎ IsToCome d start.table new.marks.items new.pending.items q)) → TreeMoves d start new (Some read)
comes_behind d start new usable x read u t over are is left passed = record {
  over = (u ∙ over, are);
  moves = (x, is, λ pieces l. left pieces (subst (λ (b : Bool). AreLeft d b new.marks.items new.pending.items pieces) t l));
  passed = λ q. subst (λ (b : Bool). IsPassed d start q ↔ (IsMarked new.marks.items q ⊎ IsToCome d b new.marks.items new.pending.items q)) (sym t) (passed q);
  ended = λ no. cc;
}

-- a piece
pub comes_to : (d : Database) (start new : Salvage) (usable : ℕ) (marks : List Bool) (pending rest : List Piece) (x : Piece) (read : PieceRead) → Goes d start usable marks pending → pending ≡ rest ++ x ∷ []
    → new.usable ≡ usable → new.table ≡ start.table → IsPieceTaken d start.table x marks new.marks.items rest new.pending.items (Some read) → TreeMoves d start new (Some read)
comes_to d start new usable marks pending rest (Whole p) read go e u t ((o, is), cell) =
    let h = subst (λ (l : List Piece). Goes d start usable marks l) e go in
    let leaf = leaf_read d start.table p read.page is.0 is.1 is.2 in
    let same = opened_same d start.table p marks new.marks.items rest new.pending.items o in
    comes_behind d start new usable (Whole p) read u t h.over (opened_pending d start.table p marks new.marks.items rest new.pending.items h.are o) (is, cell)
    (λ pieces l. h.left (Whole p ∷ pieces) (leaf_taken d start.table p marks new.marks.items rest new.pending.items o leaf pieces l))
    (λ q. (λ x. (same q).0 ((h.passed q).0 x), λ x. (h.passed q).1 ((same q).1 x)))
comes_to d start new usable marks pending rest (Part p i) read go e u t (((piece, is), m, f), cell) =
    let h = subst (λ (b : List Bool). Goes d start usable b (rest ++ Part p i ∷ [])) m (subst (λ (l : List Piece). Goes d start usable marks l) e go) in
    let same = followed_same d start.table p i new.marks.items rest new.pending.items f in
    comes_behind d start new usable (Part p i) read u t h.over (followed_pending d start.table p i new.marks.items rest new.pending.items h.are f) (is, cell)
    (λ pieces l. h.left (Part p i ∷ pieces) (cell_taken d start.table p i new.marks.items rest new.pending.items h.are f piece pieces l))
    (λ q. (λ x. (same q).0 ((h.passed q).0 x), λ x. (h.passed q).1 ((same q).1 x)))

-- the end
pub comes_to_end : (d : Database) (start new : Salvage) (usable : ℕ) (pending : List Piece) → Goes d start usable new.marks.items pending → new.usable ≡ usable → new.table ≡ start.table → pending ≡ new.pending.items
    → new.pending.items ≡ [] → TreeMoves d start new None
comes_to_end d start new usable pending go u t e empty =
    let h = subst (λ (l : List Piece). Goes d start usable new.marks.items l) e go in
    record {
      over = (u ∙ h.over, h.are);
      moves = h.left [] (left_none d start.table new.marks.items new.pending.items empty);
      passed = λ q. subst (λ (b : Bool). IsPassed d start q ↔ (IsMarked new.marks.items q ⊎ IsToCome d b new.marks.items new.pending.items q)) (sym t) (h.passed q);
      ended = λ _. empty;
    }
