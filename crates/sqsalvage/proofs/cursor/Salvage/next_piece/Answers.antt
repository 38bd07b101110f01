use Rattle.std.proofs.Common.{◌≡◌, ◌∙◌, ◌++◌, [], Bool, Option, List, ℕ, length, refl, subst, sym, ap, append-nil, arith}
use Rattle.std.proofs.lemmas.List.{nil_from_length}
use Rattle.sqval.specs.Database.{Database}
use Rattle.sqpage.specs.Freelist.{usable_size}
use Rattle.sqsalvage.specs.declared.cursor.Piece.{Piece}
use Rattle.sqsalvage.specs.declared.piece.PieceRead.{PieceRead}
use Rattle.sqsalvage.specs.internal.Taking.{IsPieceTaken, Goes}
use Rattle.sqsalvage.proofs.TurnsOfWalk.{goes_on, comes_to, comes_to_end}
use Rattle.sqsalvage.proofs.cursor.Salvage.next_piece.Goals as goal

behind_none : (xs ys : List Piece) → xs ≡ ys ++ [] → xs ≡ ys
behind_none xs ys e = e ∙ append-nil ys

-- what was taken, of the database and the tree that the walk began with
taken_here : (d e : Database) (table other : Bool) (x : Piece) (marks new : List Bool) (rest more : List Piece) (found now : Option PieceRead) → e ≡ d → other ≡ table → found ≡ now
    → IsPieceTaken e other x marks new rest more found → IsPieceTaken d table x marks new rest more now
taken_here d e table other x marks new rest more found now same kind is h =
    subst (λ (y : Database). IsPieceTaken y table x marks new rest more now) same (subst (λ (b : Bool). IsPieceTaken e b x marks new rest more now) kind
    (subst (λ (o : Option PieceRead). IsPieceTaken e other x marks new rest more o) is h))

pub returns-in-Ok-Some-clause-ok : goal.returns-in-Ok-Some-clause-ok
returns-in-Ok-Some-clause-ok g c = λ right over.
    let i = c.pieces.invariant in
    let e = c.in-Ok-Some.ensures in
    let d = g.S.PageSource.pages c.args.source.now in
    let go = i.goes right over in
    let same = i.kept.same_pages in
    let x = c.in-Some.piece in
    let marks = c.pieces.self.marks.items in
    let rest = c.pop.new.self.items in
    let new = c.take_piece.new.self in
    let told = e.ok (i.kept.still_right right) (go.over ∙ sym (ap usable_size same)) (go.are.sized ∙ sym (ap length same)) in
    let here = taken_here d _ c.args.self.now.table c.pieces.self.table x marks new.marks.items rest new.pending.items _ _ same i.table c.in-Ok-Some.field-0-is told in
    comes_to d c.args.self.now new c.pieces.self.usable marks c.pieces.self.pending.items rest x c.in-Ok-Some.read go c.in-Some.ensures.items e.same.1 (e.same.3 ∙ i.table) here

pub returns-in-None-clause-ok : goal.returns-in-None-clause-ok
returns-in-None-clause-ok g c = λ right over.
    let d = g.S.PageSource.pages c.args.source.now in
    let i = c.pieces.invariant in
    let pending : List Piece = c.pieces.self.pending.items in
    let len : length pending ≡ 0 = omega (arith, c.in-None.ensures.cases, c.pieces.self.pending.ok) in
    let same : pending ≡ c.pop.new.self.items = behind_none pending c.pop.new.self.items c.in-None.ensures.items in
    comes_to_end d c.args.self.now _ c.pieces.self.usable pending (i.goes right over) refl i.table same (sym same ∙ nil_from_length pending len)

pub returns-in-None-clause-piece : goal.returns-in-None-clause-piece
returns-in-None-clause-piece g c =
    let pending : List Piece = c.pieces.self.pending.items in
    let len : length pending ≡ 0 = omega (arith, c.in-None.ensures.cases, c.pieces.self.pending.ok) in
    let same : pending ≡ c.pop.new.self.items = behind_none pending c.pop.new.self.items c.in-None.ensures.items in
    sym same ∙ nil_from_length pending len

pub pieces-preserved : goal.pieces-preserved
pieces-preserved g c =
    let i = c.pieces.invariant in
    let e = c.in-Ok-None.ensures in
    let d = g.S.PageSource.pages c.args.source.now in
    let x = c.in-Some.piece in
    let marks = c.pieces.self.marks.items in
    let rest = c.pop.new.self.items in
    let new = c.take_piece.new.self in
    record {
      kept = record {
        still_right = λ right. e.keeps.still_right (i.kept.still_right right);
        still_gives = λ gives. e.keeps.still_gives (i.kept.still_gives gives);
        same_pages = e.keeps.same_pages ∙ i.kept.same_pages;
        same_size = e.keeps.same_size ∙ i.kept.same_size;
      };
      size = e.same.0 ∙ i.size;
      usable = e.same.1 ∙ i.usable;
      at = e.same.2 ∙ i.at;
      table = e.same.3 ∙ i.table;
      goes = λ right over.
          let go = i.goes right over in
          let same = i.kept.same_pages in
          let told = e.ok (i.kept.still_right right) (go.over ∙ sym (ap usable_size same)) (go.are.sized ∙ sym (ap length same)) in
          let here = taken_here d _ c.args.self.now.table c.pieces.self.table x marks new.marks.items rest new.pending.items _ _ same i.table c.in-Ok-None.field-0-is told in
          subst (λ (u : ℕ). Goes d c.args.self.now u new.marks.items new.pending.items) (sym e.same.1)
          (goes_on d c.args.self.now c.pieces.self.usable marks new.marks.items c.pieces.self.pending.items rest new.pending.items x go c.in-Some.ensures.items here);
    }
