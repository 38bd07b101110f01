use Rattle.std.proofs.Common.{◌≡◌, ◌∙◌, ◌+◌, ◌<◌, ◌≤◌, ℕ, Bool, true, false, List, Option, length, ⊎_elim, ap, refl, subst, sym, inr, arith}
use Rattle.sqpage.specs.declared.kind.Kind.{Kind}
use Rattle.sqpage.specs.Freelist.{IsPage}
use Rattle.sqpage.specs.Page.{cell_count, has_payload}
use Rattle.sqsalvage.specs.TreePages.{page_of}
use Rattle.sqsalvage.specs.declared.page.TreePage.{TreePage}
use Rattle.sqsalvage.specs.Reached.{interior_kind, IsInterior}
use Rattle.sqsalvage.specs.internal.Taking.{Follows, IsRead}
use Rattle.sqsalvage.proofs.NamedPieces.{follows_outside}
use Rattle.sqsalvage.proofs.PagesOfTrees.{none_of_tree, same_kind, cell_in, no_cell_in, read_follows, past_follows}
use Rattle.sqsalvage.proofs.cursor.Salvage.take_cell.Goals as goal

no_payload : (table : Bool) → table ≡ true → has_payload (interior_kind table) ≡ true → ⊥
no_payload true e h = cc
no_payload false e h = cc

index_payload : (table : Bool) → table ≡ false → has_payload (interior_kind table) ≡ true
index_payload false e = refl
index_payload true e = cc

pub returns-then-p-eq0-clause-ok : goal.returns-then-p-eq0-clause-ok
returns-then-p-eq0-clause-ok g c = λ right u size.
    let d = g.S.PageSource.pages c.args.source.now in
    let p : ℕ = c.args.p in
    let none = λ (h : IsInterior d c.args.self.now.table p).
    (let low : 0 < p = h.0.0 in let high : p ≤ length d = h.0.1 in let count = c.count-count.ensures in
    ⊎_elim (λ zero. absurd (omega (arith, zero, low))) (λ above. absurd (let more = above.1 in omega (arith, more, high, count))) c.then-p-eq0.either) in
    (λ h. none h.0, refl, follows_outside d c.args.self.now.table p (c.args.i + 1) c.args.self.now.marks.items c.args.self.now.pending.items none)

pub returns-in-Ok-None-clause-ok : goal.returns-in-Ok-None-clause-ok
returns-in-Ok-None-clause-ok g c = λ right u size.
    let d = g.S.PageSource.pages c.args.source.now in
    let p : ℕ = c.args.p in
    let is = subst (λ (o : Option TreePage). IsRead d p o) c.in-Ok-None.field-0-is (c.in-Ok-None.ensures.ok right u) in
    let none = λ (h : IsInterior d c.args.self.now.table p). none_of_tree d c.args.self.now.table p is (inr h) in
    (λ h. none h.0, refl, follows_outside d c.args.self.now.table p (c.args.i + 1) c.args.self.now.marks.items c.args.self.now.pending.items none)

pub returns-then-not-is_interior_of-clause-ok : goal.returns-then-not-is_interior_of-clause-ok
returns-then-not-is_interior_of-clause-ok g c = λ right u size.
    let d = g.S.PageSource.pages c.args.source.now in
    let p : ℕ = c.args.p in
    let t : TreePage = c.in-Ok-Some.page in
    let table = c.args.self.now.table in
    let read = subst (λ (o : Option TreePage). IsRead d p o) c.in-Ok-Some.field-0-is (c.in-Ok-Some.ensures.ok right u) in
    let none = λ (h : IsInterior d table p). c.is_interior_of.ensures.not c.if-not-is_interior_of.true (c.kind.ensures ∙ same_kind d p t (interior_kind table) read h.1) in
    (λ h. none h.0, refl, follows_outside d table p (c.args.i + 1) c.args.self.now.marks.items c.args.self.now.pending.items none)

pub returns-then-i-cells-clause-ok : goal.returns-then-i-cells-clause-ok
returns-then-i-cells-clause-ok g c = λ right u size.
    let d = g.S.PageSource.pages c.args.source.now in
    let p : ℕ = c.args.p in
    let i : ℕ = c.args.i in
    let t : TreePage = c.in-Ok-Some.page in
    let table = c.args.self.now.table in
    let read = subst (λ (o : Option TreePage). IsRead d p o) c.in-Ok-Some.field-0-is (c.in-Ok-Some.ensures.ok right u) in
    let kind = sym c.kind.ensures ∙ c.is_interior_of.ensures.yes c.if-not-is_interior_of.false in
    let n = c.cells.ensures.value in
    let no = c.if-i-cells.true in
    let past : cell_count (page_of t) < i + 1 = omega (arith, n, no) in
    (no_cell_in d table p i t read (λ _ _ lt. omega (arith, lt, past)), refl, past_follows d table p (i + 1) t c.args.self.now.marks.items c.args.self.now.pending.items read kind past)

pub returns-then-self-clause-ok : goal.returns-then-self-clause-ok
returns-then-self-clause-ok g c = λ right u size.
    let d = g.S.PageSource.pages c.args.source.now in
    let p : ℕ = c.args.p in
    let i : ℕ = c.args.i in
    let t : TreePage = c.in-Ok-Some.page in
    let old = c.args.self.now in
    let new = c.name_from.new.self in
    let e = c.in-Ok.ensures in
    let read = subst (λ (o : Option TreePage). IsRead d p o) c.in-Ok-Some.field-0-is (c.in-Ok-Some.ensures.ok right u) in
    let kind = sym c.kind.ensures ∙ c.is_interior_of.ensures.yes c.if-not-is_interior_of.false in
    let page : IsPage d p = (omega (arith, c.if-p-eq0.false), omega (arith, c.count-count.ensures, c.if-p-eq0.false, c.if-p-count.false)) in
    let marks : old.marks.items ≡ new.marks.items = sym (ap (λ v. v.items) e.same.4) in
    let is_table : old.table ≡ true = sym e.same.3 ∙ c.if-self.true in (
      λ h. no_payload old.table is_table h.1,
      marks,
      subst (λ (m : List Bool). Follows d old.table p (i + 1) m old.pending.items new.pending.items) marks (read_follows d old.table p (i + 1) t old.marks.items old.pending.items new.pending.items page read kind size e.ok),
    )

pub returns-clause-ok : goal.returns-clause-ok
returns-clause-ok g c = λ right u size.
    let d = g.S.PageSource.pages c.args.source.now in
    let p : ℕ = c.args.p in
    let i : ℕ = c.args.i in
    let t : TreePage = c.in-Ok-Some.page in
    let old = c.args.self.now in
    let new = c.name_from.new.self in
    let e = c.in-Ok.ensures in
    let read = subst (λ (o : Option TreePage). IsRead d p o) c.in-Ok-Some.field-0-is (c.in-Ok-Some.ensures.ok right u) in
    let kind = sym c.kind.ensures ∙ c.is_interior_of.ensures.yes c.if-not-is_interior_of.false in
    let page : IsPage d p = (omega (arith, c.if-p-eq0.false), omega (arith, c.count-count.ensures, c.if-p-eq0.false, c.if-p-count.false)) in
    let marks : old.marks.items ≡ new.marks.items = sym (ap (λ v. v.items) e.same.4) in
    let index : old.table ≡ false = sym e.same.3 ∙ c.if-self.false in
    let payload : has_payload t.kind ≡ true = ap (λ (k : Kind). has_payload k) kind ∙ index_payload old.table index in
    let lt : i < cell_count (page_of t) = let n = c.cells.ensures.value in let no = c.if-i-cells.false in omega (arith, n, no) in (
      (cell_in d old.table p i t page read kind payload lt, (page, read, kind)),
      marks,
      subst (λ (m : List Bool). Follows d old.table p (i + 1) m old.pending.items new.pending.items) marks (read_follows d old.table p (i + 1) t old.marks.items old.pending.items new.pending.items page read kind size e.ok),
    )

pub returns-clause-cell : goal.returns-clause-cell
returns-clause-cell g c =
    let kind = sym c.kind.ensures ∙ c.is_interior_of.ensures.yes c.if-not-is_interior_of.false in
    let index : c.args.self.now.table ≡ false = sym c.in-Ok.ensures.same.3 ∙ c.if-self.false in (
      ap (λ (k : Kind). has_payload k) kind ∙ index_payload c.args.self.now.table index,
      rw c.in-Ok-Some.field-0-is at c.in-Ok-Some.ensures.usable,
    )
