use Rattle.std.proofs.Common.{◌≡◌, ◌≢◌, ◌∙◌, ◌<◌, ◌≤◌, ℕ, Bool, true, false, List, Option, length, refl, ⊎_elim, ap, subst, sym, inl, inr, arith}
use Rattle.sqpage.specs.declared.kind.Kind.{Kind}
use Rattle.sqpage.specs.Freelist.{IsPage}
use Rattle.sqpage.specs.Page.{is_interior, is_table}
use Rattle.sqsalvage.specs.declared.page.TreePage.{TreePage}
use Rattle.sqsalvage.specs.declared.cursor.Piece.{Piece}
use Rattle.sqsalvage.specs.TreePages.{page_of}
use Rattle.sqsalvage.specs.SalvageCursor.{IsMarked}
use Rattle.sqsalvage.specs.internal.Taking.{IsRead, NamesRest, Opens}
use Rattle.sqsalvage.proofs.PagesOfTrees.{outside_tree, none_of_tree, other_tree, kind_of_leaf, kind_of_interior, leaf_has_payload, leaf_read, interior_read, not_both, leaf_opens, interior_opens}
use Rattle.sqsalvage.proofs.cursor.Salvage.take.Goals as goal

pub returns-then-p-eq0-clause-ok : goal.returns-then-p-eq0-clause-ok
returns-then-p-eq0-clause-ok g c = λ right u size.
    let d = g.S.PageSource.pages c.args.source.now in
    let p : ℕ = c.args.p in
    let none = λ (page : IsPage d p).
    (let low : 0 < p = page.0 in let high : p ≤ length d = page.1 in let count = c.count-count.ensures in
    ⊎_elim (λ zero. absurd (omega (arith, zero, low))) (λ above. absurd (let more = above.1 in omega (arith, more, high, count))) c.then-p-eq0.either) in
    inl (λ h. outside_tree d c.args.self.now.table p none h.0, refl, refl)

pub returns-then-is_marked-clause-ok : goal.returns-then-is_marked-clause-ok
returns-then-is_marked-clause-ok g c = λ right u size.
    inl (λ h. h.1 (subst (λ (m : List Bool). IsMarked m c.args.p) c.deref.ensures.value (c.is_marked.ensures.yes c.if-is_marked.true)), refl, refl)

pub returns-in-Ok-None-clause-ok : goal.returns-in-Ok-None-clause-ok
returns-in-Ok-None-clause-ok g c = λ right u size.
    let d = g.S.PageSource.pages c.args.source.now in
    let p : ℕ = c.args.p in
    let none = subst (λ (o : Option TreePage). IsRead d p o) c.in-Ok-None.field-0-is (c.in-Ok-None.ensures.ok right u) in
    inl (λ h. none_of_tree d c.args.self.now.table p none h.0, refl, refl)

pub returns-then-not-is_of_tree-clause-ok : goal.returns-then-not-is_of_tree-clause-ok
returns-then-not-is_of_tree-clause-ok g c = λ right u size.
    let d = g.S.PageSource.pages c.args.source.now in
    let p : ℕ = c.args.p in
    let t : TreePage = c.in-Ok-Some.page in
    let read = subst (λ (o : Option TreePage). IsRead d p o) c.in-Ok-Some.field-0-is (c.in-Ok-Some.ensures.ok right u) in
    let same : c.kind-kind.result ≡ t.kind = c.kind-kind.ensures in
    let other = subst (λ (k : Kind). is_table k ≢ c.args.self.now.table) same (c.is_of_tree.ensures.not c.if-not-is_of_tree.true) in
    inl (λ h. other_tree d c.args.self.now.table p t read other h.0, refl, refl)

pub returns-then-not-is_interior-clause-ok : goal.returns-then-not-is_interior-clause-ok
returns-then-not-is_interior-clause-ok g c = λ right u size.
    let d = g.S.PageSource.pages c.args.source.now in
    let p : ℕ = c.args.p in
    let old = c.args.self.now in
    let new = c.leave_out.new.self in
    let t : TreePage = c.in-Ok-Some.page in
    let read = subst (λ (o : Option TreePage). IsRead d p o) c.in-Ok-Some.field-0-is (c.in-Ok-Some.ensures.ok right u) in
    let same : c.kind-kind.result ≡ t.kind = c.kind-kind.ensures in
    let of_tree = subst (λ (k : Kind). is_table k ≡ old.table) same (c.is_of_tree.ensures.yes c.if-not-is_of_tree.false) in
    let low = subst (λ (k : Kind). is_interior k ≡ false) same (sym c.is_interior.ensures ∙ c.if-not-is_interior.true) in
    let kind = kind_of_leaf t.kind old.table of_tree low in
    let page : IsPage d p = (omega (arith, c.if-p-eq0.false), omega (arith, c.count-count.ensures, c.if-p-eq0.false, c.if-p-count.false)) in
    let un = λ (m : IsMarked old.marks.items p). c.is_marked.ensures.not c.if-is_marked.false (subst (λ (m : List Bool). IsMarked m p) (sym c.deref.ensures.value) m) in (
      leaf_opens d old.table p old.marks.items new.marks.items old.pending.items new.pending.items (leaf_read d old.table p t page read kind) un c.leave_out.ensures.length (c.leave_out.ensures.marked d size) c.leave_out.ensures.same.2,
      (page, read, kind),
    )

pub returns-then-not-is_interior-clause-leaf : goal.returns-then-not-is_interior-clause-leaf
returns-then-not-is_interior-clause-leaf g c =
    let low = subst (λ (k : Kind). is_interior k ≡ false) c.kind-kind.ensures (sym c.is_interior.ensures ∙ c.if-not-is_interior.true) in (
      leaf_has_payload c.in-Ok-Some.page.kind low,
      rw c.in-Ok-Some.field-0-is at c.in-Ok-Some.ensures.usable,
    )

pub returns-in-Ok-clause-ok : goal.returns-in-Ok-clause-ok
returns-in-Ok-clause-ok g c = λ right u size.
    let d = g.S.PageSource.pages c.args.source.now in
    let p : ℕ = c.args.p in
    let old = c.args.self.now in
    let mid = c.leave_out.new.self in
    let new = c.name_from.new.self in
    let t : TreePage = c.in-Ok-Some.page in
    let read = subst (λ (o : Option TreePage). IsRead d p o) c.in-Ok-Some.field-0-is (c.in-Ok-Some.ensures.ok right u) in
    let same : c.kind-kind.result ≡ t.kind = c.kind-kind.ensures in
    let of_tree = subst (λ (k : Kind). is_table k ≡ old.table) same (c.is_of_tree.ensures.yes c.if-not-is_of_tree.false) in
    let high = subst (λ (k : Kind). is_interior k ≡ true) same (sym c.is_interior.ensures ∙ c.if-not-is_interior.false) in
    let kind = kind_of_interior t.kind old.table of_tree high in
    let page : IsPage d p = (omega (arith, c.if-p-eq0.false), omega (arith, c.count-count.ensures, c.if-p-eq0.false, c.if-p-count.false)) in
    let un = λ (m : IsMarked old.marks.items p). c.is_marked.ensures.not c.if-is_marked.false (subst (λ (m : List Bool). IsMarked m p) (sym c.deref.ensures.value) m) in
    let marks : mid.marks ≡ new.marks = sym c.in-Ok.ensures.same.4 in
    let names = subst (λ (l : List Piece). NamesRest (page_of t) mid.marks.items 0 l new.pending.items) c.leave_out.ensures.same.2 c.in-Ok.ensures.ok in
    let opens = interior_opens d old.table p t old.marks.items mid.marks.items old.pending.items new.pending.items page read kind un size c.leave_out.ensures.length (c.leave_out.ensures.marked d size) names in
    inr (
      subst (λ (l : List Bool). Opens d old.table p old.marks.items l old.pending.items new.pending.items) (ap (λ v. v.items) marks) opens,
      not_both d old.table p (interior_read d old.table p t page read kind),
    )
