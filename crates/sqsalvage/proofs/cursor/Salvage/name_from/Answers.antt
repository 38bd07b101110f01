use Rattle.std.proofs.Common.{◌≡◌, ◌∙◌, ℕ, ◌+◌, ◌-◌, ◌≤◌, List, Bool, ap, subst, arith}
use Rattle.sqsalvage.specs.TreePages.{page_of}
use Rattle.sqsalvage.specs.internal.Taking.{IsChildNamed}
use Rattle.sqsalvage.proofs.NamedPieces.{Names, names_place, names_child, names_rest}
use Rattle.sqsalvage.proofs.cursor.Salvage.name_from.Goals as goal

pub children-init : goal.children-init
children-init c =
    let e = c.in-Ok.ensures in
    let first = c.first_named-first.ensures in
    let last = c.last_named-last.ensures in
    let low = first.within.0 in
    let le = last.within.0 in
    record {
      size = e.same.0;
      usable = e.same.1;
      at = e.same.2;
      table = e.same.3;
      marks = e.same.4;
      low = omega (arith, le);
      names = names_place (page_of c.args.page.now) c.args.self.now.marks.items c.args.from c.last_named-last.result c.args.self.now.pending.items c.name_place.new.self.pending.items
          (omega (arith, low, le)) last.within.1 (λ payload. last.cell payload ∙ first.cell payload) e.ok;
    }

pub children-preserved : goal.children-preserved
children-preserved c =
    let i = c.children.invariant in
    let e = c.in-Ok-name_child.ensures in
    let b = page_of c.args.page.now in
    let k : ℕ = c.children.i in
    let j : ℕ = k - 1 in
    let more = c.children-test.true in
    let step : k ≡ j + 1 = omega (arith, more) in
    let above : c.first_named-first.result ≤ j = omega (arith, more) in
    let first = c.first_named-first.ensures.within.0 in
    let low : c.args.from ≤ j = omega (arith, above, first) in
    record {
      size = e.same.0 ∙ i.size;
      usable = e.same.1 ∙ i.usable;
      at = e.same.2 ∙ i.at;
      table = e.same.3 ∙ i.table;
      marks = e.same.4 ∙ i.marks;
      low = above;
      names = names_child b c.args.self.now.marks.items c.args.from k j c.last_named-last.result c.args.self.now.pending.items c.children.self.pending.items c.name_child.new.self.pending.items step low i.names
          (subst (λ (m : List Bool). IsChildNamed b m j c.children.self.pending.items c.name_child.new.self.pending.items) (ap (λ v. v.items) i.marks) e.ok);
    }

pub returns-clause-ok : goal.returns-clause-ok
returns-clause-ok c =
    let i = c.children.invariant in
    let b = page_of c.args.page.now in
    let k : ℕ = c.children.i in
    let first : ℕ = c.first_named-first.result in
    let none : k ≡ first = let no = c.children-test.false in let low = i.low in omega (arith, no, low) in
    names_rest b c.args.self.now.marks.items c.args.from first c.last_named-last.result c.args.self.now.pending.items c.children.self.pending.items c.first_named-first.ensures.before c.last_named-last.ensures.few
    (subst (λ (n : ℕ). Names b c.args.self.now.marks.items c.args.from n c.last_named-last.result c.args.self.now.pending.items c.children.self.pending.items) none i.names)
