use Rattle.std.proofs.Common.{ℕ, inl, inr, subst, arith}
use Rattle.std.proofs.lemmas.Bool.{cases_eq}
use Rattle.sqrows.specs.Trees.{IsChild}
use Rattle.sqsalvage.specs.TreePages.{page_of}
use Rattle.sqsalvage.proofs.cursor.Salvage.first_named.Goals as goal

pub children-preserved : goal.children-preserved
children-preserved c =
    let i = c.children.invariant in
    let b = page_of c.args.page.now in
    let at : ℕ = c.children.at in
    let n = c.cells.ensures.value in
    let some = c.children-test.true in
    record {
      low = (let low = i.low in omega (arith, low));
      high = omega (arith, n, some);
      before = λ k q low lt is. elim (cases_eq k at) [
        | inl same ↦ c.is_child_unread.ensures.not c.if-is_child_unread.false q (subst (λ (m : ℕ). IsChild b m q) same is)
        | inr ne ↦ i.before k q low (omega (arith, lt, ne)) is
      ];
    }
