use Rattle.std.proofs.Common.{ℕ, List, Bool, inl, inr, refl, subst, sym}
use Rattle.sqrows.proofs.moves.StepsOfPage.{child_once}
use Rattle.sqsalvage.specs.TreePages.{page_of}
use Rattle.sqsalvage.specs.internal.Taking.{IsUnread}
use Rattle.sqsalvage.proofs.cursor.Salvage.name_child.Goals as goal

pub returns-in-Ok-clause-ok : goal.returns-in-Ok-clause-ok
returns-in-Ok-clause-ok c = inl (c.in-Some.child, c.in-Some.ensures, c.in-Ok.ensures.items)

pub returns-in-None-clause-ok : goal.returns-in-None-clause-ok
returns-in-None-clause-ok c = inr (refl, λ q is un. c.in-None.ensures q is)

pub returns-then-not-is_unread-clause-ok : goal.returns-then-not-is_unread-clause-ok
returns-then-not-is_unread-clause-ok c = inr (
  refl,
  λ q is un. c.is_unread.ensures.not c.if-not-is_unread.true (subst (λ (m : List Bool). IsUnread m c.in-Some.child) (sym c.deref.ensures.value)
      (subst (λ (n : ℕ). IsUnread c.args.self.now.marks.items n) (child_once (page_of c.args.page.now) c.args.i q c.in-Some.child is c.in-Some.ensures) un)),
)
