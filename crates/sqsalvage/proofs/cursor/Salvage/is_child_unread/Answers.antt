use Rattle.std.proofs.Common.{ℕ, List, Bool, subst, sym}
use Rattle.sqrows.proofs.moves.StepsOfPage.{child_once}
use Rattle.sqsalvage.specs.TreePages.{page_of}
use Rattle.sqsalvage.specs.internal.Taking.{IsUnread}
use Rattle.sqsalvage.proofs.cursor.Salvage.is_child_unread.Goals as goal

pub returns-in-Some : goal.returns-in-Some
returns-in-Some c = record {
  not = λ no q is un.
      c.is_unread.ensures.not no (subst (λ (m : List Bool). IsUnread m c.in-Some.child) (sym c.deref.ensures.value)
      (subst (λ (n : ℕ). IsUnread c.args.self.now.marks.items n) (child_once (page_of c.args.page.now) c.args.i q c.in-Some.child is c.in-Some.ensures) un));
}
