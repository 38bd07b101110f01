use Rattle.std.proofs.Common.{◌≡◌, ◌↔◌, ◌⊎◌, ◌∙◌, ℕ, List, Bool, false, true, length, subst, sym}
use Rattle.std.proofs.lemmas.List.{with_items_is}
use Rattle.sqpage.specs.Freelist.{IsWithin, IsPage}
use Rattle.sqsalvage.specs.SalvageCursor.{IsMarked}
use Rattle.sqsalvage.specs.internal.Taking.{Marks}
use Rattle.sqsalvage.proofs.MarkedPages.{left_out}
use Rattle.sqsalvage.proofs.cursor.Salvage.leave_out.Goals as goal

pub returns-clause-marked : goal.returns-clause-marked
returns-clause-marked c = λ d size q.
    let p : ℕ = c.args.p in
    let s = c.args.self.now in
    let value = c.deref_mut.ensures.value in
    let new = c.mark.new.marks in
    subst (λ (m : List Bool). IsMarked m q ↔ (IsMarked s.marks.items q ⊎ (IsPage d q × (q ≡ p)))) (sym (with_items_is s.marks new (c.mark.ensures.length ∙ c.deref_mut.ensures.len)))
    (left_out d s.marks.items new p c.mark.result size (subst (λ (m : List Bool). c.mark.result ≡ true → Marks m new p) value c.mark.ensures.yes)
    (subst (λ (m : List Bool). c.mark.result ≡ false → (new ≡ m) × (IsWithin (length m) p → IsMarked m p)) value c.mark.ensures.not) q)
