use Rattle.std.proofs.Common.{◌≡◌, ◌∙◌, ◌↔◌, ◌⊎◌, ◌∷◌, [], ◌++◌, ℕ, List, ap, inl, inr, subst, sym}
use Rattle.sqsalvage.specs.declared.cursor.Piece.{Piece}
use Rattle.sqsalvage.specs.declared.cursor.Piece.TheVariants.{Whole}
use Rattle.sqsalvage.specs.Reached.{IsReachedFrom}
use Rattle.sqsalvage.specs.SalvageCursor.{ArePending, IsMarked, IsToCome}
use Rattle.sqsalvage.proofs.StepsOfWalk.{begun_forth, begun_back, begun_pending}
use Rattle.sqsalvage.proofs.cursor.Salvage.begin.Goals as goal

pub returns-in-Ok-clause-ok : goal.returns-in-Ok-clause-ok
returns-in-Ok-clause-ok c = λ d over.
    let marks = c.args.self.now.marks.items in
    let root : ℕ = c.args.root in
    let table = c.args.table in
    let pending = c.push.new.self.items in
    let only : pending ≡ Whole root ∷ [] = c.in-Ok.ensures.items ∙ ap (λ (l : List Piece). l ++ Whole root ∷ []) c.requires.ended in (
      (over.0, subst (λ (l : List Piece). ArePending d marks l) (sym only) (begun_pending d marks root over.1.sized)),
      λ p. subst (λ (l : List Piece). (IsMarked marks p ⊎ IsToCome d table marks l p) ↔ (IsMarked marks p ⊎ IsReachedFrom d table (IsMarked marks) root p)) (sym only) (
        λ h. elim h [ inl m ↦ inl m | inr k ↦ inr (begun_forth d table marks root k) ],
        λ h. elim h [ inl m ↦ inl m | inr k ↦ inr (begun_back d table marks root k) ],
      ),
    )

pub returns-in-Ok-clause-comes : goal.returns-in-Ok-clause-comes
returns-in-Ok-clause-comes c = λ d over.
    let marks = c.args.self.now.marks.items in
    let root : ℕ = c.args.root in
    let table = c.args.table in
    let pending = c.push.new.self.items in
    let only : pending ≡ Whole root ∷ [] = c.in-Ok.ensures.items ∙ ap (λ (l : List Piece). l ++ Whole root ∷ []) c.requires.ended in
    λ p. subst (λ (l : List Piece). IsToCome d table marks l p ↔ IsReachedFrom d table (IsMarked marks) root p) (sym only)
    (λ k. begun_forth d table marks root k, λ k. begun_back d table marks root k)

pub returns-in-Ok-clause-only : goal.returns-in-Ok-clause-only
returns-in-Ok-clause-only c = c.in-Ok.ensures.items ∙ ap (λ (l : List Piece). l ++ Whole c.args.root ∷ []) c.requires.ended
