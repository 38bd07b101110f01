use Rattle.rollcore.proofs.Facts.{Change, List, Pages, Some, [], ap, get_or, length, length-map, length-take-le, lent, map_more, more_no, more_yes, sym, take, ℕ, ◌++◌, ◌+◌, ◌∙◌, ◌∷◌, ◌≡◌}
use Rattle.std.proofs.Common.{Bor}
use Rattle.rollcore.specs.internal.Listing.{written}
use Rattle.rollcore.proofs.changes.list_written.Goals.{then-x-old_size+in_ok-push, else-x-old_size}
use Rattle.rollcore.proofs.changes.list_written.Goals as goal

at : List (ℕ × Bor (List ℕ)) → ℕ → ℕ × Bor (List ℕ)
at pages k = get_or pages k (0, record { ref_ptr = (0, 0); now = [] })

pub loop-k-preserved : goal.loop-k-preserved
unfolding at
loop-k-preserved c =
    let k : ℕ = c.loop-k.k in
    let x : ℕ × Bor (List ℕ) = at c.args.pages.now k in
    let front : Pages = lent (take k c.args.pages.now) in
    let next : lent (take (k + 1) c.args.pages.now) ≡ front ++ (x.0, x.1.now) ∷ [] = map_more (λ (p : ℕ × Bor (List ℕ)). (p.0, p.1.now)) c.args.pages.now k (0, record { ref_ptr = (0, 0); now = [] }) c.loop-k-test.true in
    let long : length front ≡ k = length-map (take k c.args.pages.now) (λ (p : ℕ × Bor (List ℕ)). (p.0, p.1.now)) ∙ length-take-le k c.args.pages.now c.loop-k.auto.k-end in
    elim c.if-x-old_size.branch [
      | then-x-old_size+in_ok-push w ↦ ap (λ v. v.items) w.changes-is ∙ w.in_ok-push.ensures.items ∙ ap (λ (l : List Change). l ++ record { page = x.0; content = Some k } ∷ []) c.loop-k.invariant
          ∙ sym (more_yes c.args.old_size front (x.0, x.1.now) k long w.if-x-old_size.true) ∙ ap (λ (l : Pages). written c.args.old_size 0 l) (sym next)
      | else-x-old_size w ↦ ap (λ v. v.items) w.changes-is ∙ c.loop-k.invariant
          ∙ sym (more_no c.args.old_size front (x.0, x.1.now) w.if-x-old_size.false) ∙ ap (λ (l : Pages). written c.args.old_size 0 l) (sym next)
    ]
