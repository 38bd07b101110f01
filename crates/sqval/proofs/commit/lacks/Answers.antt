use Rattle.std.proofs.Common.{◌≡◌, ◌==◌, ℕ, ◌+◌, true, sym, ◌∙◌, subst, arith, ⊎_elim}
use Rattle.std.proofs.lemmas.Bool.{cases_lt}
use Rattle.std.specs.List.{list_any}
use Rattle.sqval.specs.internal.JudgedPages.{numbers_of}
use Rattle.sqval.proofs.page.PageNumbers.{any_map}
use Rattle.sqval.proofs.commit.lacks.Goals as goal

pub returns-then-not-has_page : goal.returns-then-not-has_page
returns-then-not-has_page c = (c.loop-k.k + 1, omega arith, omega arith, any_map (λ x. x.0) (λ q. q == c.loop-k.k + 1) c.args.pages.now ∙ sym c.if-not-has_page.ensures)

pub loop-k-preserved : goal.loop-k-preserved
loop-k-preserved c p a b =
    ⊎_elim
    (λ lt. c.loop-k.invariant p a (omega arith))
    (λ ge. let e : c.loop-k.k + 1 ≡ p = omega arith in
    subst (λ (k : ℕ). list_any (λ q. q == k) (numbers_of c.args.pages.now) ≡ true) e (any_map (λ x. x.0) (λ q. q == c.loop-k.k + 1) c.args.pages.now ∙ sym c.if-not-has_page.ensures))
    (cases_lt p (c.loop-k.k + 1))
