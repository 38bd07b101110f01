use Rattle.std.proofs.Common.{◌≡◌, ◌==◌, length, ℕ, ◌+◌, ◌-◌, get_or, take, drop, sym, ◌∙◌, ap, arith, length-drop}
use Rattle.std.proofs.lemmas.List.{take_all}
use Rattle.std.specs.Prelude.{◌||◌}
use Rattle.std.specs.List.{list_any}
use Rattle.sqval.specs.CommitFaults.{has_twice}
use Rattle.sqval.specs.JudgedPages.{lent}
use Rattle.sqval.proofs.page.PageNumbers.{twice_from}
use Rattle.sqval.proofs.commit.repeats.Goals as goal

pub returns-then-has_page : goal.returns-then-has_page
returns-then-has_page c =
    let pages = c.args.pages.now in
    let k : ℕ = c.loop-k.k in
    let behind : take (length pages - (k + 1)) (drop (k + 1) pages) ≡ drop (k + 1) pages = take_all (length pages - (k + 1)) (drop (k + 1) pages) (omega (arith, length-drop (k + 1) pages)) in
    sym (c.loop-k.invariant ∙ twice_from pages k _ c.loop-k-test.true ∙ ap (λ b. b || has_twice (lent (drop (k + 1) pages))) (ap (list_any (λ x. x.0 == (get_or pages k _).0)) (sym behind) ∙ sym c.if-has_page.ensures))

pub loop-k-preserved : goal.loop-k-preserved
loop-k-preserved c =
    let pages = c.args.pages.now in
    let k : ℕ = c.loop-k.k in
    let behind : take (length pages - (k + 1)) (drop (k + 1) pages) ≡ drop (k + 1) pages = take_all (length pages - (k + 1)) (drop (k + 1) pages) (omega (arith, length-drop (k + 1) pages)) in
    c.loop-k.invariant ∙ twice_from pages k _ c.loop-k-test.true ∙ ap (λ b. b || has_twice (lent (drop (k + 1) pages))) (ap (list_any (λ x. x.0 == (get_or pages k _).0)) (sym behind) ∙ sym c.if-has_page.ensures)
