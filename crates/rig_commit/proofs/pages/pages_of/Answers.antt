use Rattle.std.proofs.Common.{◌≡◌, ℕ, ◌+◌, ◌-◌, ◌≤◌, List, [], ◌∷◌, ◌++◌, map, sym, ◌∙◌, ap, arith}
use Rattle.std.specs.List.{range_with_len}
use Rattle.std.proofs.lemmas.List.FromFn.{map-range_with_len_more}
use Rattle.rig_commit.specs.Pages.{page_bytes}
use Rattle.rig_commit.proofs.pages.pages_of.Goals as goal

-- one more page
pages_more : (first page commit : ℕ) (before : List (ℕ × List ℕ)) → first ≤ page
    → before ≡ map {B = ℕ × List ℕ} (λ p. (p, page_bytes p commit)) (range_with_len first (page - first))
    → before ++ (page, page_bytes page commit) ∷ [] ≡ map {B = ℕ × List ℕ} (λ p. (p, page_bytes p commit)) (range_with_len first (page + 1 - first))
pages_more first page commit before le all =
    let n = page - first in
    let held : ℕ → ℕ × List ℕ = λ p. (p, page_bytes p commit) in
    let count : n + 1 ≡ page + 1 - first = omega (arith, le) in
    ap (λ (l : List (ℕ × List ℕ)). l ++ (page, page_bytes page commit) ∷ []) all
    ∙ sym (map-range_with_len_more held first n page (omega (arith, le)))
    ∙ ap (λ (k : ℕ). map held (range_with_len first k)) count

pub loop-page-preserved : goal.loop-page-preserved
loop-page-preserved c =
    c.in_ok-add_page.ensures ∙ pages_more c.args.first c.loop-page.page c.args.commit _ c.loop-page.auto.page c.loop-page.invariant

pub returns : goal.returns
returns c =
    let held : ℕ → ℕ × List ℕ = λ p. (p, page_bytes p c.args.commit) in
    let at : c.loop-page.page ≡ c.args.last = omega (arith, c.loop-page-test.false, c.loop-page.auto.page-end c.if-first-last.false) in
    c.in_ok-add_page-2.ensures
    ∙ pages_more c.args.first c.args.last c.args.commit _ c.if-first-last.false
    (c.loop-page.invariant ∙ ap (λ (n : ℕ). map held (range_with_len c.args.first (n - c.args.first))) at)
