use Rattle.std.proofs.Common.{◌≡◌, ℕ, ◌-◌, List, map}
use Rattle.std.specs.List.{range_with_len}
use Rattle.rig_commit.specs.Pages.{page_bytes}
use Rattle.rig_commit.proofs.pages.pages_of.Given as goal

abbrev pub invariant-loop-page : goal.invariant-loop-page
invariant-loop-page l =
    map {B = ℕ × List ℕ} (λ p. (p.0, p.1.items)) l.pages.items
    ≡ map {B = ℕ × List ℕ} (λ page. (page, page_bytes page l.commit)) (range_with_len l.first (l.page - l.first))
