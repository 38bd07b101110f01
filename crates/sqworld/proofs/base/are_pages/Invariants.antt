use Rattle.sqworld.proofs.Facts.{[], get_or, length, pages_of, ℕ, ◌<◌, ◌≡◌}
use Rattle.sqworld.proofs.base.are_pages.Given as goal

abbrev pub invariant-loop-page : goal.invariant-loop-page
invariant-loop-page l = (i : ℕ) → i < l.page-index → length (get_or (pages_of l.pages) i []) ≡ l.size
