-- What each page of a b-tree keeps (fileformat2, 1.6). It has one proof at most, so that a type can keep it.
use Rattle.std.specs.Prelude.{◌≡◌, ℕ, ◌<◌, ◌≤◌, List, length}
use Rattle.sqpage.specs.declared.kind.Kind.{Kind}
use Rattle.sqpage.specs.Header.{byte}
use Rattle.sqpage.specs.Page.{code_of, head_at, cell_count_in, content_start_in, pointers_end_in, pointer_in, HasCell}

-- a page of a b-tree; that its cells are there is said by a double negation
pub record IsSoundPage (used : List ℕ) (number : ℕ) (kind : Kind) : Type 0 where
  pub least : 480 ≤ length used
  pub most : length used ≤ 65536
  pub typed : byte used (head_at number) ≡ code_of kind
  pub pointers : pointers_end_in kind used number ≤ length used
  pub start : content_start_in used number ≤ length used
  pub above : (i : ℕ) → i < cell_count_in used number → content_start_in used number ≤ pointer_in kind used number i
  pub cells : (i : ℕ) → i < cell_count_in used number → ¬ ¬ HasCell kind used (pointer_in kind used number i)
