-- What a page of a role holds.
use Rattle.std.proofs.Common.{◌≡◌, ◌≢◌, ◌↔◌, ◌∙◌, ℕ, List, Option, Some, None, IfSome, sym, subst}
use Rattle.sqpage.specs.declared.cell.Parts.{Parts}
use Rattle.sqpage.specs.declared.kind.Kind.{Kind}
use Rattle.sqpage.specs.Header.{byte}
use Rattle.sqpage.specs.Page.{code_of, head_at}
use Rattle.sqcheck.specs.declared.role.Role.TheVariants.{Btree}
use Rattle.sqcheck.proofs.checks.RefutationOfWellFormedness.{code_once}
use Rattle.sqdeleted.specs.Deleted.{IsDeleted}
use Rattle.sqdeleted.specs.DeletedCursor.{IsLeft}
use Rattle.sqdeleted.specs.declared.cursor.DeletedCells.{DeletedCells}
use Rattle.cli_show_deleted.specs.Cells.{StandsIn}

-- what follows of a value
pub if_some : {T : Type 0} {P Q : T → Type 0} (found : Option T) → ((x : T) → P x → Q x) → IfSome found P → IfSome found Q
if_some None follows p = p
if_some (Some x) follows p = follows x p

-- of a page of a tree what is left is what stands in its gaps
pub tree_left : (named : Kind) (root : ℕ) (used : List ℕ) (number : ℕ) (s : DeletedCells) (kind : Kind) → byte used (head_at number) ≡ code_of kind
    → ((at : ℕ) (c : Parts) → IsLeft s at c ↔ IsDeleted kind used number at c) → (at : ℕ) (c : Parts) → IsLeft s at c ↔ StandsIn (Btree named root) used number at c
tree_left named root used number s kind is same at c = (
  (λ left. (kind, is, (same at c).0 left)),
  λ w. (same at c).1 (subst (λ (k : Kind). IsDeleted k used number at c) (code_once w.0 kind (sym w.1 ∙ is)) w.2),
)

pub no_tree : (named : Kind) (root : ℕ) (used : List ℕ) (number : ℕ) → ((kind : Kind) → byte used (head_at number) ≢ code_of kind) → (at : ℕ) (c : Parts)
    → ¬ StandsIn (Btree named root) used number at c
no_tree named root used number none at c w = none w.0 w.1
