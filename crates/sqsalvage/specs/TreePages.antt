-- Pages of trees by themselves (fileformat2, 1.6).
use Rattle.std.specs.Prelude.{◌≡◌, ℕ, ◌≤◌, take}
use Rattle.sqval.specs.Database.{Database}
use Rattle.sqpage.specs.declared.kind.Kind.{Kind}
use Rattle.sqpage.specs.Freelist.{usable_size}
use Rattle.sqpage.specs.Page.{Page, pointers_end_in}
use Rattle.sqcheck.specs.Places.{used_in, page_as, HasKind}
use Rattle.sqsalvage.specs.declared.page.TreePage.{TreePage}

-- Page p is one of a tree: it has this kind's type byte, and the pointers to its cells lie in its usable part.
abbrev pub IsTreePage : Database → Kind → (p : ℕ) → Type 0
IsTreePage d kind p = HasKind d kind p × (pointers_end_in kind (used_in d p) p ≤ usable_size d)

-- what was read of a page
abbrev pub page_of : TreePage → Page
page_of t = record { used = take t.usable t.bytes.items; number = t.number; kind = t.kind }

-- This is page p as it was read, one of a tree.
pub record IsPageRead (d : Database) (p : ℕ) (t : TreePage) : Type 0 where
  pub is : page_of t ≡ page_as d t.kind p
  pub tree : IsTreePage d t.kind p
