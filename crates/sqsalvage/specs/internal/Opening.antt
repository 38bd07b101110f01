-- A page as it was read (own). No public contract cites these words.
use Rattle.std.specs.Prelude.{◌≡◌, ℕ, ◌<◌, List, take}
use Rattle.sqval.specs.Database.{Database}
use Rattle.sqpage.specs.declared.kind.Kind.{Kind}
use Rattle.sqpage.specs.Freelist.{usable_size}
use Rattle.sqpage.specs.Header.{byte}
use Rattle.sqpage.specs.Page.{code_of, head_at, pointers_end_in}
use Rattle.sqcheck.specs.Places.{used_in, HasKind}
use Rattle.sqsalvage.specs.declared.page.TreePage.{TreePage}

-- The page is one of these bytes.
pub record IsOpened (bytes : List ℕ) (usable number : ℕ) (t : TreePage) : Type 0 where
  pub bytes_are : t.bytes.items ≡ bytes
  pub usable_is : t.usable ≡ usable
  pub numbered : t.number ≡ number
  pub typed : byte (take usable bytes) (head_at number) ≡ code_of t.kind

-- The bytes are of no page of a tree.
abbrev pub IsNoPage : (bytes : List ℕ) → (usable number : ℕ) → Type 0
IsNoPage bytes usable number = (kind : Kind) → byte (take usable bytes) (head_at number) ≡ code_of kind → usable < pointers_end_in kind (take usable bytes) number

-- Page p is one of no tree.
abbrev pub IsNoTreePage : Database → (p : ℕ) → Type 0
IsNoTreePage d p = (kind : Kind) → HasKind d kind p → usable_size d < pointers_end_in kind (used_in d p) p
