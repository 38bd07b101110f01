-- What is wrong with a page of a tree.
use Rattle.sqcheck.proofs.Between.{Database, Fault, HasKeyOutOfOrder, IsBtreePage, Kind, LayoutRefused, LevelAt, List, Node, NodeRefusedBy, Option, Page, PageRefused, Some, ap, arith, byte, code_of, code_once, false, head_at, inl, inr, is_interior, page_as, refl, subst, sym, used_in, ℕ, ◌∙◌, ◌≡◌, ◌≢◌}
use Rattle.sqpage.specs.declared.fault.Fault.TheVariants as faults

-- the page that is judged, as one of the database
pub as_page : (d : Database) (number : ℕ) (used : List ℕ) (p : Page) → used_in d number ≡ used → p.used ≡ used → p.number ≡ number → p ≡ page_as d p.kind number
as_page d number used p e u n = ap (λ l. record { used = l; number = p.number; kind = p.kind }) (u ∙ sym e) ∙ ap (λ m. record { used = used_in d number; number = m; kind = p.kind }) n

pub page_refused : (A : ℕ → Type 0) (d : Database) (number : ℕ) (used : List ℕ) (fault : Fault) (x : Node) → used_in d number ≡ used → PageRefused fault used number → NodeRefusedBy A d fault number x
page_refused A d number used fault x e refused = go fault (subst (λ l. PageRefused fault l number) (sym e) refused)
  where
    go : (fault : Fault) → PageRefused fault (used_in d number) number → NodeRefusedBy A d fault number x
    go faults.Kind h = λ kind has. absurd (h kind has)
    go faults.CellOutside (kind, has, inl more) = (kind, has, λ is. absurd (omega (arith, more, is.pointers)))
    go faults.CellOutside (kind, has, inr (inl more)) = (kind, has, λ is. absurd (omega (arith, more, is.start)))
    go faults.CellOutside (kind, has, inr (inr (i, lt, inl less))) = (kind, has, λ is. absurd (omega (arith, less, is.above i lt)))
    go faults.CellOutside (kind, has, inr (inr (i, lt, inr none))) = (kind, has, λ is. none (is.cells i lt))
    go _ h = absurd h

pub layout_refused : (A : ℕ → Type 0) (d : Database) (number : ℕ) (used : List ℕ) (p : Page) (fault : Fault) (x : Node) → used_in d number ≡ used → p.used ≡ used → p.number ≡ number
    → IsBtreePage p → LayoutRefused fault p → fault ≢ faults.NoMemory → NodeRefusedBy A d fault number x
layout_refused A d number used p fault x e u n is refused other =
    let same = as_page d number used p e u n in go fault (subst IsBtreePage same is) (subst (LayoutRefused fault) same refused) other
  where
    go : (fault : Fault) → IsBtreePage (page_as d p.kind number) → LayoutRefused fault (page_as d p.kind number) → fault ≢ faults.NoMemory → NodeRefusedBy A d fault number x
    go faults.Freeblock is h other = (p.kind, is, h)
    go faults.Overlap is h other = (p.kind, is, h)
    go faults.Fragments is h other = (p.kind, is, h)
    go faults.NoMemory is h other = absurd (other refl)
    go _ is h other = absurd h

pub keys_refused : (A : ℕ → Type 0) (d : Database) (number : ℕ) (used : List ℕ) (p : Page) (x : Node) → used_in d number ≡ used → p.used ≡ used → p.number ≡ number
    → IsBtreePage p → HasKeyOutOfOrder p x → NodeRefusedBy A d faults.KeyOrder number x
keys_refused A d number used p x e u n is wrong =
    let same = as_page d number used p e u n in (p.kind, subst IsBtreePage same is, subst (λ b. HasKeyOutOfOrder b x) same wrong)

-- the kind that was read is the page's
pub kind_read : (p : Page) (number : ℕ) (used : List ℕ) (kind : Kind) → p.used ≡ used → p.number ≡ number → IsBtreePage p → byte used (head_at number) ≡ code_of kind → p.kind ≡ kind
kind_read p number used kind u n is h = code_once p.kind kind (sym is.kind ∙ ap (λ l. byte l (head_at p.number)) u ∙ ap (λ m. byte used (head_at m)) n ∙ h)

-- The level of a leaf is put down.
pub level_put : (d : Database) (number : ℕ) (used : List ℕ) (kind : Kind) (level : ℕ) (old new : Option ℕ) → used_in d number ≡ used → byte used (head_at number) ≡ code_of kind → is_interior kind ≡ false → new ≡ Some level → LevelAt d number level old new
level_put d number used kind level old new e has leaf put = inr (kind, ap (λ l. byte l (head_at number)) e ∙ has, leaf, put)
