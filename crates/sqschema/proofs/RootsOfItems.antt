-- The trees of items: which an item may have, and which it has.
use Rattle.std.proofs.Common.{◌≡◌, ◌≢◌, ◌∙◌, inl, inr, ⊎_elim, ℕ, Bool, true, false, length, sym, ap, subst}
use Rattle.std.specs.Prelude.{Some, None, pos}
use Rattle.sqval.specs.Database.{Database}
use Rattle.sqpage.specs.Freelist.{IsWithin}
use Rattle.sqpage.specs.Page.{is_table as is_of_table}
use Rattle.sqcheck.proofs.checks.RefutationOfWellFormedness.{code_once}
use Rattle.sqschema.specs.Items.{Item}
use Rattle.sqschema.specs.Roots.{HasTree, IsRootOf, IsTreeFor}
use Rattle.sqschema.specs.internal.Judging.{SaysAside, KindTells, Fits}

-- a page begins trees of one kind alone
root_once : (d : Database) (r : ℕ) (a b : Bool) → IsRootOf d a r → IsRootOf d b r → a ≡ b
root_once d r a b v w = sym v.is ∙ ap is_of_table (code_once v.kind w.kind (sym v.typed ∙ w.typed)) ∙ w.is

pos_once : (a b : ℕ) → pos a ≡ pos b → a ≡ b
pos_once a b e = cc

pub no_root : (d : Database) (x : Item) → x.root ≡ pos 0 → HasTree d x × SaysAside true x
no_root d x none = (inl none, λ aside. aside.rooted none)

-- the root is none of so many pages
pub outside : (d : Database) (x : Item) (count : ℕ) → count ≡ length d → x.root ≢ pos 0 → ((r : ℕ) → IsWithin count r → x.root ≢ pos r) → ¬ HasTree d x
outside d x count all rooted never tree = ⊎_elim (λ none. rooted none) (λ some. never some.0 (subst (λ n. IsWithin n some.0) (sym all) some.3.named) some.2) tree

-- it begins no tree
pub kindless : (d : Database) (x : Item) (p : ℕ) → x.root ≢ pos 0 → x.root ≡ pos p → KindTells d p None → ¬ HasTree d x
kindless d x p rooted at never tree = ⊎_elim (λ none. rooted none) (λ some. never some.1 (subst (λ r. IsRootOf d some.1 r) (pos_once some.0 p (sym some.2 ∙ at)) some.3)) tree

-- it begins one that isn't for the item
pub misfit : (d : Database) (x : Item) (p : ℕ) (table : Bool) → x.root ≢ pos 0 → x.root ≡ pos p → KindTells d p (Some table) → Fits x table None → ¬ HasTree d x
misfit d x p table rooted at is never tree = ⊎_elim
    (λ none. rooted none)
    (λ some.
    let same : some.1 ≡ table = root_once d p some.1 table (subst (λ r. IsRootOf d some.1 r) (pos_once some.0 p (sym some.2 ∙ at)) some.3) is in
    never (subst (λ b. IsTreeFor x b) same some.4))
    tree

-- it begins one that is
pub fitting : (d : Database) (x : Item) (p : ℕ) (table understood : Bool) → x.root ≢ pos 0 → x.root ≡ pos p → KindTells d p (Some table) → Fits x table (Some understood) → HasTree d x × SaysAside understood x
fitting d x p table true rooted at is fits = (inr (p, table, at, is, fits.0), λ aside. fits.1 (aside.table, aside.unread))
fitting d x p table false rooted at is fits = (inr (p, table, at, is, fits.0), record { table = fits.1.0; rooted = rooted; unread = fits.1.1 })
