-- Where the roots of trees stand, by what each page is.
use Rattle.std.proofs.Common.{◌≡◌, ◌∙◌, ℕ, true, false, List, refl, ap, subst}
use Rattle.sqval.specs.Database.{Database}
use Rattle.sqpage.specs.Freelist.{IsPage}
use Rattle.sqcheck.specs.declared.role.Role.TheVariants.{Btree}
use Rattle.sqcheck.specs.Roles.{HasRole}
use Rattle.sqdeep.specs.declared.trees.Use.{Use}
use Rattle.sqdeep.specs.declared.trees.Use.TheVariants.{Aside, Other, Root, Below}
use Rattle.sqdeep.specs.Inside.{IsOfTree, IsRoot, IsNoRoot}
use Rattle.sqdeep.specs.internal.Judging.{HasSoundTrees}
use Rattle.sqdeep.specs.internal.Uses.{use_at, IsUsed, AreUses, is_movable}

module _ (d : Database) (uses : List Use) (trees : HasSoundTrees d) (are : AreUses d uses) where
  pub root_used : (p : ℕ) → IsRoot d p → use_at uses p ≡ Root
  root_used p (kind, of_tree) = by (use_at uses p) refl (are.each p (trees.named p (Btree kind p) of_tree))
    where
      by : (u : Use) → use_at uses p ≡ u → IsUsed d p u → use_at uses p ≡ Root
      by Aside e is = absurd (is (Btree kind p) of_tree)
      by Other e is = absurd (is.0 kind p of_tree)
      by Root e is = e
      by Below e (other, root, h, ne) = absurd (ne (trees.once kind other p root p of_tree h).1)

  pub movable_used : (q : ℕ) → IsNoRoot d q → is_movable (use_at uses q) ≡ true
  movable_used q (role, has, never) = by (use_at uses q) refl (are.each q (trees.named q role has))
    where
      by : (u : Use) → use_at uses q ≡ u → IsUsed d q u → is_movable (use_at uses q) ≡ true
      by Aside e is = absurd (is role has)
      by Other e is = ap is_movable e
      by Root e (kind, root, h, same) = absurd (never kind (trees.alone kind root q role h has ∙ ap (Btree kind) same))
      by Below e is = ap is_movable e

  pub used_root : (p : ℕ) → IsPage d p → use_at uses p ≡ Root → IsRoot d p
  used_root p is e = by (subst (IsUsed d p) e (are.each p is))
    where
      by : IsUsed d p Root → IsRoot d p
      by (kind, root, h, same) = (kind, subst (λ r. IsOfTree d kind r p) same h)

  pub used_movable : (q : ℕ) → IsPage d q → is_movable (use_at uses q) ≡ true → IsNoRoot d q
  used_movable q is movable = by (use_at uses q) refl movable (are.each q is)
    where
      by : (u : Use) → use_at uses q ≡ u → is_movable u ≡ true → IsUsed d q u → IsNoRoot d q
      by Aside e m is = absurd (let no : false ≡ true = m in cc)
      by Other e m (none, (role, has)) = (role, has, λ kind same. none kind q (subst (HasRole d q) same has))
      by Root e m is = absurd (let no : false ≡ true = m in cc)
      by Below e m (kind, root, h, ne) = (Btree kind root, h, λ other same. ne (let eq : root ≡ q = cc in eq))
