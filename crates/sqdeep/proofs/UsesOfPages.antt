-- What each page is, after a check told of all pages.
use Rattle.std.proofs.Common.{◌≡◌, ◌≢◌, ◌∙◌, ◌==◌, ◌⊎◌, ℕ, ◌-◌, ◌+◌, ◌<◌, ◌≤◌, List, [], ◌∷◌, Bool, true, false, length, map, get_or, set, if◌then◌else◌, refl, sym, ap, subst, inl, inr, ⊎_elim, arith}
use Rattle.std.proofs.lemmas.List.{get_or-set_other, get_or-set_same}
use Rattle.std.proofs.lemmas.Bool.{cases_eq, eqb-true}
use Rattle.sqval.specs.Database.{Database}
use Rattle.sqpage.specs.declared.kind.Kind.{Kind}
use Rattle.sqpage.specs.Freelist.{IsWithin, IsPage}
use Rattle.sqpage.specs.Lists.{In, Every, Apart}
use Rattle.sqpage.proofs.chain.ListsByRecursion.{every_in}
use Rattle.sqcheck.specs.declared.role.Role.{Role}
use Rattle.sqcheck.specs.declared.role.Role.TheVariants.{Btree, Overflow, FreeTrunk, FreeLeaf, LockByte, PointerMap, Unused}
use Rattle.sqcheck.specs.Places.{node, Spot}
use Rattle.sqcheck.specs.Roles.{IsRoleOf, HasRole, Visit, Told, AreRoles}
use Rattle.sqcheck.specs.WellFormed.{IsSetAside, WellFormedWith, numbers}
use Rattle.sqcheck.proofs.checks.ListsByRecursion.{from_map, in_map, every_weaker}
use Rattle.sqdeep.specs.declared.trees.Trees.{Trees}
use Rattle.sqdeep.specs.declared.trees.Use.{Use}
use Rattle.sqdeep.specs.declared.trees.Use.TheVariants.{Aside, Other, Root, Below}
use Rattle.sqdeep.specs.Inside.{IsOfTree}
use Rattle.sqdeep.specs.internal.Judging.{SaysRoot}
use Rattle.sqdeep.specs.internal.Uses.{use_of, use_at, PutsDown, IsUsed, AreUses}
use Rattle.sqdeep.proofs.SoundTrees.{by_node, same_spot}

abbrev pub notes : Trees → ℕ → Role → Trees → Type 0
notes old p role new = PutsDown old.uses.items p role new.uses.items

told_long : (visits : List Visit) (old new : Trees) → Told notes old visits new → length new.uses.items ≡ length old.uses.items
told_long [] old new h = ap (λ (t : Trees). length t.uses.items) h
told_long (v ∷ visits) old new (next, step, h) = told_long visits next new h ∙ step.0

-- A page that isn't told of stays as it is.
kept : (visits : List Visit) (old new : Trees) (p : ℕ) → Told notes old visits new → Every (IsWithin (length old.uses.items)) (map (λ v. v.page) visits) → 0 < p → Every (λ q. p ≡ q → ⊥) (map (λ v. v.page) visits)
    → use_at new.uses.items p ≡ use_at old.uses.items p
kept [] old new p h within above off = ap (λ (t : Trees). use_at t.uses.items p) h
kept (v ∷ visits) old new p (next, step, h) within above off =
    let ne : p - 1 ≢ v.page - 1 = λ e. off.0 (let q : 0 < v.page = within.0.0 in omega (arith, e, q, above)) in
    kept visits next new p h (subst (λ n. Every (IsWithin n) (map (λ v. v.page) visits)) (sym step.0) within.1) above off.1
    ∙ ap (λ l. get_or l (p - 1) Aside) (step.1 within.0) ∙ get_or-set_other old.uses.items (v.page - 1) (p - 1) (use_of v.page v.role) Aside ne

-- Each page that is told of once is what it is told to be.
told_at : (visits : List Visit) (old new : Trees) → Told notes old visits new → Every (IsWithin (length old.uses.items)) (map (λ v. v.page) visits) → Apart (map (λ v. v.page) visits) → (v : Visit) → In v visits
    → use_at new.uses.items v.page ≡ use_of v.page v.role
told_at [] old new h within apart v i = absurd i
told_at (w ∷ visits) old new (next, step, h) within apart v (inl e) =
    let rest = subst (λ n. Every (IsWithin n) (map (λ v. v.page) visits)) (sym step.0) within.1 in
    let lt : w.page - 1 < length old.uses.items = (let a : 0 < w.page = within.0.0 in let b : w.page ≤ length old.uses.items = within.0.1 in omega arith) in
    ap (λ (z : Visit). use_at new.uses.items z.page) e ∙ kept visits next new w.page h rest within.0.0 apart.0
    ∙ ap (λ l. get_or l (w.page - 1) Aside) (step.1 within.0) ∙ get_or-set_same old.uses.items (w.page - 1) (use_of w.page w.role) Aside lt ∙ ap (λ (z : Visit). use_of z.page z.role) (sym e)
told_at (w ∷ visits) old new (next, step, h) within apart v (inr i) =
    told_at visits next new h (subst (λ n. Every (IsWithin n) (map (λ v. v.page) visits)) (sym step.0) within.1) apart.1 v i

in_or_off : (p : ℕ) (ps : List ℕ) → In p ps ⊎ Every (λ q. p ≡ q → ⊥) ps
in_or_off p [] = inr tt
in_or_off p (q ∷ ps) = elim (cases_eq p q) [
  | inl e ↦ inl (inl e)
  | inr ne ↦ ⊎_elim (λ i. inl (inr i)) (λ off. inr (ne, off)) (in_or_off p ps)
]

-- the use of a page that is the root, or isn't
used_in_tree : (d : Database) (kind : Kind) (root p : ℕ) → IsOfTree d kind root p → (b : Bool) → (root == p) ≡ b → IsUsed d p (if b then Root else Below)
used_in_tree d kind root p has true e = (kind, root, has, eqb-true root p e)
used_in_tree d kind root p has false e = (kind, root, has, λ same. absurd (let both : true ≡ false = sym (Rattle.std.proofs.Common.eq-eqb root p same) ∙ e in cc))

module _ (maps : Bool) (d : Database) (size : ℕ) (w : WellFormedWith maps d size) where
  -- Page p has no role but one of a tree where it has such a one.
  no_other : (p : ℕ) (role : Role) → HasRole d p role → ((kind : Kind) (root : ℕ) → role ≡ Btree kind root → ⊥) → (kind : Kind) (root : ℕ) → ¬ IsOfTree d kind root p
  no_other p role (s, r, e, is) never kind root (t, q, f, also) =
      let n = by_node d kind root p t.role also in
      let same : s ≡ t = same_spot maps d size w s t r q (e ∙ sym f) in
      let named : IsRoleOf d p (node n.x) role = subst (λ z. IsRoleOf d p z role) (ap (λ (z : Spot). z.role) same ∙ n.is) is in
      never named.0 n.x.tree named.2

  used_by : (p : ℕ) (role : Role) → HasRole d p role → IsUsed d p (use_of p role)
  used_by p (Btree kind root) has = used_in_tree d kind root p has (root == p) refl
  used_by p (Overflow owner) has = (no_other p (Overflow owner) has (λ kind root e. cc), ((Overflow owner), has))
  used_by p FreeTrunk has = (no_other p FreeTrunk has (λ kind root e. cc), (FreeTrunk, has))
  used_by p FreeLeaf has = (no_other p FreeLeaf has (λ kind root e. cc), (FreeLeaf, has))
  used_by p LockByte has = (no_other p LockByte has (λ kind root e. cc), (LockByte, has))
  used_by p PointerMap has = (no_other p PointerMap has (λ kind root e. cc), (PointerMap, has))
  used_by p Unused has = (no_other p Unused has (λ kind root e. cc), (Unused, has))

  -- They are what all pages are, where none was before.
  pub all_uses : (visits : List Visit) (old new : Trees) → length old.uses.items ≡ length d → ((p : ℕ) → IsPage d p → use_at old.uses.items p ≡ Aside) → Told notes old visits new → AreRoles d size visits → AreUses d new.uses.items
  all_uses visits old new long none told are = record {
    long = told_long visits old new told ∙ long;
    each = λ p is. ⊎_elim (named p is) (unnamed p is) (in_or_off p pages);
  }
    where
      pages : List ℕ
      pages = map (λ v. v.page) visits

      within : Every (IsWithin (length old.uses.items)) pages
      within = subst (λ n. Every (IsWithin n) pages) (sym long) (every_weaker (λ q. IsWithin (length d) q × ¬ IsSetAside d size q) (IsWithin (length d)) (λ q h. h.0) pages are.once.within)

      named : (p : ℕ) → IsPage d p → In p pages → IsUsed d p (use_at new.uses.items p)
      named p is i =
          let found = from_map (λ v. v.page) p visits i in
          let v = found.0 in
          let used : use_at new.uses.items p ≡ use_of v.page v.role = ap (use_at new.uses.items) found.2 ∙ told_at visits old new told within are.once.distinct v found.1 in
          subst (IsUsed d p) (sym used) (subst (λ q. IsUsed d q (use_of v.page v.role)) (sym found.2) (used_by v.page v.role (every_in (λ v. HasRole d v.page v.role) v visits are.roles found.1)))

      unnamed : (p : ℕ) → IsPage d p → Every (λ q. p ≡ q → ⊥) pages → IsUsed d p (use_at new.uses.items p)
      unnamed p is off =
          let used : use_at new.uses.items p ≡ Aside = kept visits old new p told within is.0 off ∙ none p is in
          subst (IsUsed d p) (sym used) (λ role has.
          let s = has.0 in
          let at : In p (numbers w.places) = subst (λ q. In q (numbers w.places)) has.2 (in_map (λ z. z.page) s w.places (w.all s has.1)) in
          let free = (every_in (λ q. IsWithin (length d) q × ¬ IsSetAside d size q) p (numbers w.places) w.once.within at).1 in
          every_in (λ q. p ≡ q → ⊥) p pages off (are.once.each p is free) refl)

-- A page that is used in a tree, and whether it is the root.
pub by_use : (d : Database) (p : ℕ) (b : Bool) → IsUsed d p (if b then Root else Below) → (kind : Kind) × (root : ℕ) × IsOfTree d kind root p × SaysRoot b root p
by_use d p true h = h
by_use d p false h = h

-- A page that has no role, or none of a tree, is of no tree.
pub no_tree : (d : Database) (p : ℕ) (u : Use) → (u ≡ Aside) ⊎ (u ≡ Other) → IsUsed d p u → (kind : Kind) (root : ℕ) → ¬ IsOfTree d kind root p
no_tree d p u (inl e) is kind root of_tree = subst (IsUsed d p) e is (Btree kind root) of_tree
no_tree d p u (inr e) is kind root of_tree = (subst (IsUsed d p) e is).0 kind root of_tree
