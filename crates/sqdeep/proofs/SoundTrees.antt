-- The pages of trees of a well-formed database.
use Rattle.std.proofs.Common.{◌≡◌, ◌≢◌, ◌∙◌, ℕ, ◌+◌, ◌-◌, ◌<◌, ◌≤◌, ◌⊎◌, List, [], ◌∷◌, length, take, Bool, get_or, refl, sym, ap, subst, inl, inr, arith}
use Rattle.std.proofs.lemmas.List.{length-take-le}
use Rattle.sqval.specs.Database.{Database, page}
use Rattle.sqpage.specs.declared.fault.Fault.{Fault}
use Rattle.sqpage.specs.declared.fault.Fault.TheVariants as faults
use Rattle.sqpage.specs.declared.kind.Kind.{Kind}
use Rattle.sqcheck.proofs.btree.FaultsOfTreePage.{as_page}
use Rattle.sqpage.specs.Page.{Page, IsBtreePage, PageRefused, HasCell, pointers_end_in, content_start_in, cell_count_in, pointer_in}
use Rattle.sqpage.specs.Freelist.{IsPage, usable_size}
use Rattle.sqpage.specs.Lists.{In, Every, Apart}
use Rattle.sqpage.proofs.chain.ListsByRecursion.{every_in}
use Rattle.sqcheck.specs.declared.role.Role.{Role as Use}
use Rattle.sqcheck.specs.declared.role.Role.TheVariants.{Btree}
use Rattle.sqcheck.specs.Places.{Node, Role, trunk, free_leaf, link, node, Spot, used_in, page_as, HasKind, IsCellAt, StandsIn, stands_in}
use Rattle.sqcheck.specs.Roles.{IsRoleOf, HasRole}
use Rattle.sqcheck.specs.WellFormed.{IsReached, IsSound, IsSoundAs, IsSoundPage, WellFormedWith, numbers}
use Rattle.sqcheck.proofs.checks.ListsByRecursion.{in_map}
use Rattle.sqcheck.proofs.checks.PhasesOfCheck.{payload_there}
use Rattle.sqcheck.proofs.checks.RefutationOfWellFormedness.{kind_once}
use Rattle.sqdeep.specs.Inside.{IsOfTree}
use Rattle.sqdeep.specs.internal.Judging.{IsOfSoundTree, HasSoundTrees}

one_place : (ss : List Spot) (s t : Spot) → Apart (numbers ss) → In s ss → In t ss → s.page ≡ t.page → s ≡ t
one_place [] s t h i j e = absurd i
one_place (x ∷ ss) s t h (inl f) (inl g) e = f ∙ sym g
one_place (x ∷ ss) s t h (inl f) (inr j) e = absurd (every_in (λ y. x.page ≡ y → ⊥) t.page (numbers ss) h.0 (in_map (λ z. z.page) t ss j) (ap (λ (z : Spot). z.page) (sym f) ∙ e))
one_place (x ∷ ss) s t h (inr i) (inl g) e = absurd (every_in (λ y. x.page ≡ y → ⊥) s.page (numbers ss) h.0 (in_map (λ z. z.page) s ss i) (ap (λ (z : Spot). z.page) (sym g) ∙ sym e))
one_place (x ∷ ss) s t h (inr i) (inr j) e = one_place ss s t h.1 i j e

-- A page that has a role of a tree is named as one.
pub record IsNode (d : Database) (kind : Kind) (root p : ℕ) (role : Role) : Type 0 where
  pub x : Node
  pub is : role ≡ node x
  pub has : HasKind d kind p
  pub tree : root ≡ x.tree

pub by_node : (d : Database) (kind : Kind) (root p : ℕ) (role : Role) → IsRoleOf d p role (Btree kind root) → IsNode d kind root p role
by_node d kind root p trunk h = absurd (cc)
by_node d kind root p free_leaf h = absurd (cc)
by_node d kind root p (link owner needed) h = absurd (cc)
by_node d kind root p (node x) (k, has, e) = record {
  x = x;
  is = refl;
  has = (let same : kind ≡ k = cc in subst (λ z. HasKind d z p) (sym same) has);
  tree = (let same : root ≡ x.tree = cc in same);
}

all_long : (u : ℕ) (l : List (List ℕ)) (i : ℕ) → i < length l → Every (λ b. length b ≡ u) l → length (get_or l i []) ≡ u
all_long u [] i lt h = absurd (omega (arith, lt))
all_long u (b ∷ l) Rattle.std.proofs.Common.zero lt h = h.0
all_long u (b ∷ l) (Rattle.std.proofs.Common.suc i) lt h = all_long u l i (omega (arith, lt)) h.1

pub page_long : (d : Database) (u p : ℕ) → IsPage d p → Every (λ b. length b ≡ u) d → length (page d p) ≡ u
unfolding page
page_long d u p is h = all_long u d (p - 1) (omega (arith, is.0, is.1)) h

module _ (maps : Bool) (d : Database) (size : ℕ) (w : WellFormedWith maps d size) where
  sound : (s : Spot) → IsReached d s → IsSound d s
  sound s r = every_in (IsSound d) s w.places w.sound (w.all s r)

  -- One reached place names a page.
  pub same_spot : (s t : Spot) → IsReached d s → IsReached d t → s.page ≡ t.page → s ≡ t
  same_spot s t r q e = one_place w.places s t w.once.distinct (w.all s r) (w.all t q) e

  first_named : IsPage d 1
  first_named = (sound Rattle.sqcheck.specs.Places.first_root_spot (Rattle.sqcheck.specs.Places.first (inr refl))).named

  roomy : 480 ≤ usable_size d
  roomy = let long = page_long d size 1 first_named w.sized in let r = w.header.room in let n = w.header.page_size in omega (arith, long, r, n)

  used_long : (p : ℕ) → IsPage d p → 480 ≤ length (used_in d p)
  used_long p is =
      let long = page_long d size p is w.sized in
      let first = page_long d size 1 first_named w.sized in
      let le : usable_size d ≤ length (page d p) = omega (arith, long, first) in
      let e : length (used_in d p) ≡ usable_size d = length-take-le (usable_size d) (page d p) le in
      omega (arith, e, roomy)

  closed : (s t : Spot) → In s w.places → StandsIn d s t → In t w.places
  closed s t i h = w.all t (stands_in (every_in (IsReached d) s w.places w.reached i) (every_in (IsSound d) s w.places w.sound i) h)

  of_sound : (kind : Kind) (root p : ℕ) → IsOfTree d kind root p → IsOfSoundTree d kind root p
  of_sound kind root p (s, r, e, role) =
      let n = by_node d kind root p s.role role in
      let has : HasKind d kind s.page = subst (HasKind d kind) (sym e) n.has in
      let is = sound s r in
      let b : IsSoundPage d s.page n.x = (subst (IsSoundAs d s.page) n.is is.sound_as).page in
      let kind_is : b.kind ≡ kind = kind_once d b.kind kind s.page b.page_is.kind has in
      subst (λ q. IsOfSoundTree d kind root q) e (record {
        of_tree = (s, r, refl, subst (λ q. IsRoleOf d q s.role (Btree kind root)) (sym e) role);
        named = is.named;
        page_is = subst (λ k. IsBtreePage (page_as d k s.page)) kind_is b.page_is;
        laid_out = subst (λ k. Rattle.sqpage.specs.Layout.IsLaidOut (page_as d k s.page)) kind_is b.laid_out;
        payloads = payload_there d w.places w.sound closed w.once.distinct s n.x kind (w.all s r) n.is has (used_long s.page is.named);
      })

  one_tree : (kind other : Kind) (root tree p : ℕ) → IsOfTree d kind root p → IsOfTree d other tree p → (other ≡ kind) × (tree ≡ root)
  one_tree kind other root tree p (s, r, e, role) (t, q, f, also) =
      let n = by_node d kind root p s.role role in
      let m = by_node d other tree p t.role also in
      let same : s ≡ t = same_spot s t r q (e ∙ sym f) in
      let nodes : node n.x ≡ node m.x = sym n.is ∙ ap (λ (z : Spot). z.role) same ∙ m.is in
      let x : n.x ≡ m.x = cc in
      (kind_once d other kind p m.has n.has, m.tree ∙ sym (ap (λ (z : Node). z.tree) x) ∙ sym n.tree)

  lone : (kind : Kind) (root p : ℕ) (role : Use) → IsOfTree d kind root p → HasRole d p role → role ≡ Btree kind root
  lone kind root p role (s, r, e, of_tree) (t, q, f, also) =
      let n = by_node d kind root p s.role of_tree in
      let same : s ≡ t = same_spot s t r q (e ∙ sym f) in
      let named : IsRoleOf d p (node n.x) role = subst (λ z. IsRoleOf d p z role) (sym (ap (λ (z : Spot). z.role) same) ∙ n.is) also in
      named.2 ∙ ap (λ k. Btree k n.x.tree) (kind_once d named.0 kind p named.1 n.has) ∙ ap (Btree kind) (sym n.tree)

  pub sound_trees : HasSoundTrees d
  sound_trees = record {
    named = λ p role has. subst (IsPage d) has.2 (sound has.0 has.1).named;
    alone = lone;
    room = roomy;
    sound = of_sound;
    once = one_tree;
  }

-- A page of a tree is a page of a b-tree.
pub not_refused : (d : Database) (kind : Kind) (p : ℕ) (fault : Fault) → IsBtreePage (page_as d kind p) → PageRefused fault (used_in d p) p → ⊥
not_refused d kind p faults.Kind b h = h kind b.kind
not_refused d kind p faults.CellOutside b (other, code, h) = go (kind_once d other kind p code b.kind)
  where
    used : List ℕ
    used = used_in d p

    go : other ≡ kind → ⊥
    go same = elim (subst (λ k. (length used < pointers_end_in k used p) ⊎ (length used < content_start_in used p)
        ⊎ ((i : ℕ) × (i < cell_count_in used p) × ((pointer_in k used p i < content_start_in used p) ⊎ ¬ HasCell k used (pointer_in k used p i)))) same h) [
          | inl past ↦ (let within = b.pointers in omega (arith, past, within))
          | inr (inl past) ↦ (let within = b.start in omega (arith, past, within))
          | inr (inr (i, lt, inl less)) ↦ (let above = b.above i lt in omega (arith, less, above))
          | inr (inr (i, lt, inr none)) ↦ none (b.cells i lt)
        ]
not_refused d kind p _ b h = h

-- The page that was read is the one of the database.
pub page_same : (d : Database) (p : ℕ) (used : List ℕ) (b : Page) (kind : Kind) → used_in d p ≡ used → b.used ≡ used → b.number ≡ p → IsBtreePage b → IsBtreePage (page_as d kind p) → b ≡ page_as d kind p
page_same d p used b kind e u n is there =
    let same : b ≡ page_as d b.kind p = as_page d p used b e u n in
    same ∙ ap (λ k. page_as d k p) (kind_once d b.kind kind p (subst IsBtreePage same is).kind there.kind)
