-- Where the condition of a fault holds the database isn't well formed.
use Rattle.sqcheck.proofs.Below.{Apart, AreFreePlaces, AsBtreePage, Bool, Database, Every, Fault, FirstLeaf, HasKind, HasSoundRows, In, IndexInterior, IndexLeaf, IsAutoVacuum, IsBtreePage, IsLaidOut, IsPage, IsPageSize, IsReached, IsSetAside, IsSound, IsSoundAs, IsSoundNode, IsSoundPage, IsWithin, Kind, LayoutRefused, List, Node, Spot, StandsBy, StandsWith, TableInterior, TableLeaf, WellFormedWith, [], ap, arith, code_of, count_by, down, every_in, false, first_child, from_map, here, in_map, inl, inr, is_free, is_interior, is_link, is_of_header, length, no_more, node, not_laid_out, numbers, page, page_as, passing, refl, subst, suc, sym, true, ℕ, ⊎_elim, ◌∙◌, ◌∷◌, ◌≡◌, ◌≢◌, ◌≤◌, ◌⊎◌}
use Rattle.sqpage.specs.declared.fault.Fault.TheVariants as faults

-- a type byte is one kind's
pub code_once : (j k : Kind) → code_of j ≡ code_of k → j ≡ k
code_once TableLeaf TableLeaf e = refl
code_once TableLeaf TableInterior e = absurd (omega (arith, e))
code_once TableLeaf IndexLeaf e = absurd (omega (arith, e))
code_once TableLeaf IndexInterior e = absurd (omega (arith, e))
code_once TableInterior TableLeaf e = absurd (omega (arith, e))
code_once TableInterior TableInterior e = refl
code_once TableInterior IndexLeaf e = absurd (omega (arith, e))
code_once TableInterior IndexInterior e = absurd (omega (arith, e))
code_once IndexLeaf TableLeaf e = absurd (omega (arith, e))
code_once IndexLeaf TableInterior e = absurd (omega (arith, e))
code_once IndexLeaf IndexLeaf e = refl
code_once IndexLeaf IndexInterior e = absurd (omega (arith, e))
code_once IndexInterior TableLeaf e = absurd (omega (arith, e))
code_once IndexInterior TableInterior e = absurd (omega (arith, e))
code_once IndexInterior IndexLeaf e = absurd (omega (arith, e))
code_once IndexInterior IndexInterior e = refl

pub kind_once : (d : Database) (j k : Kind) (p : ℕ) → HasKind d j p → HasKind d k p → j ≡ k
kind_once d j k p h i = code_once j k (sym h ∙ i)

-- the first leaf is on one level
pub first_leaf_once : (d : Database) {p level on also : ℕ} → FirstLeaf d p level on → FirstLeaf d p level also → on ≡ also
first_leaf_once d (here j h e) (here k i f) = refl
first_leaf_once d {p = p} (here j h e) (down k i f r) = let same = kind_once d j k p h i in let both : false ≡ true = sym e ∙ ap is_interior same ∙ f in absurd (cc)
first_leaf_once d {p = p} (down j h e q) (here k i f) = let same = kind_once d j k p h i in let both : true ≡ false = sym e ∙ ap is_interior same ∙ f in absurd (cc)
first_leaf_once d {p = p} {level = level} {also = also} (down j h e q) (down k i f r) =
    let same = kind_once d k j p i h in
    first_leaf_once d q (subst (λ k. FirstLeaf d (first_child (page_as d k p)) (suc level) also) same r)

module _ (maps : Bool) (d : Database) (size : ℕ) (w : WellFormedWith maps d size) where
  sound : (s : Spot) → IsReached d s → IsSound d s
  sound s r = every_in (IsSound d) s w.places w.sound (w.all s r)

  -- a reached page of a tree is sound
  whole_node : (p : ℕ) (s : Spot) (x : Node) → IsReached d s → s.page ≡ p → s.role ≡ node x → IsSoundNode d p x
  whole_node p s x r e role = subst (λ q. IsSoundNode d q x) e (subst (IsSoundAs d s.page) role (sound s r).sound_as)

  on_node : (p : ℕ) (s : Spot) (x : Node) → IsReached d s → s.page ≡ p → s.role ≡ node x → IsSoundPage d p x
  on_node p s x r e role = (whole_node p s x r e role).page

  -- of the kind that its page has
  on_kind : (p : ℕ) (s : Spot) (x : Node) (kind : Kind) → IsReached d s → s.page ≡ p → s.role ≡ node x → HasKind d kind p → (n : IsSoundPage d p x) × (n.kind ≡ kind)
  on_kind p s x kind r e role h = let n = on_node p s x r e role in (n, kind_once d n.kind kind p n.page_is.kind h)

  refused_layout : (fault : Fault) (p : ℕ) (s : Spot) (x : Node) → IsReached d s → s.page ≡ p → s.role ≡ node x → fault ≢ faults.NoMemory → AsBtreePage d p (λ kind b. LayoutRefused fault b) → ⊥
  refused_layout fault p s x r e role other (kind, b, refused) =
      let n = on_kind p s x kind r e role b.kind in
      not_laid_out (page_as d kind p) fault refused other (subst (λ k. IsLaidOut (page_as d k p)) n.1 n.0.laid_out)

  -- a place stands in the list once at most
  apart_spots : (ss : List Spot) → Apart (numbers ss) → Apart ss
  apart_spots [] h = tt
  apart_spots (s ∷ ss) h = (go ss h.0, apart_spots ss h.1)
    where
      go : (ts : List Spot) → Every (λ y. s.page ≡ y → ⊥) (numbers ts) → Every (λ y. s ≡ y → ⊥) ts
      go [] h = tt
      go (t ∷ ts) h = ((λ e. h.0 (ap (λ (z : Spot). z.page) e)), go ts h.1)

  one_page : (ss : List Spot) (s t : Spot) → Apart (numbers ss) → In s ss → In t ss → s.page ≡ t.page → s ≡ t
  one_page [] s t h i j e = absurd i
  one_page (x ∷ ss) s t h (inl f) (inl g) e = f ∙ sym g
  one_page (x ∷ ss) s t h (inl f) (inr j) e = absurd (every_in (λ y. x.page ≡ y → ⊥) t.page (numbers ss) h.0 (in_map (λ z. z.page) t ss j) (ap (λ (z : Spot). z.page) (sym f) ∙ e))
  one_page (x ∷ ss) s t h (inr i) (inl g) e = absurd (every_in (λ y. x.page ≡ y → ⊥) s.page (numbers ss) h.0 (in_map (λ z. z.page) s ss i) (ap (λ (z : Spot). z.page) (sym g) ∙ sym e))
  one_page (x ∷ ss) s t h (inr i) (inr j) e = one_page ss s t h.1 i j e

  counted : (free : List Spot) → AreFreePlaces (IsReached d) (IsSound d) free → length free ≡ count_by (λ s. is_free s.role) w.places
  counted free a =
      let r = passing (λ (s : Spot). is_free s.role) w.places (apart_spots w.places w.once.distinct) in
      let more = no_more free r.0 a.distinct (λ s i. let h = every_in (λ s. IsReached d s × (is_free s.role ≡ true)) s free a.reached i in r.4 s (w.all s h.0) h.1) in
      let less = no_more r.0 free r.1 (λ s i. a.all s (every_in (IsReached d) s w.places w.reached (r.3 s i).0) (r.3 s i).1) in
      omega (arith, more, less, r.2)

  -- the condition of no fault holds
  none_by : (fault : Fault) (p : ℕ) → StandsBy (IsReached d) (IsSound d) maps d size fault p → (IsAutoVacuum d → (maps ≡ true) ⊎ (is_of_header fault ≡ true)) → fault ≢ faults.NoMemory → ⊥
  none_by faults.Magic p h asked other = h.1 w.header.magic
  none_by faults.PageSize p (e, inl never) asked other = never (subst IsPageSize (sym w.header.page_size) w.size_is)
  none_by faults.PageSize p (e, inr ne) asked other = ne w.header.page_size
  none_by faults.Fraction p h asked other = h.1 w.header.fractions
  none_by faults.Reserved p h asked other = h.1 w.header.room
  none_by faults.AutoVacuum p h asked other = h.2 (w.header.plain h.1)
  none_by faults.Kind p (s, x, r, e, is, role, never) asked other = let n = on_node p s x r e role in never n.kind n.page_is.kind n.same
  none_by faults.CellOutside p (s, x, r, e, is, role, (kind, h, never)) asked other = let n = on_kind p s x kind r e role h in never (subst (λ k. IsBtreePage (page_as d k p)) n.1 n.0.page_is)
  none_by faults.Overlap p (s, x, r, e, is, role, h) asked other = refused_layout faults.Overlap p s x r e role (λ e. cc) h
  none_by faults.Freeblock p (s, x, r, e, is, role, h) asked other = refused_layout faults.Freeblock p s x r e role (λ e. cc) h
  none_by faults.Fragments p (s, x, r, e, is, role, h) asked other = refused_layout faults.Fragments p s x r e role (λ e. cc) h
  none_by faults.ChainCut p (s, owner, needed, r, role, at, inl zero') asked other = let n = (sound s r).named.0 in absurd (omega (arith, n, zero'))
  none_by faults.ChainCut p (s, owner, needed, r, role, at, inr (i, in_cell, more)) asked other = let few = (subst (IsSoundAs d s.page) role (sound s r).sound_as).0 in absurd (omega (arith, few, more))
  none_by faults.ChainLong p (s, owner, r, e, is, role, further) asked other = further (subst (λ q. Rattle.sqpage.specs.Freelist.next_in (page d q) ≡ 0) e ((subst (IsSoundAs d s.page) role (sound s r).sound_as).1 refl))
  none_by faults.PageTwice p (is, inr (aside, s, r, e)) asked other =
      (every_in (λ q. IsWithin (length d) q × ¬ IsSetAside d size q) s.page (numbers w.places) w.once.within (in_map (λ z. z.page) s w.places (w.all s r))).1 (subst (IsSetAside d size) (sym e) (⊎_elim (λ lock. inl lock) (λ map. inr (map.1, map.2)) aside))
  none_by faults.PageTwice p (is, inl (s, t, r, q, differ, e, f)) asked other = differ (ap (λ (z : Spot). z.place) (one_page w.places s t w.once.distinct (w.all s r) (w.all t q) (e ∙ sym f)))
  none_by faults.PageOutside p (s, r, at, never, link_zero) asked other = never (sound s r).named
  none_by faults.PageUnused p (is, off, never) asked other =
      let v = from_map (λ x. x.page) p w.places (w.once.each p is (λ aside. off (⊎_elim (λ lock. inl lock) (λ map. inr (⊎_elim (λ yes. yes) (λ no. absurd (cc)) (asked map.0), map.0, map.1)) aside))) in
      (never v.0 (every_in (IsReached d) v.0 w.places w.reached v.1)).1 (sym v.2)
  none_by faults.KeyOrder p (s, x, r, e, is, role, (kind, b, (i, cell, before, has, key, never))) asked other =
      let n = on_kind p s x kind r e role b.kind in
      never (subst (λ k. Rattle.sqcheck.specs.WellFormed.KeysRise (page_as d k p) x) n.1 n.0.keys i cell before has key)
  none_by faults.Depth p (s, x, r, e, is, role, inl deep) asked other = let n = on_node p s x r e role in absurd (omega (arith, deep, n.shallow))
  none_by faults.Depth p (s, x, r, e, is, role, inr (kind, h, leaf, on, f, ne)) asked other =
      let n = whole_node p s x r e role in
      ne (first_leaf_once d (n.even (ap is_interior (kind_once d n.page.kind kind p n.page.page_is.kind h) ∙ leaf)) f)
  none_by faults.FreeCount p (inl (s, r, e, is, role, more)) asked other = let few = subst (λ q. Rattle.sqpage.specs.Freelist.leaf_count_in (page d q) ≤ Rattle.sqpage.specs.Freelist.most_leaves d) e (subst (IsSoundAs d s.page) role (sound s r).sound_as) in absurd (omega (arith, few, more))
  none_by faults.FreeCount p (inr (e, free, a, ne)) asked other = ne (counted free a ∙ w.free)
  none_by faults.SchemaRecord p (s, x, r, e, is, role, (schema, (kind, b, (leaf, i, bytes, row, never)))) asked other =
      let rows = every_in (λ s. HasSoundRows d s.page s.role) s w.places w.rows (w.all s r) in
      let of_x = subst (λ q. HasSoundRows d q (node x)) e (subst (HasSoundRows d s.page) role rows) in
      let it = of_x schema kind b.kind leaf i bytes row in
      never it.0 it.1
  none_by faults.PointerMap p (only, inl (auto, inl (s, entry, r, at, e, wrong))) asked other = wrong ((w.mapped auto).entries s r entry at)
  none_by faults.PointerMap p (only, inl (auto, inr (e, known, none))) asked other = none (w.mapped auto).largest
  none_by faults.PointerMap p (only, inr (e, incremental, plain)) asked other = plain (w.header.incremental only incremental)
  none_by faults.Source p h asked other = h
  none_by faults.NoMemory p h asked other = other refl

  pub none_stands : (fault : Fault) (p : ℕ) → StandsWith maps d size fault p → fault ≢ faults.NoMemory → ⊥
  none_stands fault p h other = none_by fault p h.stands h.judged other
