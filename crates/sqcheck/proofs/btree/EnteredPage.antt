-- A page of a tree is entered.
use Rattle.sqcheck.proofs.Between.{Database, FirstLeaf, HasKind, InCell, InNode, IsBelow, IsSoundNode, IsSoundPage, Item, Judged, Kind, Knows, KnowsAt, List, Node, None, Option, Pushes, PutsAside, Some, Spot, TopLeads, Tree, [], ap, child, down, either, false, first_child, here, inl, inr, is_interior, kind_once, node, overflow, page_as, push_both, reverse, subst, suc, sym, true, ℕ, ⊎_elim, ◌++◌, ◌∙◌, ◌∷◌, ◌≡◌, ◌≢◌, ◌≤◌, ◌⊎◌}

-- What was put aside, as the code says it.
abbrev pub Aside : Tree → Kind → (p : ℕ) → (old new : List ℕ) → Type 0
Aside tree kind p old new = ((tree.schema ≡ true) × (is_interior kind ≡ false) × (new ≡ old ++ p ∷ [])) ⊎ (((tree.schema ≡ true) → is_interior kind ≢ false) × (new ≡ old))

module _ (d : Database) (tree : Tree) (p : ℕ) (kind : Kind) (x : Node) (old_level new_level : Option ℕ) (j : Judged (page_as d kind p) x old_level new_level) where
  pub entered_page : x.level ≤ 20 → IsSoundPage d p x
  entered_page shallow = record { kind = kind; page_is = j.page_is; same = j.same; laid_out = j.laid_out; keys = j.keys; shallow = shallow }

  has : HasKind d kind p
  has = j.page_is.kind

  pub entered_pushes : (old mid new : List Item) → Pushes tree (IsBelow (page_as d kind p) x) old mid → Pushes tree (InCell (page_as d kind p)) mid new → Pushes tree (InNode d p x) old new
  entered_pushes old mid new a b =
      push_both tree (IsBelow (page_as d kind p) x) (InCell (page_as d kind p)) (InNode d p x) old mid new a b
      (λ t h. (kind, has, inr (h.0, h.1))) (λ t h. (kind, has, inl h)) which differ
    where
      which : (t : Spot) → InNode d p x t → IsBelow (page_as d kind p) x t ⊎ InCell (page_as d kind p) t
      which t h =
          let same = kind_once d h.0 kind p h.1 has in
          ⊎_elim (λ c. inr (subst (λ m. InCell (page_as d m p) t) same c)) (λ c. inl (subst (λ m. IsBelow (page_as d m p) x t) same c)) h.2

      differ : (s t : Spot) → InCell (page_as d kind p) s → IsBelow (page_as d kind p) x t → s.place ≢ t.place
      differ s t c (int, inl l) e = let both : overflow p c.0 ≡ child p l.0 = sym (ap (λ (z : Spot). z.place) c.4) ∙ e ∙ ap (λ (z : Spot). z.place) l.5 in cc
      differ s t c (int, inr r) e = let both : overflow p c.0 ≡ child p _ = sym (ap (λ (z : Spot). z.place) c.4) ∙ e ∙ ap (λ (z : Spot). z.place) r.2 in cc

  pub entered_aside : (old new : List ℕ) → x.schema ≡ tree.schema → Aside tree kind p old new → PutsAside d p (node x) old new
  entered_aside old new schema (inl h) = inl ((schema ∙ h.0, kind, has, h.1), h.2)
  entered_aside old new schema (inr h) = inr ((λ leaf. h.0 (sym schema ∙ leaf.0) (ap is_interior (kind_once d kind leaf.1 p has leaf.2) ∙ leaf.3)), h.1)

module _ (d : Database) (tree : Tree) (p : ℕ) (kind : Kind) (x : Node) (old_level new_level : Option ℕ) (j : Judged (page_as d kind p) x old_level new_level) (of_tree : x.tree ≡ tree.root) (k : KnowsAt d tree.root old_level p x.level) where
  even : is_interior kind ≡ false → FirstLeaf d x.tree 1 x.level
  even leaf = subst (λ r. FirstLeaf d r 1 x.level) (sym of_tree) (⊎_elim (λ none. k.leads none x.level (here kind j.page_is.kind leaf)) (λ some. k.level_of x.level some) (j.leaf leaf).1)

  pub entered_sound : x.level ≤ 20 → IsSoundNode d p x
  entered_sound shallow = record { page = record { kind = kind; page_is = j.page_is; same = j.same; laid_out = j.laid_out; keys = j.keys; shallow = shallow }; even = even }

  pub entered_knows : (mid new : List Item) → (is_interior kind ≡ true → ((on : ℕ) → FirstLeaf d (first_child (page_as d kind p)) (suc x.level) on → FirstLeaf d tree.root 1 on) → TopLeads d tree.root (reverse mid))
      → (TopLeads d tree.root (reverse mid) → TopLeads d tree.root (reverse new)) → Knows d tree.root new_level (reverse new)
  entered_knows mid new below chains = elim (either (is_interior kind)) [
    | inl int ↦
        let same : new_level ≡ old_level = j.interior int in
        record {
          level = λ on e. k.level_of on (sym same ∙ e);
          leads = λ none. chains (below int (λ on f. k.leads (sym same ∙ none) on (down kind j.page_is.kind int f)));
        }
    | inr leaf ↦
        let is : new_level ≡ Some x.level = (j.leaf leaf).0 in
        record {
          level = λ on e. (let both : ◌≡◌ {A = Option ℕ} (Some x.level) (Some on) = sym is ∙ e in let level : x.level ≡ on = cc in subst (λ n. FirstLeaf d tree.root 1 n) level (subst (λ r. FirstLeaf d r 1 x.level) of_tree (even leaf)));
          leads = λ none. absurd (let both : ◌≡◌ {A = Option ℕ} (Some x.level) None = sym is ∙ none in cc);
        }
  ]
