-- The walk over the freelist.
use Rattle.std.proofs.Common.{◌≡◌, ◌≢◌, ℕ, suc, ◌+◌, ◌-◌, ◌<◌, ◌≤◌, List, [], ◌∷◌, ◌++◌, length, Bool, refl, sym, ap, subst, ◌∙◌, inl, inr, arith, append_assoc, append-nil}
use Rattle.sqval.specs.Database.{Database, page}
use Rattle.sqpage.specs.declared.fault.Fault.{Fault}
use Rattle.sqpage.specs.declared.fault.Fault.TheVariants as faults
use Rattle.sqpage.specs.Lists.{In, Every, Apart, each_from}
use Rattle.sqpage.specs.Freelist.{IsWithin, IsPage, first_trunk, free_pages, next_in, leaf_count_in, leaf_in, leaves_in, most_leaves, Leads, pages_under, Reaches, IsFreelist, NamesTrunk, Names, FreelistRefused}
use Rattle.sqpage.specs.internal.Taking.{AreTaken, TakeRefused, TrunkRefused}
use Rattle.sqpage.proofs.chain.ListsByRecursion.{in_right, every_in, every_append, apart_split, each_from_append}

pub reach_start : (d : Database) → Reaches d [] 1 (first_trunk d)
reach_start d = record { trunks = []; linked = (refl, refl); sound = record { few = tt; within = tt; distinct = tt }; taken_are = refl }

pub leads_snoc : (d : Database) (h a : ℕ) (ts : List ℕ) (at b : ℕ) → Leads d h a ts at b → IsPage d b → Leads d h a (ts ++ b ∷ []) b (next_in (page d b))
leads_snoc d h a [] at b l is = (l.1, is, (refl, refl))
leads_snoc d h a (t ∷ ts) at b l is = (l.0, l.1, leads_snoc d t (next_in (page d t)) ts at b l.2 is)

under_append : (d : Database) (ts us : List ℕ) → pages_under d (ts ++ us) ≡ pages_under d ts ++ pages_under d us
under_append d [] us = refl
under_append d (t ∷ ts) us = ap (λ l. t ∷ (leaves_in (page d t) ++ l)) (under_append d ts us) ∙ ap (λ l. t ∷ l) (sym (append_assoc (leaves_in (page d t)) (pages_under d ts) (pages_under d us)))

-- A trunk more.
pub reach_more : (d : Database) (taken after : List ℕ) (marks : List Bool) (holder p : ℕ) → Reaches d taken holder p → leaf_count_in (page d p) ≤ most_leaves d
    → after ≡ taken ++ p ∷ leaves_in (page d p) → AreTaken marks after → length marks ≡ length d → Reaches d after p (next_in (page d p))
reach_more d taken after marks holder p r few e a len =
    let under : pages_under d (r.trunks ++ p ∷ []) ≡ after =
    under_append d r.trunks (p ∷ []) ∙ ap (λ l. pages_under d r.trunks ++ p ∷ l) (append-nil (leaves_in (page d p))) ∙ ap (λ l. l ++ p ∷ leaves_in (page d p)) (sym r.taken_are) ∙ sym e in
    let within : Every (IsPage d) after = subst (λ n. Every (IsWithin n) after) len a.within in
    let is : IsPage d p = every_in (IsPage d) p after within (subst (In p) (sym e) (in_right p taken (p ∷ leaves_in (page d p)) (inl refl))) in
    record {
      trunks = r.trunks ++ p ∷ [];
      linked = leads_snoc d 1 (first_trunk d) r.trunks holder p r.linked is;
      sound = record {
        few = every_append (λ t. leaf_count_in (page d t) ≤ most_leaves d) r.trunks (p ∷ []) r.sound.few (few, tt);
        within = subst (Every (IsPage d)) (sym under) within;
        distinct = subst Apart (sym under) a.distinct;
      };
      taken_are = sym under;
    }

-- What stands where a trunk is refused.
pub freelist_refused : (d : Database) (taken : List ℕ) (holder p : ℕ) (fault : Fault) (at : ℕ) → Reaches d taken holder p → p ≢ 0
    → TrunkRefused d taken holder p fault at → FreelistRefused d fault at
freelist_refused d taken holder p fault at r nonzero (inl t) = go fault t
  where
    go : (fault : Fault) → TakeRefused (length d) taken holder p fault at → FreelistRefused d fault at
    go faults.PageTwice t = subst (FreelistRefused d faults.PageTwice) (sym t.0) (taken, holder, inl (r, nonzero), t.1, t.2)
    go faults.PageOutside t = subst (FreelistRefused d faults.PageOutside) (sym t.0) (taken, p, inl (r, nonzero), t.1)
    go faults.NoMemory t = tt
    go _ t = absurd t
freelist_refused d taken holder p fault at r nonzero (inr (inl t)) =
    subst (λ f. FreelistRefused d f at) (sym t.0) (subst (FreelistRefused d faults.FreeCount) (sym t.1) (inl (taken, holder, (r, nonzero), t.2, t.3, t.4)))
freelist_refused d taken holder p fault at r nonzero (inr (inr t)) = go fault t.2.refused
  where
    i : ℕ
    i = t.2.index

    named : Names d ((taken ++ p ∷ []) ++ each_from 0 i (leaf_in (page d p))) p (leaf_in (page d p) i)
    named = inr (record {
      before = taken;
      above = holder;
      trunk = (r, nonzero);
      few = t.1;
      index = i;
      below = t.2.below;
      is = refl;
      taken_are = append_assoc taken (p ∷ []) (each_from 0 i (leaf_in (page d p)));
      within = t.2.within;
      distinct = t.2.distinct;
    })

    go : (fault : Fault) → TakeRefused (length d) ((taken ++ p ∷ []) ++ each_from 0 i (leaf_in (page d p))) p (leaf_in (page d p) i) fault at → FreelistRefused d fault at
    go faults.PageTwice u = subst (FreelistRefused d faults.PageTwice) (sym u.0) (_, p, named, u.1, u.2)
    go faults.PageOutside u = subst (FreelistRefused d faults.PageOutside) (sym u.0) (_, _, named, u.1)
    go faults.NoMemory u = tt
    go _ u = absurd u

-- The trunks of the walk are the first ones of the whole list.
pub record Rest (d : Database) (ts us : List ℕ) (at b last : ℕ) : Type 0 where
  pub rest : List ℕ
  pub joined : us ≡ ts ++ rest
  pub leads : Leads d at b rest last 0

pub leads_on : (d : Database) (h a : ℕ) (ts : List ℕ) (at b : ℕ) (us : List ℕ) (last : ℕ) → Leads d h a ts at b → Leads d h a us last 0 → Rest d ts us at b last
leads_on d h a [] at b us last l m = record { rest = us; joined = refl; leads = subst (λ h. Leads d h b us last 0) l.0 (subst (λ a. Leads d h a us last 0) l.1 m) }
leads_on d h a (t ∷ ts) at b [] last l m = let e : a ≡ t = l.0 in let z : a ≡ 0 = m.1 in let pos : 0 < t = l.1.0 in absurd (omega arith)
leads_on d h a (t ∷ ts) at b (u ∷ us) last l m =
    let e : u ≡ t = sym m.0 ∙ l.0 in
    let r = leads_on d t (next_in (page d t)) ts at b us last l.2 (subst (λ u. Leads d u (next_in (page d u)) us last 0) e m.2) in
    record { rest = r.rest; joined = ap (λ u. u ∷ us) e ∙ ap (λ l. t ∷ l) r.joined; leads = r.leads }

-- A number that is named as a trunk is the next trunk of the list.
record Later (d : Database) (ts us : List ℕ) (b : ℕ) : Type 0 where
  pub rest : List ℕ
  pub joined : us ≡ ts ++ b ∷ rest

later : (d : Database) (ts us : List ℕ) (at b last : ℕ) → b ≢ 0 → Rest d ts us at b last → Later d ts us b
later d ts us at b last nonzero r = go r.rest r.leads r.joined
  where
    go : (rest : List ℕ) → Leads d at b rest last 0 → us ≡ ts ++ rest → Later d ts us b
    go [] l e = absurd (nonzero l.1)
    go (x ∷ rest) l e = record { rest = rest; joined = e ∙ ap (λ x. ts ++ x ∷ rest) (sym l.0) }

trunk_later : (d : Database) (taken : List ℕ) (holder p : ℕ) (pages : List ℕ) → NamesTrunk d taken holder p → (f : IsFreelist d pages) → (r : Reaches d taken holder p) × Later d r.trunks f.1.trunks p
trunk_later d taken holder p pages n f = (n.0, later d n.0.trunks f.1.trunks holder p f.0 n.1 (leads_on d 1 (first_trunk d) n.0.trunks holder p f.1.trunks f.0 n.0.linked f.1.linked))

record Ahead (taken pages : List ℕ) (p : ℕ) : Type 0 where
  pub rest : List ℕ
  pub joined : pages ≡ taken ++ p ∷ rest

trunk_ahead : (d : Database) (taken : List ℕ) (holder p : ℕ) (pages : List ℕ) → NamesTrunk d taken holder p → IsFreelist d pages → (more : List ℕ) × (pages ≡ taken ++ p ∷ (leaves_in (page d p) ++ more))
trunk_ahead d taken holder p pages n f =
    let l = trunk_later d taken holder p pages n f in
    (pages_under d l.1.rest, f.1.taken_are ∙ ap (pages_under d) l.1.joined ∙ under_append d l.0.trunks (p ∷ l.1.rest) ∙ ap (λ z. z ++ p ∷ (leaves_in (page d p) ++ pages_under d l.1.rest)) (sym l.0.taken_are))

ahead : (d : Database) (taken : List ℕ) (holder p : ℕ) (pages : List ℕ) → Names d taken holder p → IsFreelist d pages → Ahead taken pages p
ahead d taken holder p pages (inl n) f = let a = trunk_ahead d taken holder p pages n f in record { rest = leaves_in (page d p) ++ a.0; joined = a.1 }
ahead d taken holder p pages (inr n) f =
    let a = trunk_ahead d n.before n.above holder pages n.trunk f in
    let g = leaf_in (page d holder) in
    let c = leaf_count_in (page d holder) in
    let i = n.index in
    let lt : i < c = n.below in
    let m = c - i - 1 in
    let count : c ≡ i + suc m = omega arith in
    let at : 0 + i ≡ i = omega arith in
    let front = each_from 0 i g in
    let tail = each_from (suc i) m g in
    let split : each_from 0 c g ≡ front ++ p ∷ tail =
    ap (λ c. each_from 0 c g) count ∙ each_from_append i (suc m) 0 g ∙ ap (λ j. front ++ g j ∷ each_from (suc j) m g) at ∙ ap (λ q. front ++ q ∷ tail) (sym n.is) in
    record {
      rest = tail ++ a.0;
      joined =
          a.1 ∙ ap (λ l. n.before ++ holder ∷ (l ++ a.0)) split ∙ ap (λ l. n.before ++ holder ∷ l) (append_assoc front (p ∷ tail) a.0)
          ∙ sym (append_assoc n.before (holder ∷ front) (p ∷ (tail ++ a.0))) ∙ ap (λ l. l ++ p ∷ (tail ++ a.0)) (sym n.taken_are);
    }

-- There is one list at most.
same_freelist : (d : Database) (ps qs : List ℕ) → IsFreelist d ps → IsFreelist d qs → ps ≡ qs
same_freelist d ps qs f g =
    let r = leads_on d 1 (first_trunk d) f.1.trunks f.0 0 g.1.trunks g.0 f.1.linked g.1.linked in
    f.1.taken_are ∙ ap (pages_under d) (go r.rest r.leads r.joined) ∙ sym g.1.taken_are
  where
    go : (rest : List ℕ) → Leads d f.0 0 rest g.0 0 → g.1.trunks ≡ f.1.trunks ++ rest → f.1.trunks ≡ g.1.trunks
    go [] l e = sym (e ∙ append-nil f.1.trunks)
    go (x ∷ rest) l e = let z : 0 ≡ x = l.0 in let pos : 0 < x = l.1.0 in absurd (omega arith)

-- Where a fault stands, no list of pages is the freelist with the header's count.
pub no_freelist : (d : Database) (fault : Fault) (at : ℕ) → FreelistRefused d fault at → fault ≢ faults.NoMemory → (pages : List ℕ) → IsFreelist d pages → length pages ≢ free_pages d
no_freelist d fault at stands other pages f count = go fault stands other
  where
    apart : Apart pages
    apart = subst Apart (sym f.1.taken_are) f.1.sound.distinct

    within : Every (IsPage d) pages
    within = subst (Every (IsPage d)) (sym f.1.taken_are) f.1.sound.within

    go : (fault : Fault) → FreelistRefused d fault at → fault ≢ faults.NoMemory → ⊥
    go faults.PageTwice h other =
        let a = ahead d h.0 h.1 at pages h.2 f in
        apart_split h.0 a.rest at (subst Apart a.joined apart) h.4
    go faults.PageOutside h other =
        let a = ahead d h.0 at h.1 pages h.2 f in
        h.3 (every_in (IsPage d) h.1 (h.0 ++ h.1 ∷ a.rest) (subst (Every (IsPage d)) a.joined within) (in_right h.1 h.0 (h.1 ∷ a.rest) (inl refl)))
    go faults.FreeCount (inl h) other =
        let l = trunk_later d h.0 h.1 at pages h.2 f in
        let few : leaf_count_in (page d at) ≤ most_leaves d =
        every_in (λ t. leaf_count_in (page d t) ≤ most_leaves d) at (l.0.trunks ++ at ∷ l.1.rest) (subst (Every (λ t. leaf_count_in (page d t) ≤ most_leaves d)) l.1.joined f.1.sound.few) (in_right at l.0.trunks (at ∷ l.1.rest) (inl refl)) in
        absurd (omega (arith, few, h.5))
    go faults.FreeCount (inr h) other = h.3 (ap length (same_freelist d h.1 pages h.2 f) ∙ count)
    go faults.NoMemory h other = other refl
    go _ h other = h

-- A trunk more, where the source's pages are known by another name.
pub walked_on : (d e : Database) (new : List Bool) (taken after : List ℕ) (holder p next : ℕ) → e ≡ d → Reaches d taken holder p
    → (next ≡ next_in (page e p)) × (leaf_count_in (page e p) ≤ most_leaves e) × (after ≡ taken ++ p ∷ leaves_in (page e p)) → AreTaken new after → length new ≡ length d → Reaches d after p next
walked_on d e new taken after holder p next same r t are len =
    subst (Reaches d after p) (sym (t.0 ∙ ap (λ d. next_in (page d p)) same))
    (reach_more d taken after new holder p r (subst (λ d. leaf_count_in (page d p) ≤ most_leaves d) same t.1) (t.2 ∙ ap (λ d. taken ++ p ∷ leaves_in (page d p)) same) are len)

pub refused_at : (d e : Database) (taken : List ℕ) (holder p : ℕ) (fault : Fault) (at : ℕ) → e ≡ d → Reaches d taken holder p → p ≢ 0 → TrunkRefused e taken holder p fault at → FreelistRefused d fault at
refused_at d e taken holder p fault at same r nonzero t = freelist_refused d taken holder p fault at r nonzero (subst (λ d. TrunkRefused d taken holder p fault at) same t)

-- The freelist of no pages.
pub no_pages : (d : Database) (pages : List ℕ) → length d ≡ 0 → pages ≡ [] → IsFreelist d pages × (length pages ≡ free_pages d)
unfolding page
no_pages [] pages e none = ((1, record { trunks = []; linked = (refl, refl); sound = record { few = tt; within = tt; distinct = tt }; taken_are = none }), ap length none)
no_pages (x ∷ d) pages e none = absurd (omega arith)
