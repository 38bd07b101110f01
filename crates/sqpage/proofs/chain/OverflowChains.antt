-- Overflow chains.
use Rattle.std.proofs.Common.{◌≡◌, ◌≢◌, ℕ, zero, suc, ◌+◌, ◌-◌, ◌<◌, ◌≤◌, ◌⊎◌, List, [], ◌∷◌, ◌++◌, length, take, drop, set, Bool, true, false, not, count_by, replicate, refl, sym, ap, subst, ◌∙◌, inl, inr, arith, append_assoc, append-nil, length-append, length-set, ⊎_elim, min, ◌^◌}
use Rattle.std.proofs.lemmas.Bool.{cases_lt}
use Rattle.std.proofs.lemmas.List.Sums.{count_by-le-length}
use Rattle.std.proofs.Math.Seq.{take-append-add}
use Rattle.sqval.specs.Database.{Database, page}
use Rattle.sqpage.specs.declared.cell.Cell.{Cell}
use Rattle.sqpage.specs.declared.fault.Fault.{Fault}
use Rattle.sqpage.specs.declared.fault.Fault.TheVariants as faults
use Rattle.sqpage.specs.Lists.{In, Every, Apart}
use Rattle.sqpage.specs.Freelist.{IsWithin, IsPage, Leads, next_in}
use Rattle.sqpage.specs.Chain.{links, contents, Follows, IsPayload, ChainBroken, ChainRefused}
use Rattle.sqpage.specs.internal.Taking.{is_marked, Marks, AreTaken, TakeRefused, LinkRefused, GoesOn, ChainStops}
use Rattle.sqpage.proofs.chain.ListsByRecursion.{apart_split, every_from_in}
use Rattle.sqpage.proofs.chain.TakenPages.{takes, fewer_unmarked, none_taken}
use Rattle.sqpage.proofs.chain.WalkOverFreelist.{leads_on, leads_snoc}

either : (b : Bool) → (b ≡ true) ⊎ (b ≡ false)
either true = inl refl
either false = inr refl

-- Pages within a count, none twice, are at most so many.
pigeon : (us ps : List ℕ) (marks : List Bool) → AreTaken marks ps → Apart (ps ++ us) → Every (IsWithin (length marks)) us → length us ≤ count_by not marks
pigeon [] ps marks a h w = omega arith
pigeon (p ∷ us) ps marks a h w =
    let new = set marks (p - 1) true in
    let len : length new ≡ length marks = length-set marks (p - 1) true in
    ⊎_elim (λ e. absurd (apart_split ps us p h (a.only p w.0 e)))
    (λ e.
    let m : Marks marks new p = record { above = w.0.0; within = w.0.1; was = e; now_marked = refl } in
    let rest = pigeon us (ps ++ p ∷ []) new (takes marks new ps p a m) (subst Apart (sym (append_assoc ps (p ∷ []) us)) h) (subst (λ n. Every (IsWithin n) us) (sym len) w.1) in
    omega (arith, rest, fewer_unmarked marks new p m))
    (either (is_marked marks p))

length-replicate_itself : (n : ℕ) → length (replicate n false) ≡ n
length-replicate_itself zero = refl
length-replicate_itself (suc n) = ap suc (length-replicate_itself n)

pages_lead : (d : Database) (h a : ℕ) (ts : List ℕ) (at b : ℕ) → Leads d h a ts at b → Every (IsPage d) ts
pages_lead d h a [] at b l = tt
pages_lead d h a (t ∷ ts) at b l = (l.1, pages_lead d t (next_in (page d t)) ts at b l.2)

pub at_most_all : (d : Database) (h a : ℕ) (us : List ℕ) (at b : ℕ) → Leads d h a us at b → Apart us → length us ≤ length d
at_most_all d h a us at b l apart =
    let n = length d in
    let marks = replicate n false in
    let w : Every (IsWithin (length marks)) us = subst (λ n. Every (IsWithin n) us) (sym (length-replicate_itself n)) (pages_lead d h a us at b l) in
    omega (arith, pigeon us [] marks (none_taken n marks refl) apart w, count_by-le-length not marks, length-replicate_itself n)

-- What comes next, in a chain that is longer.
next_is : (d : Database) (cell : Cell) (pages : List ℕ) (at p : ℕ) (content : List ℕ) → Follows d cell pages at p → (f : IsPayload d cell content) → length pages < links cell
    → (rest : List ℕ) × (f.pages ≡ pages ++ p ∷ rest) × IsPage d p
next_is d cell pages at p content f is lt =
    let r = leads_on d cell.page cell.overflow pages at p is.pages is.last f.linked is.follows.linked in
    go r.rest r.joined r.leads
  where
    go : (rest : List ℕ) → is.pages ≡ pages ++ rest → Leads d at p rest is.last 0 → (rest : List ℕ) × (is.pages ≡ pages ++ p ∷ rest) × IsPage d p
    go [] e l = let same : length is.pages ≡ length pages = ap length (e ∙ append-nil pages) in absurd (omega (arith, same, is.enough))
    go (x ∷ rest) e l = let q : x ≡ p = sym l.0 in (rest, e ∙ ap (λ x. pages ++ x ∷ rest) q, subst (IsPage d) q l.1)

-- Where a fault stands there is no payload.
no_payload : (d : Database) (cell : Cell) (fault : Fault) (at : ℕ) → ChainRefused d cell fault at → fault ≢ faults.NoMemory → (content : List ℕ) → IsPayload d cell content → ⊥
no_payload d cell fault at (inl h) other content is = let most = at_most_all d cell.page cell.overflow is.pages is.last 0 is.follows.linked is.follows.distinct in let few = h.2 in absurd (omega (arith, most, is.enough, few))
no_payload d cell fault at (inr broken) other content is = go fault broken.1 other
  where
    go : (fault : Fault) → ChainBroken d cell fault at → fault ≢ faults.NoMemory → ⊥
    go faults.ChainCut h other = let n = next_is d cell h.0 at 0 content h.1 is h.2 in absurd (omega (arith, n.2.0))
    go faults.ChainLong h other =
        let r = leads_on d cell.page cell.overflow h.0 at h.1 is.pages is.last h.2.linked is.follows.linked in
        long r.rest r.joined r.leads
      where
        long : (rest : List ℕ) → is.pages ≡ h.0 ++ rest → Leads d at h.1 rest is.last 0 → ⊥
        long [] e l = h.4 l.1
        long (x ∷ rest) e l = let same : length is.pages ≡ length h.0 + length (x ∷ rest) = ap length e ∙ length-append h.0 (x ∷ rest) in absurd (omega (arith, same, is.enough, h.3))
    go faults.PageTwice h other = let n = next_is d cell h.0 h.1 at content h.2 is h.3 in apart_split h.0 n.0 at (subst Apart n.1 is.follows.distinct) h.5
    go faults.PageOutside h other = let n = next_is d cell h.0 at h.1 content h.2 is h.3 in h.5 n.2
    go faults.NoMemory h other = other refl
    go _ h other = h

pub refused : (d : Database) (cell : Cell) (fault : Fault) (at : ℕ) → ChainRefused d cell fault at → ChainRefused d cell fault at × (fault ≢ faults.NoMemory → (content : List ℕ) → ¬ IsPayload d cell content)
refused d cell fault at stands = (stands, no_payload d cell fault at stands)

-- A walk from a number to one that is no page has one length.
same_steps : (d : Database) (h k a : ℕ) (ts us : List ℕ) (at last p : ℕ) → ¬ IsPage d p → Leads d h a ts at p → Leads d k a us last p → length ts ≡ length us
same_steps d h k a [] [] at last p none l m = refl
same_steps d h k a [] (u ∷ us) at last p none l m = absurd (none (subst (IsPage d) (sym m.0 ∙ l.1) m.1))
same_steps d h k a (t ∷ ts) [] at last p none l m = absurd (none (subst (IsPage d) (sym l.0 ∙ m.1) l.1))
same_steps d h k a (t ∷ ts) (u ∷ us) at last p none l m =
    let e : u ≡ t = sym m.0 ∙ l.0 in
    ap suc (same_steps d t t (next_in (page d t)) ts us at last p none l.2 (subst (λ u. Leads d u (next_in (page d u)) us last p) e m.2))

-- What follows a page of a walk.
record After (d : Database) (x : ℕ) (ts : List ℕ) (at p : ℕ) : Type 0 where
  pub rest : List ℕ
  pub leads : Leads d x (next_in (page d x)) rest at p
  pub fewer : length rest < length ts

after : (d : Database) (h a x : ℕ) (ts : List ℕ) (at p : ℕ) → Leads d h a ts at p → In x ts → After d x ts at p
after d h a x [] at p l i = absurd i
after d h a x (t ∷ ts) at p l (inl e) = record { rest = ts; leads = subst (λ t. Leads d t (next_in (page d t)) ts at p) (sym e) l.2; fewer = omega arith }
after d h a x (t ∷ ts) at p l (inr i) = let r = after d t (next_in (page d t)) x ts at p l.2 i in record { rest = r.rest; leads = r.leads; fewer = let lt = r.fewer in omega (arith, lt) }

-- A walk that ends outside the pages comes to none twice: what follows a page is as long each time.
pub apart_to_end : (d : Database) (h a : ℕ) (ts : List ℕ) (at p : ℕ) → ¬ IsPage d p → Leads d h a ts at p → Apart ts
apart_to_end d h a [] at p none l = tt
apart_to_end d h a (t ∷ ts) at p none l = (every_from_in (λ y. t ≡ y → ⊥) ts (λ y i e. once (subst (λ y. In y ts) (sym e) i)), apart_to_end d t (next_in (page d t)) ts at p none l.2)
  where
    once : In t ts → ⊥
    once i =
        let r = after d t (next_in (page d t)) t ts at p l.2 i in
        let same = same_steps d t t (next_in (page d t)) r.rest ts at at p none r.leads l.2 in
        let lt = r.fewer in
        absurd (omega (arith, same, lt))

pub zero_is_no_page : (d : Database) → ¬ IsPage d 0
zero_is_no_page d is = let lt : 0 < 0 = is.0 in absurd (omega arith)

-- A chain that goes on doesn't end early.
pub never_ends : (d : Database) (cell : Cell) (pages : List ℕ) (last : ℕ) → GoesOn d cell → Follows d cell pages last 0 → length pages ≤ links cell → ⊥
never_ends d cell pages last g f most =
    let r = leads_on d cell.page cell.overflow g.pages g.last g.p pages last g.linked f.linked in
    go r.rest r.joined r.leads g.too_far
  where
    go : (rest : List ℕ) → pages ≡ g.pages ++ rest → Leads d g.last g.p rest last 0 → (length g.pages ≡ links cell) ⊎ In g.p g.pages → ⊥
    go [] e l far = g.nonzero l.1
    go (x ∷ rest) e l (inl same) = let n : length pages ≡ length g.pages + length (x ∷ rest) = ap length e ∙ length-append g.pages (x ∷ rest) in absurd (omega (arith, n, same, most))
    go (x ∷ rest) e l (inr i) = apart_split g.pages rest x (subst Apart e f.distinct) (subst (λ x. In x g.pages) l.0 i)

-- The steps of the walk.
pub chain_refused : (d : Database) (cell : Cell) (pages : List ℕ) (at p n : ℕ) (fault : Fault) (where_at : ℕ) → n ≡ length d → Leads d cell.page cell.overflow pages at p → Apart pages → length pages < links cell
    → p ≢ 0 → TakeRefused n pages at p fault where_at → ChainBroken d cell fault where_at
chain_refused d cell pages at p n fault where_at len l apart lt nonzero t = go fault (subst (λ n. TakeRefused n pages at p fault where_at) len t)
  where
    f : Follows d cell pages at p
    f = record { linked = l; distinct = apart }

    go : (fault : Fault) → TakeRefused (length d) pages at p fault where_at → ChainBroken d cell fault where_at
    go faults.PageTwice t = subst (ChainBroken d cell faults.PageTwice) (sym t.0) (pages, at, f, lt, t.1, t.2)
    go faults.PageOutside t = subst (ChainBroken d cell faults.PageOutside) (sym t.0) (pages, p, f, lt, nonzero, t.1)
    go faults.NoMemory t = tt
    go _ t = absurd t

-- A page that can't be read is refused.
pub link_refused : (d e : Database) (cell : Cell) (pages : List ℕ) (at p : ℕ) (fault : Fault) (where_at : ℕ) → e ≡ d → Leads d cell.page cell.overflow pages at p → length pages < links cell → p ≢ 0 → LinkRefused e at p fault where_at → ChainBroken d cell fault where_at
link_refused d e cell pages at p fault where_at same l lt nonzero r = go fault (subst (λ e. LinkRefused e at p fault where_at) same r)
  where
    go : (fault : Fault) → LinkRefused d at p fault where_at → ChainBroken d cell fault where_at
    go faults.PageOutside r = subst (ChainBroken d cell faults.PageOutside) (sym r.0) (pages, p, record { linked = l; distinct = apart_to_end d cell.page cell.overflow pages at p r.1 l }, lt, nonzero, r.1)
    go faults.NoMemory r = tt
    go _ r = absurd r

-- A chain that leads to 0.
pub ends : (d : Database) (cell : Cell) (pages : List ℕ) (at p : ℕ) → p ≡ 0 → Leads d cell.page cell.overflow pages at p → Follows d cell pages at 0
ends d cell pages at p e l =
    let zero_next = subst (Leads d cell.page cell.overflow pages at) e l in
    record { linked = zero_next; distinct = apart_to_end d cell.page cell.overflow pages at 0 (zero_is_no_page d) zero_next }

-- What the marks say of a chain that goes on.
pub stops : (d : Database) (cell : Cell) (fault : Fault) (at : ℕ) → GoesOn d cell → ChainStops d cell fault at → ChainBroken d cell fault at
stops d cell fault at g s =
    let few = s.few in
    chain_refused d cell s.pages s.holder s.p (length d) fault at refl s.follows.linked s.follows.distinct few (λ e. never_ends d cell s.pages s.holder g (subst (Follows d cell s.pages s.holder) e s.follows) (omega (arith, few))) s.refused

pub too_long : (d : Database) (cell : Cell) (last : ℕ) → GoesOn d cell → (pages : List ℕ) × (p : ℕ) × Follows d cell pages last p × (length pages ≡ links cell) → ChainBroken d cell faults.ChainLong last
too_long d cell last g f =
    let same = f.3 in
    (f.0, f.1, f.2, same, λ e. never_ends d cell f.0 last g (subst (Follows d cell f.0 last) e f.2) (omega (arith, same)))

pub contents_more : (d : Database) (u : ℕ) (ps : List ℕ) (p : ℕ) → contents d u (ps ++ p ∷ []) ≡ contents d u ps ++ take (u - 4) (drop 4 (page d p))
contents_more d u [] p = append-nil (take (u - 4) (drop 4 (page d p)))
contents_more d u (q ∷ ps) p = ap (λ l. take (u - 4) (drop 4 (page d q)) ++ l) (contents_more d u ps p) ∙ sym (append_assoc (take (u - 4) (drop 4 (page d q))) (contents d u ps) (take (u - 4) (drop 4 (page d p))))

-- A page more of the chain.
pub linked_on : (d e : Database) (cell : Cell) (pages : List ℕ) (at p next : ℕ) → e ≡ d → IsPage d p → next ≡ next_in (page e p) → Leads d cell.page cell.overflow pages at p → Leads d cell.page cell.overflow (pages ++ p ∷ []) p next
linked_on d e cell pages at p next same is n l =
    subst (Leads d cell.page cell.overflow (pages ++ p ∷ []) p) (sym (n ∙ ap (λ d. next_in (page d p)) same))
    (leads_snoc d cell.page cell.overflow pages at p l is)

pub content_on : (d e : Database) (u : ℕ) (pages : List ℕ) (p : ℕ) (first out new : List ℕ) → e ≡ d → out ≡ first ++ contents d u pages → new ≡ out ++ take (u - 4) (drop 4 (page e p)) → new ≡ first ++ contents d u (pages ++ p ∷ [])
content_on d e u pages p first out new same o n =
    n ∙ ap (λ d. out ++ take (u - 4) (drop 4 (page d p))) same ∙ ap (λ o. o ++ take (u - 4) (drop 4 (page d p))) o ∙ append_assoc first (contents d u pages) (take (u - 4) (drop 4 (page d p)))
    ∙ ap (λ l. first ++ l) (sym (contents_more d u pages p))

pub length_marked : (old new : List Bool) (p : ℕ) → Marks old new p → length new ≡ length old
length_marked old new p m = ap length m.now_marked ∙ length-set old (p - 1) true

pub length_snoc : (ps : List ℕ) (p : ℕ) → length (ps ++ p ∷ []) ≡ length ps + 1
length_snoc ps p = length-append ps (p ∷ [])

take_all : (n : ℕ) (l : List ℕ) → length l ≤ n → take n l ≡ l
take_all n [] h = take_none n
  where
    take_none : (n : ℕ) → ◌≡◌ {A = List ℕ} (take n []) []
    take_none zero = refl
    take_none (suc n) = refl
take_all zero (x ∷ l) h = absurd (omega arith)
take_all (suc n) (x ∷ l) h = let le : length l ≤ n = omega arith in ap (λ l. x ∷ l) (take_all n l le)

-- What was appended, cut to the payload.
pub cut : (old local cs mid : List ℕ) (b s end : ℕ) → mid ≡ (old ++ local) ++ cs → b ≡ length old → end ≡ min (b + s) (2 ^ 64 - 1) → length mid < 2 ^ 64 → take end mid ≡ old ++ take s (local ++ cs)
cut old local cs mid b s end m eb e small =
    let whole : take (length old + s) mid ≡ old ++ take s (local ++ cs) = ap (take (length old + s)) (m ∙ append_assoc old local cs) ∙ take-append-add old (local ++ cs) s in
    ⊎_elim (λ over. let far : length mid ≤ end = omega (arith, e, eb, over, small) in let far' : length mid ≤ length old + s = omega (arith, eb, over, small) in take_all end mid far ∙ sym (take_all (length old + s) mid far') ∙ whole)
    (λ fits. let same : end ≡ length old + s = omega (arith, e, eb, fits) in ap (λ n. take n mid) same ∙ whole)
    (cases_lt (2 ^ 64 - 1) (b + s))

pub more_than : (a b m n : ℕ) → a ≡ m → b ≡ n → a < b → m < n
more_than a b m n e f lt = omega arith

pub at_most : (a b m n : ℕ) → a ≡ m → b ≡ n → b ≤ a → n ≤ m
at_most a b m n e f le = omega arith
