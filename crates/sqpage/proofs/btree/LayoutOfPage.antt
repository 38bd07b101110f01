-- The layout of a page.
use Rattle.std.proofs.Common.{◌≡◌, ◌≢◌, ℕ, suc, ◌+◌, ◌-◌, ◌*◌, ◌<◌, ◌≤◌, ◌⊎◌, List, [], ◌∷◌, ◌++◌, length, max, replicate, Option, Some, None, ◌↔◌, Bool, true, false, cond, ◌&&◌, refl, sym, ap, subst, ◌∙◌, inl, inr, arith, append_assoc, append-nil, length-append, ⊎_elim}
use Rattle.std.proofs.lemmas.List.Sums.{sum_by-append, sum_by_push}
use Rattle.std.specs.Prelude.{Result, Ok, Err, IfErr, OnErr, IsErrAnd}
use Rattle.sqpage.specs.Header.{half}
use Rattle.sqpage.specs.Lists.{Every}
use Rattle.sqpage.specs.Layout.{Span, covers, times_covered, ShareNone, IsFreeblock, AreFreeblocks, IsCellSpan, AreCellSpans, PointersEndBefore, fragmented, fragments_named, IsLaidOut, LayoutRefused}
use Rattle.sqpage.specs.declared.fault.Fault.{Fault}
use Rattle.sqpage.specs.declared.fault.Fault.TheVariants as faults
use Rattle.sqpage.proofs.btree.PartsOfCells.{parts_once, parts_in, parts_are, cell_rise}
use Rattle.sqpage.proofs.btree.MarksOnBytes.{unmarked, mark_at_most}
use Rattle.sqpage.proofs.btree.BareBytes.{all_before, bare_and_taken}
use Rattle.sqpage.specs.Page.{Page, HasParts, HasPartsOf, head_at, content_start_in, cell_count, pointer, pointers_at, pointers_end_in}
use Rattle.sqpage.specs.declared.cell.Parts.{Parts}
use Rattle.sqpage.specs.internal.Marking.{mark_at, MarksSpan, IsTouched, AreMarks, MarksFreeblocks, FreeblocksRefused, MarksCells, TouchesCells, TakesBytes, bytes_before, taken_before}

-- Spans and marks.
pub one_more_covered : (spans : List Span) (s : Span) (k : ℕ) → times_covered (spans ++ s ∷ []) k ≡ times_covered spans k + cond (covers s k) 1 0
one_more_covered spans s k =
    let e = sum_by-append (λ (x : Span). cond (covers x k) 1 0) spans (s ∷ []) in omega (arith, e)

pub either : (b : Bool) → (b ≡ true) ⊎ (b ≡ false)
either true = inl refl
either false = inr refl

pub none_marked : (map : List ℕ) (n : ℕ) → map ≡ replicate n 0 → AreMarks map []
none_marked map n e = λ k. sym (ap (λ l. mark_at l k) e ∙ unmarked n k)

pub span_marked : (old new : List ℕ) (spans : List Span) (s : Span) → AreMarks old spans → MarksSpan old new s → AreMarks new (spans ++ s ∷ [])
span_marked old new spans s a m = λ k. one_more_covered spans s k ∙ elim (either (covers s k)) [
  | inl e ↦
      let one : ◌≡◌ {A = ℕ} (cond (covers s k) 1 0) 1 = ap (λ b. cond b 1 0) e in
      omega (arith, a k, m.free k e, m.marked k e, one)
  | inr e ↦
      let none : ◌≡◌ {A = ℕ} (cond (covers s k) 1 0) 0 = ap (λ b. cond b 1 0) e in
      omega (arith, a k, m.kept k e, none)
]

pub span_shared : (map : List ℕ) (spans : List Span) (s : Span) → AreMarks map spans → IsTouched map s → ¬ ShareNone (spans ++ s ∷ [])
span_shared map spans s a t = λ none.
    let one : ◌≡◌ {A = ℕ} (cond (covers s t.place) 1 0) 1 = ap (λ b. cond b 1 0) t.in_it in
    absurd (omega (arith, one_more_covered spans s t.place, a t.place, one, t.marked, none t.place))

-- More spans share no less.
pub still_shared : (spans more : List Span) → ¬ ShareNone spans → ¬ ShareNone (spans ++ more)
still_shared spans more shared = λ none. shared (λ k. let e = sum_by-append (λ (x : Span). cond (covers x k) 1 0) spans more in omega (arith, e, none k))

-- Marked bytes are in one span.
pub marks_share_none : (map : List ℕ) (spans : List Span) → AreMarks map spans → ShareNone spans
marks_share_none map spans a = λ k. omega (arith, a k, mark_at_most map k)

-- The freeblocks that were walked over, up to the one at `at`.
pub record Walked (used : List ℕ) (start first least at : ℕ) (apart : Bool) (map : List ℕ) (taken : ℕ) : Type 0 where
  pub blocks : List Span
  pub taken_are : taken ≡ taken_before (length used) blocks
  pub joined : (rest : List Span) → AreFreeblocks used least at rest → AreFreeblocks used start first (blocks ++ rest)
  pub only : (whole : List Span) → AreFreeblocks used start first whole → (rest : List Span) × AreFreeblocks used least at rest
  pub marked : apart ≡ true → AreMarks map blocks
  pub shared : apart ≡ false → ¬ ShareNone blocks

pub walk_begins : (used : List ℕ) (start first n : ℕ) (map : List ℕ) → map ≡ replicate n 0 → Walked used start first start first true map 0
walk_begins used start first n map e = record {
  blocks = [];
  taken_are = refl;
  joined = λ rest h. h;
  only = λ whole h. (whole, h);
  marked = λ _. none_marked map n e;
  shared = λ e. absurd (cc);
}

pub walk_goes_on : (used : List ℕ) (start first least at size next taken : ℕ) (apart now both : Bool) (old new : List ℕ) → Walked used start first least at apart old taken → at ≢ 0
    → IsFreeblock used least (record { start = at; size = size }) → (now ≡ true → MarksSpan old new (record { start = at; size = size })) → (now ≡ false → IsTouched old (record { start = at; size = size }))
    → both ≡ (apart && now) → next ≡ half used at → Walked used start first (at + 1) next both new (taken + size)
walk_goes_on used start first least at size next taken apart now both old new w nonzero is marks touches e n = record {
  blocks = w.blocks ++ s ∷ [];
  taken_are = let whole = all_before (length used) at size is.within in omega (arith, w.taken_are, sum_by_push (bytes_before (length used)) w.blocks s, whole);
  joined = λ rest h. subst (AreFreeblocks used start first) (sym (append_assoc w.blocks (s ∷ []) rest)) (w.joined (s ∷ rest) (nonzero, refl, is, rw (one, ← n) h));
  only = λ whole h. let o = w.only whole h in further o.0 o.1;
  marked = λ b. go_marked now apart marks w.marked (sym e ∙ b);
  shared = λ b. go_shared now apart touches w.marked w.shared (sym e ∙ b);
}
  where
    s : Span
    s = record { start = at; size = size }

    one : suc at ≡ at + 1
    one = omega arith

    further : (rest : List Span) → AreFreeblocks used least at rest → (rest : List Span) × AreFreeblocks used (at + 1) next rest
    further [] h = absurd (nonzero h)
    further (x ∷ rest) h = (rest, rw (← one, n) h.3)

    go_marked : (now apart : Bool) → (now ≡ true → MarksSpan old new s) → (apart ≡ true → AreMarks old w.blocks) → ◌≡◌ {A = Bool} (apart && now) true → AreMarks new (w.blocks ++ s ∷ [])
    go_marked true true m a e = span_marked old new w.blocks s (a refl) (m refl)
    go_marked false true m a e = absurd (cc)
    go_marked now false m a e = absurd (cc)

    go_shared : (now apart : Bool) → (now ≡ false → IsTouched old s) → (apart ≡ true → AreMarks old w.blocks) → (apart ≡ false → ¬ ShareNone w.blocks) → ◌≡◌ {A = Bool} (apart && now) false → ¬ ShareNone (w.blocks ++ s ∷ [])
    go_shared true true t a f e = absurd (cc)
    go_shared now false t a f e = still_shared w.blocks (s ∷ []) (f refl)
    go_shared false true t a f e = span_shared old w.blocks s (a refl) (t refl)

-- The last freeblock names 0.
pub walk_ends : (used : List ℕ) (start first least at taken : ℕ) (apart : Bool) (map : List ℕ) → Walked used start first least at apart map taken → at ≡ 0 → apart ≡ true → MarksFreeblocks used start first map taken
walk_ends used start first least at taken apart map w e all = record {
  blocks = w.blocks;
  are = subst (AreFreeblocks used start first) (append-nil w.blocks) (w.joined [] e);
  marked = w.marked all;
  taken_are = w.taken_are;
}

pub walk_shares : (used : List ℕ) (start first least at taken : ℕ) (apart : Bool) (map : List ℕ) → Walked used start first least at apart map taken → at ≡ 0 → apart ≡ false → FreeblocksRefused used start first faults.Overlap
walk_shares used start first least at taken apart map w e not = (w.blocks, subst (AreFreeblocks used start first) (append-nil w.blocks) (w.joined [] e), w.shared not)

-- Where no freeblock can stand there are no sound freeblocks.
pub walk_breaks : (used : List ℕ) (start first least at taken : ℕ) (apart : Bool) (map : List ℕ) (found : Option ℕ) → Walked used start first least at apart map taken → at ≢ 0
    → ((size : ℕ) → (found ≡ Some size) ↔ IsFreeblock used least (record { start = at; size = size })) → found ≡ None → (blocks : List Span) → ¬ AreFreeblocks used start first blocks
walk_breaks used start first least at taken apart map found w nonzero finds none blocks h = let o = w.only blocks h in go o.0 o.1
  where
    go : (rest : List Span) → AreFreeblocks used least at rest → ⊥
    go [] h = nonzero h
    go (x ∷ rest) h =
        let same : x ≡ record { start = at; size = x.size } = ap (λ n. record { start = n; size = x.size }) h.1 in
        let f : found ≡ Some x.size = (finds x.size).1 (subst (IsFreeblock used least) same h.2) in
        absurd (cc)

-- Spans of cells.
pub cells_more : (p : Page) (i : ℕ) (cells : List Span) (s : Span) → AreCellSpans p i cells → i + length cells < cell_count p → IsCellSpan p (i + length cells) s → AreCellSpans p i (cells ++ s ∷ [])
cells_more p i [] s h lt is = let e : i + 0 ≡ i = omega arith in (rw e at lt, rw e at is, tt)
cells_more p i (x ∷ cells) s h lt is = let e : suc i + length cells ≡ i + suc (length cells) = omega arith in (h.0, h.1, cells_more p (suc i) cells s h.2 (rw e lt) (rw e is))

-- The cells that were marked.
pub record Marking (p : Page) (old new : List ℕ) (i taken : ℕ) : Type 0 where
  pub cells : List Span
  pub are : AreCellSpans p 0 cells
  pub count : length cells ≡ i
  pub marked : (spans : List Span) → AreMarks old spans → AreMarks new (spans ++ cells)
  pub taken_are : taken ≡ taken_before (length p.used) cells

-- The span of a cell, by its parts. The page is one in two ways.
pub record SpanHere (p q : Page) (i at end : ℕ) : Type 0 where
  pub below : i < cell_count q
  pub low : at ≤ length q.used
  pub enough : at + 4 ≤ end
  pub high : end ≤ length q.used + 4
  pub is : IsCellSpan q i (record { start = at; size = end - at })
  pub same_size : length p.used ≡ length q.used

pub span_here : (p q : Page) (parts : List Parts) (i n at end : ℕ) → p ≡ q → HasPartsOf q parts → n ≡ cell_count q → i < n → at ≡ pointer p i → end ≡ max (parts_in parts i).end (at + 4) → SpanHere p q i at end
span_here p q parts i n at end e h count lt place m = record {
  below = below;
  low = omega (arith, has.within, rise, there);
  enough = grind arith;
  high = highest (parts_in parts i).end at end (length q.used) m has.within (omega (arith, has.within, rise, there));
  is = record {
    parts = parts_in parts i;
    has = has;
    start = there;
    size = longer (parts_in parts i).end at end m ∙ ap (λ a. max ((parts_in parts i).end - a) 4) there;
  };
  same_size = ap (λ (p : Page). length p.used) e;
}
  where
    below : i < cell_count q
    below = omega (arith, count, lt)

    has : HasParts q.kind q.used (pointer q i) (parts_in parts i)
    has = parts_are q parts i h below

    rise : pointer q i ≤ (parts_in parts i).end
    rise = cell_rise q.kind q.used (pointer q i) (parts_in parts i) has

    there : at ≡ pointer q i
    there = place ∙ ap (λ (p : Page). pointer p i) e

    longer : (n at end : ℕ) → end ≡ max n (at + 4) → end - at ≡ max (n - at) 4
    longer n at end m = grind arith

    highest : (n at end len : ℕ) → end ≡ max n (at + 4) → n ≤ len → at ≤ len → end ≤ len + 4
    highest n at end len m a b = grind arith

pub marking_ends : (p : Page) (old new : List ℕ) (i taken : ℕ) → Marking p old new i taken → i ≡ cell_count p → MarksCells p old new taken
marking_ends p old new i taken m e = record { cells = m.cells; are = m.are; all = m.count ∙ e; marked = m.marked; taken_are = m.taken_are }

-- The layout of a page, once its freeblocks are marked.
pub freeblocks_refused : (p : Page) (start first : ℕ) (fault : Fault) → FreeblocksRefused p.used start first fault → start ≡ content_start_in p.used p.number
    → first ≡ half p.used (head_at p.number + 1) → LayoutRefused fault p × (fault ≢ faults.NoMemory)
freeblocks_refused p start first faults.Freeblock none s f = (λ blocks h. none blocks (rw (s, f) h), λ e. cc)
freeblocks_refused p start first faults.Overlap (blocks, are, shared) s f = ((blocks, rw (← s, ← f) are, inr ([], tt, subst (λ l. ¬ ShareNone l) (sym (append-nil blocks)) shared)), λ e. cc)
freeblocks_refused p start first _ h s f = absurd h

pub pointers_reach : (p : Page) (start first taken : ℕ) (map : List ℕ) → MarksFreeblocks p.used start first map taken → start ≡ content_start_in p.used p.number
    → first ≡ half p.used (head_at p.number + 1) → ¬ PointersEndBefore p → LayoutRefused faults.Overlap p
pointers_reach p start first taken map m s f never = (m.blocks, rw (← s, ← f) m.are, inl never)

pub cells_share : (p : Page) (start first taken : ℕ) (map : List ℕ) → MarksFreeblocks p.used start first map taken → start ≡ content_start_in p.used p.number
    → first ≡ half p.used (head_at p.number + 1) → TouchesCells p map → LayoutRefused faults.Overlap p
cells_share p start first taken map m s f t = (m.blocks, rw (← s, ← f) m.are, inr (t.cells, t.are, t.shared m.blocks m.marked))

pub all_marked : (p : Page) (start first taken more : ℕ) (map new : List ℕ) → MarksFreeblocks p.used start first map taken → start ≡ content_start_in p.used p.number
    → first ≡ half p.used (head_at p.number + 1) → PointersEndBefore p → MarksCells p map new more → TakesBytes p (taken + more)
all_marked p start first taken more map new m s f before c = record {
  blocks = m.blocks;
  cells = c.cells;
  freeblocks = rw (← s, ← f) m.are;
  cells_are = c.are;
  all = c.all;
  pointers = before;
  apart = marks_share_none new (m.blocks ++ c.cells) (c.marked m.blocks m.marked);
  taken_are = omega (arith, m.taken_are, c.taken_are, sum_by-append (bytes_before (length p.used)) m.blocks c.cells);
}

-- The bytes that are left.
blocks_behind : (used : List ℕ) (low least at : ℕ) (blocks : List Span) → low ≤ least → AreFreeblocks used least at blocks → Every (λ s. low ≤ s.start) blocks
blocks_behind used low least at [] le h = tt
blocks_behind used low least at (s ∷ blocks) le h =
    let here : low ≤ s.start = omega (arith, h.2.after) in
    (here, blocks_behind used low (suc at) (half used at) blocks (omega (arith, h.2.after, h.1)) h.3)

cells_behind : (p : Page) (low i : ℕ) (cells : List Span) → ((j : ℕ) → j < cell_count p → low ≤ pointer p j) → AreCellSpans p i cells → Every (λ s. low ≤ s.start) cells
cells_behind p low i [] above h = tt
cells_behind p low i (s ∷ cells) above h = (rw h.1.start (above i h.0), cells_behind p low (suc i) cells above h.2)

every_both : (P : Span → Type 0) (xs ys : List Span) → Every P xs → Every P ys → Every P (xs ++ ys)
every_both P [] ys h k = k
every_both P (x ∷ xs) ys h k = (h.0, every_both P xs ys h.1 k)

module _ (p : Page) (taken : ℕ) (t : TakesBytes p taken) (start : content_start_in p.used p.number ≤ length p.used) (above : (i : ℕ) → i < cell_count p → content_start_in p.used p.number ≤ pointer p i) where
  pub bare_is : fragmented p (t.blocks ++ t.cells) + taken ≡ length p.used - content_start_in p.used p.number
  bare_is =
      let low : ℕ = content_start_in p.used p.number in
      let n : ℕ = length p.used - low in
      let end : low + n ≡ length p.used = omega arith in
      let behind = every_both (λ s. low ≤ s.start) t.blocks t.cells (blocks_behind p.used low low _ t.blocks (let r : low ≤ low = omega arith in r) t.freeblocks) (cells_behind p low 0 t.cells above t.cells_are) in
      let e = bare_and_taken n low (t.blocks ++ t.cells) t.apart behind in
      ap (λ m. fragmented p (t.blocks ++ t.cells) + m) (t.taken_are ∙ ap (λ m. taken_before m (t.blocks ++ t.cells)) (sym end)) ∙ e

  pub laid_out : (bare : ℕ) → bare ≡ length p.used - content_start_in p.used p.number - taken → fragments_named p ≤ 60 → bare ≡ fragments_named p → IsLaidOut p
  laid_out bare e few same = record {
    blocks = t.blocks;
    cells = t.cells;
    freeblocks = t.freeblocks;
    cells_are = t.cells_are;
    all = t.all;
    pointers = t.pointers;
    apart = t.apart;
    fragments = omega (arith, bare_is, e, same);
    few = few;
  }

  pub wrong_fragments : (bare : ℕ) → bare ≡ length p.used - content_start_in p.used p.number - taken → (bare ≢ fragments_named p) ⊎ (60 < fragments_named p) → LayoutRefused faults.Fragments p
  wrong_fragments bare e wrong = (
    t.blocks,
    t.cells,
    t.freeblocks,
    t.cells_are,
    t.all,
    t.pointers,
    t.apart,
    ⊎_elim (λ ne. inl (λ same. ne (let b : bare ≡ fragments_named p = omega (arith, bare_is, e, same) in b))) (λ more. inr more) wrong,
  )

-- A page that is refused isn't laid out.
blocks_once : (used : List ℕ) (least at : ℕ) (xs ys : List Span) → AreFreeblocks used least at xs → AreFreeblocks used least at ys → xs ≡ ys
blocks_once used least at [] [] h k = refl
blocks_once used least at [] (y ∷ ys) h k = absurd (k.0 h)
blocks_once used least at (x ∷ xs) [] h k = absurd (h.0 k)
blocks_once used least at (x ∷ xs) (y ∷ ys) h k =
    let start : x.start ≡ y.start = h.1 ∙ sym k.1 in
    let size : x.size ≡ y.size = h.2.size ∙ ap (λ n. half used (n + 2)) start ∙ sym k.2.size in
    let same : x ≡ y = ap (λ n. record { start = n; size = x.size }) start ∙ ap (λ n. record { start = y.start; size = n }) size in
    let rest : xs ≡ ys = blocks_once used (suc at) (half used at) xs ys h.3 k.3 in
    ap (λ z. z ∷ xs) same ∙ ap (λ l. y ∷ l) rest

span_once : (p : Page) (i : ℕ) (x y : Span) → IsCellSpan p i x → IsCellSpan p i y → x ≡ y
span_once p i x y h k =
    let parts : h.parts ≡ k.parts = parts_once p.kind p.used (pointer p i) h.parts k.parts h.has k.has in
    let start : x.start ≡ y.start = h.start ∙ sym k.start in
    let size : x.size ≡ y.size = h.size ∙ ap (λ (c : Parts). max (c.end - pointer p i) 4) parts ∙ sym k.size in
    ap (λ n. record { start = n; size = x.size }) start ∙ ap (λ n. record { start = y.start; size = n }) size

-- Spans of cells are the first ones of all.
front_of : (p : Page) (i : ℕ) (some all : List Span) → AreCellSpans p i some → AreCellSpans p i all → i + length all ≡ cell_count p → (rest : List Span) × (all ≡ some ++ rest)
front_of p i [] all h k n = (all, refl)
front_of p i (x ∷ some) [] h k n = absurd (let lt : i < cell_count p = h.0 in omega arith)
front_of p i (x ∷ some) (y ∷ all) h k n =
    let e : suc i + length all ≡ cell_count p = omega (arith, n) in
    let r = front_of p (suc i) some all h.2 k.2 e in
    (r.0, ap (λ z. z ∷ all) (sym (span_once p i x y h.1 k.1)) ∙ ap (λ l. x ∷ l) r.1)

pub not_laid_out : (p : Page) (fault : Fault) → LayoutRefused fault p → fault ≢ faults.NoMemory → ¬ IsLaidOut p
not_laid_out p faults.Freeblock h other is = h is.blocks is.freeblocks
not_laid_out p faults.Overlap (blocks, freeblocks, inl never) other is = never is.pointers
not_laid_out p faults.Overlap (blocks, freeblocks, inr (cells, are, shared)) other is =
    let b : blocks ≡ is.blocks = blocks_once p.used _ _ blocks is.blocks freeblocks is.freeblocks in
    let f = front_of p 0 cells is.cells are is.cells_are (omega (arith, is.all)) in
    still_shared (blocks ++ cells) f.0 shared (subst ShareNone (ap (λ l. l ++ is.cells) (sym b) ∙ ap (λ l. blocks ++ l) f.1 ∙ sym (append_assoc blocks cells f.0)) is.apart)
not_laid_out p faults.Fragments h other is =
    let b : h.0 ≡ is.blocks = blocks_once p.used _ _ h.0 is.blocks h.2 is.freeblocks in
    let f = front_of p 0 h.1 is.cells h.3 is.cells_are (omega (arith, is.all)) in
    let none : f.0 ≡ [] = ends f.0 (omega (arith, ap length f.1, length-append h.1 f.0, h.4, is.all)) in
    let c : h.1 ≡ is.cells = sym (append-nil h.1) ∙ ap (λ l. h.1 ++ l) (sym none) ∙ sym f.1 in
    let all : h.0 ++ h.1 ≡ is.blocks ++ is.cells = ap (λ l. l ++ h.1) b ∙ ap (λ l. is.blocks ++ l) c in
    ⊎_elim (λ ne. ne (ap (fragmented p) all ∙ is.fragments)) (λ more. absurd (omega (arith, more, is.few))) h.7
  where
    ends : (l : List Span) → length l ≡ 0 → l ≡ []
    ends [] e = refl
    ends (x ∷ l) e = absurd (omega (arith, e))
not_laid_out p faults.NoMemory h other is = other refl
not_laid_out p _ h other is = h

pub refuses_layout : (p : Page) (r : Result (Unit {0}) Fault) → IfErr r (λ fault. LayoutRefused fault p × (fault ≢ faults.NoMemory)) → OnErr r (¬ IsLaidOut p)
refuses_layout p (Ok x) h = tt
refuses_layout p (Err fault) h = not_laid_out p fault h.0 h.1

pub on_err : (P : Type 0) (r : Result (Unit {0}) Fault) → P → OnErr r P
on_err P (Ok x) h = tt
on_err P (Err fault) h = h

-- What the exit of a `?` answers, where errors stay what they are.
pub exits : {T E : Type 0} (R : E → Type 0) (x : E) (r : Result T E) → IsErrAnd r (λ y. y ≡ x) → R x → IfErr r R
exits R x (Ok v) h p = absurd h
exits R x (Err y) h p = subst R (sym h) p

-- What is read of the page, which is one in two ways
module _ (p q : Page) (e : p ≡ q) where
  pub start_in : (start : ℕ) → start ≡ content_start_in p.used p.number → start ≡ content_start_in q.used q.number
  start_in start s = s ∙ ap (λ (p : Page). content_start_in p.used p.number) e

  pub first_in : (first head : ℕ) → head ≡ head_at p.number → first ≡ half p.used (head + 1) → first ≡ half q.used (head_at q.number + 1)
  first_in first head h f = f ∙ ap (λ n. half p.used (n + 1)) h ∙ ap (λ (p : Page). half p.used (head_at p.number + 1)) e

  pub the_end : (pointers count : ℕ) → pointers ≡ pointers_at p.kind p.number → count ≡ cell_count q → pointers + 2 * count ≡ pointers_end_in q.kind q.used q.number
  the_end pointers count a b = let n : pointers ≡ pointers_at q.kind q.number = a ∙ ap (λ (p : Page). pointers_at p.kind p.number) e in omega (arith, n, b)

  pub blocks_in : (start first taken : ℕ) (map : List ℕ) → MarksFreeblocks p.used start first map taken → MarksFreeblocks q.used start first map taken
  blocks_in start first taken map m = subst (λ (p : Page). MarksFreeblocks p.used start first map taken) e m
