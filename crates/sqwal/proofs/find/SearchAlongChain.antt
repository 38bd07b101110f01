-- The search for a frame goes from one frame that names a page to the one before it.
use Rattle.std.proofs.Common.{◌≡◌, ◌≢◌, ⊎_elim, ℕ, zero, suc, ◌+◌, ◌-◌, ◌<◌, ◌≤◌, List, length, drop, get_or, cond, sym, ◌∙◌, ap, subst, arith, eq-eqb, ne_eqb}
use Rattle.std.specs.Prelude.{◌==◌}
use Rattle.std.specs.List.{count_by}
use Rattle.std.proofs.lemmas.List.{drop_more, drop_all, get_or_past, get_or_default}
use Rattle.std.proofs.lemmas.List.Sums.{sum_by-cons}
use Rattle.std.proofs.lemmas.Bool.{cases_lt}
use Rattle.sqwal.specs.Index.{FrameTable, IsNewest, IsHit}
use Rattle.sqwal.specs.internal.Chains.{named, IsChained, table_of, IsIndex}
use Rattle.sqwal.specs.declared.index.Hit.{Hit}

-- how many frames behind the first n name the page
abbrev pub behind : (pages : List ℕ) (page n : ℕ) → ℕ
behind pages page n = count_by (λ x. x == page) (drop n pages)

behind_step : (pages : List ℕ) (page n : ℕ) → n < length pages → behind pages page n ≡ cond (get_or pages n 0 == page) 1 0 + behind pages page (n + 1)
behind_step pages page n lt = ap (count_by (λ x. x == page)) (drop_more pages n 0 lt) ∙ sum_by-cons (λ x. cond (x == page) 1 0) (get_or pages n 0) (drop (n + 1) pages)

behind_none : (pages : List ℕ) (page n : ℕ) → length pages ≤ n → behind pages page n ≡ 0
behind_none pages page n le = ap (count_by (λ x. x == page)) (drop_all n pages le)

behind_other : (pages : List ℕ) (page n : ℕ) → (n < length pages → get_or pages n 0 ≢ page) → behind pages page n ≡ behind pages page (n + 1)
behind_other pages page n ne = ⊎_elim
    (λ lt. behind_step pages page n lt ∙ ap (λ b. cond b 1 0 + behind pages page (n + 1)) (ne_eqb (get_or pages n 0) page (ne lt)) ∙ (let e : 0 + behind pages page (n + 1) ≡ behind pages page (n + 1) = omega arith in e))
    (λ le. behind_none pages page n le ∙ sym (behind_none pages page (n + 1) (omega arith)))
    (cases_lt n (length pages))

pub behind_here : (pages : List ℕ) (page n : ℕ) → n < length pages → get_or pages n 0 ≡ page → behind pages page n ≡ behind pages page (n + 1) + 1
behind_here pages page n lt e = behind_step pages page n lt ∙ ap (λ b. cond b 1 0 + behind pages page (n + 1)) (eq-eqb (get_or pages n 0) page e) ∙ (let e : 1 + behind pages page (n + 1) ≡ behind pages page (n + 1) + 1 = omega arith in e)

-- where none of the frames from one to another names the page
pub behind_same : (pages : List ℕ) (page n k : ℕ) → ((i : ℕ) → n < i → i ≤ n + k → i ≤ length pages → get_or pages (i - 1) 0 ≢ page) → behind pages page n ≡ behind pages page (n + k)
behind_same pages page n zero none = ap (behind pages page) (let e : n ≡ n + 0 = omega arith in e)
behind_same pages page n (suc k) none =
    behind_same pages page n k (λ i a b c. none i a (omega arith) c)
    ∙ behind_other pages page (n + k) (λ lt z. none (n + k + 1) (omega arith) (omega arith) (omega arith) (ap (λ j. get_or pages j 0) (let e : n + k + 1 - 1 ≡ n + k = omega arith in e) ∙ z))
    ∙ ap (behind pages page) (let e : n + k + 1 ≡ n + suc k = omega arith in e)

pub behind_between : (pages : List ℕ) (page n m : ℕ) → n ≤ m → ((i : ℕ) → n < i → i ≤ m → i ≤ length pages → get_or pages (i - 1) 0 ≢ page) → behind pages page n ≡ behind pages page m
behind_between pages page n m le none = behind_same pages page n (m - n) (λ i a b c. none i a (omega arith) c) ∙ ap (behind pages page) (let e : n + (m - n) ≡ m = omega arith in e)

-- a search on its way: it stands at a frame that names the page, or at 0
pub record IsOnWay (pages : List ℕ) (page mark frame steps : ℕ) : Type 0 where
  pub there : frame ≤ length pages
  pub names : 1 ≤ frame → get_or pages (frame - 1) 0 ≡ page
  pub newest : (i : ℕ) → frame < i → i ≤ mark → i ≤ length pages → get_or pages (i - 1) 0 ≢ page
  pub steps_are : steps ≡ behind pages page frame

begun : (newest earlier pages : List ℕ) (page mark : ℕ) → IsChained newest earlier pages → page < length newest → IsOnWay pages page mark (get_or newest page 0) 0
begun newest earlier pages page mark is lt =
    let first : IsNewest pages page (length pages) (get_or newest page 0) = is.newest_is page lt in
    record {
      there = first.there;
      names = first.names;
      newest = λ i a b c. first.newest i a c c;
      steps_are = sym (behind_between pages page (get_or newest page 0) (length pages) first.within (λ i a b c. first.newest i a c c) ∙ behind_none pages page (length pages) (omega arith));
    }

-- no frame names a page above the bound
begun_above : (newest earlier pages : List ℕ) (page mark : ℕ) → IsChained newest earlier pages → length newest ≤ page → IsOnWay pages page mark 0 0
begun_above newest earlier pages page mark is le =
    let none : (i : ℕ) → 0 < i → i ≤ length pages → get_or pages (i - 1) 0 ≢ page = λ i a b z. omega (arith, z, is.bound (i - 1) (omega arith)) in
    record {
      there = omega arith;
      names = λ some. absurd (omega arith);
      newest = λ i a b c. none i a c;
      steps_are = sym (behind_between pages page 0 (length pages) (omega arith) (λ i a b c. none i a c) ∙ behind_none pages page (length pages) (omega arith));
    }

gone_on : (newest earlier pages : List ℕ) (page mark frame steps : ℕ) → IsChained newest earlier pages → IsOnWay pages page mark frame steps → mark < frame
    → IsOnWay pages page mark (get_or earlier (frame - 1) 0) (steps + 1) × (get_or earlier (frame - 1) 0 < frame)
gone_on newest earlier pages page mark frame steps is way lt =
    let names : get_or pages (frame - 1) 0 ≡ page = way.names (omega arith) in
    let e : ℕ = get_or earlier (frame - 1) 0 in
    let here : frame - 1 < length pages = omega (arith, way.there) in
    let before : IsNewest pages page (frame - 1) e = subst (λ (x : ℕ). IsNewest pages x (frame - 1) e) names (is.earlier_is (frame - 1) here) in
    let one : behind pages page (frame - 1) ≡ behind pages page (frame - 1 + 1) + 1 = behind_here pages page (frame - 1) here names in
    let same : behind pages page (frame - 1 + 1) ≡ behind pages page frame = ap (behind pages page) (let k : frame - 1 + 1 ≡ frame = omega arith in k) in
    let gap : behind pages page e ≡ behind pages page (frame - 1) = behind_between pages page e (frame - 1) before.within before.newest in (
      record {
        there = before.there;
        names = before.names;
        newest = λ i a b c. before.newest i a (omega arith) c;
        steps_are = omega (arith, way.steps_are, one, same, gap);
      },
      omega (arith, before.within),
    )

-- the same, from the table that callers see
pub begin : (newest earlier : List ℕ) (room capacity page mark frame : ℕ) (t : FrameTable) → IsIndex newest earlier room capacity → table_of newest earlier room ≡ t → frame ≡ get_or newest page 0
    → IsOnWay t.pages page mark frame 0
begin newest earlier room capacity page mark frame t is view at =
    let pages : List ℕ = named newest earlier (length earlier) in
    subst (λ (x : FrameTable). IsOnWay x.pages page mark frame 0) view (subst (λ (f : ℕ). IsOnWay pages page mark f 0) (sym at) (⊎_elim
    (λ lt. begun newest earlier pages page mark is.chained lt)
    (λ le. subst (λ (f : ℕ). IsOnWay pages page mark f 0) (sym (get_or_past newest page 0 le)) (begun_above newest earlier pages page mark is.chained le))
    (cases_lt page (length newest))))

pub go_on : (newest earlier : List ℕ) (room capacity page mark frame steps next : ℕ) (t : FrameTable) → IsIndex newest earlier room capacity → table_of newest earlier room ≡ t → IsOnWay t.pages page mark frame steps → mark < frame
    → next ≡ get_or earlier (frame - 1) next → IsOnWay t.pages page mark next (steps + 1) × (next < frame)
go_on newest earlier room capacity page mark frame steps next t is view way lt at =
    let pages : List ℕ = named newest earlier (length earlier) in
    let way_here : IsOnWay pages page mark frame steps = subst (λ (x : FrameTable). IsOnWay x.pages page mark frame steps) (sym view) way in
    let e : next ≡ get_or earlier (frame - 1) 0 = at ∙ get_or_default earlier (frame - 1) next 0 (omega (arith, way_here.there, is.chained.count)) in
    let on = gone_on newest earlier pages page mark frame steps is.chained way_here lt in
    (subst (λ (x : FrameTable). IsOnWay x.pages page mark next (steps + 1)) view (subst (λ (f : ℕ). IsOnWay pages page mark f (steps + 1)) (sym e) on.0), omega (arith, e, on.1))

-- no frame of the table names a page above its bound
pub unnamed_above : (newest earlier : List ℕ) (room capacity page : ℕ) (t : FrameTable) → IsIndex newest earlier room capacity → table_of newest earlier room ≡ t → t.bound < page
    → (i : ℕ) → i < length t.pages → get_or t.pages i 0 ≢ page
unnamed_above newest earlier room capacity page t is view =
    let P : FrameTable → Type 0 = λ x. x.bound < page → (i : ℕ) → i < length x.pages → get_or x.pages i 0 ≢ page in
    subst P view (λ above i lt names. omega (arith, above, names, is.chained.bound i lt))

-- so a search for it ends at 0 without a step
ends_at_once : (pages : List ℕ) (page mark frame steps : ℕ) → IsOnWay pages page mark frame steps → ((i : ℕ) → i < length pages → get_or pages i 0 ≢ page) → (frame ≡ 0) × (steps ≡ 0)
ends_at_once pages page mark frame steps way none =
    let first : frame ≡ 0 = ⊎_elim (λ lt. omega arith)
    (λ some. absurd (none (frame - 1) (omega (arith, way.there)) (way.names some))) (cases_lt frame 1) in
    let counted : behind pages page frame ≡ 0 =
    behind_between pages page frame (frame + length pages) (omega arith) (λ i above _ within. none (i - 1) (omega arith)) ∙ behind_none pages page (frame + length pages) (omega arith) in
    (first, way.steps_are ∙ counted)

pub found : (t : FrameTable) (page mark : ℕ) (hit : Hit) (steps : ℕ) → page ≢ 0 → (t.bound < page → (i : ℕ) → i < length t.pages → get_or t.pages i 0 ≢ page)
    → IsOnWay t.pages page mark hit.frame steps → hit.frame ≤ mark → hit.steps ≡ steps + cond (hit.frame == 0) 0 1 → IsHit t page mark hit
found t page mark hit steps some unnamed way le count = record {
  none = ⊎_elim (λ z. absurd (some z)) (λ above.
      let end = ends_at_once t.pages page mark hit.frame steps way (unnamed above) in
      (end.0, count ∙ ap (λ b. steps + cond b 0 1) (eq-eqb hit.frame 0 end.0) ∙ omega (arith, end.1)));
  newest = λ _. record { within = le; there = way.there; names = way.names; newest = way.newest };
  steps = λ _. count ∙ ap (λ n. n + cond (hit.frame == 0) 0 1) (way.steps_are ∙ behind_between t.pages page hit.frame mark le way.newest);
}
