-- The copying of pages.
use Rattle.walcore.proofs.Words.{Database, FrameTable, Frames, IsLast, IsMade, IsNewest, IsTable, IsValidFrame, IsView, List, Unnamed, ap, arith, cases_eq, content_of, drop, frame_at, frame_at-end, frame_end, frame_plan, length, length-drop, length-take-le, longest, most_bytes, mul-le-mul_right, part, refl, subst, sym, ℕ, ⊎_elim, ◌*◌, ◌+◌, ◌-◌, ◌<◌, ◌∙◌, ◌≡◌, ◌≤◌, ◌⊎◌}
use Rattle.walcore.specs.internal.FramePlan.{IsLeft}

-- ---- What the table finds.

module _ (size count : ℕ) (w : List ℕ) (m p frame : ℕ) (t : FrameTable) (table : IsTable size count w m t) (hit : IsNewest t.pages p m frame) (one : 1 ≤ p) (le : p ≤ count) where
  pub hit_none : frame ≡ 0 → Unnamed size w m p
  hit_none zero i a b e = hit.newest i (omega arith) b (omega (arith, table.long)) (table.finds i p a b one le e)

  pub hit_last : 1 ≤ frame → IsLast size w m p frame
  hit_last some = record {
    first = some;
    within = hit.within;
    names = table.found frame p some hit.within one le (hit.names some);
    last = λ j a b e. hit.newest j a b (omega (arith, table.long)) (table.finds j p (omega arith) b one le e);
  }

-- ---- What is read of a frame.

content_place : (size i : ℕ) → frame_at size i + 24 ≡ 32 + (i - 1) * (24 + size) + 24
unfolding frame_at
content_place size i = refl

pub content_end : (size m i : ℕ) (w : List ℕ) → IsValidFrame size w m → 1 ≤ i → i ≤ m → 32 + (i - 1) * (24 + size) + 24 + size ≤ length w
content_end size m i w valid one le = let whole : frame_end size i ≤ length w = (valid.each i one le).whole in omega (arith, content_place size i, frame_at-end size i one)

pub content_long : (size m i : ℕ) (w : List ℕ) → IsValidFrame size w m → 1 ≤ i → i ≤ m → length (content_of size w i) ≡ size
content_long size m i w valid one le =
    let fits : frame_at size i + 24 + size ≤ length w = omega (arith, content_place size i, content_end size m i w valid one le) in
    length-take-le size (drop (frame_at size i + 24) w) (omega (arith, length-drop (frame_at size i + 24) w))

-- ---- A run of pages.

-- where the page of a later frame begins
frame_place : (size frame j : ℕ) → 1 ≤ frame → 32 + (frame - 1) * (24 + size) + 24 + j * (size + 24) ≡ frame_at size (frame + j) + 24
frame_place size frame j some =
    let e : frame + j - 1 ≡ (frame - 1) + j = omega arith in
    let m : (frame + j - 1) * (24 + size) ≡ (frame - 1) * (24 + size) + j * (24 + size) = ap (λ (n : ℕ). n * (24 + size)) e ∙ sym (times_more (frame - 1) j (24 + size)) in
    let n : j * (size + 24) ≡ j * (24 + size) = ap (λ (k : ℕ). j * k) (let c : size + 24 ≡ 24 + size = omega arith in c) in
    omega (arith, content_place size (frame + j), m, n)
  where
    times_more : (a k c : ℕ) → a * c + k * c ≡ (a + k) * c
    times_more a k c = omega arith

page_step : (size p : ℕ) → 1 ≤ p → (p - 1) * size + size ≡ p * size
page_step size p one = step (p - 1) p (omega arith)
  where
    step : (k n : ℕ) → k + 1 ≡ n → k * size + size ≡ n * size
    step k n e = rw (sym e) (omega arith)

-- the last of k frames from one on, from the page of the first on
pub run_inside : (size m frame k : ℕ) (w : List ℕ) → IsValidFrame size w m → 1 ≤ frame → 1 ≤ k → frame + (k - 1) ≤ m → 32 + (frame - 1) * (24 + size) + 24 + (k - 1) * (size + 24) + size ≤ length w
run_inside size m frame k w valid some more le =
    let last = content_end size m (frame + (k - 1)) w valid (omega arith) le in
    omega (arith, last, frame_place size frame (k - 1) some, content_place size (frame + (k - 1)))

pub page_fits : (size p count : ℕ) → 1 ≤ p → p ≤ count → count * size ≤ most_bytes → (p - 1) * size + size ≤ longest
page_fits size p count one le within = let more : p * size ≤ count * size = mul-le-mul_right size le in omega (arith, page_step size p one)

-- ---- Page after page.

module _ (size : ℕ) (db w : List ℕ) (m done p : ℕ) (content : List ℕ) where
  -- a page that no frame names
  pub left_skips : Unnamed size w m (done + 1) → IsLeft size db w m (done + 1) p content → IsLeft size db w m done p content
  left_skips un left = record {
    logged = λ a i last. left.logged (omega arith) i last;
    other = λ none. left.other (λ a. ⊎_elim (λ e. subst (λ (q : ℕ). Unnamed size w m q) (sym e) un) (λ ne. none (omega (arith, ne, a))) (cases_eq p (done + 1)));
  }

  -- and one outside of a run of k
  pub left_apart : (k : ℕ) → (p < done + 1) ⊎ (done + 1 + k ≤ p) → IsLeft size db w m (done + k) p content → IsLeft size db w m done p content
  left_apart k out left = record {
    logged = λ a i last. left.logged (omega arith) i last;
    other = λ none. left.other (λ a. none (⊎_elim (λ lt. omega (arith, lt)) (λ le. absurd (omega (arith, le, a))) out));
  }

-- a page of a run
pub left_put : (size : ℕ) (db w : List ℕ) (m done k frame j : ℕ) (content : List ℕ) → 1 ≤ frame → j < k → IsLast size w m (done + 1 + j) (frame + j) → IsLeft size db w m (done + k) (done + 1 + j) content
    → content ≡ part w (32 + (frame - 1) * (24 + size) + 24 + j * (size + 24)) size
left_put size db w m done k frame j content some lt last left = left.logged (omega arith) (frame + j) last ∙ ap (λ (a : ℕ). part w a size) (sym (frame_place size frame j some))

-- the pages of a view are made
pub view_made : (t : Frames) (size count : ℕ) (db w : List ℕ) (d : Database) → length d ≡ count → IsView size db w t.frames d → IsMade frame_plan t size count db w d
view_made t size count db w d long view = record {
  begins = λ p content one left. left.other (λ none. absurd (omega (arith, one, none)));
  long = long;
  each = λ steps p takes one le. record {
    logged = λ a i last. view.over.logged p i one (omega arith) last;
    other = λ none. view.over.other p one (omega arith) (none (omega (arith, takes)));
  };
}
