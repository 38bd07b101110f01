-- What is read of the front of a log doesn't hang on the rest.
use Rattle.std.proofs.Common.{◌≡◌, ⊎_elim, ℕ, zero, suc, ◌+◌, ◌-◌, ◌*◌, ◌≤◌, cond, List, length, take, drop, sym, ◌∙◌, ap, arith}
use Rattle.std.specs.Prelude.{nat_eq}
use Rattle.std.proofs.lemmas.List.{take-take, drop-take}
use Rattle.std.proofs.lemmas.Bool.{cases_lt}
use Rattle.byteorder.specs.Endian.{big_number}
use Rattle.sqval.specs.Bytes.{part, word}
use Rattle.sqwal.specs.Sums.{words, sum_0, sum_1}
use Rattle.sqwal.specs.Header.{order_of, IsHeader}
use Rattle.sqwal.specs.Frames.{frame_at, frame_end, page_of, size_of, content_of, summed, Passes, AllPass, IsCommit}
use Rattle.sqwal.specs.declared.sum.Order.TheVariants.{Big, Little}

-- ---- places

pub frame_at-suc : (size k : ℕ) → frame_at size (suc k) ≡ frame_end size k
unfolding frame_at frame_end
frame_at-suc size k = let e : suc k - 1 ≡ k = omega arith in ap (λ j. 32 + j * (24 + size)) e

pub frame_end-suc : (size k : ℕ) → frame_end size (suc k) ≡ frame_end size k + 24 + size
unfolding frame_end
frame_end-suc size k = omega arith

pub frame_end-zero : (size : ℕ) → frame_end size 0 ≡ 32
unfolding frame_end
frame_end-zero size = omega arith

pub frame_at-end : (size i : ℕ) → 1 ≤ i → frame_at size i + 24 + size ≡ frame_end size i
frame_at-end size zero h = absurd (omega arith)
frame_at-end size (suc k) h = omega (arith, frame_at-suc size k, frame_end-suc size k)

pub frame_end-le : (size i j : ℕ) → i ≤ j → frame_end size i ≤ frame_end size j
unfolding frame_end
frame_end-le size i j h = let m : i * (24 + size) ≤ j * (24 + size) = grind (arith, h) in omega arith

pub frame_end-head : (size i : ℕ) → 32 ≤ frame_end size i
unfolding frame_end
frame_end-head size i = omega arith

pub frame_at-head : (size i : ℕ) → 32 ≤ frame_at size i
unfolding frame_at
frame_at-head size i = omega arith

pub below_end : (size i j : ℕ) → frame_end size i ≤ frame_end size j → i ≤ j
below_end size i j h = ⊎_elim (λ lt. absurd (let more : frame_end size (suc j) ≤ frame_end size i = frame_end-le size (suc j) i lt in omega (arith, frame_end-suc size j))) (λ le. le) (cases_lt j i)

-- ---- parts

pub take_less : {X : Type 0} (w v : List X) (n k : ℕ) → take n w ≡ take n v → k ≤ n → take k w ≡ take k v
take_less w v n k e h = sym (take-take k n w h) ∙ ap (take k) e ∙ take-take k n v h

pub part_same : (w v : List ℕ) (n at k : ℕ) → take n w ≡ take n v → at + k ≤ n → part w at k ≡ part v at k
part_same w v n at k e h = sym (drop-take at k w) ∙ ap (drop at) (take_less w v n (at + k) e h) ∙ drop-take at k v

pub word_same : (w v : List ℕ) (n at : ℕ) → take n w ≡ take n v → at + 4 ≤ n → word w at ≡ word v at
word_same w v n at e h = ap (big_number 4) (part_same w v n at 4 e h)

pub order_same : (w v : List ℕ) (n : ℕ) → take n w ≡ take n v → 4 ≤ n → order_of w ≡ order_of v
order_same w v n e h = ap (λ x. cond (nat_eq x 0x377f0682) Little Big) (word_same w v n 0 e (omega arith))

pub header_same : (size : ℕ) (w v : List ℕ) (n : ℕ) → take n w ≡ take n v → 32 ≤ n → 32 ≤ length v → IsHeader size w → IsHeader size v
header_same size w v n e h l is =
    let sums : words (order_of w) (part w 0 24) ≡ words (order_of v) (part v 0 24) = ap (λ o. words o (part w 0 24)) (order_same w v n e (omega arith)) ∙ ap (words (order_of v)) (part_same w v n 0 24 e (omega arith)) in
    record {
      whole = l;
      magic = rw (word_same v w n 0 (sym e) (omega arith)) is.magic;
      version = rw (word_same v w n 4 (sym e) (omega arith)) is.version;
      is_size = is.is_size;
      named = rw (word_same v w n 8 (sym e) (omega arith)) is.named;
      sums = (sym (word_same w v n 24 e (omega arith)) ∙ is.sums.0 ∙ ap sum_0 sums, sym (word_same w v n 28 e (omega arith)) ∙ is.sums.1 ∙ ap sum_1 sums);
    }

pub summed_same : (size : ℕ) (w v : List ℕ) (n i : ℕ) → take n w ≡ take n v → frame_end size i ≤ n → summed size w i ≡ summed size v i
unfolding summed
summed_same size w v n zero e h = part_same w v n 0 24 e (omega (arith, frame_end-head size 0))
summed_same size w v n (suc i) e h =
    let last : frame_at size (suc i) + 24 + size ≡ frame_end size (suc i) = frame_at-end size (suc i) (omega arith) in
    let less : frame_end size i ≤ n = omega (arith, frame_end-le size i (suc i) (omega arith)) in
    let e0 : summed size w i ≡ summed size v i = summed_same size w v n i e less in
    let e1 : part w (frame_at size (suc i)) 8 ≡ part v (frame_at size (suc i)) 8 = part_same w v n (frame_at size (suc i)) 8 e (omega arith) in
    let e2 : content_of size w (suc i) ≡ content_of size v (suc i) = part_same w v n (frame_at size (suc i) + 24) size e (omega arith) in
    cc

pub page_same : (size : ℕ) (w v : List ℕ) (n i : ℕ) → take n w ≡ take n v → 1 ≤ i → frame_end size i ≤ n → page_of size w i ≡ page_of size v i
page_same size w v n i e p h = word_same w v n (frame_at size i) e (omega (arith, frame_at-end size i p))

pub size_same : (size : ℕ) (w v : List ℕ) (n i : ℕ) → take n w ≡ take n v → 1 ≤ i → frame_end size i ≤ n → size_of size w i ≡ size_of size v i
size_same size w v n i e p h = word_same w v n (frame_at size i + 4) e (omega (arith, frame_at-end size i p))

pub content_same : (size : ℕ) (w v : List ℕ) (n i : ℕ) → take n w ≡ take n v → 1 ≤ i → frame_end size i ≤ n → content_of size w i ≡ content_of size v i
content_same size w v n i e p h = part_same w v n (frame_at size i + 24) size e (omega (arith, frame_at-end size i p))

pub passes_same : (size : ℕ) (w v : List ℕ) (n i : ℕ) → take n w ≡ take n v → 1 ≤ i → frame_end size i ≤ n → n ≤ length v → Passes size w i → Passes size v i
passes_same size w v n i e p h l is =
    let last : frame_at size i + 24 + size ≡ frame_end size i = frame_at-end size i p in
    let head : 32 ≤ frame_at size i = frame_at-head size i in
    let sums : words (order_of w) (summed size w i) ≡ words (order_of v) (summed size v i) = ap (λ o. words o (summed size w i)) (order_same w v n e (omega arith)) ∙ ap (words (order_of v)) (summed_same size w v n i e h) in
    record {
      header = header_same size w v n e (omega arith) (omega arith) is.header;
      whole = omega arith;
      salts = (sym (word_same w v n (frame_at size i + 8) e (omega arith)) ∙ is.salts.0 ∙ word_same w v n 16 e (omega arith), sym (word_same w v n (frame_at size i + 12) e (omega arith)) ∙ is.salts.1 ∙ word_same w v n 20 e (omega arith));
      page = λ z. is.page (page_same size w v n i e p h ∙ z);
      sums = (sym (word_same w v n (frame_at size i + 16) e (omega arith)) ∙ is.sums.0 ∙ ap sum_0 sums, sym (word_same w v n (frame_at size i + 20) e (omega arith)) ∙ is.sums.1 ∙ ap sum_1 sums);
    }

pub all_same : (size : ℕ) (w v : List ℕ) (n i : ℕ) → take n w ≡ take n v → frame_end size i ≤ n → n ≤ length v → AllPass size w i → AllPass size v i
all_same size w v n i e h l all j p q = passes_same size w v n j e p (omega (arith, frame_end-le size j i q)) l (all j p q)

pub commit_same : (size : ℕ) (w v : List ℕ) (n i : ℕ) → take n w ≡ take n v → 1 ≤ i → frame_end size i ≤ n → IsCommit size w i → IsCommit size v i
commit_same size w v n i e p h is z = is (size_same size w v n i e p h ∙ z)
