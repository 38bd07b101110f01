-- A log that is begun or extended is determined by what is said of it.
use Rattle.walcore.proofs.Below.{AreBytes, IsBegun, IsExtended, IsLog, List, Pages, Passes, ap, arith, below_end, content_of, frame_at, frame_at-end, frame_at-head, frame_at-suc, frame_end, frame_end-le, length, order_of, order_same, page_of, part, part_same, refl, size_of, subst, suc, sum_0, sum_1, summed, summed_same, sym, take, take_all, take_on, word, word_next, word_same, words, zero, ℕ, ◌++◌, ◌+◌, ◌∙◌, ◌≡◌, ◌≤◌}

-- two lists of bytes that are the same up to a place, and go on to a later one
record Agree (w v : List ℕ) (long at : ℕ) : Type 0 where
  bytes_w : AreBytes w
  bytes_v : AreBytes v
  long_w : long ≤ length w
  long_v : long ≤ length v
  front : take at w ≡ take at v

on_word : (w v : List ℕ) (long at to : ℕ) → at + 4 ≡ to → to ≤ long → Agree w v long at → word w at ≡ word v at → Agree w v long to
on_word w v long at to is lt agree same =
    let long_w : long ≤ length w = agree.long_w in
    let long_v : long ≤ length v = agree.long_v in
    record {
      bytes_w = agree.bytes_w;
      bytes_v = agree.bytes_v;
      long_w = long_w;
      long_v = long_v;
      front = word_next w v at to is (record { bytes_w = agree.bytes_w; bytes_v = agree.bytes_v; long_w = omega arith; long_v = omega arith }) agree.front same;
    }

pub begun_unique : (size sequence salt1 salt2 : ℕ) (e f : List ℕ) → IsBegun size sequence salt1 salt2 e → IsBegun size sequence salt1 salt2 f → e ≡ f
begun_unique size sequence salt1 salt2 e f is_e is_f =
    let long_e : 32 ≤ length e = omega (arith, is_e.alone) in
    let long_f : 32 ≤ length f = omega (arith, is_f.alone) in
    let a0 : Agree e f 32 0 = record { bytes_w = is_e.bytes; bytes_v = is_f.bytes; long_w = long_e; long_v = long_f; front = refl } in
    let a4 : Agree e f 32 4 = on_word e f 32 0 4 refl (omega arith) a0 (is_e.magic ∙ sym is_f.magic) in
    let a8 : Agree e f 32 8 = on_word e f 32 4 8 refl (omega arith) a4 (is_e.header.version ∙ sym is_f.header.version) in
    let a12 : Agree e f 32 12 = on_word e f 32 8 12 refl (omega arith) a8 (is_e.header.named ∙ sym is_f.header.named) in
    let a16 : Agree e f 32 16 = on_word e f 32 12 16 refl (omega arith) a12 (is_e.sequence_is ∙ sym is_f.sequence_is) in
    let a20 : Agree e f 32 20 = on_word e f 32 16 20 refl (omega arith) a16 (is_e.salt1_is ∙ sym is_f.salt1_is) in
    let a24 : Agree e f 32 24 = on_word e f 32 20 24 refl (omega arith) a20 (is_e.salt2_is ∙ sym is_f.salt2_is) in
    let order : order_of e ≡ order_of f = order_same e f 24 a24.front (omega arith) in
    let summed_is : words (order_of e) (part e 0 24) ≡ words (order_of f) (part f 0 24) = ap (λ o. words o (part e 0 24)) order ∙ ap (λ (x : List ℕ). words (order_of f) x) a24.front in
    let a28 : Agree e f 32 28 = on_word e f 32 24 28 refl (omega arith) a24 (is_e.header.sums.0 ∙ (ap sum_0 summed_is ∙ sym is_f.header.sums.0)) in
    let a32 : Agree e f 32 32 = on_word e f 32 28 32 refl (omega arith) a28 (is_e.header.sums.1 ∙ (ap sum_1 summed_is ∙ sym is_f.header.sums.1)) in
    sym (take_all 32 e (omega (arith, is_e.alone))) ∙ (a32.front ∙ take_all 32 f (omega (arith, is_f.alone)))

-- what is said of a frame in both logs
record SameFrame (size : ℕ) (f g : List ℕ) (i : ℕ) : Type 0 where
  passes_f : Passes size f i
  passes_g : Passes size g i
  page : page_of size f i ≡ page_of size g i
  size_is : size_of size f i ≡ size_of size g i
  content : content_of size f i ≡ content_of size g i

-- what the sums of a frame are over
summed_next : (size : ℕ) (f g : List ℕ) (j : ℕ) → take (frame_at size (suc j) + 8) f ≡ take (frame_at size (suc j) + 8) g → content_of size f (suc j) ≡ content_of size g (suc j) → summed size f (suc j) ≡ summed size g (suc j)
unfolding summed
summed_next size f g j front content =
    let at : ℕ = frame_at size (suc j) in
    let begins : at ≡ frame_end size j = frame_at-suc size j in
    let before : summed size f j ≡ summed size g j = summed_same size f g (at + 8) j front (omega arith) in
    ap (λ (x : List ℕ). x ++ part f at 8 ++ content_of size f (suc j)) before
    ∙ (ap (λ (x : List ℕ). summed size g j ++ x ++ content_of size f (suc j)) (part_same f g (at + 8) at 8 front (omega arith))
    ∙ ap (λ (x : List ℕ). summed size g j ++ part g at 8 ++ x) content)

frame_next : (size : ℕ) (f g : List ℕ) (long j : ℕ) → frame_end size (suc j) ≤ long → Agree f g long (frame_end size j) → SameFrame size f g (suc j) → Agree f g long (frame_end size (suc j))
frame_next size f g long j lt agree same =
    let at : ℕ = frame_at size (suc j) in
    let begins : at ≡ frame_end size j = frame_at-suc size j in
    let ends : at + 24 + size ≡ frame_end size (suc j) = frame_at-end size (suc j) (omega arith) in
    let head : 32 ≤ at = frame_at-head size (suc j) in
    let a0 : Agree f g long at = subst (λ n. Agree f g long n) (sym begins) agree in
    let a4 : Agree f g long (at + 4) = on_word f g long at (at + 4) refl (omega arith) a0 same.page in
    let a8 : Agree f g long (at + 8) = on_word f g long (at + 4) (at + 8) (omega arith) (omega arith) a4 same.size_is in
    let salt1 : word f 16 ≡ word g 16 = word_same f g at 16 a0.front (omega arith) in
    let salt2 : word f 20 ≡ word g 20 = word_same f g at 20 a0.front (omega arith) in
    let a12 : Agree f g long (at + 12) = on_word f g long (at + 8) (at + 12) (omega arith) (omega arith) a8 (same.passes_f.salts.0 ∙ (salt1 ∙ sym same.passes_g.salts.0)) in
    let a16 : Agree f g long (at + 16) = on_word f g long (at + 12) (at + 16) (omega arith) (omega arith) a12 (same.passes_f.salts.1 ∙ (salt2 ∙ sym same.passes_g.salts.1)) in
    let order : order_of f ≡ order_of g = order_same f g at a0.front (omega arith) in
    let sums : words (order_of f) (summed size f (suc j)) ≡ words (order_of g) (summed size g (suc j)) =
    ap (λ o. words o (summed size f (suc j))) order ∙ ap (λ (x : List ℕ). words (order_of g) x) (summed_next size f g j a8.front same.content) in
    let a20 : Agree f g long (at + 20) = on_word f g long (at + 16) (at + 20) (omega arith) (omega arith) a16 (same.passes_f.sums.0 ∙ (ap sum_0 sums ∙ sym same.passes_g.sums.0)) in
    let a24 : Agree f g long (at + 24) = on_word f g long (at + 20) (at + 24) (omega arith) (omega arith) a20 (same.passes_f.sums.1 ∙ (ap sum_1 sums ∙ sym same.passes_g.sums.1)) in
    record {
      bytes_w = agree.bytes_w;
      bytes_v = agree.bytes_v;
      long_w = agree.long_w;
      long_v = agree.long_v;
      front = take_on f g (at + 24) size (frame_end size (suc j)) ends a24.front same.content;
    }

frames_next : (size : ℕ) (e : List ℕ) (n : ℕ) (pages : Pages) (s : ℕ) (f g : List ℕ) → IsLog size e n → IsExtended size e n pages s f → IsExtended size e n pages s g
    → (k : ℕ) → k ≤ length pages → Agree f g (frame_end size (n + length pages)) (frame_end size (n + k))
frames_next size e n pages s f g log is_f is_g zero lt =
    let here : frame_end size (n + 0) ≡ length e = ap (frame_end size) (let z : n + 0 ≡ n = omega arith in z) ∙ sym log.whole in
    subst (λ at. Agree f g (frame_end size (n + length pages)) at) (sym here) (record {
      bytes_w = is_f.bytes;
      bytes_v = is_g.bytes;
      long_w = omega (arith, is_f.log.whole);
      long_v = omega (arith, is_g.log.whole);
      front = is_f.front ∙ sym is_g.front;
    })
frames_next size e n pages s f g log is_f is_g (suc k) lt =
    let before : Agree f g (frame_end size (n + length pages)) (frame_end size (n + k)) = frames_next size e n pages s f g log is_f is_g k (omega arith) in
    let next : n + suc k ≡ suc (n + k) = omega arith in
    let within : frame_end size (suc (n + k)) ≤ frame_end size (n + length pages) = frame_end-le size (suc (n + k)) (n + length pages) (omega arith) in
    let same : SameFrame size f g (n + suc k) = record {
      passes_f = is_f.log.all (n + suc k) (omega arith) (omega arith);
      passes_g = is_g.log.all (n + suc k) (omega arith) (omega arith);
      page = is_f.page k lt ∙ sym (is_g.page k lt);
      size_is = is_f.sizes k lt ∙ sym (is_g.sizes k lt);
      content = is_f.content k lt ∙ sym (is_g.content k lt);
    } in
    subst (λ i. Agree f g (frame_end size (n + length pages)) (frame_end size i)) (sym next)
    (frame_next size f g (frame_end size (n + length pages)) (n + k) within before (subst (λ i. SameFrame size f g i) next same))

pub extended_unique : (size : ℕ) (e : List ℕ) (n : ℕ) (pages : Pages) (s : ℕ) (f g : List ℕ) → IsLog size e n → IsExtended size e n pages s f → IsExtended size e n pages s g → f ≡ g
extended_unique size e n pages s f g log is_f is_g =
    let long : ℕ = frame_end size (n + length pages) in
    let agree : Agree f g long long = frames_next size e n pages s f g log is_f is_g (length pages) (omega arith) in
    sym (take_all long f (omega (arith, is_f.log.whole))) ∙ (agree.front ∙ take_all long g (omega (arith, is_g.log.whole)))

-- how many frames a log has is determined
pub count_unique : (size : ℕ) (e : List ℕ) (m n : ℕ) → IsLog size e m → IsLog size e n → m ≡ n
count_unique size e m n a b =
    let same : frame_end size m ≡ frame_end size n = sym a.whole ∙ b.whole in
    let le : m ≤ n = below_end size m n (omega arith) in
    let ge : n ≤ m = below_end size n m (omega arith) in
    omega arith
