-- Words that spell the same number are the same bytes.
use Rattle.walcore.proofs.Words.{AreBytes, List, ap, arith, big_from-take, big_number, drop, ext_get_or, get_or, get_or-drop, get_or-take, length, length-drop, length-take-le, part, suc, sym, take, take_add, word, zero, ℕ, ◌*◌, ◌++◌, ◌+◌, ◌<◌, ◌∙◌, ◌≡◌, ◌≤◌}

record SameDigits (a b c d e f g h : ℕ) : Type 0 where
  pub first : a ≡ e
  pub second : b ≡ f
  pub third : c ≡ g
  pub fourth : d ≡ h

digits : (a b c d e f g h : ℕ) → a < 256 → b < 256 → c < 256 → d < 256 → e < 256 → f < 256 → g < 256 → h < 256
    → a * 16777216 + (b * 65536 + (c * 256 + (d * 1 + 0))) ≡ e * 16777216 + (f * 65536 + (g * 256 + (h * 1 + 0))) → SameDigits a b c d e f g h
digits a b c d e f g h la lb lc ld le lf lg lh same =
    let one : a ≡ e = omega arith in
    let two : b ≡ f = omega arith in
    let three : c ≡ g = omega arith in
    record { first = one; second = two; third = three; fourth = omega arith }

four_same : (xs ys : List ℕ) → ((i : ℕ) → get_or xs i 0 < 256) → ((i : ℕ) → get_or ys i 0 < 256) → big_number 4 xs ≡ big_number 4 ys → (i : ℕ) → i < 4 → get_or xs i 0 ≡ get_or ys i 0
four_same xs ys bx by same zero lt = (digits _ _ _ _ _ _ _ _ (bx 0) (bx 1) (bx 2) (bx 3) (by 0) (by 1) (by 2) (by 3) same).first
four_same xs ys bx by same (suc zero) lt = (digits _ _ _ _ _ _ _ _ (bx 0) (bx 1) (bx 2) (bx 3) (by 0) (by 1) (by 2) (by 3) same).second
four_same xs ys bx by same (suc (suc zero)) lt = (digits _ _ _ _ _ _ _ _ (bx 0) (bx 1) (bx 2) (bx 3) (by 0) (by 1) (by 2) (by 3) same).third
four_same xs ys bx by same (suc (suc (suc zero))) lt = (digits _ _ _ _ _ _ _ _ (bx 0) (bx 1) (bx 2) (bx 3) (by 0) (by 1) (by 2) (by 3) same).fourth
four_same xs ys bx by same (suc (suc (suc (suc i)))) lt = absurd (omega arith)

-- two lists of bytes, each with a word at this place
pub record HaveWord (w v : List ℕ) (at : ℕ) : Type 0 where
  pub bytes_w : AreBytes w
  pub bytes_v : AreBytes v
  pub long_w : at + 4 ≤ length w
  pub long_v : at + 4 ≤ length v

pub word_part : (w v : List ℕ) (at : ℕ) → HaveWord w v at → word w at ≡ word v at → part w at 4 ≡ part v at 4
word_part w v at have same =
    let long_w : at + 4 ≤ length w = have.long_w in
    let long_v : at + 4 ≤ length v = have.long_v in
    let len_w : length (take 4 (drop at w)) ≡ 4 = length-take-le 4 (drop at w) (omega (arith, length-drop at w)) in
    let len_v : length (take 4 (drop at v)) ≡ 4 = length-take-le 4 (drop at v) (omega (arith, length-drop at v)) in
    let bytes_w : (i : ℕ) → get_or (drop at w) i 0 < 256 = λ i. omega (arith, get_or-drop at w i 0, have.bytes_w (at + i)) in
    let bytes_v : (i : ℕ) → get_or (drop at v) i 0 < 256 = λ i. omega (arith, get_or-drop at v i 0, have.bytes_v (at + i)) in
    let number : big_number 4 (drop at w) ≡ big_number 4 (drop at v) = sym (big_from-take 0 4 4 (drop at w) (omega arith)) ∙ (same ∙ big_from-take 0 4 4 (drop at v) (omega arith)) in
    ext_get_or 0 (take 4 (drop at w)) (take 4 (drop at v)) (len_w ∙ sym len_v) (λ i lt.
    let below : i < 4 = omega arith in
    get_or-take 4 (drop at w) i 0 below ∙ (four_same (drop at w) (drop at v) bytes_w bytes_v number i below ∙ sym (get_or-take 4 (drop at v) i 0 below)))

-- lists that are the same up to a place, and then over a part
pub take_on : (w v : List ℕ) (at k to : ℕ) → at + k ≡ to → take at w ≡ take at v → part w at k ≡ part v at k → take to w ≡ take to v
take_on w v at k to is front here =
    ap (λ n. take n w) (sym is) ∙ (take_add w at k ∙ (ap (λ x. x ++ part w at k) front ∙ (ap (λ x. take at v ++ x) here ∙ (sym (take_add v at k) ∙ ap (λ n. take n v) is))))

-- and then over a word
pub word_next : (w v : List ℕ) (at to : ℕ) → at + 4 ≡ to → HaveWord w v at → take at w ≡ take at v → word w at ≡ word v at → take to w ≡ take to v
word_next w v at to is have front same = take_on w v at 4 to is front (word_part w v at have same)
