-- Four parts of bytes are summed side by side, 16 bytes of each at a time.
use Rattle.std.proofs.Common.{◌≡◌, ℕ, ◌+◌, ◌-◌, ◌*◌, ◌%◌, ◌^◌, ◌<◌, ◌≤◌, List, [], ◌∷◌, ◌++◌, length, take, drop, get_or, refl, sym, ◌∙◌, ap, arith, subst, append_assoc, length-append, length-drop, lit≤}
use Rattle.std.proofs.Math.Nat.{mod-add-mod}
use Rattle.std.proofs.Math.Seq.{take-add}
use Rattle.std.proofs.lemmas.List.{take-take, drop-drop, drop-take, take-append-drop, length-take-le, append-nil, take_all}
use Rattle.std.proofs.lemmas.Simd.{get_or-zip2, length-zip2}
use Rattle.std.specs.Simd.Lanes.{zip2}
use Rattle.sqval.specs.Bytes.{part}
use Rattle.sqwal.specs.Sums.{number, words, IsSumOf, GoesOn}
use Rattle.sqwal.specs.internal.Lanes.{column, wrapping_sum, lane, AreLanes}
use Rattle.sqwal.specs.declared.sum.Order.{Order}
use Rattle.sqwal.specs.declared.sum.Sum.{Sum}
use Rattle.sqwal.proofs.checksum.Sums.{sum_none, sum_next, words-first, words_none, IsNext}
use Rattle.sqwal.proofs.checksum.SumsJoined.{goes_on_both}

-- the words of 16 bytes
pub four_words : (order : Order) (x : List ℕ) → length x ≡ 16 → words order x ≡ number order (take 4 x) ∷ number order (take 4 (drop 4 x)) ∷ number order (take 4 (drop 8 x)) ∷ number order (take 4 (drop 12 x)) ∷ []
four_words order x h =
    let n : (k : ℕ) → ℕ = λ k. number order (take 4 (drop k x)) in
    let l : (k : ℕ) → length (drop k x) ≡ 16 - k = λ k. omega (arith, length-drop k x) in
    let none : words order (drop 16 x) ≡ [] = words_none order (drop 16 x) (omega (arith, length-drop 16 x)) in
    words-first order x (omega arith)
    ∙ ap (λ (ns : List ℕ). number order (take 4 x) ∷ ns) (words-first order (drop 4 x) (omega (arith, l 4)) ∙ ap (λ (ys : List ℕ). n 4 ∷ words order ys) (drop-drop 4 4 x))
    ∙ ap (λ (ns : List ℕ). number order (take 4 x) ∷ n 4 ∷ ns) (words-first order (drop 8 x) (omega (arith, l 8)) ∙ ap (λ (ys : List ℕ). n 8 ∷ words order ys) (drop-drop 4 8 x))
    ∙ ap (λ (ns : List ℕ). number order (take 4 x) ∷ n 4 ∷ n 8 ∷ ns) (words-first order (drop 12 x) (omega (arith, l 12)) ∙ ap (λ (ys : List ℕ). n 12 ∷ words order ys) (drop-drop 4 12 x) ∙ ap (λ (ns : List ℕ). n 12 ∷ ns) none)

-- both words of each lane's sum with two words more
pub record AreNext (s0 s1 x y r0 r1 : List ℕ) : Type 0 where
  pub first_long : length s0 ≡ 4
  pub second_long : length s1 ≡ 4
  pub x_long : length x ≡ 4
  pub y_long : length y ≡ 4
  pub first : r0 ≡ zip2 wrapping_sum (zip2 wrapping_sum s0 x) s1
  pub second : r1 ≡ zip2 wrapping_sum (zip2 wrapping_sum s1 y) r0

both_added : (a b c : List ℕ) (k : ℕ) → length a ≡ 4 → length b ≡ 4 → length c ≡ 4 → k < 4 → get_or (zip2 wrapping_sum (zip2 wrapping_sum a b) c) k 0 ≡ (get_or a k 0 + get_or b k 0 + get_or c k 0) % 2 ^ 32
both_added a b c k la lb lc lt =
    let l : length (zip2 wrapping_sum a b) ≡ length a = length-zip2 wrapping_sum a b (la ∙ sym lb) in
    get_or-zip2 wrapping_sum (zip2 wrapping_sum a b) c k 0 0 0 (omega arith) (omega arith)
    ∙ ap (λ n. (n + get_or c k 0) % 2 ^ 32) (get_or-zip2 wrapping_sum a b k 0 0 0 (omega arith) (omega arith))
    ∙ mod-add-mod (get_or a k 0 + get_or b k 0) (2 ^ 32) (get_or c k 0)

lane_next : (s0 s1 x y r0 r1 : List ℕ) (k : ℕ) → k < 4 → AreNext s0 s1 x y r0 r1 → IsNext (lane s0 s1 k) (get_or x k 0) (get_or y k 0) (lane r0 r1 k)
lane_next s0 s1 x y r0 r1 k lt by =
    let l : length (zip2 wrapping_sum s0 x) ≡ 4 = length-zip2 wrapping_sum s0 x (by.first_long ∙ sym by.x_long) ∙ by.first_long in
    let long : length r0 ≡ 4 = ap length by.first ∙ length-zip2 wrapping_sum (zip2 wrapping_sum s0 x) s1 (l ∙ sym by.second_long) ∙ l in
    record {
      first = ap (λ (ns : List ℕ). get_or ns k 0) by.first ∙ both_added s0 x s1 k by.first_long by.x_long by.second_long lt;
      second = ap (λ (ns : List ℕ). get_or ns k 0) by.second ∙ both_added s1 y r0 k by.second_long by.y_long long lt;
    }

-- a list's four words stand in a lane of four vectors
pub record IsLaneOf (k : ℕ) (a x y z w : List ℕ) : Type 0 where
  pub first : get_or x k 0 ≡ get_or a 0 0
  pub second : get_or y k 0 ≡ get_or a 1 0
  pub third : get_or z k 0 ≡ get_or a 2 0
  pub fourth : get_or w k 0 ≡ get_or a 3 0

pub record AreTurned (a b c d x y z w : List ℕ) : Type 0 where
  pub first : x ≡ column 0 a b c d
  pub second : y ≡ column 1 a b c d
  pub third : z ≡ column 2 a b c d
  pub fourth : w ≡ column 3 a b c d

next_as : (sum next : Sum) (x y n m : ℕ) → x ≡ n → y ≡ m → IsNext sum x y next → IsNext sum n m next
next_as sum next x y n m e f is = subst (λ (j : ℕ). IsNext sum n j next) f (subst (λ (j : ℕ). IsNext sum j y next) e is)

-- a lane's sum over 16 bytes more
module _ (order : Order) (s0 s1 x y z w r0 r1 u0 u1 : List ℕ) (one : AreNext s0 s1 x y r0 r1) (two : AreNext r0 r1 z w u0 u1) where
  lane_more : (front piece a : List ℕ) (k : ℕ) → k < 4 → length front % 4 ≡ 0 → length piece ≡ 16 → a ≡ words order piece → IsLaneOf k a x y z w → IsSumOf order front (lane s0 s1 k) → IsSumOf order (front ++ piece) (lane u0 u1 k)
  lane_more front piece a k lt even long said at before =
      let p : List ℕ = take 8 piece in
      let q : List ℕ = drop 8 piece in
      let lp : length p ≡ 8 = length-take-le 8 piece (omega arith) in
      let lq : length q ≡ 8 = omega (arith, length-drop 8 piece) in
      let all : a ≡ number order (take 4 piece) ∷ number order (take 4 (drop 4 piece)) ∷ number order (take 4 (drop 8 piece)) ∷ number order (take 4 (drop 12 piece)) ∷ [] = said ∙ four_words order piece long in
      let e0 : get_or x k 0 ≡ number order (take 4 p) = at.first ∙ ap (λ (ns : List ℕ). get_or ns 0 0) all ∙ ap (number order) (sym (take-take 4 8 piece (lit≤ tt))) in
      let e1 : get_or y k 0 ≡ number order (take 4 (drop 4 p)) = at.second ∙ ap (λ (ns : List ℕ). get_or ns 1 0) all ∙ ap (number order) (sym (ap (take 4) (drop-take 4 4 piece) ∙ take-take 4 4 (drop 4 piece) (lit≤ tt))) in
      let e2 : get_or z k 0 ≡ number order (take 4 q) = at.third ∙ ap (λ (ns : List ℕ). get_or ns 2 0) all in
      let e3 : get_or w k 0 ≡ number order (take 4 (drop 4 q)) = at.fourth ∙ ap (λ (ns : List ℕ). get_or ns 3 0) all ∙ ap (λ (ns : List ℕ). number order (take 4 ns)) (sym (drop-drop 4 8 piece)) in
      let first : IsSumOf order (front ++ p) (lane r0 r1 k) = sum_next order front p (lane s0 s1 k) (lane r0 r1 k) even lp before (next_as _ _ _ _ _ _ e0 e1 (lane_next s0 s1 x y r0 r1 k lt one)) in
      let second : IsSumOf order ((front ++ p) ++ q) (lane u0 u1 k) = sum_next order (front ++ p) q (lane r0 r1 k) (lane u0 u1 k) (let e : length (front ++ p) % 4 ≡ 0 = omega (arith, length-append front p) in e) lq first (next_as _ _ _ _ _ _ e2 e3 (lane_next r0 r1 z w u0 u1 k lt two)) in
      subst (λ (b : List ℕ). IsSumOf order b (lane u0 u1 k)) (append_assoc front p q ∙ ap (λ (b : List ℕ). front ++ b) (take-append-drop 8 piece)) second

part_more : (bytes piece : List ℕ) (at i j : ℕ) → piece ≡ take 16 (drop (16 * j) bytes) → at + 16 * i ≡ 16 * j → part bytes at (16 * i) ++ piece ≡ part bytes at (16 * (i + 1))
part_more bytes piece at i j is place =
    ap (λ (b : List ℕ). part bytes at (16 * i) ++ b) (is ∙ ap (λ (k : ℕ). take 16 (drop k bytes)) (sym place) ∙ ap (take 16) (sym (drop-drop (16 * i) at bytes)))
    ∙ sym (take-add (16 * i) 16 (drop at bytes))
    ∙ ap (λ (k : ℕ). take k (drop at bytes)) (let e : 16 * i + 16 ≡ 16 * (i + 1) = omega arith in e)

-- the pieces of four quarters at a place
pub record ArePieces (order : Order) (bytes : List ℕ) (count i : ℕ) (a b c d : List ℕ) : Type 0 where
  pub whole : length bytes ≡ 64 * count
  pub within : i < count
  pub first : a ≡ words order (take 16 (drop (16 * i) bytes))
  pub second : b ≡ words order (take 16 (drop (16 * (count + i)) bytes))
  pub third : c ≡ words order (take 16 (drop (16 * (2 * count + i)) bytes))
  pub fourth : d ≡ words order (take 16 (drop (16 * (3 * count + i)) bytes))

pub lanes_more : (order : Order) (bytes : List ℕ) (count i : ℕ) (start : Sum) (a b c d s0 s1 x y z w r0 r1 u0 u1 : List ℕ) → ArePieces order bytes count i a b c d → AreTurned a b c d x y z w → AreNext s0 s1 x y r0 r1 → AreNext r0 r1 z w u0 u1
    → AreLanes order bytes count i start s0 s1 → AreLanes order bytes count (i + 1) start u0 u1
lanes_more order bytes count i start a b c d s0 s1 x y z w r0 r1 u0 u1 pieces turned one two before =
    let piece : ℕ → List ℕ = λ j. take 16 (drop (16 * j) bytes) in
    let long : (j : ℕ) → 16 * j + 16 ≤ length bytes → length (piece j) ≡ 16 = λ j h. length-take-le 16 (drop (16 * j) bytes) (omega (arith, length-drop (16 * j) bytes)) in
    let l0 : IsLaneOf 0 a x y z w = record { first = ap (λ (ns : List ℕ). get_or ns 0 0) turned.first; second = ap (λ (ns : List ℕ). get_or ns 0 0) turned.second; third = ap (λ (ns : List ℕ). get_or ns 0 0) turned.third; fourth = ap (λ (ns : List ℕ). get_or ns 0 0) turned.fourth } in
    let l1 : IsLaneOf 1 b x y z w = record { first = ap (λ (ns : List ℕ). get_or ns 1 0) turned.first; second = ap (λ (ns : List ℕ). get_or ns 1 0) turned.second; third = ap (λ (ns : List ℕ). get_or ns 1 0) turned.third; fourth = ap (λ (ns : List ℕ). get_or ns 1 0) turned.fourth } in
    let l2 : IsLaneOf 2 c x y z w = record { first = ap (λ (ns : List ℕ). get_or ns 2 0) turned.first; second = ap (λ (ns : List ℕ). get_or ns 2 0) turned.second; third = ap (λ (ns : List ℕ). get_or ns 2 0) turned.third; fourth = ap (λ (ns : List ℕ). get_or ns 2 0) turned.fourth } in
    let l3 : IsLaneOf 3 d x y z w = record { first = ap (λ (ns : List ℕ). get_or ns 3 0) turned.first; second = ap (λ (ns : List ℕ). get_or ns 3 0) turned.second; third = ap (λ (ns : List ℕ). get_or ns 3 0) turned.third; fourth = ap (λ (ns : List ℕ). get_or ns 3 0) turned.fourth } in
    let whole : length bytes ≡ 64 * count = pieces.whole in
    let within : i < count = pieces.within in
    let even : (at : ℕ) → at + 16 * i ≤ length bytes → length (part bytes at (16 * i)) % 4 ≡ 0 = λ at h. (let e : length (part bytes at (16 * i)) ≡ 16 * i = length-take-le (16 * i) (drop at bytes) (omega (arith, length-drop at bytes)) in omega arith) in
    record {
      goes_on = λ front full is.
          (let even0 : length (part bytes 0 (16 * i)) % 4 ≡ 0 = even 0 (omega arith) in
          let even_all : length (front ++ part bytes 0 (16 * i)) % 4 ≡ 0 = omega (arith, length-append front (part bytes 0 (16 * i))) in
          subst (λ (v : List ℕ). IsSumOf order v (lane u0 u1 0)) (append_assoc front (part bytes 0 (16 * i)) (piece i) ∙ ap (λ (v : List ℕ). front ++ v) (part_more bytes (piece i) 0 i i refl (omega arith)))
          (lane_more order s0 s1 x y z w r0 r1 u0 u1 one two (front ++ part bytes 0 (16 * i)) (piece i) a 0 (lit≤ tt) even_all (long i (omega arith)) pieces.first l0 (before.goes_on front full is)));
      from_zero = subst (λ (v : List ℕ). IsSumOf order v (lane u0 u1 1)) (part_more bytes (piece (count + i)) (16 * count) i (count + i) refl (omega arith))
          (lane_more order s0 s1 x y z w r0 r1 u0 u1 one two (part bytes (16 * count) (16 * i)) (piece (count + i)) b 1 (lit≤ tt) (even (16 * count) (omega arith)) (long (count + i) (omega arith)) pieces.second l1 before.from_zero);
      from_zero_too = subst (λ (v : List ℕ). IsSumOf order v (lane u0 u1 2)) (part_more bytes (piece (2 * count + i)) (2 * (16 * count)) i (2 * count + i) refl (omega arith))
          (lane_more order s0 s1 x y z w r0 r1 u0 u1 one two (part bytes (2 * (16 * count)) (16 * i)) (piece (2 * count + i)) c 2 (lit≤ tt) (even (2 * (16 * count)) (omega arith)) (long (2 * count + i) (omega arith)) pieces.third l2 before.from_zero_too);
      last = subst (λ (v : List ℕ). IsSumOf order v (lane u0 u1 3)) (part_more bytes (piece (3 * count + i)) (3 * (16 * count)) i (3 * count + i) refl (omega arith))
          (lane_more order s0 s1 x y z w r0 r1 u0 u1 one two (part bytes (3 * (16 * count)) (16 * i)) (piece (3 * count + i)) d 3 (lit≤ tt) (even (3 * (16 * count)) (omega arith)) (long (3 * count + i) (omega arith)) pieces.fourth l3 before.last);
    }

pub lanes_none : (order : Order) (bytes : List ℕ) (count : ℕ) (start : Sum) (s0 s1 : List ℕ) → s0 ≡ start.s0 ∷ 0 ∷ 0 ∷ 0 ∷ [] → s1 ≡ start.s1 ∷ 0 ∷ 0 ∷ 0 ∷ [] → AreLanes order bytes count 0 start s0 s1
lanes_none order bytes count start s0 s1 e f =
    let zeros : (k : ℕ) → get_or (start.s0 ∷ 0 ∷ 0 ∷ 0 ∷ []) k 0 ≡ 0 → get_or (start.s1 ∷ 0 ∷ 0 ∷ 0 ∷ []) k 0 ≡ 0 → IsSumOf order [] (lane s0 s1 k) = λ k g h.
    sum_none order (lane s0 s1 k) (ap (λ (ns : List ℕ). get_or ns k 0) e ∙ g) (ap (λ (ns : List ℕ). get_or ns k 0) f ∙ h) in
    record {
      goes_on = λ front even is. subst (λ (v : List ℕ). IsSumOf order v (lane s0 s1 0)) (sym (append-nil front))
          (record { first = ap (λ (ns : List ℕ). get_or ns 0 0) e ∙ is.first; second = ap (λ (ns : List ℕ). get_or ns 0 0) f ∙ is.second });
      from_zero = zeros 1 refl refl;
      from_zero_too = zeros 2 refl refl;
      last = zeros 3 refl refl;
    }

-- a sum goes on over four quarters one behind the other
pub goes_on_quarters : (order : Order) (bytes : List ℕ) (k : ℕ) (start a b c d : Sum) → length bytes ≡ 4 * k → k % 8 ≡ 0 → GoesOn order (part bytes 0 k) start a → GoesOn order (part bytes k k) a b → GoesOn order (part bytes (2 * k) k) b c
    → GoesOn order (part bytes (3 * k) k) c d → GoesOn order bytes start d
goes_on_quarters order bytes k start a b c d whole even one two three four =
    let two_of : take k bytes ++ part bytes k k ≡ take (2 * k) bytes = sym (take-add k k bytes) ∙ ap (λ (j : ℕ). take j bytes) (let e : k + k ≡ 2 * k = omega arith in e) in
    let three_of : take (2 * k) bytes ++ part bytes (2 * k) k ≡ take (3 * k) bytes = sym (take-add (2 * k) k bytes) ∙ ap (λ (j : ℕ). take j bytes) (let e : 2 * k + k ≡ 3 * k = omega arith in e) in
    let all : take (3 * k) bytes ++ part bytes (3 * k) k ≡ bytes = sym (take-add (3 * k) k bytes) ∙ take_all (3 * k + k) bytes (omega arith) in
    let long : (j : ℕ) → j * k ≤ length bytes → length (take (j * k) bytes) ≡ j * k = λ j h. length-take-le (j * k) bytes h in
    let to_two : GoesOn order (take (2 * k) bytes) start b = subst (λ (v : List ℕ). GoesOn order v start b) two_of
    (goes_on_both order (take k bytes) (part bytes k k) start a b (let e : length (take k bytes) ≡ k = length-take-le k bytes (omega arith) in omega arith) one two) in
    let to_three : GoesOn order (take (3 * k) bytes) start c = subst (λ (v : List ℕ). GoesOn order v start c) three_of
    (goes_on_both order (take (2 * k) bytes) (part bytes (2 * k) k) start b c (let e : length (take (2 * k) bytes) ≡ 2 * k = long 2 (omega arith) in omega arith) to_two three) in
    subst (λ (v : List ℕ). GoesOn order v start d) all
    (goes_on_both order (take (3 * k) bytes) (part bytes (3 * k) k) start c d (let e : length (take (3 * k) bytes) ≡ 3 * k = long 3 (omega arith) in omega arith) to_three four)
