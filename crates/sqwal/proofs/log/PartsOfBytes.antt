-- Reading along a list of bytes.
use Rattle.std.proofs.Common.{◌≡◌, ℕ, ◌+◌, ◌^◌, ◌<◌, ◌≤◌, List, [], ◌++◌, length, take, drop, sym, ◌∙◌, ap, arith}
use Rattle.std.proofs.lemmas.List.{take_at, drop_at, drop-drop, take-take, drop-take, take-append-drop, append-nil}
use Rattle.byteorder.specs.Endian.{big_bytes, big_number}
use Rattle.byteorder.specs.Numbers.{big_number-reads_back, length-bytes_high_first}
use Rattle.sqval.specs.Bytes.{part, word}
use Rattle.sqwal.proofs.log.DependenceOnPrefix.{part_same}

pub drop_to : (w b r : List ℕ) (at k to : ℕ) → drop at w ≡ b ++ r → length b ≡ k → at + k ≡ to → drop to w ≡ r
drop_to w b r at k to e l h = ap (λ (x : ℕ). drop x w) (sym h) ∙ sym (drop-drop k at w) ∙ ap (drop k) e ∙ drop_at b r k l

pub part_on : (w b r : List ℕ) (at k : ℕ) → drop at w ≡ b ++ r → length b ≡ k → part w at k ≡ b
part_on w b r at k e l = ap (take k) e ∙ take_at b r k l

pub word_on : (w r : List ℕ) (at x : ℕ) → drop at w ≡ big_bytes 4 x ++ r → x < 2 ^ 32 → word w at ≡ x
word_on w r at x e h = ap (big_number 4) (part_on w (big_bytes 4 x) r at 4 e (length-bytes_high_first 4 x)) ∙ ap (big_number 4) (sym (append-nil (big_bytes 4 x))) ∙ big_number-reads_back 4 x [] h

pub four : (x : ℕ) → length (big_bytes 4 x) ≡ 4
four x = length-bytes_high_first 4 x

pub take_add : (w : List ℕ) (a k : ℕ) → take (a + k) w ≡ take a w ++ part w a k
take_add w a k = sym (take-append-drop a (take (a + k) w)) ∙ ap (λ x. x ++ drop a (take (a + k) w)) (take-take a (a + k) w (omega arith)) ∙ ap (λ x. take a w ++ x) (drop-take a k w)

-- what is read of equal parts is equal
pub part_in : (w v : List ℕ) (a b k o n : ℕ) → part w a k ≡ part v b k → o + n ≤ k → part w (a + o) n ≡ part v (b + o) n
part_in w v a b k o n e h = ap (take n) (sym (drop-drop o a w)) ∙ part_same (drop a w) (drop b v) k o n e h ∙ ap (take n) (drop-drop o b v)

pub word_in : (w v : List ℕ) (a b k o : ℕ) → part w a k ≡ part v b k → o + 4 ≤ k → word w (a + o) ≡ word v (b + o)
word_in w v a b k o e h = ap (big_number 4) (part_in w v a b k o 4 e h)
