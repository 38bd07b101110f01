-- What is read of the front of a file doesn't hang on the rest.
use Rattle.std.proofs.Common.{◌≡◌, ℕ, ◌+◌, ◌≤◌, List, ◌++◌, length, take, drop, sym, ◌∙◌, ap, arith}
use Rattle.std.proofs.lemmas.List.{take-append-le, drop-append-le, drop-drop, take-take, drop-take}
use Rattle.std.proofs.Math.ListN.{length-drop}
use Rattle.byteorder.specs.Endian.{big_number}
use Rattle.sqval.specs.Bytes.{part, word}

pub part_more : (b more : List ℕ) (at n : ℕ) → at + n ≤ length b → part (b ++ more) at n ≡ part b at n
part_more b more at n h =
    ap (take n) (drop-append-le at b more (omega arith)) ∙ take-append-le n (drop at b) more (simp length-drop (omega arith))

pub word_more : (b more : List ℕ) (at : ℕ) → at + 4 ≤ length b → word (b ++ more) at ≡ word b at
word_more b more at h = ap (big_number 4) (part_more b more at 4 h)

-- a part of a part
pub part_part : (b : List ℕ) (at n k m : ℕ) → k + m ≤ n → part (part b at n) k m ≡ part b (at + k) m
part_part b at n k m h =
    let front : take (k + m) (take n (drop at b)) ≡ take (k + m) (drop at b) = take-take (k + m) n (drop at b) h in
    sym (drop-take k m (take n (drop at b))) ∙ ap (drop k) front ∙ drop-take k m (drop at b) ∙ ap (take m) (drop-drop k at b)

pub word_part : (b : List ℕ) (at n k : ℕ) → k + 4 ≤ n → word (part b at n) k ≡ word b (at + k)
word_part b at n k h = ap (big_number 4) (part_part b at n k 4 h)

-- the front of a part
pub part_front : (b : List ℕ) (at n m : ℕ) → m ≤ n → part (part b at n) 0 m ≡ part b at m
part_front b at n m h = take-take m n (drop at b) h

pub word_front_of : (b : List ℕ) (at n : ℕ) → 4 ≤ n → word (part b at n) 0 ≡ word b at
word_front_of b at n h = ap (big_number 4) (part_front b at n 4 h)
