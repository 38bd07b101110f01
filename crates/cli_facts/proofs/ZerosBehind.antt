-- A buffer whose end was filled with zeros.
use Rattle.std.proofs.Common.{◌≡◌, ℕ, ◌+◌, ◌-◌, ◌<◌, ◌≤◌, List, length, get_or, replicate, ◌++◌, sym, ◌∙◌, ap, arith, rules, ⊎_elim, take, drop}
use Rattle.std.proofs.lemmas.Grind.{common_steps}
use Rattle.std.proofs.lemmas.List.{get_or_past, get_or-append_right, get_or_append_left, get_or-replicate, length-replicate, length-take-le}
use Rattle.std.proofs.lemmas.List.FromFn.{fill_by_all}
use Rattle.std.proofs.lemmas.Bool.{cases_lt}
use borrow.Rule.Slice.PartMut.{put_mid, post_of}
use Rattle.sqview.specs.Laid.{part_or_zeros}

length_filled : (xs ys : List ℕ) (count n : ℕ) → length xs ≡ n → count ≤ n → length ys ≡ n - count → length (put_mid count (n - count) xs ys) ≡ n
length_filled xs ys count n long within same = search (rules, common_steps)

byte_before : (xs ys : List ℕ) (count n k : ℕ) → length xs ≡ n → count ≤ n → k < count → get_or (put_mid count (n - count) xs ys) k 0 ≡ get_or xs k 0
byte_before xs ys count n k long within lt = search (rules, common_steps)

byte_behind : (xs ys : List ℕ) (count n k : ℕ) → length xs ≡ n → count ≤ n → ys ≡ replicate (n - count) 0 → count ≤ k → k < n
    → get_or (put_mid count (n - count) xs ys) k 0 ≡ 0
byte_behind xs ys count n k long within zeros above lt =
    let same : length ys ≡ n - count = ap (λ (l : List ℕ). length l) zeros ∙ length-replicate (n - count) 0 in
    get_or-append_right (take count xs) (ys ++ post_of count (n - count) xs) count k 0 (length-take-le count xs (omega arith)) above
    ∙ get_or_append_left ys (post_of count (n - count) xs) 0 (k - count) (omega arith)
    ∙ ap (λ (l : List ℕ). get_or l (k - count) 0) zeros ∙ get_or-replicate (n - count) (k - count) 0 0 (omega arith)

-- it holds the bytes of the file there, and zeros behind its end
pub filled_part : (file xs ys : List ℕ) (at count n : ℕ) → length xs ≡ n → count ≤ n → ((k : ℕ) → k < count → get_or xs k 0 ≡ get_or file (at + k) 0)
    → (count < n → length file ≤ at + count) → ys ≡ replicate (n - count) 0 → put_mid count (n - count) xs ys ≡ part_or_zeros n at file
unfolding part_or_zeros
filled_part file xs ys at count n long within read end zeros =
    fill_by_all (λ i. get_or file (at + i) 0) (put_mid count (n - count) xs ys) n 0
    (length_filled xs ys count n long within (ap (λ (l : List ℕ). length l) zeros ∙ length-replicate (n - count) 0))
    (λ k lt. ⊎_elim (λ below. byte_before xs ys count n k long within below ∙ read k below)
    (λ above. byte_behind xs ys count n k long within zeros above lt
    ∙ sym (get_or_past file (at + k) 0 (let e : length file ≤ at + count = end (omega arith) in omega arith))) (cases_lt k count))

-- as long as the buffer behind the bytes that were read
pub rest_long : (xs : List ℕ) (count : ℕ) → length (take (length xs - count) (drop count xs)) ≡ length xs - count
rest_long xs count = search (rules, common_steps)
