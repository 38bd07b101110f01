-- The sum runs over the words two at a time.
use Rattle.std.proofs.Common.{◌≡◌, ℕ, zero, suc, ◌+◌, ◌-◌, ◌*◌, ◌%◌, ◌^◌, ◌<◌, ◌≤◌, List, [], ◌∷◌, ◌++◌, length, take, drop, refl, sym, ◌∙◌, ap, arith, add-one, append_assoc, get_or, lit≤, length-append, subst}
use Rattle.std.proofs.Math.Seq.{take-add}
use Rattle.std.proofs.lemmas.List.{take_at, length_push, take_all, take_more, length-take-le, length-drop, drop-drop, append-nil}
use Rattle.std.proofs.Math.Nat.{add-mod-mod, mod-add-mod}
use Rattle.std.specs.Simd.{first_chunks}
use Rattle.byteorder.specs.Endian.{big_number, little_number}
use Rattle.byteorder.specs.Numbers.{big_from-take, little_from-take}
use Rattle.sqwal.specs.Sums.{number, fibonacci, weighted, words, sum_0, sum_1, IsSumOf, GoesOn}
use Rattle.sqwal.specs.declared.sum.Order.{Order}
use Rattle.sqwal.specs.declared.sum.Order.TheVariants.{Big, Little}
use Rattle.sqwal.specs.declared.sum.Sum.{Sum}

-- as `weighted`, with the Fibonacci number before
unfoldable pub lower : List ℕ → ℕ
lower [] = 0
lower (x ∷ xs) = x * fibonacci (length xs) + lower xs

pub fibonacci_more : (n : ℕ) → fibonacci (n + 1 + 1) ≡ fibonacci (n + 1) + fibonacci n
unfolding fibonacci
fibonacci_more n = rw add-one (rw add-one refl)

weighted-push : (xs : List ℕ) (y : ℕ) → weighted (xs ++ y ∷ []) ≡ weighted xs + lower xs + y
unfolding weighted lower fibonacci
weighted-push [] y = omega arith
weighted-push (x ∷ xs) y =
    let ih : weighted (xs ++ y ∷ []) ≡ weighted xs + lower xs + y = weighted-push xs y in
    let e : fibonacci (length (xs ++ y ∷ []) + 1) ≡ fibonacci (length xs + 1) + fibonacci (length xs) = ap (λ n. fibonacci (n + 1)) (length_push xs y) ∙ fibonacci_more (length xs) in
    let m : x * fibonacci (length (xs ++ y ∷ []) + 1) ≡ x * (fibonacci (length xs + 1) + fibonacci (length xs)) = ap (λ n. x * n) e in
    omega arith

lower-push : (xs : List ℕ) (y : ℕ) → lower (xs ++ y ∷ []) ≡ weighted xs
unfolding weighted lower fibonacci
lower-push [] y = omega arith
lower-push (x ∷ xs) y =
    let ih : lower (xs ++ y ∷ []) ≡ weighted xs = lower-push xs y in
    let m : x * fibonacci (length (xs ++ y ∷ [])) ≡ x * fibonacci (length xs + 1) = ap (λ n. x * fibonacci n) (length_push xs y) in
    omega arith

-- the sum before the last word
abbrev pub before : List ℕ → ℕ
before xs = weighted (take (length xs - 1) xs)

before-push : (xs : List ℕ) (y : ℕ) → before (xs ++ y ∷ []) ≡ weighted xs
before-push xs y = ap (λ n. weighted (take n (xs ++ y ∷ []))) (let e : length (xs ++ y ∷ []) - 1 ≡ length xs = omega (arith, length_push xs y) in e) ∙ ap weighted (take_at xs (y ∷ []) (length xs) refl)

pub lower-before : (xs : List ℕ) → lower xs ≡ before xs
unfolding lower weighted
lower-before [] = refl
lower-before (x ∷ xs) =
    let all : List ℕ = x ∷ xs in
    let n : ℕ = length xs in
    let e : all ≡ take n all ++ get_or all n 0 ∷ [] = sym (take_all (n + 1) all (omega arith)) ∙ take_more all n 0 (omega arith) in
    ap lower e ∙ lower-push (take n all) (get_or all n 0) ∙ ap (λ k. weighted (take k all)) (let k : n ≡ length all - 1 = omega arith in k)

sum_mod : (a x b m : ℕ) → (a % m + x + b % m) % m ≡ (a + x + b) % m
sum_mod a x b m =
    add-mod-mod (a % m + x) b m
    ∙ ap (λ n. n % m) (let e : a % m + x + b ≡ a % m + (x + b) = omega arith in e)
    ∙ mod-add-mod a m (x + b)
    ∙ ap (λ n. n % m) (let e : a + (x + b) ≡ a + x + b = omega arith in e)

-- Two words more: the first is added with the second sum to the first sum, and then the second with that to the second.
pub sum-more : (xs : List ℕ) (x y : ℕ) → (sum_0 (xs ++ x ∷ y ∷ []) ≡ (sum_0 xs + x + sum_1 xs) % 2 ^ 32) × (sum_1 (xs ++ x ∷ y ∷ []) ≡ (sum_1 xs + y + sum_0 (xs ++ x ∷ y ∷ [])) % 2 ^ 32)
sum-more xs x y =
    let split : xs ++ x ∷ y ∷ [] ≡ (xs ++ x ∷ []) ++ y ∷ [] = sym (append_assoc xs (x ∷ []) (y ∷ [])) in
    let one : weighted (xs ++ x ∷ []) ≡ weighted xs + before xs + x = weighted-push xs x ∙ ap (λ n. weighted xs + n + x) (lower-before xs) in
    let two : weighted (xs ++ x ∷ y ∷ []) ≡ weighted (xs ++ x ∷ []) + weighted xs + y = ap weighted split ∙ weighted-push (xs ++ x ∷ []) y ∙ ap (λ n. weighted (xs ++ x ∷ []) + n + y) (lower-push xs x) in
    let first : before (xs ++ x ∷ y ∷ []) ≡ weighted (xs ++ x ∷ []) = ap before split ∙ before-push (xs ++ x ∷ []) y in (
      ap (λ n. n % 2 ^ 32) (let e : before (xs ++ x ∷ y ∷ []) ≡ before xs + x + weighted xs = omega (arith, first, one) in e) ∙ sym (sum_mod (before xs) x (weighted xs) (2 ^ 32)),
      ap (λ n. n % 2 ^ 32) (let e : weighted (xs ++ x ∷ y ∷ []) ≡ weighted xs + y + before (xs ++ x ∷ y ∷ []) = omega (arith, first, two) in e) ∙ sym (sum_mod (weighted xs) y (before (xs ++ x ∷ y ∷ [])) (2 ^ 32)),
    )

-- ---- the words of bytes

number_take : (order : Order) (x : List ℕ) → number order (take 4 x) ≡ number order x
unfolding number
number_take Big x = big_from-take 0 4 4 x (lit≤ tt)
number_take Little x = little_from-take 0 4 4 x (lit≤ tt)

pub number_big : (x : List ℕ) → number Big (take 4 x) ≡ big_number 4 x
unfolding number
number_big x = number_take Big x

pub number_little : (x : List ℕ) → number Little (take 4 x) ≡ little_number 4 x
unfolding number
number_little x = number_take Little x

pub words-append : (order : Order) (a b : List ℕ) → length a % 4 ≡ 0 → words order (a ++ b) ≡ words order a ++ words order b
unfolding words
words-append order [] b h = refl
words-append order (x ∷ []) b h = absurd (omega arith)
words-append order (x ∷ y ∷ []) b h = absurd (omega arith)
words-append order (x ∷ y ∷ z ∷ []) b h = absurd (omega arith)
words-append order (x ∷ y ∷ z ∷ w ∷ a) b h = ap (λ (ns : List ℕ). number order (x ∷ y ∷ z ∷ w ∷ []) ∷ ns) (words-append order a b (omega arith))

pub words-first : (order : Order) (x : List ℕ) → 4 ≤ length x → words order x ≡ number order (take 4 x) ∷ words order (drop 4 x)
unfolding words
words-first order [] h = absurd (omega arith)
words-first order (x ∷ []) h = absurd (omega arith)
words-first order (x ∷ y ∷ []) h = absurd (omega arith)
words-first order (x ∷ y ∷ z ∷ []) h = absurd (omega arith)
words-first order (x ∷ y ∷ z ∷ w ∷ a) h = refl

pub words_none : (order : Order) (x : List ℕ) → length x ≡ 0 → words order x ≡ []
unfolding words
words_none order [] h = refl
words_none order (x ∷ xs) h = absurd (omega arith)

words_pair : (order : Order) (x : List ℕ) → length x ≡ 8 → words order x ≡ number order (take 4 x) ∷ number order (take 4 (drop 4 x)) ∷ []
words_pair order x h =
    let l : length (drop 4 x) ≡ 4 = omega (arith, length-drop 4 x) in
    let none : words order (drop 4 (drop 4 x)) ≡ [] = words_none order (drop 4 (drop 4 x)) (omega (arith, length-drop 4 (drop 4 x))) in
    words-first order x (omega arith) ∙ ap (λ (ns : List ℕ). number order (take 4 x) ∷ ns) (words-first order (drop 4 x) (omega arith) ∙ ap (λ (ns : List ℕ). number order (take 4 (drop 4 x)) ∷ ns) none)

-- ---- the sum of bytes

pub sum_none : (order : Order) (sum : Sum) → sum.s0 ≡ 0 → sum.s1 ≡ 0 → IsSumOf order [] sum
unfolding words weighted
sum_none order sum a b = record { first = a; second = b }

-- the two sums with two words more
pub record IsNext (sum : Sum) (x y : ℕ) (next : Sum) : Type 0 where
  pub first : next.s0 ≡ (sum.s0 + x + sum.s1) % 2 ^ 32
  pub second : next.s1 ≡ (sum.s1 + y + next.s0) % 2 ^ 32

-- a sum goes on over 8 bytes
pub sum_next : (order : Order) (front x : List ℕ) (sum next : Sum) → length front % 4 ≡ 0 → length x ≡ 8 → IsSumOf order front sum
    → IsNext sum (number order (take 4 x)) (number order (take 4 (drop 4 x))) next → IsSumOf order (front ++ x) next
sum_next order front x sum next whole pair is more =
    let ns : List ℕ = words order front in
    let a : ℕ = number order (take 4 x) in
    let b : ℕ = number order (take 4 (drop 4 x)) in
    let all : words order (front ++ x) ≡ ns ++ a ∷ b ∷ [] = words-append order front x whole ∙ ap (λ (ys : List ℕ). ns ++ ys) (words_pair order x pair) in
    let both = sum-more ns a b in
    let first : next.s0 ≡ sum_0 (ns ++ a ∷ b ∷ []) = more.first ∙ ap (λ n. (n + a + sum.s1) % 2 ^ 32) is.first ∙ ap (λ n. (sum_0 ns + a + n) % 2 ^ 32) is.second ∙ sym both.0 in
    record {
      first = first ∙ ap sum_0 (sym all);
      second = more.second ∙ ap (λ n. (n + b + next.s0) % 2 ^ 32) is.second ∙ ap (λ n. (sum_1 ns + b + n) % 2 ^ 32) first ∙ sym both.1 ∙ ap sum_1 (sym all);
    }

-- ---- bytes in pairs of words

pub get_or-first_chunks : (n k i : ℕ) (xs d : List ℕ) → i < k → get_or (first_chunks n k xs) i d ≡ take n (drop (n * i) xs)
get_or-first_chunks n zero i xs d h = absurd (omega arith)
get_or-first_chunks n (suc k) zero xs d h = let e : n * 0 ≡ 0 = omega arith in rw e refl
get_or-first_chunks n (suc k) (suc i) xs d h =
    get_or-first_chunks n k i (drop n xs) d (omega arith)
    ∙ ap (take n) (drop-drop (n * i) n xs ∙ ap (λ (j : ℕ). drop j xs) (let e : n + n * i ≡ n * suc i = omega arith in e))

pub goes_on_none : (order : Order) (xs : List ℕ) (sum : Sum) → GoesOn order (take 0 xs) sum sum
goes_on_none order xs sum front whole is = subst (λ (w : List ℕ). IsSumOf order w sum) (sym (append-nil front)) is

-- one pair of words more
pub goes_on_pair : (order : Order) (xs pair : List ℕ) (i : ℕ) (start sum next : Sum) → 8 * i + 8 ≤ length xs → pair ≡ take 8 (drop (8 * i) xs) → GoesOn order (take (8 * i) xs) start sum
    → IsNext sum (number order (take 4 pair)) (number order (take 4 (drop 4 pair))) next → GoesOn order (take (8 * (i + 1)) xs) start next
goes_on_pair order xs pair i start sum next fits is before more front whole sums =
    let shown : IsSumOf order (front ++ take (8 * i) xs) sum = before front whole sums in
    let len : length (take (8 * i) xs) ≡ 8 * i = length-take-le (8 * i) xs (omega arith) in
    let len_pair : length pair ≡ 8 = ap length is ∙ length-take-le 8 (drop (8 * i) xs) (omega (arith, length-drop (8 * i) xs)) in
    let all : IsSumOf order ((front ++ take (8 * i) xs) ++ pair) next = sum_next order (front ++ take (8 * i) xs) pair sum next (let e : length (front ++ take (8 * i) xs) % 4 ≡ 0 = omega (arith, length-append front (take (8 * i) xs)) in e) len_pair shown more in
    let joined : take (8 * i) xs ++ pair ≡ take (8 * (i + 1)) xs = ap (λ (y : List ℕ). take (8 * i) xs ++ y) is ∙ sym (take-add (8 * i) 8 xs) ∙ ap (λ (j : ℕ). take j xs) (let e : 8 * i + 8 ≡ 8 * (i + 1) = omega arith in e) in
    subst (λ (w : List ℕ). IsSumOf order w next) (append_assoc front (take (8 * i) xs) pair ∙ ap (λ (y : List ℕ). front ++ y) joined) all
