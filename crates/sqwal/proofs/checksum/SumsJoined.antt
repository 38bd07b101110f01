-- The sums over words behind others: each of the earlier two times a Fibonacci number, and those over the later alone.
use Rattle.std.proofs.Common.{◌≡◌, ℕ, zero, suc, ◌+◌, ◌-◌, ◌*◌, ◌/◌, ◌%◌, ◌^◌, ◌≤◌, List, [], ◌∷◌, ◌++◌, length, refl, sym, ◌∙◌, ap, arith, length-append, subst, append_assoc}
use Rattle.std.proofs.Math.Nat.{add-mod-mod, mod-add-mod}
use Rattle.std.proofs.lemmas.Nat.{mul-mod}
use Rattle.sqwal.specs.Sums.{fibonacci, weighted, words, sum_0, sum_1, IsSumOf, GoesOn}
use Rattle.sqwal.specs.internal.Leaps.{IsLeap}
use Rattle.sqwal.specs.declared.leap.Leap.{Leap}
use Rattle.sqwal.specs.declared.sum.Order.{Order}
use Rattle.sqwal.specs.declared.sum.Sum.{Sum}
use Rattle.sqwal.proofs.checksum.Sums.{lower, lower-before, fibonacci_more, words-append}

add_step : (a b p q : ℕ) → b * (q + p) + a * q ≡ (b + a) * q + b * p
add_step a b p q = omega arith

pub fibonacci_add : (m n : ℕ) → fibonacci (m + n + 1) ≡ fibonacci (m + 1) * fibonacci (n + 1) + fibonacci m * fibonacci n
unfolding fibonacci
fibonacci_add zero n = let e : fibonacci (0 + n + 1) ≡ fibonacci (n + 1) = ap fibonacci (let i : 0 + n + 1 ≡ n + 1 = omega arith in i) in omega arith
fibonacci_add (suc m) n =
    let ih : fibonacci (m + (n + 1) + 1) ≡ fibonacci (m + 1) * fibonacci (n + 1 + 1) + fibonacci m * fibonacci (n + 1) = fibonacci_add m (n + 1) in
    let place : fibonacci (suc m + n + 1) ≡ fibonacci (m + (n + 1) + 1) = ap fibonacci (let e : suc m + n + 1 ≡ m + (n + 1) + 1 = omega arith in e) in
    let inner : fibonacci (m + 1) * fibonacci (n + 1 + 1) ≡ fibonacci (m + 1) * (fibonacci (n + 1) + fibonacci n) = ap (λ k. fibonacci (m + 1) * k) (fibonacci_more n) in
    let one : fibonacci (m + 1) * (fibonacci (n + 1) + fibonacci n) + fibonacci m * fibonacci (n + 1) ≡ (fibonacci (m + 1) + fibonacci m) * fibonacci (n + 1) + fibonacci (m + 1) * fibonacci n = add_step (fibonacci m) (fibonacci (m + 1)) (fibonacci n) (fibonacci (n + 1)) in
    let outer : fibonacci (suc m + 1) ≡ fibonacci (m + 1) + fibonacci m = ap fibonacci (let e : suc m + 1 ≡ m + 1 + 1 = omega arith in e) ∙ fibonacci_more m in
    let same : fibonacci (suc m) ≡ fibonacci (m + 1) = ap fibonacci (let e : suc m ≡ m + 1 = omega arith in e) in
    place ∙ ih
    ∙ ap (λ k. k + fibonacci m * fibonacci (n + 1)) inner
    ∙ one
    ∙ ap (λ k. k * fibonacci (n + 1) + fibonacci (m + 1) * fibonacci n) (sym outer)
    ∙ ap (λ k. fibonacci (suc m + 1) * fibonacci (n + 1) + k * fibonacci n) (sym same)

one_more : (x f g h k w l v : ℕ) → x * (f * g + h * k) + (w * g + l * k + v) ≡ (x * f + w) * g + (x * h + l) * k + v
one_more x f g h k w l v = omega arith

weighted-append : (xs ys : List ℕ) → weighted (xs ++ ys) ≡ weighted xs * fibonacci (length ys + 1) + lower xs * fibonacci (length ys) + weighted ys
unfolding weighted lower
weighted-append [] ys = omega arith
weighted-append (x ∷ xs) ys =
    let n : ℕ = length ys in
    let e : fibonacci (length (xs ++ ys) + 1) ≡ fibonacci (length xs + 1) * fibonacci (n + 1) + fibonacci (length xs) * fibonacci n = ap (λ k. fibonacci (k + 1)) (length-append xs ys) ∙ fibonacci_add (length xs) n in
    ap (λ k. x * k + weighted (xs ++ ys)) e
    ∙ ap (λ k. x * (fibonacci (length xs + 1) * fibonacci (n + 1) + fibonacci (length xs) * fibonacci n) + k) (weighted-append xs ys)
    ∙ one_more x (fibonacci (length xs + 1)) (fibonacci (n + 1)) (fibonacci (length xs)) (fibonacci n) (weighted xs) (lower xs) (weighted ys)

lower-append : (xs ys : List ℕ) → 1 ≤ length ys → lower (xs ++ ys) ≡ weighted xs * fibonacci (length ys) + lower xs * fibonacci (length ys - 1) + lower ys
unfolding weighted lower
lower-append [] ys some = omega arith
lower-append (x ∷ xs) ys some =
    let n : ℕ = length ys in
    let place : length (xs ++ ys) ≡ length xs + (n - 1) + 1 = omega (arith, length-append xs ys) in
    let last : n - 1 + 1 ≡ n = omega arith in
    let e : fibonacci (length (xs ++ ys)) ≡ fibonacci (length xs + 1) * fibonacci n + fibonacci (length xs) * fibonacci (n - 1) = ap fibonacci place ∙ fibonacci_add (length xs) (n - 1) ∙ ap (λ k. fibonacci (length xs + 1) * fibonacci k + fibonacci (length xs) * fibonacci (n - 1)) last in
    ap (λ k. x * k + lower (xs ++ ys)) e
    ∙ ap (λ k. x * (fibonacci (length xs + 1) * fibonacci n + fibonacci (length xs) * fibonacci (n - 1)) + k) (lower-append xs ys some)
    ∙ one_more x (fibonacci (length xs + 1)) (fibonacci n) (fibonacci (length xs)) (fibonacci (n - 1)) (weighted xs) (lower xs) (lower ys)

-- products and sums of remainders
sum_of_products : (p a q b z m : ℕ) → (((p % m * (a % m)) % m + (q % m * (b % m)) % m) % m + z % m) % m ≡ (p * a + q * b + z) % m
sum_of_products p a q b z m =
    add-mod-mod (((p % m * (a % m)) % m + (q % m * (b % m)) % m) % m) z m
    ∙ mod-add-mod ((p % m * (a % m)) % m + (q % m * (b % m)) % m) m z
    ∙ ap (λ k. (k + (q % m * (b % m)) % m + z) % m) (sym (mul-mod p a m))
    ∙ ap (λ k. ((p * a) % m + k + z) % m) (sym (mul-mod q b m))
    ∙ ap (λ k. k % m) (let e : (p * a) % m + (q * b) % m + z ≡ (p * a) % m + ((q * b) % m + z) = omega arith in e)
    ∙ mod-add-mod (p * a) m ((q * b) % m + z)
    ∙ ap (λ k. k % m) (let e : p * a + ((q * b) % m + z) ≡ (q * b) % m + (p * a + z) = omega arith in e)
    ∙ mod-add-mod (q * b) m (p * a + z)
    ∙ ap (λ k. k % m) (let e : q * b + (p * a + z) ≡ p * a + q * b + z = omega arith in e)

pub words-length : (order : Order) (a : List ℕ) → length a % 4 ≡ 0 → length (words order a) ≡ length a / 4
unfolding words
words-length order [] h = refl
words-length order (x ∷ []) h = absurd (omega arith)
words-length order (x ∷ y ∷ []) h = absurd (omega arith)
words-length order (x ∷ y ∷ z ∷ []) h = absurd (omega arith)
words-length order (x ∷ y ∷ z ∷ w ∷ a) h = let ih : length (words order a) ≡ length a / 4 = words-length order a (omega arith) in omega arith

-- the two sums of more words by a leap over them
pub record IsJoined (sum later : Sum) (leap : Leap) (joined : Sum) : Type 0 where
  pub first : joined.s0 ≡ (((leap.before * sum.s0) % 2 ^ 32 + (leap.here * sum.s1) % 2 ^ 32) % 2 ^ 32 + later.s0) % 2 ^ 32
  pub second : joined.s1 ≡ (((leap.here * sum.s0) % 2 ^ 32 + (leap.behind * sum.s1) % 2 ^ 32) % 2 ^ 32 + later.s1) % 2 ^ 32

pub goes_on_joined : (order : Order) (bytes : List ℕ) (sum later joined : Sum) (leap : Leap) → length bytes % 8 ≡ 0 → IsLeap (length bytes / 4) leap → IsSumOf order bytes later → IsJoined sum later leap joined → GoesOn order bytes sum joined
goes_on_joined order bytes sum later joined leap even is alone by front whole shown =
    let m : ℕ = 2 ^ 32 in
    let xs : List ℕ = words order front in
    let ys : List ℕ = words order bytes in
    let n : ℕ = length ys in
    let count : length bytes / 4 ≡ n = sym (words-length order bytes (omega arith)) in
    let over : IsLeap n leap = subst (λ (k : ℕ). IsLeap k leap) count is in
    let all : words order (front ++ bytes) ≡ xs ++ ys = words-append order front bytes (omega arith) in
    let s0 : sum.s0 ≡ lower xs % m = shown.first ∙ ap (λ k. k % m) (sym (lower-before xs)) in
    let z0 : later.s0 ≡ lower ys % m = alone.first ∙ ap (λ k. k % m) (sym (lower-before ys)) in
    let below : lower (xs ++ ys) ≡ fibonacci (n - 1) * lower xs + fibonacci n * weighted xs + lower ys = lower-append xs ys over.some ∙ (let e : weighted xs * fibonacci n + lower xs * fibonacci (n - 1) + lower ys ≡ fibonacci (n - 1) * lower xs + fibonacci n * weighted xs + lower ys = omega arith in e) in
    let above : weighted (xs ++ ys) ≡ fibonacci n * lower xs + fibonacci (n + 1) * weighted xs + weighted ys = weighted-append xs ys ∙ (let e : weighted xs * fibonacci (n + 1) + lower xs * fibonacci n + weighted ys ≡ fibonacci n * lower xs + fibonacci (n + 1) * weighted xs + weighted ys = omega arith in e) in
    let first : joined.s0 ≡ (((fibonacci (n - 1) % m * (lower xs % m)) % m + (fibonacci n % m * (weighted xs % m)) % m) % m + lower ys % m) % m =
    by.first
    ∙ ap (λ k. (((k * sum.s0) % m + (leap.here * sum.s1) % m) % m + later.s0) % m) over.before
    ∙ ap (λ k. (((fibonacci (n - 1) % m * k) % m + (leap.here * sum.s1) % m) % m + later.s0) % m) s0
    ∙ ap (λ k. (((fibonacci (n - 1) % m * (lower xs % m)) % m + (k * sum.s1) % m) % m + later.s0) % m) over.here
    ∙ ap (λ k. (((fibonacci (n - 1) % m * (lower xs % m)) % m + (fibonacci n % m * k) % m) % m + later.s0) % m) shown.second
    ∙ ap (λ k. (((fibonacci (n - 1) % m * (lower xs % m)) % m + (fibonacci n % m * (weighted xs % m)) % m) % m + k) % m) z0 in
    let second : joined.s1 ≡ (((fibonacci n % m * (lower xs % m)) % m + (fibonacci (n + 1) % m * (weighted xs % m)) % m) % m + weighted ys % m) % m =
    by.second
    ∙ ap (λ k. (((k * sum.s0) % m + (leap.behind * sum.s1) % m) % m + later.s1) % m) over.here
    ∙ ap (λ k. (((fibonacci n % m * k) % m + (leap.behind * sum.s1) % m) % m + later.s1) % m) s0
    ∙ ap (λ k. (((fibonacci n % m * (lower xs % m)) % m + (k * sum.s1) % m) % m + later.s1) % m) over.behind
    ∙ ap (λ k. (((fibonacci n % m * (lower xs % m)) % m + (fibonacci (n + 1) % m * k) % m) % m + later.s1) % m) shown.second
    ∙ ap (λ k. (((fibonacci n % m * (lower xs % m)) % m + (fibonacci (n + 1) % m * (weighted xs % m)) % m) % m + k) % m) alone.second in
    record {
      first = first ∙ sum_of_products (fibonacci (n - 1)) (lower xs) (fibonacci n) (weighted xs) (lower ys) m
          ∙ ap (λ k. k % m) (sym below ∙ lower-before (xs ++ ys)) ∙ ap sum_0 (sym all);
      second = second ∙ sum_of_products (fibonacci n) (lower xs) (fibonacci (n + 1)) (weighted xs) (weighted ys) m
          ∙ ap (λ k. k % m) (sym above) ∙ ap sum_1 (sym all);
    }

-- a sum goes on over bytes and then over more
pub goes_on_both : (order : Order) (xs ys : List ℕ) (start middle end : Sum) → length xs % 8 ≡ 0 → GoesOn order xs start middle → GoesOn order ys middle end → GoesOn order (xs ++ ys) start end
goes_on_both order xs ys start middle end even one two front whole is =
    subst (λ (w : List ℕ). IsSumOf order w end) (append_assoc front xs ys)
    (two (front ++ xs) (let e : length (front ++ xs) % 8 ≡ 0 = omega (arith, length-append front xs) in e) (one front whole is))
