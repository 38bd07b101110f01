-- The Fibonacci numbers of twice a count, from those of the count.
use Rattle.std.proofs.Common.{◌≡◌, ℕ, suc, ◌+◌, ◌-◌, ◌*◌, ◌%◌, ◌^◌, ◌<◌, ◌≤◌, ⊎_elim, sym, ◌∙◌, ap, arith, refl, lit≤, subst}
use Rattle.std.proofs.Math.Nat.{add-mod-mod, mod-add-mod, pow-succ'}
use Rattle.std.proofs.Math.Pow.{pow_mono}
use Rattle.std.proofs.lemmas.Nat.{mul-mod, pow_pos}
use Rattle.std.proofs.lemmas.Bool.{cases_lt}
use Rattle.sqwal.specs.Sums.{fibonacci}
use Rattle.sqwal.specs.internal.Leaps.{IsLeap}
use Rattle.sqwal.specs.declared.leap.Leap.{Leap}
use Rattle.sqwal.proofs.checksum.SumsJoined.{fibonacci_add}

-- a leap with the numbers of twice the count
pub record IsDoubled (leap double : Leap) : Type 0 where
  pub before : double.before ≡ ((leap.before * leap.before) % 2 ^ 32 + (leap.here * leap.here) % 2 ^ 32) % 2 ^ 32
  pub here : double.here ≡ (leap.here * ((leap.before + leap.behind) % 2 ^ 32)) % 2 ^ 32
  pub behind : double.behind ≡ ((leap.behind * leap.behind) % 2 ^ 32 + (leap.here * leap.here) % 2 ^ 32) % 2 ^ 32

two_squares : (a b m : ℕ) → ((a % m * (a % m)) % m + (b % m * (b % m)) % m) % m ≡ (a * a + b * b) % m
two_squares a b m =
    ap (λ k. (k + (b % m * (b % m)) % m) % m) (sym (mul-mod a a m))
    ∙ ap (λ k. ((a * a) % m + k) % m) (sym (mul-mod b b m))
    ∙ add-mod-mod ((a * a) % m) (b * b) m
    ∙ mod-add-mod (a * a) m (b * b)

with_both : (a b c m : ℕ) → (b % m * ((a % m + c % m) % m)) % m ≡ (b * (a + c)) % m
with_both a b c m =
    ap (λ k. (b % m * k) % m) (add-mod-mod (a % m) c m ∙ mod-add-mod a m c)
    ∙ sym (mul-mod b (a + c) m)

pub doubled_is : (n : ℕ) (leap double : Leap) → IsLeap n leap → IsDoubled leap double → IsLeap (2 * n) double
doubled_is n leap double is by =
    let m : ℕ = 2 ^ 32 in
    let p : ℕ = n - 1 in
    let last : p + 1 ≡ n = omega (arith, is.some) in
    let e0 : fibonacci (2 * n - 1) ≡ fibonacci p * fibonacci p + fibonacci n * fibonacci n =
    ap fibonacci (let e : 2 * n - 1 ≡ p + p + 1 = omega (arith, is.some) in e) ∙ fibonacci_add p p
    ∙ ap (λ k. fibonacci k * fibonacci k + fibonacci p * fibonacci p) last
    ∙ (let e : fibonacci n * fibonacci n + fibonacci p * fibonacci p ≡ fibonacci p * fibonacci p + fibonacci n * fibonacci n = omega arith in e) in
    let e1 : fibonacci (2 * n) ≡ fibonacci n * (fibonacci p + fibonacci (n + 1)) =
    ap fibonacci (let e : 2 * n ≡ p + n + 1 = omega (arith, is.some) in e) ∙ fibonacci_add p n
    ∙ ap (λ k. fibonacci k * fibonacci (n + 1) + fibonacci p * fibonacci n) last
    ∙ (let e : fibonacci n * fibonacci (n + 1) + fibonacci p * fibonacci n ≡ fibonacci n * (fibonacci p + fibonacci (n + 1)) = omega arith in e) in
    let e2 : fibonacci (2 * n + 1) ≡ fibonacci (n + 1) * fibonacci (n + 1) + fibonacci n * fibonacci n =
    ap fibonacci (let e : 2 * n + 1 ≡ n + n + 1 = omega arith in e) ∙ fibonacci_add n n in
    record {
      some = omega (arith, is.some);
      before = by.before
          ∙ ap (λ k. ((k * k) % m + (leap.here * leap.here) % m) % m) is.before
          ∙ ap (λ k. ((fibonacci p % m * (fibonacci p % m)) % m + (k * k) % m) % m) is.here
          ∙ two_squares (fibonacci p) (fibonacci n) m ∙ ap (λ k. k % m) (sym e0);
      here = by.here
          ∙ ap (λ k. (k * ((leap.before + leap.behind) % m)) % m) is.here
          ∙ ap (λ k. (fibonacci n % m * ((k + leap.behind) % m)) % m) is.before
          ∙ ap (λ k. (fibonacci n % m * ((fibonacci p % m + k) % m)) % m) is.behind
          ∙ with_both (fibonacci p) (fibonacci n) (fibonacci (n + 1)) m ∙ ap (λ k. k % m) (sym e1);
      behind = by.behind
          ∙ ap (λ k. ((k * k) % m + (leap.here * leap.here) % m) % m) is.behind
          ∙ ap (λ k. ((fibonacci (n + 1) % m * (fibonacci (n + 1) % m)) % m + (k * k) % m) % m) is.here
          ∙ two_squares (fibonacci (n + 1)) (fibonacci n) m ∙ ap (λ k. k % m) (sym e2);
    }

leap_of : (before here behind : ℕ) → Leap
leap_of before here behind = record { before = before; here = here; behind = behind }

one_word : IsLeap 1 (leap_of 0 1 1)
unfolding fibonacci leap_of
one_word = record { some = lit≤ tt; before = refl; here = refl; behind = refl }

twice : (n a b c p q r : ℕ) → IsLeap n (leap_of a b c) → p ≡ ((a * a) % 2 ^ 32 + (b * b) % 2 ^ 32) % 2 ^ 32 → q ≡ (b * ((a + c) % 2 ^ 32)) % 2 ^ 32 → r ≡ ((c * c) % 2 ^ 32 + (b * b) % 2 ^ 32) % 2 ^ 32 → IsLeap (2 * n) (leap_of p q r)
unfolding leap_of
twice n a b c p q r is e0 e1 e2 = doubled_is n (record { before = a; here = b; behind = c }) (record { before = p; here = q; behind = r }) is (record { before = e0; here = e1; behind = e2 })

pub over_32 : IsLeap 32 (record { before = 1346269; here = 2178309; behind = 3524578 })
unfolding leap_of
over_32 =
    let two : IsLeap 2 (leap_of 1 1 2) = twice 1 0 1 1 1 1 2 one_word refl refl refl in
    let four : IsLeap 4 (leap_of 2 3 5) = twice 2 1 1 2 2 3 5 two refl refl refl in
    let eight : IsLeap 8 (leap_of 13 21 34) = twice 4 2 3 5 13 21 34 four refl refl refl in
    let sixteen : IsLeap 16 (leap_of 610 987 1597) = twice 8 13 21 34 610 987 1597 eight refl refl refl in
    twice 16 610 987 1597 1346269 2178309 3524578 sixteen refl refl refl

-- ---- 32 words, doubled until they are as many as are asked for

pub record IsReached (words reached : ℕ) (leap : Leap) : Type 0 where
  pub so_far : IsLeap reached leap
  pub power : (j : ℕ) × (reached ≡ 32 * 2 ^ j)
  pub within : (k : ℕ) → words ≡ 32 * 2 ^ k → reached ≤ words

power_more : (j k : ℕ) → 2 ^ j < 2 ^ k → 2 ^ (j + 1) ≤ 2 ^ k
power_more j k lt = ⊎_elim
    (λ (l : j < k). pow_mono (let e : j + 1 ≤ k = omega arith in e))
    (λ (g : k ≤ j). let more : 2 ^ k ≤ 2 ^ j = pow_mono g in absurd (omega arith))
    (cases_lt j k)

power_twice : (j : ℕ) → 2 ^ (j + 1) ≡ 2 * 2 ^ j
power_twice j = ap (λ (k : ℕ). 2 ^ k) (let e : j + 1 ≡ suc j = omega arith in e) ∙ pow-succ' 2 j

pub reached_first : (words : ℕ) (leap : Leap) → IsLeap 32 leap → IsReached words 32 leap
reached_first words leap is = record {
  so_far = is;
  power = (0, refl);
  within = λ k e. let some : 0 < 2 ^ k = pow_pos k in omega arith;
}

pub reached_twice : (words reached : ℕ) (leap double : Leap) → reached < words → ((n : ℕ) → IsLeap n leap → IsLeap (2 * n) double) → IsReached words reached leap → IsReached words (reached * 2) double
reached_twice words reached leap double lt doubles is =
    let j : ℕ = is.power.0 in
    let at : reached ≡ 32 * 2 ^ j = is.power.1 in
    let more : 2 ^ (j + 1) ≡ 2 * 2 ^ j = power_twice j in
    record {
      so_far = subst (λ (k : ℕ). IsLeap k double) (let e : 2 * reached ≡ reached * 2 = omega arith in e) (doubles reached is.so_far);
      power = (j + 1, (let e : reached * 2 ≡ 32 * 2 ^ (j + 1) = omega arith in e));
      within = λ k e. (let below : 2 ^ j < 2 ^ k = omega arith in let next : 2 ^ (j + 1) ≤ 2 ^ k = power_more j k below in omega arith);
    }
