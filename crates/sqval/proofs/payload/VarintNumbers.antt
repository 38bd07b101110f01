-- Varints: their numbers, and that bytes begin with one varint at most.
use Rattle.std.proofs.Common.{Option, None, Some, lit<, lit≤, ◌≡◌, ◌≢◌, inl, inr, ℕ, zero, suc, ◌+◌, ◌-◌, ◌*◌, ◌/◌, ◌%◌, ◌^◌, ◌<◌, ◌≤◌, List, [], ◌∷◌, ◌++◌, length, take, drop, get_or, set, refl, sym, ap, ◌∙◌, arith, pow-suc, add-one, length-append, length-take, length-drop, length-set, get_or-set_same, get_or-set_other}
use Rattle.std.proofs.lemmas.List.{length-take-le, get_or-take, take-take, drop-set, take_more, take_more_set, length_push, get_or_push, take-set-le, take_at, get_or_append_left}
use Rattle.std.proofs.lemmas.Bool.{cases_lt, cases_eq}
use Rattle.std.proofs.Math.Nat.{pow-le-pow_right, mul-le-mul_right}
use Rattle.sqval.specs.Varint.{number_of_sevens, Spells, Begins}

pub pow_more : (n : ℕ) → 128 ^ (n + 1) ≡ 128 ^ n * 128
pow_more n = rw add-one (pow-suc 128 n)

-- one more byte at the end
pub sevens-push : (xs : List ℕ) (x : ℕ) → number_of_sevens (xs ++ x ∷ []) ≡ number_of_sevens xs * 128 + x % 128
sevens-push [] x = omega arith
sevens-push (y ∷ xs) x =
    let power : 128 ^ length (xs ++ x ∷ []) ≡ 128 ^ length xs * 128 = rw length-append (pow_more (length xs)) in
    let shift : (y % 128) * (128 ^ length xs * 128) ≡ (y % 128) * 128 ^ length xs * 128 = omega arith in
    rw (power, sevens-push xs x) (omega arith)

pub sevens-below : (xs : List ℕ) → number_of_sevens xs < 128 ^ length xs
sevens-below [] = omega arith
sevens-below (x ∷ xs) =
    let digit : x % 128 ≤ 127 = omega arith in
    let most : (x % 128) * 128 ^ length xs ≤ 127 * 128 ^ length xs = mul-le-mul_right (128 ^ length xs) digit in
    let power = pow-suc 128 (length xs) in
    let rest = sevens-below xs in
    rw power (omega arith)

-- a varint ends where the code says that it does
same_size : (n m k l : ℕ) (bytes : List ℕ) → Begins n k bytes → Begins m l bytes → ¬ (k < l)
same_size n m k l bytes a b less =
    let long_k : length (take k bytes) ≡ k = length-take-le k bytes a.within in
    let long_l : length (take l bytes) ≡ l = length-take-le l bytes b.within in
    let some : 1 ≤ k = omega (arith, a.front.at_least_one) in
    let few : k < 9 = omega (arith, b.front.at_most_nine) in
    let stops : get_or (take k bytes) (k - 1) 0 < 128 = rw long_k at (a.front.ends (omega arith)) in
    let goes : 128 ≤ get_or (take l bytes) (k - 1) 0 = b.front.goes_on (k - 1) (omega arith) in
    omega (arith, get_or-take k bytes (k - 1) 0 (omega arith), get_or-take l bytes (k - 1) 0 (omega arith))

same_number : (n m : ℕ) (bytes : List ℕ) → Spells n bytes → Spells m bytes → n ≡ m
same_number n m bytes a b =
    elim (cases_lt (length bytes) 9) [
      | inl less ↦ a.short less ∙ sym (b.short less)
      | inr most ↦ let nine : length bytes ≡ 9 = omega (arith, a.at_most_nine) in a.long nine ∙ sym (b.long nine)
    ]

pub begins_once : (n m k l : ℕ) (bytes : List ℕ) → Begins n k bytes → Begins m l bytes → (n ≡ m) × (k ≡ l)
begins_once n m k l bytes a b =
    let same : k ≡ l = omega (arith, same_size n m k l bytes a b, same_size m n l k bytes b a) in
    let there : Spells n (take l bytes) = rw same at a.front in
    (same_number n m (take l bytes) there b.front, same)

pub ends_ninth : (bytes : List ℕ) (high byte : ℕ) → 8 < length bytes → ((i : ℕ) → i < 8 → 128 ≤ get_or bytes i 0)
    → high ≡ number_of_sevens (take 8 bytes) → byte ≡ get_or bytes 8 0 → Begins (high * 256 + byte) 9 bytes
ends_ninth bytes high byte long goes_on e last =
    let nine : length (take 9 bytes) ≡ 9 = length-take-le 9 bytes (omega arith) in
    record {
      within = omega arith;
      front = record {
        at_least_one = omega arith;
        at_most_nine = omega arith;
        goes_on = λ i h. rw (get_or-take 9 bytes i 0 (omega arith)) (goes_on i (omega arith));
        ends = λ h. absurd (omega arith);
        short = λ h. absurd (omega arith);
        long = λ _. rw (get_or-take 9 bytes 8 0 (lit< tt), take-take 8 9 bytes (lit≤ tt)) (omega arith);
      };
    }

pub ends_here : (bytes : List ℕ) (i high byte : ℕ) → i < 8 → i < length bytes → ((j : ℕ) → j < i → 128 ≤ get_or bytes j 0)
    → high ≡ number_of_sevens (take i bytes) → byte ≡ get_or bytes i 0 → byte < 128 → Begins (high * 128 + byte) (i + 1) bytes
ends_here bytes i high byte few long goes_on e last less =
    let size : length (take (i + 1) bytes) ≡ i + 1 = length-take-le (i + 1) bytes (omega arith) in
    let whole : number_of_sevens (take (i + 1) bytes) ≡ number_of_sevens (take i bytes) * 128 + get_or bytes i 0 % 128 =
    rw (take_more bytes i 0 long) (sevens-push (take i bytes) (get_or bytes i 0)) in
    record {
      within = omega arith;
      front = record {
        at_least_one = omega arith;
        at_most_nine = omega arith;
        goes_on = λ j h. rw (get_or-take (i + 1) bytes j 0 (omega arith)) (goes_on j (omega arith));
        ends = λ _. let at : length (take (i + 1) bytes) - 1 ≡ i = omega arith in rw (at, get_or-take (i + 1) bytes i 0 (omega arith)) (omega arith);
        short = λ _. omega arith;
        long = λ h. absurd (omega arith);
      };
    }

pub none_begins : (bytes : List ℕ) → length bytes ≤ 8 → ((i : ℕ) → i < length bytes → 128 ≤ get_or bytes i 0)
    → (n k : ℕ) → ¬ Begins n k bytes
none_begins bytes few goes_on n k b =
    let size : length (take k bytes) ≡ k = length-take-le k bytes b.within in
    let some : 1 ≤ k = omega (arith, b.front.at_least_one) in
    let stops : get_or (take k bytes) (k - 1) 0 < 128 = rw size at (b.front.ends (omega (arith, b.within))) in
    omega (arith, get_or-take k bytes (k - 1) 0 (omega arith), goes_on (k - 1) (omega (arith, b.within)))

-- the answer of a reader
abbrev pub found : (number size : ℕ) → Option (ℕ × ℕ)
found number size = Some (number, size)

-- at bytes that begin with a varint it is that one
pub some_exactly : (n k : ℕ) (bytes : List ℕ) → Begins n k bytes → (m l : ℕ)
    → (found n k ≡ found m l → Begins m l bytes) × (Begins m l bytes → found n k ≡ found m l)
some_exactly n k bytes b m l = (
  (λ e.
      let first : n ≡ m = ap (λ o. elim o [ None ↦ n | Some p ↦ p.0 ]) e in
      let second : k ≡ l = ap (λ o. elim o [ None ↦ k | Some p ↦ p.1 ]) e in
      rw (← first, ← second) b),
  λ other. let same = begins_once n m k l bytes b other in rw (same.0, same.1) refl,
)

-- seven bytes at most give a number that has room for another one
pub sevens_within : (bytes : List ℕ) (i j high : ℕ) → i ≤ j → high ≡ number_of_sevens (take i bytes) → high < 128 ^ j
sevens_within bytes i j high few e =
    let size = length-take i bytes in
    let power : 128 ^ length (take i bytes) ≤ 128 ^ j = pow-le-pow_right (lit≤ tt) (omega arith) in
    omega (arith, sevens-below (take i bytes))

-- one more digit in front
pub write_more : (out : List ℕ) (i rest number : ℕ) → 0 < i → i ≤ length out
    → number_of_sevens (drop i out) + rest * 128 ^ (length out - i) ≡ number
    → number_of_sevens (drop (i - 1) (set out (i - 1) (128 + rest % 128)))
    + rest / 128 * 128 ^ (length (set out (i - 1) (128 + rest % 128)) - (i - 1)) ≡ number
write_more out i rest number some within e =
    let back : i - 1 + 1 ≡ i = omega arith in
    let more : length out - (i - 1) ≡ length out - i + 1 = omega arith in
    let size : length (drop i out) ≡ length out - i = length-drop i out in
    let digit : (128 + rest % 128) % 128 ≡ rest % 128 = omega arith in
    let whole : rest / 128 * 128 + rest % 128 ≡ rest = omega arith in
    let spread : rest * 128 ^ (length out - i) ≡ (rest / 128 * 128 + rest % 128) * 128 ^ (length out - i) = ap (λ x. x * 128 ^ (length out - i)) (sym whole) in
    rw (drop-set out (i - 1) (128 + rest % 128) (omega arith), length-set out (i - 1) (128 + rest % 128), back, more, size, digit, pow_more (length out - i)) (omega arith)

-- all eight digits and one whole byte
pub spells_nine : (digits rest : List ℕ) (number byte : ℕ) → length digits ≡ 8 → 1 ≤ length rest
    → number_of_sevens digits ≡ number / 256 → ((i : ℕ) → i < length digits → 128 ≤ get_or digits i 0)
    → byte ≡ number % 256
    → Spells number (take 9 (set (digits ++ rest) 8 byte))
spells_nine digits rest number byte size some e goes_on last =
    let long : length (digits ++ rest) ≡ 8 + length rest = omega (arith, length-append digits rest) in
    let nine : length (take 9 (set (digits ++ rest) 8 byte)) ≡ 9 =
    length-take-le 9 (set (digits ++ rest) 8 byte) (omega (arith, length-set (digits ++ rest) 8 byte)) in
    let front : take 8 (take 9 (set (digits ++ rest) 8 byte)) ≡ digits =
    take-take 8 9 (set (digits ++ rest) 8 byte) (lit≤ tt) ∙ take-set-le 8 (digits ++ rest) 8 byte (lit≤ tt) ∙ take_at digits rest 8 size in
    let last_is : get_or (take 9 (set (digits ++ rest) 8 byte)) 8 0 ≡ byte =
    get_or-take 9 (set (digits ++ rest) 8 byte) 8 0 (lit< tt) ∙ get_or-set_same (digits ++ rest) 8 byte 0 (omega arith) in
    record {
      at_least_one = omega arith;
      at_most_nine = omega arith;
      goes_on = λ i h.
          let less : i < 8 = omega arith in
          let other : i ≢ 8 = omega arith in
          rw (get_or-take 9 (set (digits ++ rest) 8 byte) i 0 (omega arith), get_or-set_other (digits ++ rest) 8 i byte 0 other, get_or_append_left digits rest 0 i (omega arith))
          (goes_on i (omega arith));
      ends = λ h. absurd (omega arith);
      short = λ h. absurd (omega arith);
      long = λ _. rw (front, last_is) (omega arith);
    }

-- fewer than nine bytes, the last one with its top bit clear
pub spells_fewer : (digits rest : List ℕ) (number i : ℕ) → length digits ≡ i → i < 8 → 1 ≤ length rest
    → number_of_sevens digits ≡ number / 128 → ((k : ℕ) → k < length digits → 128 ≤ get_or digits k 0)
    → Spells number (take (i + 1) (set (digits ++ rest) i (number % 128)))
spells_fewer digits rest number i size few some e goes_on =
    let place : i < length (digits ++ rest) = omega (arith, length-append digits rest) in
    let written : take (i + 1) (set (digits ++ rest) i (number % 128)) ≡ digits ++ (number % 128) ∷ [] =
    rw (take_more_set (digits ++ rest) i (number % 128) place, take_at digits rest i size) refl in
    let long : length (digits ++ (number % 128) ∷ []) ≡ i + 1 = omega (arith, length_push digits (number % 128)) in
    rw written record {
      at_least_one = omega arith;
      at_most_nine = omega arith;
      goes_on = λ k h. rw (get_or_append_left digits ((number % 128) ∷ []) 0 k (omega arith)) (goes_on k (omega arith));
      ends = λ _.
          let at : length (digits ++ (number % 128) ∷ []) - 1 ≡ i = omega arith in
          rw (at, get_or_push digits (number % 128) 0 i size) (omega arith);
      short = λ _. omega (arith, sevens-push digits (number % 128));
      long = λ h. absurd (omega arith);
    }

-- a number less its last seven bits has a digit less
pub shorter : (number size : ℕ) → 1 ≤ size → number < 128 ^ size → number / 128 < 128 ^ (size - 1)
shorter number size some less =
    let back : size ≡ size - 1 + 1 = omega arith in
    omega (arith, ap (λ j. 128 ^ j) back ∙ pow_more (size - 1))

-- nothing shorter spells it
pub spells_shortest : (number size : ℕ) → size ≤ 9 → (1 < size → 128 ^ (size - 1) ≤ number) → (bytes : List ℕ) → Spells number bytes → size ≤ length bytes
spells_shortest number size most least bytes spells =
    elim (cases_lt (length bytes) size) [
      | inr enough ↦ enough
      | inl less ↦
          let few : length bytes < 9 = omega arith in
          let power : 128 ^ length bytes ≤ 128 ^ (size - 1) = pow-le-pow_right (lit≤ tt) (omega arith) in
          absurd (omega (arith, spells.at_least_one, spells.short few, sevens-below bytes, least (omega (arith, spells.at_least_one))))
    ]

-- a varint is read whatever follows
pub begins_before : (number size : ℕ) (bytes rest : List ℕ) → length bytes ≡ size → Spells number bytes → Begins number size (bytes ++ rest)
begins_before number size bytes rest e spells =
    record { within = omega (arith, length-append bytes rest); front = rw (take_at bytes rest size e) spells }

-- no digit is left
pub all_written : (out : List ℕ) (i rest number size : ℕ) → length out ≡ size → i ≤ 0 → number < 128 ^ size
    → number_of_sevens (drop i out) + rest * 128 ^ (length out - i) ≡ number → number_of_sevens out ≡ number
all_written out zero rest number size e first less whole =
    let same : length out - 0 ≡ size = omega arith in
    let product : rest * 128 ^ (length out - 0) ≡ rest * 128 ^ size = ap (λ n. rest * 128 ^ n) same in
    elim (cases_eq rest 0) [
      | inl none ↦ let gone : rest * 128 ^ size ≡ 0 * 128 ^ size = ap (λ r. r * 128 ^ size) none in omega arith
      | inr some ↦ let power : 1 * 128 ^ size ≤ rest * 128 ^ size = mul-le-mul_right (128 ^ size) (omega arith) in absurd (omega arith)
    ]
all_written out (suc i) rest number size e first less whole = absurd (omega arith)
