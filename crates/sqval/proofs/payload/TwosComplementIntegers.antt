-- Integers in two's complement of one to eight bytes.
use Rattle.std.proofs.Common.{◌≡◌, ◌⊎◌, inl, inr, ℕ, zero, suc, ◌+◌, ◌-◌, ◌*◌, ◌%◌, ◌^◌, ◌<◌, ◌≤◌, ℤ, pos, negsuc, ◌-ℤ◌, SFits, w64, of_z, List, [], length, refl, sym, ap, ◌∙◌, arith}
use Rattle.std.specs.Prelude.{nat_lt, if◌then◌else◌}
use Rattle.std.specs.Int.{bytes_high_first}
use Rattle.std.proofs.lemmas.Bool.{cases_lt, lt-ltb, le-ltb}
use Rattle.std.proofs.lemmas.Bool.Decides.{nat_tests}
use Rattle.std.proofs.lemmas.Int.{ints}
use Rattle.std.proofs.lemmas.List.{append-nil}
use Rattle.byteorder.specs.Endian.{big_number, big_from}
use Rattle.byteorder.specs.Numbers.{big_from-bytes, big_from-lt, length-bytes_high_first}
use Rattle.sqval.specs.Bytes.{AreBytes}
use Rattle.sqval.specs.Datum.{integer}
use Rattle.sqval.specs.Serial.{body_size, signed, held}
use Rattle.sqval.specs.Shortest.{width, integer_serial}
use Rattle.sqval.specs.internal.Shortest.{IsShortestBody}

-- how far a number is from 0, or from -1 down
abbrev pub steps : ℤ → ℕ
steps (pos n) = n
steps (negsuc n) = n

below_zero : (low n : ℕ) → pos low -ℤ pos (low + n + 1) ≡ negsuc n
below_zero low n = omega (arith, ints)

abbrev read_signed : (half top low : ℕ) → ℤ
read_signed half top low = if nat_lt low half then pos low else pos low -ℤ pos top

steps_below : (half top low : ℕ) → top ≡ half + half → low < top → steps (read_signed half top low) < half
steps_below half top low e less =
    elim (cases_lt low half) [
      | inl small ↦ rw (lt-ltb low half small) small
      | inr big ↦
          let whole : top ≡ low + (top - low - 1) + 1 = omega arith in
          rw (le-ltb low half big, whole, below_zero low (top - low - 1)) (omega arith)
    ]

sign_back : (z : ℤ) (half top low : ℕ) → top ≡ half + half → steps z < half → low ≡ of_z w64 z % top
    → (top ≡ 2 ^ 8) ⊎ ((top ≡ 2 ^ 16) ⊎ ((top ≡ 2 ^ 24) ⊎ ((top ≡ 2 ^ 32) ⊎ ((top ≡ 2 ^ 48) ⊎ (top ≡ 2 ^ 64)))))
    → read_signed half top low ≡ z
sign_back (pos n) half top low e near is which =
    let same : low ≡ n = grind arith in
    rw (same, lt-ltb n half near) refl
sign_back (negsuc n) half top low e near is which =
    let same : low + n + 1 ≡ top = grind arith in
    rw (le-ltb low half (omega arith), ← same) (below_zero low n)

-- the bytes of a number in one of the six widths
low_of : (w x : ℕ) → big_number w (bytes_high_first w x) ≡ x % 256 ^ w
low_of w x = ap (λ xs. big_from 0 w xs) (sym (append-nil (bytes_high_first w x))) ∙ big_from-bytes w x []

at_width : (z : ℤ) (serial w : ℕ) → integer_serial z ≡ serial → body_size serial ≡ w → held serial (bytes_high_first w (of_z w64 z)) ≡ integer z
    → IsShortestBody (integer z) (bytes_high_first (body_size (integer_serial z)) (of_z w64 z))
at_width z serial w is wide holds =
    rw (is, wide) (record { size = rw (is, wide) (length-bytes_high_first w (of_z w64 z)); holds = rw is holds })

signed_at : (z : ℤ) (w half top : ℕ) → 2 ^ (8 * w - 1) ≡ half → 2 ^ (8 * w) ≡ top → top ≡ half + half → 256 ^ w ≡ top → steps z < half
    → (top ≡ 2 ^ 8) ⊎ ((top ≡ 2 ^ 16) ⊎ ((top ≡ 2 ^ 24) ⊎ ((top ≡ 2 ^ 32) ⊎ ((top ≡ 2 ^ 48) ⊎ (top ≡ 2 ^ 64)))))
    → signed (bytes_high_first w (of_z w64 z)) ≡ z
signed_at z w half top h t e p near which =
    let low : big_number w (bytes_high_first w (of_z w64 z)) ≡ of_z w64 z % top = rw p at (low_of w (of_z w64 z)) in
    rw (length-bytes_high_first w (of_z w64 z), h, t) (sign_back z half top (big_number w (bytes_high_first w (of_z w64 z))) e near low which)

small : (z : ℤ) → SFits w64 z → steps z < 2 ^ 63
small (pos n) fits = fits.sfits
small (negsuc n) fits = fits.sfits

by_steps : (z : ℤ) → SFits w64 z → integer_serial z ≡ width (steps z)
    → IsShortestBody (integer z) (bytes_high_first (body_size (integer_serial z)) (of_z w64 z))
by_steps z fits is =
    let n = steps z in
    elim (cases_lt n (2 ^ 7)) [
      | inl a ↦ at_width z 1 1 (is ∙ grind (arith, nat_tests)) refl (ap integer (signed_at z 1 (2 ^ 7) (2 ^ 8) refl refl refl refl a (inl refl)))
      | inr a ↦ elim (cases_lt n (2 ^ 15)) [
        | inl b ↦ at_width z 2 2 (is ∙ grind (arith, nat_tests)) refl (ap integer (signed_at z 2 (2 ^ 15) (2 ^ 16) refl refl refl refl b (inr (inl refl))))
        | inr b ↦ elim (cases_lt n (2 ^ 23)) [
          | inl d ↦ at_width z 3 3 (is ∙ grind (arith, nat_tests)) refl (ap integer (signed_at z 3 (2 ^ 23) (2 ^ 24) refl refl refl refl d (inr (inr (inl refl)))))
          | inr d ↦ elim (cases_lt n (2 ^ 31)) [
            | inl e ↦ at_width z 4 4 (is ∙ grind (arith, nat_tests)) refl (ap integer (signed_at z 4 (2 ^ 31) (2 ^ 32) refl refl refl refl e (inr (inr (inr (inl refl))))))
            | inr e ↦ elim (cases_lt n (2 ^ 47)) [
              | inl f ↦ at_width z 5 6 (is ∙ grind (arith, nat_tests)) refl (ap integer (signed_at z 6 (2 ^ 47) (2 ^ 48) refl refl refl refl f (inr (inr (inr (inr (inl refl)))))))
              | inr f ↦ at_width z 6 8 (is ∙ grind (arith, nat_tests)) refl (ap integer (signed_at z 8 (2 ^ 63) (2 ^ 64) refl refl refl refl (small z fits) (inr (inr (inr (inr (inr refl)))))))
            ]
          ]
        ]
      ]
    ]

pub integer_body : (z : ℤ) → SFits w64 z → IsShortestBody (integer z) (bytes_high_first (body_size (integer_serial z)) (of_z w64 z))
integer_body (pos zero) fits = record { size = refl; holds = refl }
integer_body (pos (suc zero)) fits = record { size = refl; holds = refl }
integer_body (pos (suc (suc n))) fits = by_steps (pos (suc (suc n))) fits (rw (le-ltb (suc (suc n)) 2 (omega arith)) refl)
integer_body (negsuc n) fits = by_steps (negsuc n) fits refl

-- no body of fewer bytes holds the number
width_least : (n w : ℕ) → (w ≡ 1) ⊎ ((w ≡ 2) ⊎ ((w ≡ 3) ⊎ ((w ≡ 4) ⊎ ((w ≡ 6) ⊎ (w ≡ 8))))) → n < 2 ^ (8 * w - 1) → body_size (width n) ≤ w
width_least n w (inl e) less = let m : n < 2 ^ 7 = rw e at less in grind (arith, nat_tests)
width_least n w (inr (inl e)) less = let m : n < 2 ^ 15 = rw e at less in grind (arith, nat_tests)
width_least n w (inr (inr (inl e))) less = let m : n < 2 ^ 23 = rw e at less in grind (arith, nat_tests)
width_least n w (inr (inr (inr (inl e)))) less = let m : n < 2 ^ 31 = rw e at less in grind (arith, nat_tests)
width_least n w (inr (inr (inr (inr (inl e))))) less = let m : n < 2 ^ 47 = rw e at less in grind (arith, nat_tests)
width_least n w (inr (inr (inr (inr (inr e))))) less = grind (arith, nat_tests)

integer_least : (z : ℤ) → (body_size (integer_serial z) ≤ body_size (width (steps z))) × (integer_serial z < 128)
integer_least (pos n) = (grind (arith, nat_tests), grind (arith, nat_tests))
integer_least (negsuc n) = (omega arith, grind (arith, nat_tests))

pub signed_least : (body : List ℕ) (w half top : ℕ) → length body ≡ w → AreBytes body
    → (w ≡ 1) ⊎ ((w ≡ 2) ⊎ ((w ≡ 3) ⊎ ((w ≡ 4) ⊎ ((w ≡ 6) ⊎ (w ≡ 8)))))
    → 2 ^ (8 * w - 1) ≡ half → 2 ^ (8 * w) ≡ top → top ≡ half + half → 256 ^ w ≡ top
    → (integer_serial (signed body) < 128) × (body_size (integer_serial (signed body)) ≤ length body)
signed_least body w half top size bytes which h t e p =
    let low : big_number w body < top = rw p at (big_from-lt 0 w body bytes) in
    let near : steps (signed body) < 2 ^ (8 * w - 1) = rw (size, h, t) (steps_below half top (big_number w body) e low) in
    let least = integer_least (signed body) in
    (least.1, omega (arith, least.0, width_least (steps (signed body)) w which near))

pub serial_below : (z : ℤ) → integer_serial z < 128
serial_below z = (integer_least z).1

pub integer_narrow : (z : ℤ) → body_size (integer_serial z) ≤ 8
integer_narrow (pos n) = grind (arith, nat_tests)
integer_narrow (negsuc n) = grind (arith, nat_tests)
