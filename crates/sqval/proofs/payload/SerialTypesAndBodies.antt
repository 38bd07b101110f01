-- What varints, serial types and bodies read as.
use Rattle.std.proofs.Common.{◌≡◌, inl, inr, ℕ, zero, suc, ◌+◌, ◌-◌, ◌*◌, ◌<◌, ◌≤◌, List, [], ◌∷◌, length, take, drop, get_or, true, false, refl, sym, ap, ◌∙◌, arith, length-take, length-drop, length-append}
use Rattle.std.specs.Prelude.{sum_by, nat_le, nat_lt, ◌==◌}
use Rattle.std.specs.List.{prefix_len}
use Rattle.std.proofs.lemmas.List.{length-take-le, get_or-take, take_at, drop_at, take-append-drop, drop_all}
use Rattle.std.proofs.lemmas.List.Sums.{prefix_len_is, prefix_len_passes, prefix_len_stops, prefix_len-le-length, sum_by-cons}
use Rattle.std.proofs.lemmas.Bool.{eqb-true, cases_lt, leb-true, leb-false, le-leb, lt-leb, cond-true, cond-false, eq-eqb, lt-ltb, le-ltb, ne_eqb}
use Rattle.sqval.specs.Varint.{number_of_sevens, Begins}
use Rattle.sqval.specs.Datum.{Datum}
use Rattle.sqval.specs.Serial.{body_size, held}
use Rattle.sqval.specs.Record.{Lead, Hold}
use Rattle.sqval.specs.internal.Shown.{size_at, number_at, numbers_within, serials, values_held}
use Rattle.sqval.proofs.payload.VarintNumbers.{ends_ninth, ends_here, begins_once}

-- a varint of k bytes at the front
size_of_begins : (n k : ℕ) (bytes : List ℕ) → Begins n k bytes → size_at bytes ≡ k
size_of_begins n k bytes b =
    let long : length (take k bytes) ≡ k = length-take-le k bytes b.within in
    let eight = length-take 8 bytes in
    let some : 1 ≤ k = omega (arith, b.front.at_least_one) in
    let few : k ≤ 9 = omega (arith, b.front.at_most_nine) in
    let passes : (i : ℕ) → i < k - 1 → nat_le 128 (get_or (take 8 bytes) i 0) ≡ true =
    λ i h. le-leb 128 (get_or (take 8 bytes) i 0) (omega (arith, get_or-take 8 bytes i 0 (omega arith), get_or-take k bytes i 0 (omega arith), b.front.goes_on i (omega arith))) in
    let stops : k - 1 < length (take 8 bytes) → nat_le 128 (get_or (take 8 bytes) (k - 1) 0) ≡ false =
    λ h. let last : get_or (take k bytes) (k - 1) 0 < 128 = rw long at (b.front.ends (omega arith)) in
    lt-leb 128 (get_or (take 8 bytes) (k - 1) 0) (omega (arith, get_or-take 8 bytes (k - 1) 0 (omega arith), get_or-take k bytes (k - 1) 0 (omega arith))) in
    let front = prefix_len_is (λ byte. nat_le 128 byte) (take 8 bytes) (k - 1) 0 (omega (arith, b.within)) passes stops in
    omega arith

-- bytes that hold as many bytes as a varint at their front would take begin with one
pub begins_at : (bytes : List ℕ) → size_at bytes ≤ length bytes → Begins (number_at bytes) (size_at bytes) bytes
begins_at bytes within =
    let m : ℕ = prefix_len (λ byte. nat_le 128 byte) (take 8 bytes) in
    let eight = length-take 8 bytes in
    let most = prefix_len-le-length (λ byte. nat_le 128 byte) (take 8 bytes) in
    let goes_on : (i : ℕ) → i < m → 128 ≤ get_or bytes i 0 =
    λ i h. omega (arith, leb-true 128 (get_or (take 8 bytes) i 0) (prefix_len_passes (λ byte. nat_le 128 byte) (take 8 bytes) i 0 h), get_or-take 8 bytes i 0 (omega arith)) in
    elim (cases_lt m 8) [
      | inl less ↦
          let stop : get_or bytes m 0 < 128 = omega (arith, leb-false 128 (get_or (take 8 bytes) m 0) (prefix_len_stops (λ byte. nat_le 128 byte) (take 8 bytes) 0 (omega arith)), get_or-take 8 bytes m 0 (omega arith)) in
          let begins = ends_here bytes m (number_of_sevens (take m bytes)) (get_or bytes m 0) less (omega arith) goes_on refl refl stop in
          let size : m + 1 ≡ size_at bytes = omega arith in
          let there = rw size at begins in
          let few : length (take (size_at bytes) bytes) < 9 = omega (arith, length-take (size_at bytes) bytes) in
          let number : number_of_sevens (take m bytes) * 128 + get_or bytes m 0 ≡ number_at bytes =
          there.front.short few ∙ sym (cond-false (size_at bytes == 9) _ _ (ne_eqb (size_at bytes) 9 (omega arith))) in
          rw number at there
      | inr many ↦
          let nine : 9 ≡ size_at bytes = omega arith in
          let begins = ends_ninth bytes (number_of_sevens (take 8 bytes)) (get_or bytes 8 0) (omega arith) (λ i h. goes_on i (omega arith)) refl refl in
          let there = rw nine at begins in
          let number : number_of_sevens (take 8 bytes) * 256 + get_or bytes 8 0 ≡ number_at bytes =
          let turn : number_of_sevens (take 8 bytes) * 256 + get_or bytes 8 0 ≡ 256 * number_of_sevens (take 8 bytes) + get_or bytes 8 0 = omega arith in
          turn ∙ sym (cond-true (size_at bytes == 9) _ _ (eq-eqb (size_at bytes) 9 (sym nine))) in
          rw number at there
    ]

-- what begins with a varint begins with the one that is read there
pub at_begins : (n k : ℕ) (bytes : List ℕ) → Begins n k bytes → (number_at bytes ≡ n) × (size_at bytes ≡ k)
at_begins n k bytes b =
    let size = size_of_begins n k bytes b in
    let within : size_at bytes ≤ length bytes = omega (arith, b.within) in
    begins_once (number_at bytes) n (size_at bytes) k bytes (begins_at bytes within) b

none_at : (bytes : List ℕ) → ((n k : ℕ) → ¬ Begins n k bytes) → length bytes < size_at bytes
none_at bytes none =
    elim (cases_lt (length bytes) (size_at bytes)) [ inl less ↦ less | inr within ↦ absurd (none _ _ (begins_at bytes within)) ]

numbers_none : (most : ℕ) (bytes : List ℕ) → length bytes < size_at bytes → numbers_within most bytes ≡ []
numbers_none zero bytes less = refl
numbers_none (suc most) bytes less = cond-true (nat_lt (length bytes) (size_at bytes)) _ _ (lt-ltb (length bytes) (size_at bytes) less)

numbers_next : (most n k : ℕ) (bytes : List ℕ) → Begins n k bytes
    → numbers_within (suc most) bytes ≡ n ∷ numbers_within most (drop k bytes)
numbers_next most n k bytes b =
    let at = at_begins n k bytes b in
    cond-false (nat_lt (length bytes) (size_at bytes)) _ _ (le-ltb (length bytes) (size_at bytes) (omega (arith, b.within)))
    ∙ rw (at.0, at.1) refl

-- the limit of a walk is none where it is the length or more
numbers_enough : (f g : ℕ) (bytes : List ℕ) → length bytes ≤ f → length bytes ≤ g → numbers_within f bytes ≡ numbers_within g bytes
numbers_enough zero g bytes a b = sym (numbers_none g bytes (omega arith))
numbers_enough (suc f) zero bytes a b = numbers_none (suc f) bytes (omega arith)
numbers_enough (suc f) (suc g) bytes a b =
    elim (cases_lt (length bytes) (size_at bytes)) [
      | inl less ↦ numbers_none (suc f) bytes less ∙ sym (numbers_none (suc g) bytes less)
      | inr within ↦
          let here = begins_at bytes within in
          let fewer = length-drop (size_at bytes) bytes in
          numbers_next f _ _ bytes here
          ∙ ap (λ rest. number_at bytes ∷ rest) (numbers_enough f g (drop (size_at bytes) bytes) (omega arith) (omega arith))
          ∙ sym (numbers_next g _ _ bytes here)
    ]

pub serials_none : (bytes : List ℕ) → ((n k : ℕ) → ¬ Begins n k bytes) → serials bytes ≡ []
unfolding serials
serials_none bytes none = numbers_none (length bytes) bytes (none_at bytes none)

pub serials_next : (n k : ℕ) (bytes : List ℕ) → Begins n k bytes → serials bytes ≡ n ∷ serials (drop k bytes)
unfolding serials
serials_next n k bytes b =
    let some : 1 ≤ k = omega (arith, length-take-le k bytes b.within, b.front.at_least_one) in
    let fewer = length-drop k bytes in
    let whole : length bytes ≡ suc (length bytes - 1) = omega (arith, b.within) in
    ap (λ most. numbers_within most bytes) whole ∙ numbers_next (length bytes - 1) n k bytes b
    ∙ ap (λ rest. n ∷ rest) (numbers_enough (length bytes - 1) (length (drop k bytes)) (drop k bytes) (omega (arith, b.within)) (omega arith))

pub nothing_begins : (n k : ℕ) → ¬ Begins n k []
nothing_begins n k b = omega (arith, b.within, length-take {A = ℕ} k [], b.front.at_least_one)

pub serials_of : (types bytes : List ℕ) → Lead types bytes [] → serials bytes ≡ types
serials_of [] bytes e = ap serials e ∙ serials_none [] nothing_begins
serials_of (serial ∷ types) bytes (size, begins, outer, lead) =
    serials_next serial size bytes begins ∙ ap (λ rest. serial ∷ rest) (serials_of types (drop size bytes) lead)

-- bodies that fill the bytes hold the values that are read there, and no others
pub length-values_held : (types bytes : List ℕ) → length (values_held types bytes) ≡ length types
length-values_held [] bytes = refl
length-values_held (serial ∷ types) bytes = ap suc (length-values_held types (drop (body_size serial) bytes))

pub hold_all : (types bytes : List ℕ) → sum_by body_size types ≡ length bytes → Hold types (values_held types bytes) bytes
hold_all [] bytes e = (refl, drop_all 0 bytes (omega arith))
hold_all (serial ∷ types) bytes e =
    let sum = sum_by-cons body_size serial types in
    let within : body_size serial ≤ length bytes = omega arith in (
      take (body_size serial) bytes,
      drop (body_size serial) bytes,
      values_held types (drop (body_size serial) bytes),
      sym (take-append-drop (body_size serial) bytes),
      length-take-le (body_size serial) bytes within,
      refl,
      hold_all types (drop (body_size serial) bytes) (omega (arith, length-drop (body_size serial) bytes)),
    )

pub hold_only : (types : List ℕ) (values : List Datum) (bytes : List ℕ) → Hold types values bytes
    → (values_held types bytes ≡ values) × (sum_by body_size types ≡ length bytes)
hold_only [] values bytes (none, empty) = (sym none, sym (ap length empty))
hold_only (serial ∷ types) values bytes (body, others, more, parts, size, first, rest) =
    let behind = hold_only types more others rest in
    let front : take (body_size serial) bytes ≡ body = ap (λ b. take (body_size serial) b) parts ∙ take_at body others (body_size serial) size in
    let back : drop (body_size serial) bytes ≡ others = ap (λ b. drop (body_size serial) b) parts ∙ drop_at body others (body_size serial) size in (
      rw (front, back, behind.0) (sym first),
      omega (arith, sum_by-cons body_size serial types, behind.1, ap length parts, length-append body others),
    )

pub none_left : (count : ℕ) (values : List Datum) → count ≡ length values
    → ((count == 0) ≡ true → values ≡ []) × (values ≡ [] → (count == 0) ≡ true)
none_left count values e = (
  (λ zero. drop_all 0 values (omega (arith, eqb-true count 0 zero))),
  λ none. eq-eqb count 0 (e ∙ ap length none),
)

-- the first column and the others
pub shown_next : (serial taken : ℕ) (types bodies : List ℕ) → Begins serial taken types
    → values_held (serials types) bodies
    ≡ held serial (take (body_size serial) bodies) ∷ values_held (serials (drop taken types)) (drop (body_size serial) bodies)
shown_next serial taken types bodies begins = ap (λ s. values_held s bodies) (serials_next serial taken types begins)

pub shown_none : (types bodies : List ℕ) → ((n k : ℕ) → ¬ Begins n k types) → values_held (serials types) bodies ≡ []
shown_none types bodies none = ap (λ s. values_held s bodies) (serials_none types none)

pub room_next : (serial taken : ℕ) (types bodies : List ℕ) → Begins serial taken types
    → sum_by body_size (serials types) ≤ length bodies
    → (body_size serial ≤ length bodies) × (sum_by body_size (serials (drop taken types)) ≤ length (drop (body_size serial) bodies))
room_next serial taken types bodies begins room =
    let sum = ap (λ s. sum_by body_size s) (serials_next serial taken types begins) ∙ sum_by-cons body_size serial (serials (drop taken types)) in
    (omega arith, omega (arith, length-drop (body_size serial) bodies))
