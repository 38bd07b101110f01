-- The characters of UTF-16: where the first one ends, and that there is no other.
use Rattle.std.proofs.Common.{◌≡◌, ◌≢◌, ◌⊎◌, ℕ, ◌+◌, ◌*◌, ◌-◌, ◌/◌, ◌%◌, ◌<◌, ◌≤◌, Bool, true, false, List, [], ◌∷◌, ◌++◌, length, refl, sym, ap, ◌∙◌, inl, inr, arith, append_assoc}
use Rattle.std.specs.List.{flat_map}
use Rattle.std.specs.Char.{IsScalar}
use Rattle.std.specs.Char.Escape.{encode_utf16}
use Rattle.std.specs.Str.{all_scalars}
use Rattle.std.proofs.Math.Utf8.{scalar_cases}
use Rattle.std.proofs.lemmas.Bool.{lt-ltb, le-ltb, cases_lt, and_parts}
use Rattle.sqtext.specs.Texts.{unit_bytes, utf16_bytes}

-- the first element, and the others
abbrev first_in : List ℕ → ℕ
first_in [] = 0
first_in (x ∷ xs) = x

abbrev others_in : List ℕ → List ℕ
others_in [] = []
others_in (x ∷ xs) = xs

-- the bytes of a unit tell it, and what stands behind it
pub unit_same : (big : Bool) (u v : ℕ) (r s : List ℕ) → unit_bytes big u ++ r ≡ unit_bytes big v ++ s → (u ≡ v) × (r ≡ s)
unit_same true u v r s e =
    let a : u / 256 ≡ v / 256 = ap first_in e in
    let b : u % 256 ≡ v % 256 = ap (λ z. first_in (others_in z)) e in
    (omega (arith, a, b), ap (λ z. others_in (others_in z)) e)
unit_same false u v r s e =
    let a : u % 256 ≡ v % 256 = ap first_in e in
    let b : u / 256 ≡ v / 256 = ap (λ z. first_in (others_in z)) e in
    (omega (arith, a, b), ap (λ z. others_in (others_in z)) e)

pub unit_length : (big : Bool) (u : ℕ) (r : List ℕ) → 2 ≤ length (unit_bytes big u ++ r)
unit_length true u r = omega arith
unit_length false u r = omega arith

one_unit : (c : ℕ) → c < 0x1_0000 → encode_utf16 c ≡ c ∷ []
one_unit c h = rw (lt-ltb c 0x1_0000 h) refl

two_units : (c : ℕ) → 0x1_0000 ≤ c → encode_utf16 c ≡ (0xD800 + (c - 0x1_0000) / 0x400) ∷ (0xDC00 + (c - 0x1_0000) % 0x400) ∷ []
two_units c h = rw (le-ltb c 0x1_0000 h) refl

-- A character is two units, of which neither is one by itself.
pub record AreTwoUnits (c high low : ℕ) : Type 0 where
  pub units : encode_utf16 c ≡ high ∷ low ∷ []
  pub least : 0xD800 ≤ high
  pub most : high < 0xDC00
  pub low_least : 0xDC00 ≤ low
  pub low_most : low < 0xE000
  pub made : c ≡ 0x1_0000 + ((high - 0xD800) * 0x400 + (low - 0xDC00))

below : (c : ℕ) → (c < 55296) ⊎ ((57344 ≤ c) × (c < 1114112)) → c < 0x11_0000
below c (inl small) = omega (arith, small)
below c (inr large) = large.1

apart : (c : ℕ) → (c < 55296) ⊎ ((57344 ≤ c) × (c < 1114112)) → 0xD800 ≤ c → c < 0xE000 → ⊥
apart c (inl small) least most = omega (arith, small, least)
apart c (inr large) least most = let more = large.0 in omega (arith, more, most)

-- It is one unit, or two.
pub units_of : (c : ℕ) → IsScalar c → (encode_utf16 c ≡ c ∷ []) ⊎ ((high : ℕ) × (low : ℕ) × AreTwoUnits c high low)
units_of c scalar = elim (cases_lt c 0x1_0000) [
  | inl small ↦ inl (one_unit c small)
  | inr large ↦ (
      let most : c < 0x11_0000 = below c (scalar_cases c scalar) in
      inr (
        0xD800 + (c - 0x1_0000) / 0x400,
        0xDC00 + (c - 0x1_0000) % 0x400,
        record {
          units = two_units c large;
          least = omega arith;
          most = omega (arith, large, most);
          low_least = omega arith;
          low_most = omega arith;
          made = omega (arith, large);
        },
      ))
]

-- what the bytes of a character are before others
pub bytes_one : (big : Bool) (c u : ℕ) (r : List ℕ) → encode_utf16 c ≡ u ∷ [] → utf16_bytes big c ++ r ≡ unit_bytes big u ++ r
bytes_one big c u r e = ap (λ us. flat_map (unit_bytes big) us ++ r) e ∙ append_assoc (unit_bytes big u) [] r

pub bytes_two : (big : Bool) (c high low : ℕ) (r : List ℕ) → encode_utf16 c ≡ high ∷ low ∷ [] → utf16_bytes big c ++ r ≡ unit_bytes big high ++ (unit_bytes big low ++ r)
bytes_two big c high low r e =
    ap (λ us. flat_map (unit_bytes big) us ++ r) e ∙ append_assoc (unit_bytes big high) (unit_bytes big low ++ []) r
    ∙ ap (λ z. unit_bytes big high ++ z) (append_assoc (unit_bytes big low) [] r)

pub char_length : (big : Bool) (c : ℕ) (r : List ℕ) → IsScalar c → 2 ≤ length (utf16_bytes big c ++ r)
char_length big c r scalar = elim (units_of c scalar) [
  | inl one ↦ (let same : length (utf16_bytes big c ++ r) ≡ length (unit_bytes big c ++ r) = ap length (bytes_one big c c r one) in let long = unit_length big c r in omega (arith, same, long))
  | inr two ↦ (
      let rest = unit_bytes big two.1 ++ r in
      let same : length (utf16_bytes big c ++ r) ≡ length (unit_bytes big two.0 ++ rest) = ap length (bytes_two big c two.0 two.1 r two.2.units) in
      let long = unit_length big two.0 rest in
      omega (arith, same, long))
]

-- two characters that begin the same bytes are one, and what stands behind them is the same
pub char_same : (big : Bool) (c d : ℕ) (r s : List ℕ) → IsScalar c → IsScalar d → utf16_bytes big c ++ r ≡ utf16_bytes big d ++ s → (c ≡ d) × (r ≡ s)
char_same big c d r s cs ds e = go (units_of c cs) (units_of d ds)
  where
    go : (encode_utf16 c ≡ c ∷ []) ⊎ ((high : ℕ) × (low : ℕ) × AreTwoUnits c high low) → (encode_utf16 d ≡ d ∷ []) ⊎ ((high : ℕ) × (low : ℕ) × AreTwoUnits d high low) → (c ≡ d) × (r ≡ s)
    go (inl one) (inl other) = unit_same big c d r s (sym (bytes_one big c c r one) ∙ e ∙ bytes_one big d d s other)
    go (inl one) (inr two) =
        let first = unit_same big c two.0 r (unit_bytes big two.1 ++ s) (sym (bytes_one big c c r one) ∙ e ∙ bytes_two big d two.0 two.1 s two.2.units) in
        let is = first.0 in
        let least = two.2.least in
        let most = two.2.most in
        absurd (apart c (scalar_cases c cs) (omega (arith, is, least)) (omega (arith, is, most)))
    go (inr two) (inl one) =
        let first = unit_same big two.0 d (unit_bytes big two.1 ++ r) s (sym (bytes_two big c two.0 two.1 r two.2.units) ∙ e ∙ bytes_one big d d s one) in
        let is = first.0 in
        let least = two.2.least in
        let most = two.2.most in
        absurd (apart d (scalar_cases d ds) (omega (arith, is, least)) (omega (arith, is, most)))
    go (inr two) (inr other) =
        let first = unit_same big two.0 other.0 (unit_bytes big two.1 ++ r) (unit_bytes big other.1 ++ s) (sym (bytes_two big c two.0 two.1 r two.2.units) ∙ e ∙ bytes_two big d other.0 other.1 s other.2.units) in
        let second = unit_same big two.1 other.1 r s first.1 in
        let highs = first.0 in
        let lows = second.0 in
        (two.2.made ∙ ap (λ h. 0x1_0000 + ((h - 0xD800) * 0x400 + (two.1 - 0xDC00))) highs ∙ ap (λ l. 0x1_0000 + ((other.0 - 0xD800) * 0x400 + (l - 0xDC00))) lows ∙ sym other.2.made, second.1)

-- the characters of a text are determined
pub chars_same : (big : Bool) (cs ds : List ℕ) → all_scalars cs ≡ true → all_scalars ds ≡ true → flat_map (utf16_bytes big) cs ≡ flat_map (utf16_bytes big) ds → cs ≡ ds
chars_same big [] [] some other e = refl
chars_same big [] (d ∷ ds) some other e =
    let parts = and_parts _ _ other in
    let none : 0 ≡ length (utf16_bytes big d ++ flat_map (utf16_bytes big) ds) = ap length e in
    let long = char_length big d (flat_map (utf16_bytes big) ds) parts.0 in
    absurd (omega (arith, none, long))
chars_same big (c ∷ cs) [] some other e =
    let parts = and_parts _ _ some in
    let none : length (utf16_bytes big c ++ flat_map (utf16_bytes big) cs) ≡ 0 = ap length e in
    let long = char_length big c (flat_map (utf16_bytes big) cs) parts.0 in
    absurd (omega (arith, none, long))
chars_same big (c ∷ cs) (d ∷ ds) some other e =
    let mine = and_parts _ _ some in
    let yours = and_parts _ _ other in
    let same = char_same big c d (flat_map (utf16_bytes big) cs) (flat_map (utf16_bytes big) ds) mine.0 yours.0 e in
    ap (λ x. x ∷ cs) same.0 ∙ ap (λ xs. d ∷ xs) (chars_same big cs ds mine.1 yours.1 same.1)
