-- What a run's length is at a list's first element.
use Rattle.std.proofs.Common.{◌≡◌, ◌≢◌, ℕ, ◌+◌, ◌<◌, true, false, List, [], ◌∷◌, drop, get_or, length, refl, arith, ◌⊎◌}
use Rattle.std.proofs.Math.Seq.{drop-length}
use Rattle.std.proofs.lemmas.List.{drop_more}
use Rattle.schema_tokens.specs.Bytes.{is_word_byte}
use Rattle.schema_tokens.specs.Runs.{quoted_bytes, name_bytes}

-- a byte inside quotes that isn't the quote
quoted-other : (q x : ℕ) (s : List ℕ) → (x ≢ q) → quoted_bytes q (x ∷ s) ≡ 1 + quoted_bytes q s
quoted-other q x [] h = grind arith
quoted-other q x (y ∷ s) h = grind arith

pub quoted_other : (q : ℕ) (s : List ℕ) (n : ℕ) → n < length s → (get_or s n 0 ≢ q) → quoted_bytes q (drop n s) ≡ 1 + quoted_bytes q (drop (n + 1) s)
quoted_other q s n lt h = rw (drop_more s n 0 lt) (quoted-other q (get_or s n 0) (drop (n + 1) s) h)

name-word : (x : ℕ) (s : List ℕ) → is_word_byte x ≡ true → name_bytes (x ∷ s) ≡ 1 + name_bytes s
name-word x [] h = grind arith
name-word x (y ∷ s) h = grind arith

pub name_word : (s : List ℕ) (n : ℕ) → n < length s → is_word_byte (get_or s n 0) ≡ true → name_bytes (drop n s) ≡ 1 + name_bytes (drop (n + 1) s)
name_word s n lt h = rw (drop_more s n 0 lt) (name-word (get_or s n 0) (drop (n + 1) s) h)

name-pair : (x y : ℕ) (s : List ℕ) → is_word_byte x ≡ false → x ≡ 58 → y ≡ 58 → name_bytes (x ∷ y ∷ s) ≡ 2 + name_bytes s
name-pair x y s h e f = grind arith

pub name_pair : (s : List ℕ) (n : ℕ) → n + 1 < length s → is_word_byte (get_or s n 0) ≡ false → get_or s n 0 ≡ 58 → get_or s (n + 1) 0 ≡ 58 → name_bytes (drop n s) ≡ 2 + name_bytes (drop (n + 2) s)
name_pair s n lt h e f = let below : n < length s = omega arith in
    let next : n + 1 + 1 ≡ n + 2 = omega arith in
    rw (drop_more s n 0 below) (rw (drop_more s (n + 1) 0 lt) (rw next (name-pair (get_or s n 0) (get_or s (n + 1) 0) (drop (n + 2) s) h e f)))

name-end : (x y : ℕ) (s : List ℕ) → is_word_byte x ≡ false → ((x ≢ 58) ⊎ (y ≢ 58)) → name_bytes (x ∷ y ∷ s) ≡ 0
name-end x y s h e = grind arith

-- neither a byte of a word nor a pair of colons is next
pub name_end : (s : List ℕ) (n : ℕ) → n + 1 < length s → is_word_byte (get_or s n 0) ≡ false → ((get_or s n 0 ≢ 58) ⊎ (get_or s (n + 1) 0 ≢ 58)) → name_bytes (drop n s) ≡ 0
name_end s n lt h e = let below : n < length s = omega arith in
    rw (drop_more s n 0 below) (rw (drop_more s (n + 1) 0 lt) (name-end (get_or s n 0) (get_or s (n + 1) 0) (drop (n + 1 + 1) s) h e))

-- the last byte is none of a word
pub name_last : (s : List ℕ) (n : ℕ) → n + 1 ≡ length s → is_word_byte (get_or s n 0) ≡ false → name_bytes (drop n s) ≡ 0
name_last s n last h = let below : n < length s = omega arith in
    rw (drop_more s n 0 below) (rw last (rw drop-length (rw h refl)))

-- what the bytes of a name come to at its next byte
pub ruleset name_steps = (name_word, name_pair, name_end, name_last)
