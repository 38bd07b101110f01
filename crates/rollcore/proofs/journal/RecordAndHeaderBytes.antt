-- Records and headers as they are written, and what is a header's magic.
use Rattle.rollcore.proofs.Below.{HasMagic, IsRecord, List, Sizes, ap, arith, big_bytes, big_number, cases_lt, drop, drop-drop, drop_at, four, get_or, get_or-drop, get_or-take, get_or_past, length, length-append, length-drop, length-take, magic, nonce_sum, part, part_at, record_bytes, record_len, refl, sym, take, take_at, word, word_at, ℕ, ⊎_elim, ◌+◌, ◌<◌, ◌^◌, ◌∙◌, ◌≡◌, ◌≤◌}

-- ---- The magic.

pub magic_long : (w : List ℕ) (at : ℕ) → HasMagic w at → at + 8 ≤ length w
magic_long w at is =
    let len : length (part w at 8) ≡ 8 = ap (λ (l : List ℕ). length l) is in
    omega (arith, len, length-take 8 (drop at w), length-drop at w)

-- its bytes
pub magic_byte : (w : List ℕ) (at i : ℕ) → HasMagic w at → i < 8 → get_or w (at + i) 0 ≡ get_or magic i 0
magic_byte w at i is lt = sym (get_or-drop at w i 0) ∙ sym (get_or-take 8 (drop at w) i 0 lt) ∙ ap (λ (l : List ℕ). get_or l i 0) is

-- where there was none there is none
pub gate_same : (w v : List ℕ) (at : ℕ) → ((j : ℕ) → j < 8 → get_or v (at + j) 0 ≡ get_or w (at + j) 0) → (HasMagic w at → ⊥) → HasMagic v at → ⊥
gate_same w v at same none is =
    let last : get_or w (at + 7) 0 ≡ 215 = sym (same 7 (omega arith)) ∙ magic_byte v at 7 is (omega arith) in
    let long : at + 8 ≤ length w = ⊎_elim
    (λ lt. absurd (let past : get_or w (at + 7) 0 ≡ 0 = get_or_past w (at + 7) 0 (omega arith) in omega arith))
    (λ le. le)
    (cases_lt (length w) (at + 8)) in
    none (part_at w v at at 8 long (magic_long v at is) (λ i lt. sym (same i lt)) ∙ is)

-- ---- A record.

nonce_fits : (nonce : ℕ) (content : List ℕ) → nonce_sum nonce content < 2 ^ 32
unfolding nonce_sum
nonce_fits nonce content = omega arith

module _ (number nonce : ℕ) (content : List ℕ) where
  pub length-record : length (record_bytes number nonce content) ≡ length content + 8
  length-record = omega (arith, length-append content (big_bytes 4 (nonce_sum nonce content)))

  record_page : number < 2 ^ 32 → word (record_bytes number nonce content) 0 ≡ number
  record_page fits = four number fits

  record_content : part (record_bytes number nonce content) 4 (length content) ≡ content
  record_content = take_at content (big_bytes 4 (nonce_sum nonce content)) (length content) refl

  record_sum : word (record_bytes number nonce content) (4 + length content) ≡ nonce_sum nonce content
  record_sum =
      ap (λ (l : List ℕ). big_number 4 (take 4 l))
      (sym (drop-drop (length content) 4 (record_bytes number nonce content)) ∙ drop_at content (big_bytes 4 (nonce_sum nonce content)) (length content) refl)
      ∙ four (nonce_sum nonce content) (nonce_fits nonce content)

-- where it stands
pub record_is : (z : Sizes) (v : List ℕ) (nonce at number : ℕ) (content : List ℕ) → 1 ≤ number → number < 2 ^ 32 → length content ≡ z.page → at + record_len z ≤ length v
    → ((j : ℕ) → j < record_len z → get_or v (at + j) 0 ≡ get_or (record_bytes number nonce content) j 0) → IsRecord z v nonce at (number, content)
record_is z v nonce at number content some fits len whole same =
    let r : List ℕ = record_bytes number nonce content in
    let long : length r ≡ z.page + 8 = omega (arith, length-record number nonce content) in
    let here : (k n : ℕ) → k + n ≤ z.page + 8 → part v (at + k) n ≡ part r k n = λ k n le. part_at v r (at + k) k n (omega arith) (omega arith) (λ i lt. ap (λ (j : ℕ). get_or v j 0) (let e : at + k + i ≡ at + (k + i) = omega arith in e) ∙ same (k + i) (omega arith)) in
    let front : word v at ≡ word r 0 = word_at v r at 0 (omega arith) (omega arith) (λ i lt. same i (omega arith) ∙ ap (λ (j : ℕ). get_or r j 0) (let e : i ≡ 0 + i = omega arith in e)) in
    record {
      whole = whole;
      page = sym (record_page number nonce content fits) ∙ sym front;
      named = λ e. omega arith;
      content = sym (record_content number nonce content) ∙ ap (λ (n : ℕ). part r 4 n) len ∙ sym (here 4 z.page (omega arith));
      sum = ap (λ (j : ℕ). word v j) (let e : at + 4 + z.page ≡ at + (4 + z.page) = omega arith in e) ∙ ap (λ (l : List ℕ). big_number 4 l) (here (4 + z.page) 4 (omega arith))
          ∙ ap (λ (n : ℕ). word r (4 + n)) (sym len) ∙ record_sum number nonce content;
    }
