-- The first bytes of a file, and its pages.
use Rattle.std.proofs.Common.{◌≡◌, ◌≢◌, ◌⊎◌, ⊎_elim, ℕ, ◌+◌, ◌-◌, ◌*◌, ◌/◌, ◌%◌, ◌<◌, ◌≤◌, min, List, ◌++◌, length, get_or, map, take, drop, replicate, true, false, refl, sym, ◌∙◌, ap, arith, eq-eqb, ne_eqb, length-drop, length-append}
use Rattle.std.specs.Prelude.{◌==◌}
use Rattle.std.specs.List.{range_with_len}
use Rattle.std.specs.Int.{div_ceil}
use Rattle.std.proofs.lemmas.Bool.{cases_lt, cases_eq}
use Rattle.std.proofs.lemmas.Grind.{div_ceil_times}
use Rattle.std.proofs.Math.Nat.{lt-div-mul-add, div-mul-le_self, mul-le-mul_right}
use Rattle.std.proofs.lemmas.List.{get_or-take, get_or-drop, get_or_past, get_or-replicate, get_or_append_left, get_or-append_right, length-take-le, length-replicate, drop_all}
use Rattle.std.proofs.lemmas.List.FromFn.{fill_by_all}
use Rattle.sqval.specs.Bytes.{part, word}
use Rattle.sqval.specs.Database.{file_page, file_pages}
use Rattle.sqview.specs.Laid.{part_or_zeros}
use Rattle.sqview.specs.LogView.{head_of, own_pages}

pub drop_from : (at : ℕ) (file : List ℕ) → drop (min at (length file)) file ≡ drop at file
drop_from at file = ⊎_elim
    (λ lt. let e : min at (length file) ≡ at = omega arith in ap (λ n. drop n file) e)
    (λ le. let e : min at (length file) ≡ length file = omega arith in ap (λ n. drop n file) e ∙ drop_all (length file) file (omega arith) ∙ sym (drop_all at file le))
    (cases_lt at (length file))

module _ (size at count : ℕ) (file rest : List ℕ) (is : rest ≡ drop at file) (min_is : count ≡ min (length rest) size) where
  long : length rest ≡ length file - at
  long = ap length is ∙ length-drop at file

  front_long : length (take count rest) ≡ count
  front_long = length-take-le count rest (omega arith)

  each : (k : ℕ) → k < size → get_or (take count rest ++ replicate (size - count) 0) k 0 ≡ get_or file (at + k) 0
  each k lt = ⊎_elim
      (λ below. get_or_append_left (take count rest) (replicate (size - count) 0) 0 k (omega (arith, front_long)) ∙ get_or-take count rest k 0 below ∙ ap (λ l. get_or l k 0) is ∙ get_or-drop at file k 0)
      (λ above. get_or-append_right (take count rest) (replicate (size - count) 0) count k 0 front_long above ∙ get_or-replicate (size - count) (k - count) 0 0 (omega arith) ∙ sym (get_or_past file (at + k) 0 (omega (arith, long))))
      (cases_lt k count)

  pub filled_part : take count rest ++ replicate (size - count) 0 ≡ map (λ i. get_or file (at + i) 0) (range_with_len 0 size)
  filled_part = fill_by_all (λ i. get_or file (at + i) 0) (take count rest ++ replicate (size - count) 0) size 0
      (length-append (take count rest) (replicate (size - count) 0) ∙ omega (arith, front_long, length-replicate {A = ℕ} (size - count) 0)) each

-- so many bytes that are all there
pub part_is : (size at : ℕ) (file : List ℕ) → at + size ≤ length file → part_or_zeros size at file ≡ part file at size
unfolding part_or_zeros
part_is size at file le = sym (fill_by_all (λ i. get_or file (at + i) 0) (take size (drop at file)) size 0
    (length-take-le size (drop at file) (omega (arith, length-drop at file)))
    (λ k lt. get_or-take size (drop at file) k 0 lt ∙ get_or-drop at file k 0))

-- what is copied and what is filled is the part
pub part_copied : (size at count : ℕ) (file rest head back out : List ℕ) → rest ≡ drop (min at (length file)) file → count ≡ min (length rest) size
    → head ≡ take count rest → back ≡ replicate (size - count) 0 → out ≡ head ++ back → out ≡ part_or_zeros size at file
unfolding part_or_zeros
part_copied size at count file rest head back out is m a b e =
    e ∙ ap (λ x. x ++ back) a ∙ ap (λ x. take count rest ++ x) b ∙ filled_part size at count file rest (is ∙ drop_from at file) m

pub page_is_part : (size p : ℕ) (file : List ℕ) → part_or_zeros size ((p - 1) * size) file ≡ file_page size file p
unfolding file_page part_or_zeros
page_is_part size p file = refl

pub head_is : (file : List ℕ) → file_page 100 file 1 ≡ head_of file
unfolding head_of
head_is file = refl

-- rounded up
quotient : (a b q r : ℕ) → 0 < b → a ≤ q * b → q * b < a + b → r * b ≤ a + b - 1 → a + b - 1 < r * b + b → q ≡ r
quotient a b q r pos low high below above = ⊎_elim
    (λ lt. absurd (let up : q + 1 ≤ r = omega arith in let m : (q + 1) * b ≤ r * b = mul-le-mul_right b up in omega arith))
    (λ ge. ⊎_elim (λ lt. absurd (let up : r + 1 ≤ q = omega arith in let m : (r + 1) * b ≤ q * b = mul-le-mul_right b up in omega arith)) (λ le. omega arith) (cases_lt r q))
    (cases_lt q r)

pub rounded_up : (n size : ℕ) → 0 < size → div_ceil n size ≡ (n + size - 1) / size
rounded_up n size pos =
    let t = div_ceil_times n size pos in
    quotient n size (n / size + min 1 (n % size)) ((n + size - 1) / size) pos t.0 t.1 (div-mul-le_self (n + size - 1) size) (lt-div-mul-add pos)

module _ (size : ℕ) (file head : List ℕ) (is : head ≡ head_of file) where
  pub pages_named : (n : ℕ) → n ≡ word head 28 → n ≢ 0 → word head 24 ≡ word head 92 → n ≡ own_pages size file
  unfolding own_pages
  pages_named n e some same =
      let a : (word (head_of file) 28 == 0) ≡ false = ne_eqb (word (head_of file) 28) 0 (λ z. some (e ∙ ap (λ h. word h 28) is ∙ z)) in
      let b : (word (head_of file) 24 == word (head_of file) 92) ≡ true = eq-eqb (word (head_of file) 24) (word (head_of file) 92) (ap (λ h. word h 24) (sym is) ∙ same ∙ ap (λ h. word h 92) is) in
      e ∙ ap (λ h. word h 28) is ∙ rw (a, b) refl

  pub pages_counted : (n : ℕ) → 0 < size → n ≡ div_ceil (length file) size → (word head 28 ≡ 0) ⊎ (word head 24 ≢ word head 92) → n ≡ own_pages size file
  unfolding own_pages file_pages
  pages_counted n pos e why = e ∙ rounded_up (length file) size pos ∙ ⊎_elim
      (λ none. let a : (word (head_of file) 28 == 0) ≡ true = eq-eqb (word (head_of file) 28) 0 (ap (λ h. word h 28) (sym is) ∙ none) in rw a refl)
      (λ ne. let b : (word (head_of file) 24 == word (head_of file) 92) ≡ false = ne_eqb (word (head_of file) 24) (word (head_of file) 92) (λ z. ne (ap (λ h. word h 24) is ∙ z ∙ ap (λ h. word h 92) (sym is))) in
      ⊎_elim (λ z. let a : (word (head_of file) 28 == 0) ≡ true = eq-eqb (word (head_of file) 28) 0 z in rw a refl) (λ nz. let a : (word (head_of file) 28 == 0) ≡ false = ne_eqb (word (head_of file) 28) 0 nz in rw (a, b) refl) (cases_eq (word (head_of file) 28) 0))
      why
