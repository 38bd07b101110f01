-- The pages of a file once bytes were written to it, and once it has another length.
use Rattle.std.proofs.Common.{◌≡◌, ◌≢◌, ◌⊎◌, ⊎_elim, inl, inr, ℕ, ◌+◌, ◌-◌, ◌*◌, ◌<◌, ◌≤◌, max, cond, List, ◌++◌, length, get_or, drop, replicate, sym, ◌∙◌, ap, arith}
use Rattle.std.specs.Prelude.{nat_lt}
use Rattle.std.proofs.lemmas.Grind.{common_steps}
use Rattle.std.proofs.lemmas.Bool.{cases_lt, lt-ltb, le-ltb}
use Rattle.std.proofs.lemmas.List.{get_or_default, get_or_past, ext_get_or, get_or-replicate, get_or-drop, length-replicate, get_or-append_right, length-append, length-drop}
use Rattle.std.proofs.lemmas.List.FromFn.{length-map-range_with_len, get_or-map-range_with_len}
use Rattle.crashdisk.proofs.page.PlacesOfPages.{page_before, page_within}
use Rattle.sqval.specs.Database.{file_page}
use Rattle.sqval.proofs.page.FilePages.{length-file_page, get_or-file_page, page_by_bytes}
use Rattle.sqplan.specs.Applied.{with_bytes, with_length}

abbrev byte_of : (file : List ℕ) (at : ℕ) (bytes : List ℕ) → (i : ℕ) → ℕ
byte_of file at bytes i = cond (nat_lt i at) (get_or file i 0) (get_or bytes (i - at) (get_or file i 0))

module _ (file : List ℕ) (at : ℕ) (bytes : List ℕ) where
  pub length-with_bytes : length (with_bytes file at bytes) ≡ max (length file) (at + length bytes)
  length-with_bytes = length-map-range_with_len (byte_of file at bytes) 0 (max (length file) (at + length bytes))

  module _ (i : ℕ) where
    inside : i < max (length file) (at + length bytes) → get_or (with_bytes file at bytes) i 0 ≡ byte_of file at bytes i
    inside lt = get_or-map-range_with_len (byte_of file at bytes) 0 (max (length file) (at + length bytes)) i i 0 lt (omega arith)

    pub written : at ≤ i → i < at + length bytes → get_or (with_bytes file at bytes) i 0 ≡ get_or bytes (i - at) 0
    written low high = inside (omega arith)
        ∙ ap (λ b. cond b (get_or file i 0) (get_or bytes (i - at) (get_or file i 0))) (le-ltb i at low)
        ∙ get_or_default bytes (i - at) (get_or file i 0) 0 (omega arith)

    before : i < at → byte_of file at bytes i ≡ get_or file i 0
    before lt = ap (λ b. cond b (get_or file i 0) (get_or bytes (i - at) (get_or file i 0))) (lt-ltb i at lt)

    behind : at + length bytes ≤ i → byte_of file at bytes i ≡ get_or file i 0
    behind le = ap (λ b. cond b (get_or file i 0) (get_or bytes (i - at) (get_or file i 0))) (le-ltb i at (omega arith))
        ∙ get_or_past bytes (i - at) (get_or file i 0) (omega arith)

    pub kept : (i < at) ⊎ (at + length bytes ≤ i) → get_or (with_bytes file at bytes) i 0 ≡ get_or file i 0
    kept out = ⊎_elim
        (λ lt. inside lt ∙ ⊎_elim before behind out)
        (λ ge. get_or_past (with_bytes file at bytes) i 0 (omega (arith, length-with_bytes)) ∙ sym (get_or_past file i 0 (omega arith)))
        (cases_lt i (max (length file) (at + length bytes)))

module _ (size : ℕ) (file content : List ℕ) (full : length content ≡ size) where
  pub page_written : (q : ℕ) → content ≡ file_page size (with_bytes file ((q - 1) * size) content) q
  page_written q = page_by_bytes size (with_bytes file ((q - 1) * size) content) q content full
      (λ i lt. written file ((q - 1) * size) content ((q - 1) * size + i) (omega arith) (omega (arith, full)) ∙ ap (λ n. get_or content n 0) (let e : (q - 1) * size + i - (q - 1) * size ≡ i = omega arith in e))

  pub page_kept : (p q : ℕ) → 1 ≤ p → 1 ≤ q → p ≢ q → file_page size file p ≡ file_page size (with_bytes file ((q - 1) * size) content) p
  page_kept p q a b ne = page_by_bytes size (with_bytes file ((q - 1) * size) content) p (file_page size file p) (length-file_page size file p)
      (λ i lt. kept file ((q - 1) * size) content ((p - 1) * size + i)
      (⊎_elim (λ less. inl (omega (arith, page_before size p q a less))) (λ ge. inr (omega (arith, full, page_before size q p b (let less : q < p = omega arith in less)))) (cases_lt p q))
      ∙ sym (get_or-file_page size file p i lt))

module _ (size count : ℕ) (file : List ℕ) where
  pub length_cut : length (with_length file (count * size)) ≡ count * size
  length_cut = length-map-range_with_len (λ i. get_or file i 0) 0 (count * size)

  pub page_cut : (p : ℕ) → 1 ≤ p → p ≤ count → file_page size file p ≡ file_page size (with_length file (count * size)) p
  page_cut p a b = page_by_bytes size (with_length file (count * size)) p (file_page size file p) (length-file_page size file p)
      (λ i lt. get_or-map-range_with_len (λ i. get_or file i 0) 0 (count * size) ((p - 1) * size + i) ((p - 1) * size + i) 0 (page_within size p count i a b lt) (omega arith)
      ∙ sym (get_or-file_page size file p i lt))

front : (n : ℕ) (file : List ℕ) (i : ℕ) → i < n → get_or (replicate n 0) (i - 0) 0 ≡ get_or (replicate n 0 ++ drop n file) i 0
front n file i low = grind (arith, common_steps, get_or-replicate, length-replicate)

-- zeros over the front of a file that is longer
pub zeros_over : (file : List ℕ) (n : ℕ) → n ≤ length file → with_bytes file 0 (replicate n 0) ≡ replicate n 0 ++ drop n file
zeros_over file n long = ext_get_or 0 (with_bytes file 0 (replicate n 0)) (replicate n 0 ++ drop n file)
    (length-with_bytes file 0 (replicate n 0) ∙ grind (arith, length-replicate, length-append, length-drop))
    (λ i lt. ⊎_elim
    (λ low. written file 0 (replicate n 0) i (omega arith) (omega (arith, length-replicate {A = ℕ} n 0)) ∙ front n file i low)
    (λ high. kept file 0 (replicate n 0) i (inr (omega (arith, length-replicate {A = ℕ} n 0))) ∙ grind (arith, length-replicate, get_or-append_right, get_or-drop))
    (cases_lt i n))
