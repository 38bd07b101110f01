-- Pages past the end of a file, and databases made of pages by their numbers.
use Rattle.std.proofs.Common.{◌≡◌, ⊎_elim, ℕ, ◌+◌, ◌-◌, ◌*◌, ◌/◌, ◌<◌, ◌≤◌, List, [], length, get_or, map, take, set, sym, ◌∙◌, ap, arith}
use Rattle.std.specs.List.{range_with_len}
use Rattle.std.proofs.lemmas.Bool.{cases_lt, cases_eq}
use Rattle.std.proofs.lemmas.List.{get_or_past, get_or-replicate, length-replicate, length-set, get_or-set_same, get_or-set_other, drop-set-lt}
use Rattle.std.proofs.lemmas.List.FromFn.{length-map-range_with_len, get_or-map-range_with_len}
use Rattle.std.proofs.Math.Nat.{lt-div-mul-add, mul-le-mul_right}
use Rattle.byteorder.specs.Endian.{big_number}
use Rattle.sqval.specs.Bytes.{word, AreBytes}
use Rattle.sqval.specs.Database.{Database, page, file_page, file_pages}
use Rattle.sqval.proofs.page.FilePages.{length-file_page, get_or-file_page, page_by_bytes}
use Rattle.history.specs.Checkpoints.{zero_page, padded, ArePages}
use Rattle.history.specs.Past.{valid_count}

-- ---- pages past the end

module _ (size : ℕ) (file : List ℕ) (some : 1 ≤ size) where
  file_within : length file ≤ file_pages size file * size
  unfolding file_pages
  file_within = let high : length file + size - 1 < (length file + size - 1) / size * size + size = lt-div-mul-add some in omega arith

  pub file_past : (p : ℕ) → file_pages size file < p → file_page size file p ≡ zero_page size
  file_past p past = sym (page_by_bytes size file p (zero_page size) (length-replicate size 0) (λ i lt.
      let up : file_pages size file * size ≤ (p - 1) * size = mul-le-mul_right size (let le : file_pages size file ≤ p - 1 = omega arith in le) in
      get_or_past file ((p - 1) * size + i) 0 (omega (arith, file_within)) ∙ sym (get_or-replicate size i 0 0 lt)))

pub padded_past : (size : ℕ) (before : Database) (p : ℕ) → length before < p → padded size before p ≡ zero_page size
unfolding padded
padded_past size before p past = get_or_past before (p - 1) (zero_page size) (omega arith)

-- ---- the bytes of a page

pub page_bytes : (size : ℕ) (file : List ℕ) (p : ℕ) → AreBytes file → AreBytes (file_page size file p)
page_bytes size file p bytes i = ⊎_elim
    (λ lt. omega (arith, get_or-file_page size file p i lt, bytes ((p - 1) * size + i)))
    (λ ge. omega (arith, get_or_past (file_page size file p) i 0 (omega (arith, length-file_page size file p))))
    (cases_lt i size)

-- ---- a page with another first byte

module _ (l : List ℕ) (v : ℕ) where
  word_kept : (at : ℕ) → 0 < at → word (set l 0 v) at ≡ word l at
  word_kept at pos = ap (λ b. big_number 4 (take 4 b)) (drop-set-lt at l 0 v pos)

  pub count_kept : valid_count (set l 0 v) ≡ valid_count l
  unfolding valid_count
  count_kept = rw (word_kept 24 (omega arith), word_kept 92 (omega arith), word_kept 28 (omega arith))

  pub byte_kept : AreBytes l → v < 256 → AreBytes (set l 0 v)
  byte_kept bytes low i = ⊎_elim
      (λ e. ⊎_elim
      (λ some. let same : get_or (set l 0 v) 0 0 ≡ v = get_or-set_same l 0 v 0 some in omega (arith, same, ap (λ k. get_or (set l 0 v) k 0) e))
      (λ none. omega (arith, get_or_past (set l 0 v) i 0 (omega (arith, length-set l 0 v))))
      (cases_lt 0 (length l)))
      (λ ne. omega (arith, get_or-set_other l 0 i v 0 ne, bytes i))
      (cases_eq i 0)

-- ---- databases by a rule for their pages

pub built : (f : ℕ → List ℕ) (n : ℕ) → Database
built f n = map f (range_with_len 1 n)

module _ (f : ℕ → List ℕ) (n : ℕ) where
  pub length_built : length (built f n) ≡ n
  unfolding built
  length_built = length-map-range_with_len f 1 n

  pub page_built : (p : ℕ) → 1 ≤ p → p ≤ n → page (built f n) p ≡ f p
  unfolding built page
  page_built p one le = get_or-map-range_with_len f 1 n (p - 1) p [] (omega arith) (omega arith)

  pub padded_built : (size p : ℕ) → 1 ≤ p → p ≤ n → padded size (built f n) p ≡ f p
  unfolding built padded
  padded_built size p one le = get_or-map-range_with_len f 1 n (p - 1) p (zero_page size) (omega arith) (omega arith)

  pub pages_built : (size : ℕ) → ((p : ℕ) → length (f p) ≡ size) → ((p : ℕ) → AreBytes (f p)) → ArePages size (built f n)
  pages_built size long bytes = record {
    long = λ p one le. ap length (page_built p one (omega (arith, length_built))) ∙ long p;
    bytes = λ p one le i. omega (arith, ap (λ l. get_or l i 0) (page_built p one (omega (arith, length_built))), bytes p i);
  }
