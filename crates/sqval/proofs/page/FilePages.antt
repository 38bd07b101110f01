-- The pages of a file by its bytes.
use Rattle.std.proofs.Common.{◌≡◌, ℕ, ◌+◌, ◌-◌, ◌*◌, ◌/◌, ◌%◌, ◌^◌, ◌<◌, ◌≤◌, List, length, get_or, sym, ◌∙◌, ap, arith}
use Rattle.std.proofs.lemmas.List.{ext_get_or}
use Rattle.std.proofs.lemmas.List.FromFn.{length-map-range_with_len, get_or-map-range_with_len}
use Rattle.std.proofs.lemmas.Nat.{div-mul-add}
use Rattle.std.proofs.Math.Nat.{mul-mod_left, mul-le-mul_right}
use Rattle.std.proofs.Math.Pow.{pow_mono}
use Rattle.sqval.specs.PageSize.{IsPageSize}
use Rattle.sqval.specs.Database.{file_page, file_pages}

pub size_some : (size : ℕ) → IsPageSize size → 512 ≤ size
size_some size is = let m : 2 ^ 9 ≤ 2 ^ is.0 = pow_mono is.1 in omega (arith, is.3)

pub length-file_page : (size : ℕ) (db : List ℕ) (p : ℕ) → length (file_page size db p) ≡ size
unfolding file_page
length-file_page size db p = length-map-range_with_len (λ i. get_or db ((p - 1) * size + i) 0) 0 size

pub get_or-file_page : (size : ℕ) (db : List ℕ) (p i : ℕ) → i < size → get_or (file_page size db p) i 0 ≡ get_or db ((p - 1) * size + i) 0
unfolding file_page
get_or-file_page size db p i lt = get_or-map-range_with_len (λ j. get_or db ((p - 1) * size + j) 0) 0 size i i 0 lt (omega arith)

pub page_by_bytes : (size : ℕ) (db : List ℕ) (p : ℕ) (c : List ℕ) → length c ≡ size → ((i : ℕ) → i < size → get_or db ((p - 1) * size + i) 0 ≡ get_or c i 0) → c ≡ file_page size db p
page_by_bytes size db p c full each = ext_get_or 0 c (file_page size db p) (full ∙ sym (length-file_page size db p)) (λ i lt. let lt' : i < size = omega arith in sym (each i lt') ∙ sym (get_or-file_page size db p i lt'))

pub file_count : (size : ℕ) (db : List ℕ) (k : ℕ) → 1 ≤ size → length db ≡ k * size → k ≡ file_pages size db
unfolding file_pages
file_count size db k pos len = let e : length db + size - 1 ≡ k * size + (size - 1) = omega (arith, len, pos) in sym (div-mul-add k size (size - 1) (omega arith)) ∙ ap (λ j. j / size) (sym e)

-- how many pages a file of so many bytes has

pub count_zero : (size n long : ℕ) → IsPageSize size → 1 ≤ n → n * size ≡ long → long ≡ 0 → ⊥
count_zero size n long is one e z =
    let some = size_some size is in
    let least : 1 * size ≤ n * size = mul-le-mul_right size one in
    omega (arith, some, least)

pub count_rest : (size m n long : ℕ) → m ≡ size → n * size ≡ long → (long % m ≡ 0 → ⊥) → ⊥
count_rest size m n long same e not = not (ap (λ k. k % m) (sym e) ∙ ap (λ k. n * size % k) same ∙ mul-mod_left n size)
