-- Pages of bytes in memory.
use Rattle.std.proofs.Common.{◌≡◌, ℕ, zero, suc, ◌+◌, ◌-◌, ◌*◌, ◌<◌, ◌≤◌, List, [], length, take, drop, get_or, ◌/◌, ◌%◌, ◌^◌, refl, ap, ◌∙◌, arith}
use Rattle.std.proofs.Math.Nat.{mul-le-mul, mul-le-mul_right, mul-div_cancel}
use Rattle.sqval.specs.PageSize.{IsPageSize}
use Rattle.sqval.proofs.page.PageSizes.{one_of}
use Rattle.std.proofs.lemmas.List.{drop-drop, length-take-le, length-drop}
use Rattle.sqpage.specs.Lists.{Every}
use Rattle.sqval.specs.Database.{Database}
use Rattle.sqpage.specs.Source.{KeepsPages}
use Rattle.sqpage.specs.internal.Source.{sliced}

-- What is kept twice is kept.
pub keeps_on : {A : Type 0} {pages : A → Database} {size : A → ℕ} {right gives : A → Type 0} {old mid new : A} → KeepsPages pages size right gives old mid → KeepsPages pages size right gives mid new → KeepsPages pages size right gives old new
keeps_on a b = record { still_right = λ right. b.still_right (a.still_right right); still_gives = λ gives. b.still_gives (a.still_gives gives); same_pages = b.same_pages ∙ a.same_pages; same_size = b.same_size ∙ a.same_size }

pub length-sliced : (size n : ℕ) (b : List ℕ) → length (sliced size n b) ≡ n
length-sliced size zero b = refl
length-sliced size (suc n) b = ap suc (length-sliced size n (drop size b))

pub page-sliced : (size n k : ℕ) (b : List ℕ) → k < n → get_or (sliced size n b) k [] ≡ take size (drop (k * size) b)
page-sliced size zero k b lt = absurd (omega arith)
page-sliced size (suc n) zero b lt = let e : 0 * size ≡ 0 = omega arith in rw e refl
page-sliced size (suc n) (suc k) b lt =
    let e : size + k * size ≡ suc k * size = omega arith in
    page-sliced size n k (drop size b) (omega arith) ∙ ap (take size) (drop-drop (k * size) size b ∙ ap (λ m. drop m b) e)

pub most_page_size : (n : ℕ) → IsPageSize n → n ≤ 65536
most_page_size n s = grind (arith, one_of n s)

pub least_page_size : (n : ℕ) → IsPageSize n → 512 ≤ n
least_page_size n s = grind (arith, one_of n s)

pub even_page_size : (n : ℕ) → IsPageSize n → n % 2 ≡ 0
even_page_size n s = grind (arith, one_of n s)

-- the end of page p
page_end : (p size : ℕ) → 0 < p → (p - 1) * size + size ≡ p * size
page_end zero size pos = absurd (omega arith)
page_end (suc k) size pos = let e : suc k - 1 ≡ k = omega arith in rw e (omega arith)

pub within_file : (p size count len : ℕ) → 0 < p → p ≤ count → len ≡ count * size → (p - 1) * size + size ≤ len
within_file p size count len pos le e = omega (arith, page_end p size pos, mul-le-mul_right size le, e)

pub place_fits : (p size : ℕ) → p < 2 ^ 32 → size ≤ 65536 → (p - 1) * size + size < 2 ^ 64
place_fits p size small most =
    let le : p - 1 ≤ 2 ^ 32 = omega arith in
    let m : (p - 1) * size ≤ 2 ^ 32 * 65536 = mul-le-mul le most in
    omega (arith, m, most)

-- as many pages as fit into a u32, or none
pub not_so_many : (len size count : ℕ) → 0 < size → len ≡ count * size → count < 2 ^ 32 → len / size < 2 ^ 32
not_so_many len size count pos e lt = rw e (rw (mul-div_cancel count pos) lt)

-- Slices have the size of a page.
pub slices_sized : (size n : ℕ) (b : List ℕ) → length b ≡ n * size → Every (λ bytes. length bytes ≡ size) (sliced size n b)
slices_sized size zero b e = tt
slices_sized size (suc n) b e =
    let le : size ≤ length b = omega (arith, e) in
    (length-take-le size b le, slices_sized size n (drop size b) (length-drop size b ∙ (let f : length b - size ≡ n * size = omega (arith, e) in f)))
