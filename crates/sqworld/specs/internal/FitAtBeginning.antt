-- The pages of a disk where a run begins.
use Rattle.std.proofs.Common.{◌≡◌, ℕ, zero, suc, ◌+◌, ◌-◌, ◌*◌, ◌<◌, ◌≤◌, Bool, List, ◌∷◌, ◌++◌, length, get_or, refl, sym, ◌∙◌, ap, arith, length-append, []}
use Rattle.std.specs.List.{concat}
use Rattle.sqval.specs.Database.{Database, page}
use Rattle.sqval.specs.Held.{IsJust, IsHeld}
use Rattle.sqval.proofs.page.FilePages.{page_by_bytes}
use Rattle.sqworld.specs.Pages.{IsBase}

long_pages : (size : ℕ) (d : Database) → ((i : ℕ) → i < length d → length (get_or d i []) ≡ size) → length (concat d) ≡ length d * size
long_pages size [] each = omega arith
long_pages size (x ∷ d) each =
    let first = each 0 (omega arith) in
    let rest = long_pages size d (λ i l. each (suc i) (omega arith)) in
    length-append x (concat d) ∙ (ap (λ n. n + length (concat d)) first ∙ (ap (λ n. size + n) rest ∙ sym (grind arith)))

in_front : (xs ys : List ℕ) (i : ℕ) → i < length xs → get_or (xs ++ ys) i 0 ≡ get_or xs i 0
in_front [] ys i l = absurd (omega arith)
in_front (x ∷ xs) ys zero l = refl
in_front (x ∷ xs) ys (suc i) l = in_front xs ys i (omega arith)

behind : (xs ys : List ℕ) (n i j : ℕ) → length xs ≡ n → j ≡ n + i → get_or (xs ++ ys) j 0 ≡ get_or ys i 0
behind [] ys n i j e h = let same : j ≡ i = omega arith in ap (λ k. get_or ys k 0) same
behind (x ∷ xs) ys n i zero e h = absurd (omega arith)
behind (x ∷ xs) ys n i (suc j) e h = behind xs ys (length xs) i j refl (omega arith)

byte_of : (size : ℕ) (d : Database) (q i j : ℕ) → ((k : ℕ) → k < length d → length (get_or d k []) ≡ size) → q < length d → i < size → j ≡ q * size + i → get_or (concat d) j 0 ≡ get_or (get_or d q []) i 0
byte_of size [] q i j each l m e = absurd (omega arith)
byte_of size (x ∷ d) zero i j each l m e =
    let first = each 0 (omega arith) in
    let same : j ≡ i = omega (arith, e) in
    ap (λ k. get_or (x ++ concat d) k 0) same ∙ in_front x (concat d) i (omega (arith, first))
byte_of size (x ∷ d) (suc q) i j each l m e =
    behind x (concat d) size (q * size + i) j (each 0 (omega arith)) (e ∙ grind arith) ∙ byte_of size d q i (q * size + i) (λ k h. each (suc k) (omega arith)) (omega arith) m refl

pub just_pages : (size : ℕ) (d : Database) → ((i : ℕ) → i < length d → length (get_or d i []) ≡ size) → IsJust size d (concat d)
unfolding page
just_pages size d each = record {
  long = long_pages size d each;
  each = λ p one le. page_by_bytes size (concat d) p (get_or d (p - 1) []) (each (p - 1) (omega arith)) (λ i l. byte_of size d (p - 1) i ((p - 1) * size + i) each (omega arith) l refl);
}

full_pages : (size : ℕ) (d : Database) → ((i : ℕ) → i < length d → length (get_or d i []) ≡ size) → (p : ℕ) → 1 ≤ p → p ≤ length d → length (page d p) ≡ size
unfolding page
full_pages size d each p one le = each (p - 1) (omega arith)

pub held_pages : (size sector : ℕ) (tears : Bool) (d : Database) → IsBase size sector tears d → IsHeld size d
held_pages size sector tears d base = record {
  some = base.pages_are.some;
  full = full_pages size d base.pages_are.each;
  few = base.pages_are.few;
}
