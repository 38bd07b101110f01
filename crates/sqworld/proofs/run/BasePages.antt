-- The pages where a run begins.
use Rattle.sqworld.proofs.Words.{ArePages, Global, IsTrue, List, Vec, [], add-one, ap, append-nil, append_assoc, arith, concat, false, get_or, inl, inr, length, pages_of, refl, subst, suc, sym, take, zero, ℕ, ◌++◌, ◌+◌, ◌<◌, ◌∙◌, ◌∷◌, ◌≡◌, ◌≢◌, ◌⊎◌}

-- the page at a place of the list
pub page_at : (pages : List (Vec ℕ Global)) (i : ℕ) (page : Vec ℕ Global) → i < length pages → page ≡ get_or pages i page → get_or (pages_of pages) i [] ≡ page.items
page_at [] i page l h = absurd (omega arith)
page_at (x ∷ pages) zero page l h = ap (λ (p : Vec ℕ Global). p.items) (sym h)
page_at (x ∷ pages) (suc i) page l h = page_at pages i page (omega arith) h

taken_more : (pages : List (Vec ℕ Global)) (i : ℕ) (page : Vec ℕ Global) → i < length pages → page ≡ get_or pages i page → concat (pages_of (take (suc i) pages)) ≡ concat (pages_of (take i pages)) ++ page.items
taken_more [] i page l h = absurd (omega arith)
taken_more (x ∷ pages) zero page l h = append-nil x.items ∙ ap (λ (p : Vec ℕ Global). p.items) (sym h)
taken_more (x ∷ pages) (suc i) page l h = ap (λ r. x.items ++ r) (taken_more pages i page (omega arith) h) ∙ sym (append_assoc x.items (concat (pages_of (take i pages))) page.items)

pub joined_more : (pages : List (Vec ℕ Global)) (i : ℕ) (page : Vec ℕ Global) (old new : List ℕ) → i < length pages → page ≡ get_or pages i page → old ≡ concat (pages_of (take i pages)) → new ≡ old ++ page.items
    → new ≡ concat (pages_of (take (i + 1) pages))
joined_more pages i page old new l h e f = rw add-one (f ∙ (ap (λ b. b ++ page.items) e ∙ sym (taken_more pages i page l h)))

below_or_at : (k i : ℕ) → k < i + 1 → (k < i) ⊎ (k ≡ i)
below_or_at k i l = grind arith

pub pages_more : (size : ℕ) (pages : List (Vec ℕ Global)) (i : ℕ) (page : Vec ℕ Global) → i < length pages → page ≡ get_or pages i page
    → ((k : ℕ) → k < i → length (get_or (pages_of pages) k []) ≡ size) → length page.items ≡ size
    → (k : ℕ) → k < i + 1 → length (get_or (pages_of pages) k []) ≡ size
pages_more size pages i page l h before long k below = elim (below_or_at k i below) [
  | inl m ↦ before k m
  | inr e ↦ subst (λ j. length (get_or (pages_of pages) j []) ≡ size) (sym e) (ap length (page_at pages i page l h) ∙ long)
]

length_pages : (pages : List (Vec ℕ Global)) → length (pages_of pages) ≡ length pages
length_pages [] = refl
length_pages (x ∷ pages) = ap suc (length_pages pages)

pub not_pages : (size : ℕ) (pages : List (Vec ℕ Global)) (i : ℕ) (page : Vec ℕ Global) → i < length pages → page ≡ get_or pages i page → length page.items ≢ size
    → (IsTrue false → ArePages size (pages_of pages)) × (ArePages size (pages_of pages) → IsTrue false)
not_pages size pages i page l h other = (
  λ is. absurd (cc is),
  λ are. absurd (other (ap length (sym (page_at pages i page l h)) ∙ are.each i (let e = length_pages pages in omega arith))),
)
