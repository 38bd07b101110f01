-- How many places there are.
use Rattle.std.proofs.Common.{◌≡◌, ℕ, zero, suc, ◌+◌, ◌-◌, ◌<◌, ◌≤◌, List, [], ◌∷◌, ◌++◌, length, get_or, Bool, true, false, refl, sym, ap, subst, inl, inr, arith, append-nil}
use Rattle.std.proofs.lemmas.Bool.{cases_eq}
use Rattle.sqval.specs.Database.{Database}
use Rattle.sqpage.specs.Lists.{In, Apart, each_from}
use Rattle.sqpage.proofs.chain.ListsByRecursion.{every_from_in}
use Rattle.sqcheck.proofs.checks.ListsByRecursion.{no_more}
use Rattle.sqsalvage.specs.declared.cursor.Piece.{Piece}
use Rattle.sqsalvage.specs.declared.cursor.Piece.TheVariants.{Whole, Part}
use Rattle.sqsalvage.specs.SalvageCursor.{HasPlacesOnce, IsMarked, early_count}
use Rattle.sqsalvage.specs.internal.Taking.{AreFew, page_count}

-- of one more at the end, and of more
pub early_snoc : (xs : List Piece) (x : Piece) → early_count (xs ++ x ∷ []) ≡ page_count xs
early_snoc [] x = refl
early_snoc (Whole p ∷ []) x = refl
early_snoc (Part p i ∷ []) x = refl
early_snoc (Whole p ∷ y ∷ xs) x = ap (λ (n : ℕ). n + 1) (early_snoc (y ∷ xs) x)
early_snoc (Part p i ∷ y ∷ xs) x = early_snoc (y ∷ xs) x

pub early_append : (xs : List Piece) (y : Piece) (ys : List Piece) → early_count (xs ++ y ∷ ys) ≡ page_count xs + early_count (y ∷ ys)
early_append [] y ys = omega arith
early_append (Whole p ∷ []) y ys = omega arith
early_append (Part p i ∷ []) y ys = omega arith
early_append (Whole p ∷ z ∷ xs) y ys = let e = early_append (z ∷ xs) y ys in omega (arith, e)
early_append (Part p i ∷ z ∷ xs) y ys = early_append (z ∷ xs) y ys

pub early_low : (xs : List Piece) → early_count xs ≤ page_count xs
early_low [] = omega arith
early_low (Whole p ∷ []) = omega arith
early_low (Part p i ∷ []) = omega arith
early_low (Whole p ∷ y ∷ xs) = let le = early_low (y ∷ xs) in omega (arith, le)
early_low (Part p i ∷ y ∷ xs) = early_low (y ∷ xs)

early_high : (xs : List Piece) → page_count xs ≤ early_count xs + 1
early_high [] = omega arith
early_high (Whole p ∷ []) = omega arith
early_high (Part p i ∷ []) = omega arith
early_high (Whole p ∷ y ∷ xs) = let le = early_high (y ∷ xs) in omega (arith, le)
early_high (Part p i ∷ y ∷ xs) = early_high (y ∷ xs)

count_low : (xs : List Piece) → page_count xs ≤ length xs
count_low [] = omega arith
count_low (Whole p ∷ xs) = let le = count_low xs in omega (arith, le)
count_low (Part p i ∷ xs) = let le = count_low xs in omega (arith, le)

pub count_snoc : (xs : List Piece) (p : ℕ) → page_count (xs ++ Whole p ∷ []) ≡ page_count xs + 1
count_snoc [] p = refl
count_snoc (Whole q ∷ xs) p = ap (λ (n : ℕ). n + 1) (count_snoc xs p)
count_snoc (Part q i ∷ xs) p = count_snoc xs p

-- where the last one is taken, and what follows comes in its place
pub early_without : (rest : List Piece) (x : Piece) → early_count (rest ++ x ∷ []) ≤ 4160 → early_count rest ≤ 4160
early_without rest x le = let same = early_snoc rest x in let low = early_low rest in omega (arith, le, same, low)

pub early_with : (rest items : List Piece) (x : Piece) → early_count (rest ++ x ∷ []) ≤ 4160 → AreFew rest items → early_count (rest ++ items) ≤ 4160
early_with rest [] x le few = subst (λ (l : List Piece). early_count l ≤ 4160) (sym (append-nil rest)) (early_without rest x le)
early_with rest (y ∷ ys) x le (inl none) = let same = early_snoc rest x in let sum = early_append rest y ys in omega (arith, le, same, sum, none)
early_with rest (y ∷ ys) x le (inr (lt, most)) = let low = count_low rest in let sum = early_append rest y ys in omega (arith, lt, most, low, sum)

-- the pages that have a place
abbrev placed : List Piece → List ℕ
placed [] = []
placed (Whole p ∷ xs) = placed xs
placed (Part p i ∷ xs) = p ∷ placed xs

placed_in : (xs : List Piece) (p : ℕ) → In p (placed xs) → (i : ℕ) × In (Part p i) xs
placed_in [] p h = absurd h
placed_in (Whole q ∷ xs) p h = let x = placed_in xs p h in (x.0, inr x.1)
placed_in (Part q i ∷ xs) p (inl e) = (i, inl (ap (λ (n : ℕ). Part n i) e))
placed_in (Part q i ∷ xs) p (inr h) = let x = placed_in xs p h in (x.0, inr x.1)

placed_apart : (xs : List Piece) → HasPlacesOnce xs → Apart (placed xs)
placed_apart [] h = tt
placed_apart (Whole p ∷ xs) h = placed_apart xs h
placed_apart (Part p i ∷ xs) h = (
  every_from_in (λ (y : ℕ). p ≡ y → ⊥) (placed xs) (λ y a e. (let x = placed_in xs y a in h.0 x.0 (subst (λ (n : ℕ). In (Part n x.0) xs) (sym e) x.1))),
  placed_apart xs h.1,
)

placed_length : (xs : List Piece) → length xs ≡ page_count xs + length (placed xs)
placed_length [] = refl
placed_length (Whole p ∷ xs) = let e = placed_length xs in omega (arith, e)
placed_length (Part p i ∷ xs) = let e = placed_length xs in omega (arith, e)

got_within : (marks : List Bool) (n : ℕ) → get_or marks n false ≡ true → n < length marks
got_within [] n e = cc
got_within (b ∷ marks) zero e = omega arith
got_within (b ∷ marks) (suc n) e = let lt = got_within marks n e in omega (arith, lt)

in_each : (p i n : ℕ) → i ≤ p → p < i + n → In p (each_from i n (λ (k : ℕ). k))
in_each p i zero low high = absurd (omega (arith, low, high))
in_each p i (suc n) low high = elim (cases_eq p i) [ inl e ↦ inl e | inr ne ↦ inr (in_each p (suc i) n (omega (arith, low, ne)) (omega (arith, high))) ]

each_length : (i n : ℕ) → length (each_from i n (λ (k : ℕ). k)) ≡ n
each_length i zero = refl
each_length i (suc n) = let e = each_length (suc i) n in omega (arith, e)

-- so there are as many as pages, and few more
pub few_pending : (d : Database) (marks : List Bool) (pending : List Piece) → length marks ≡ length d → HasPlacesOnce pending → ((p i : ℕ) → In (Part p i) pending → IsMarked marks p)
    → early_count pending ≤ 4160 → length pending ≤ length d + 4161
few_pending d marks pending size once marked early =
    let most = no_more (placed pending) (each_from 1 (length d) (λ (k : ℕ). k)) (placed_apart pending once)
    (λ p h. (let x = placed_in pending p h in let m = marked p x.0 x.1 in let low : 0 < p = m.0 in let high = got_within marks (p - 1) m.1 in in_each p 1 (length d) (omega (arith, low)) (omega (arith, high, size)))) in
    let all = each_length 1 (length d) in
    let sum = placed_length pending in
    let high = early_high pending in
    omega (arith, most, all, sum, high, early)
