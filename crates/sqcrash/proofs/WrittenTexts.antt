-- Texts that are written up to a limit.
use Rattle.std.proofs.Common.{◌≡◌, ℕ, zero, suc, ◌+◌, ◌-◌, ◌<◌, true, false, List, [], ◌∷◌, ◌++◌, length, take, get_or, Option, Some, None, refl, sym, ◌∙◌, ap, subst, arith}
use Rattle.std.specs.List.{flat_map}
use Rattle.std.proofs.lemmas.Bool.{false≢true}
use Rattle.std.proofs.lemmas.Bool.Decides.{nat_tests}
use Rattle.std.proofs.lemmas.List.{append-nil, length-append, take_more}
use Rattle.std.proofs.lemmas.Grind.{flat_map-append}
use Rattle.std.specs.Io.KnownBytes.{Appends}
use Rattle.sqcrash.specs.Lines.{joined, first_of, limit_behind}
use Rattle.sqcrash.specs.Writes.{Writes, is_within}
use Rattle.sqcrash.proofs.AppendedBytes.{appends_none, appends_more}

take_parts : (n : ℕ) (xs ys : List (List ℕ)) → take n (xs ++ ys) ≡ take n xs ++ take (n - length xs) ys
take_parts zero [] ys = refl
take_parts (suc n) [] ys = let e : suc n ≡ suc n - 0 = omega arith in ap (λ (k : ℕ). take k ys) e
take_parts zero (x ∷ xs) ys = let e : 0 ≡ 0 - length (x ∷ xs) = omega arith in ap (λ (k : ℕ). take k ys) e
take_parts (suc n) (x ∷ xs) ys =
    let e : n - length xs ≡ suc n - length (x ∷ xs) = omega arith in
    ap (λ (l : List (List ℕ)). x ∷ l) (take_parts n xs ys) ∙ ap (λ (k : ℕ). x ∷ (take n xs ++ take k ys)) e

first_parts : (l : Option ℕ) (xs ys : List (List ℕ)) → first_of l (xs ++ ys) ≡ first_of l xs ++ first_of (limit_behind l (length xs)) ys
first_parts None xs ys = refl
first_parts (Some n) xs ys = take_parts n xs ys

behind_more : (l : Option ℕ) (a k : ℕ) → limit_behind (limit_behind l a) k ≡ limit_behind l (a + k)
behind_more None a k = refl
behind_more (Some n) a k = let e : n - a - k ≡ n - (a + k) = omega arith in ap (λ (m : ℕ). Some m) e

-- behind none there is all the room
pub behind_none : (l : Option ℕ) → limit_behind l 0 ≡ l
behind_none None = refl
behind_none (Some n) = let e : n - 0 ≡ n = omega arith in ap (λ (m : ℕ). Some m) e

first_none : (l : Option ℕ) → first_of l [] ≡ []
first_none None = refl
first_none (Some zero) = refl
first_none (Some (suc n)) = refl

-- none
pub writes_none : (l : Option ℕ) (n : ℕ) (b : Option (List ℕ)) → Writes l [] n n b b
writes_none l n b = (
  (let e : n ≡ n + 0 = omega arith in e),
  subst (λ (t : List (List ℕ)). Appends b b (joined t)) (sym (first_none (limit_behind l n))) (appends_none b),
)

-- more behind the first
pub writes_more : (l : Option ℕ) (xs ys : List (List ℕ)) (a b c : ℕ) (o m n : Option (List ℕ)) → Writes l xs a b o m → Writes l ys b c m n → Writes l (xs ++ ys) a c o n
writes_more l xs ys a b c o m n first more =
    let fore = first_of (limit_behind l a) xs in
    let e : joined (first_of (limit_behind l a) (xs ++ ys)) ≡ joined fore ++ joined (first_of (limit_behind l b) ys) =
    ap joined (first_parts (limit_behind l a) xs ys)
    ∙ flat_map-append (λ t. t) fore (first_of (limit_behind (limit_behind l a) (length xs)) ys)
    ∙ ap (λ (k : Option ℕ). joined fore ++ joined (first_of k ys)) (behind_more l a (length xs) ∙ ap (λ (k : ℕ). limit_behind l k) (sym first.0)) in
    let count : c ≡ a + length (xs ++ ys) = omega (arith, length-append xs ys, first.0, more.0) in
    (count, subst (λ (t : List ℕ). Appends o n t) (sym e) (appends_more o m n (joined fore) (joined (first_of (limit_behind l b) ys)) first.1 more.1))

-- the texts of one more of a list
pub writes_next : {X : Type 0} (texts : X → List (List ℕ)) (l : Option ℕ) (xs : List X) (i : ℕ) (x d : X) (a b c : ℕ) (o m n : Option (List ℕ)) → i < length xs → ◌≡◌ {A = X} x (get_or xs i d)
    → Writes l (flat_map texts (take i xs)) a b o m → Writes l (texts x) b c m n → Writes l (flat_map texts (take (i + 1) xs)) a c o n
writes_next {X} texts l xs i x d a b c o m n within is before more =
    let y = get_or xs i d in
    let lines =
    ap (λ (t : List X). flat_map texts t) (take_more xs i d within)
    ∙ flat_map-append texts (take i xs) (y ∷ [])
    ∙ ap (λ (t : List (List ℕ)). flat_map texts (take i xs) ++ t) (append-nil (texts y)) in
    subst (λ (t : List (List ℕ)). Writes l t a c o n) (sym lines)
    (writes_more l (flat_map texts (take i xs)) (texts y) a b c o m n before (subst (λ (z : X). Writes l (texts z) b c m n) is more))

-- one text of which there is no more room
pub one_beyond : (l : Option ℕ) (k : ℕ) (text : List ℕ) → false ≡ is_within l k → joined (first_of (limit_behind l k) (text ∷ [])) ≡ []
one_beyond None k text e = absurd (false≢true e)
one_beyond (Some n) k text e =
    let none : n - k ≡ 0 = grind (arith, nat_tests, e) in
    ap (λ (j : ℕ). joined (take j (text ∷ []))) none

-- and one of which there is
pub one_within : (l : Option ℕ) (k : ℕ) (text : List ℕ) → true ≡ is_within l k → joined (first_of (limit_behind l k) (text ∷ [])) ≡ text
one_within None k text e = append-nil text
one_within (Some n) k text e =
    let some : n - k ≡ suc (n - k - 1) = grind (arith, nat_tests, e) in
    let rest : take (n - k - 1) [] ≡ [] = first_none (Some (n - k - 1)) in
    ap (λ (j : ℕ). joined (take j (text ∷ []))) some ∙ ap (λ (t : List (List ℕ)). joined (text ∷ t)) rest ∙ append-nil text
