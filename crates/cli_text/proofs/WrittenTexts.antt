-- Texts that are written one behind the other.
use Rattle.std.proofs.Common.{◌≡◌, ℕ, zero, suc, ◌+◌, ◌<◌, ◌==◌, List, [], ◌∷◌, ◌++◌, length, get_or, take, map, Option, Result, Ok, Err, OnOk, sym, ap, subst, ◌∙◌, arith}
use Rattle.std.specs.List.{enumerate_from, flat_map, range_with_len}
use Rattle.std.specs.Io.KnownBytes.{Appends}
use Rattle.std.proofs.KnownBytes.{Appends-trans}
use Rattle.std.proofs.lemmas.List.{append-nil, length-take-le, take_more}
use Rattle.std.proofs.lemmas.Grind.{flat_map-append}
use Rattle.cli_text.specs.Facts.{joined, separator}
use Rattle.cli_text.proofs.JoinedTexts.{joined_more}

-- one more text, which is the last of those that are told
pub appends_more : (old mid new : Option (List ℕ)) (before text all : List ℕ) → Appends old mid before → Appends mid new text
    → all ≡ before ++ text → Appends old new all
appends_more old mid new before text all first more is =
    subst (λ (l : List ℕ). Appends old new l) (sym is) (Appends-trans old mid new before text first more)

-- one more part, the first one or one behind others
pub appends_part : {X : Type 0} (old mid new : Option (List ℕ)) (mark : List ℕ) (text : X → List ℕ) (xs : List X) (i : ℕ) (d : X)
    → i < length xs → Appends old mid (joined mark (map text (take i xs)))
    → Appends mid new (separator mark (i == 0) ++ text (get_or xs i d)) → Appends old new (joined mark (map text (take (i + 1) xs)))
appends_part old mid new mark text xs i d within first more =
    appends_more old mid new (joined mark (map text (take i xs))) (separator mark (i == 0) ++ text (get_or xs i d)) (joined mark (map text (take (i + 1) xs)))
    first more (joined_more mark text xs i d within)

-- one more line
pub appends_line : {X : Type 0} (old mid new : Option (List ℕ)) (text : X → List ℕ) (xs : List X) (x : X)
    → Appends old mid (flat_map text xs) → Appends mid new (text x) → Appends old new (flat_map text (xs ++ x ∷ []))
appends_line old mid new text xs x first more =
    appends_more old mid new (flat_map text xs) (text x) (flat_map text (xs ++ x ∷ [])) first more
    (flat_map-append text xs (x ∷ []) ∙ ap (λ (l : List ℕ). flat_map text xs ++ l) (append-nil (text x)))

-- one more number
pub range_with_len-more : (from count : ℕ) → range_with_len from (suc count) ≡ range_with_len from count ++ (from + count) ∷ []
range_with_len-more from zero = let here : from + 0 ≡ from = omega arith in ap (λ (n : ℕ). n ∷ []) (sym here)
range_with_len-more from (suc count) =
    let here : from + 1 + count ≡ from + suc count = omega arith in
    ap (λ (l : List ℕ). from ∷ l) (range_with_len-more (from + 1) count ∙ ap (λ (n : ℕ). range_with_len (from + 1) count ++ n ∷ []) here)

-- what follows of what was written
pub on_ok : {T E : Type 0} (answer : Result T E) (P Q : Type 0) → (P → Q) → OnOk answer P → OnOk answer Q
on_ok (Ok _) P Q follows p = follows p
on_ok (Err _) P Q follows p = tt

-- one more number before a list's elements
pub enumerate_from-more : {X : Type 0} (n : ℕ) (xs : List X) (x : X) → enumerate_from n (xs ++ x ∷ []) ≡ enumerate_from n xs ++ (n + length xs, x) ∷ []
enumerate_from-more {X = X} n [] x = let here : n + 0 ≡ n = omega arith in ap (λ (k : ℕ). let at : ℕ × X = (k, x) in at ∷ []) (sym here)
enumerate_from-more {X = X} n (y ∷ xs) x =
    let here : n + 1 + length xs ≡ n + length (y ∷ xs) = omega arith in
    let first : ℕ × X = (n, y) in
    ap (λ (l : List (ℕ × X)). first ∷ l)
    (enumerate_from-more (n + 1) xs x ∙ ap (λ (k : ℕ). let at : ℕ × X = (k, x) in enumerate_from (n + 1) xs ++ at ∷ []) here)

-- one more numbered line
pub appends_numbered : {X : Type 0} (old mid new : Option (List ℕ)) (text : ℕ → X → List ℕ) (xs : List X) (i : ℕ) (d : X)
    → i < length xs → Appends old mid (flat_map (λ e. text e.0 e.1) (enumerate_from 1 (take i xs)))
    → Appends mid new (text (i + 1) (get_or xs i d))
    → Appends old new (flat_map (λ e. text e.0 e.1) (enumerate_from 1 (take (i + 1) xs)))
appends_numbered {X = X} old mid new text xs i d within first more =
    let line : ℕ × X → List ℕ = λ e. text e.0 e.1 in
    let last : X = get_or xs i d in
    let number : 1 + length (take i xs) ≡ i + 1 = omega (arith, length-take-le i xs (omega (arith, within))) in
    let at : ℕ × X = (1 + length (take i xs), last) in
    let grown : enumerate_from 1 (take (i + 1) xs) ≡ enumerate_from 1 (take i xs) ++ at ∷ [] =
    ap (λ (l : List X). enumerate_from 1 l) (take_more xs i d within) ∙ enumerate_from-more 1 (take i xs) last in
    let here : Appends mid new (line at) = subst (λ (k : ℕ). Appends mid new (text k last)) (sym number) more in
    subst (λ (l : List (ℕ × X)). Appends old new (flat_map line l)) (sym grown) (appends_line old mid new line (enumerate_from 1 (take i xs)) at first here)

-- three texts, the last of which may fail
pub appends_three : {T E : Type 0} (answer : Result T E) (old first second new : Option (List ℕ)) (xs ys zs : List ℕ)
    → Appends old first xs → Appends first second ys → OnOk answer (Appends second new zs)
    → OnOk answer (Appends old new (xs ++ (ys ++ zs)))
appends_three answer old first second new xs ys zs p q last =
    on_ok answer (Appends second new zs) (Appends old new (xs ++ (ys ++ zs)))
    (λ r. Appends-trans old first new xs (ys ++ zs) p (Appends-trans first second new ys zs q r)) last
