-- Members of an array that are written one behind the other.
use Rattle.std.proofs.Common.{◌≡◌, ℕ, suc, ◌+◌, ◌<◌, nat_eq, List, [], ◌∷◌, ◌++◌, length, take, get_or, Option, sym, ◌∙◌, ap, subst, append_assoc, arith}
use Rattle.std.proofs.lemmas.List.{append-nil, take_more, length-take-le}
use Rattle.std.specs.Io.KnownBytes.{Appends}
use Rattle.sqcrash_store.specs.Objects.{member, members, members_from}
use Rattle.sqcrash_store.proofs.AppendedBytes.{appends_more}

members_more : {X : Type 0} (text : X → List ℕ) (k : ℕ) (xs : List X) (x : X) → members_from text k (xs ++ x ∷ []) ≡ members_from text k xs ++ member text (nat_eq (k + length xs) 0) x
members_more text k [] x = append-nil (member text (nat_eq k 0) x) ∙ ap (λ (n : ℕ). member text (nat_eq n 0) x) (omega arith)
members_more text k (y ∷ xs) x =
    let first = member text (nat_eq k 0) y in
    let e : k + 1 + length xs ≡ k + suc (length xs) = omega arith in
    ap (λ (l : List ℕ). first ++ l) (members_more text (k + 1) xs x ∙ ap (λ (n : ℕ). members_from text (k + 1) xs ++ member text (nat_eq n 0) x) e)
    ∙ sym (append_assoc first (members_from text (k + 1) xs) (member text (nat_eq (k + suc (length xs)) 0) x))

-- one member more of a list behind those before
pub member_next : {X : Type 0} (text : X → List ℕ) (xs : List X) (i : ℕ) (d : X) (old mid new : Option (List ℕ)) → i < length xs
    → Appends old mid (members text (take i xs)) → Appends mid new (member text (nat_eq i 0) (get_or xs i d)) → Appends old new (members text (take (i + 1) xs))
member_next {X} text xs i d old mid new within before more =
    let y = get_or xs i d in
    let long : length (take i xs) ≡ i = length-take-le i xs (omega (arith, within)) in
    let all = ap (λ (l : List X). members text l) (take_more xs i d within) ∙ members_more text 0 (take i xs) y ∙ ap (λ (n : ℕ). members text (take i xs) ++ member text (nat_eq n 0) y) (let e : 0 + length (take i xs) ≡ i = omega (arith, long) in e) in
    subst (λ (l : List ℕ). Appends old new l) (sym all) (appends_more old mid new (members text (take i xs)) (member text (nat_eq i 0) y) before more)
