-- Bytes that are written one behind the other.
use Rattle.std.proofs.Common.{◌≡◌, ℕ, ◌+◌, ◌<◌, List, [], ◌∷◌, ◌++◌, length, take, get_or, Option, Some, None, sym, ◌∙◌, ap, subst, append_assoc}
use Rattle.std.specs.List.{flat_map}
use Rattle.std.proofs.lemmas.List.{append-nil, take_more}
use Rattle.std.proofs.lemmas.Grind.{flat_map-append}
use Rattle.std.specs.Io.KnownBytes.{Appends, Keeps}

-- nothing was written yet
pub appends_none : (old : Option (List ℕ)) → Appends old old []
appends_none None = tt
appends_none (Some bytes) = sym (append-nil bytes)

-- more bytes behind the first
pub appends_more : (old mid new : Option (List ℕ)) (xs ys : List ℕ) → Appends old mid xs → Appends mid new ys → Appends old new (xs ++ ys)
appends_more None mid new xs ys first more = tt
appends_more (Some bytes) None new xs ys first more = absurd first
appends_more (Some bytes) (Some longer) None xs ys first more = absurd more
appends_more (Some bytes) (Some longer) (Some all) xs ys first more = more ∙ ap (λ (l : List ℕ). l ++ ys) first ∙ append_assoc bytes xs ys

-- bytes that stay as they are behind those
pub appends_kept : (old mid new : Option (List ℕ)) (xs : List ℕ) → Appends old mid xs → Keeps mid new → Appends old new xs
appends_kept None mid new xs first kept = tt
appends_kept (Some bytes) None new xs first kept = absurd first
appends_kept (Some bytes) (Some longer) None xs first kept = absurd kept
appends_kept (Some bytes) (Some longer) (Some all) xs first kept = kept ∙ first

-- the text of one more of a list behind those of the ones before
pub appends_next : {X : Type 0} (text : X → List ℕ) (xs : List X) (i : ℕ) (x d : X) (old mid new : Option (List ℕ)) → i < length xs → ◌≡◌ {A = X} x (get_or xs i d)
    → Appends old mid (flat_map text (take i xs)) → Appends mid new (text x) → Appends old new (flat_map text (take (i + 1) xs))
appends_next {X} text xs i x d old mid new within is before more =
    let y = get_or xs i d in
    let lines =
    ap (λ (l : List X). flat_map text l) (take_more xs i d within)
    ∙ flat_map-append text (take i xs) (y ∷ [])
    ∙ ap (λ (l : List ℕ). flat_map text (take i xs) ++ l) (append-nil (text y)) in
    subst (λ (l : List ℕ). Appends old new l) (sym lines)
    (appends_more old mid new (flat_map text (take i xs)) (text y) before (subst (λ (z : X). Appends mid new (text z)) is more))
