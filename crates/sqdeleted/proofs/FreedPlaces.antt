-- Where freeblocks were.
use Rattle.std.proofs.Common.{◌≡◌, ◌↔◌, ◌⊎◌, ℕ, ◌+◌, ◌<◌, ◌≤◌, Bool, true, false, IsTrue, List, length, Option, Some, None, inl, inr, refl, subst, arith}
use Rattle.sqpage.specs.Header.{half}
use Rattle.sqpage.specs.Layout.{IsFreeblock}
use Rattle.sqdeleted.specs.Cut.{WasFreed, EndedAt, EndsHere}

-- a freeblock's header names one end
pub freed_once : (used : List ℕ) (at last other : ℕ) → WasFreed used at last → WasFreed used at other → last ≡ other
freed_once used at last other one two =
    let a : one.size ≡ half used (at + 2) = one.is.size in
    let b : two.size ≡ half used (at + 2) = two.is.size in
    let c : last ≡ at + one.size = one.ends in
    let d : other ≡ at + two.size = two.ends in
    omega (arith, a, b, c, d)

-- where no freeblock is sound, none was
pub none_freed : (used : List ℕ) (at : ℕ) (found : Option ℕ) → found ≡ None → ((size : ℕ) → (found ≡ Some size) ↔ IsFreeblock used 0 (record { start = at; size = size }))
    → (last : ℕ) → ((◌≡◌ {A = Option ℕ} None (Some last)) ↔ WasFreed used at last)
none_freed used at found none finds last = (λ e. absurd (cc), λ w. (let some : found ≡ Some w.size = (finds w.size).1 w.is in absurd (cc)))

-- nor where it names another one before its end
pub misnamed : (used : List ℕ) (at size next : ℕ) → next ≡ half used at → IsFreeblock used 0 (record { start = at; size = size }) → (next ≡ 0 → ⊥) → next ≤ at + size
    → (last : ℕ) → ((◌≡◌ {A = Option ℕ} None (Some last)) ↔ WasFreed used at last)
misnamed used at size next named is some early last = (λ e. absurd (cc), λ w. absurd (wrong w))
  where
    wrong : WasFreed used at last → ⊥
    wrong w =
        let a : w.size ≡ half used (at + 2) = w.is.size in
        let b : size ≡ half used (at + 2) = is.size in
        let c : last ≡ at + w.size = w.ends in
        elim w.names [
          | inl none ↦ omega (arith, named, none, some)
          | inr behind ↦ omega (arith, named, behind, a, b, c, early)
        ]

pub freed_here : (used : List ℕ) (at size : ℕ) → IsFreeblock used 0 (record { start = at; size = size }) → ((half used at ≡ 0) ⊎ (at + size < half used at))
    → (last : ℕ) → ((Some (at + size) ≡ Some last) ↔ WasFreed used at last)
freed_here used at size is names last = (
  λ e. (let same : at + size ≡ last = cc in subst (λ (n : ℕ). WasFreed used at n) same here),
  λ w. (let same : at + size ≡ last = freed_once used at (at + size) last here w in cc),
)
  where
    here : WasFreed used at (at + size)
    here = record { size = size; is = is; ends = refl; names = names }

pub not_true : (b : Bool) → b ≡ false → ¬ IsTrue b
not_true true e h = absurd (cc)
not_true false e h = absurd (cc)

-- a cell may end where another one begins
pub ends_there : (used : List ℕ) (whole : List Bool) (last end inner : ℕ) (there : Bool) → ¬ EndedAt whole last end → WasFreed used end inner → IsTrue there ↔ EndedAt whole last inner
    → IsTrue there ↔ EndsHere used whole last end
ends_there used whole last end inner there not freed is = (λ t. inr (inner, freed, is.0 t), back)
  where
    back : EndsHere used whole last end → IsTrue there
    back (inl e) = absurd (not e)
    back (inr w) = is.1 (subst (λ (n : ℕ). EndedAt whole last n) (freed_once used end w.0 inner w.1 freed) w.2)

pub ends_nowhere : (used : List ℕ) (whole : List Bool) (last end : ℕ) → ¬ EndedAt whole last end → ((inner : ℕ) → ¬ WasFreed used end inner) → IsTrue false ↔ EndsHere used whole last end
ends_nowhere used whole last end not none = (λ t. absurd (untrue t), back)
  where
    untrue : IsTrue false → ⊥
    untrue t = cc

    back : EndsHere used whole last end → IsTrue false
    back (inl e) = absurd (not e)
    back (inr w) = absurd (none w.0 w.1)
