-- Which states have a name.
use Rattle.std.proofs.Common.{◌≡◌, inl, inr, ℕ, ◌+◌, ◌≤◌, true, List, length, Option, Some, sym, ◌∙◌, ap, subst, arith}
use Rattle.std.proofs.Math.Nat.{eq-or-lt_of_le}
use Rattle.std.proofs.lemmas.Option.{slice_get_within}
use Rattle.std.specs.List.{slice_get}
use Rattle.std.specs.Option.{unwrap_or}
use Rattle.std.specs.String.{string_bytes}
use Rattle.sqcrash_store.specs.Verdicts.{IsNamed, NoneFrom, NoOther}
use Rattle.sqcrash_store.specs.declared.verdict.Answer.{Answer}

-- none behind the last
pub none_behind : (states : List Answer) (line : List ℕ) (n : ℕ) → length states ≤ n → NoneFrom states line n
none_behind states line n end k le named = absurd (omega (arith, slice_get_within states k named.state named.there, end, le))

-- and this one isn't
pub none_more : (states : List Answer) (line : List ℕ) (k : ℕ) (state : Answer) → slice_get states k ≡ Some state → ((state.is_sound ≡ true) × (string_bytes state.line ≡ line) → ⊥)
    → NoneFrom states line (k + 1) → NoneFrom states line k
none_more states line k state there not rest j le named = elim (eq-or-lt_of_le le) [
  | inl e ↦
      let here : slice_get states k ≡ Some named.state = subst (λ (n : ℕ). slice_get states n ≡ Some named.state) (sym e) named.there in
      let same : state ≡ named.state = ap (λ (o : Option Answer). unwrap_or o state) (sym there ∙ here) in
      not (subst (λ (x : Answer). (x.is_sound ≡ true) × (string_bytes x.line ≡ line)) (sym same) (named.sound, named.same))
  | inr lt ↦ rest j (let l : k + 1 ≤ j = omega (arith, lt) in l) named
]

-- none of the states from number n on that is sound has another name
abbrev pub NoOtherFrom : List Answer → (line : List ℕ) → (n : ℕ) → Type 0
NoOtherFrom states line n = (k : ℕ) (name : List ℕ) → n ≤ k → IsNamed states name k → name ≡ line

pub no_other_behind : (states : List Answer) (line : List ℕ) (n : ℕ) → length states ≤ n → NoOtherFrom states line n
no_other_behind states line n end k name le named = absurd (omega (arith, slice_get_within states k named.state named.there, end, le))

pub no_other_more : (states : List Answer) (line : List ℕ) (k : ℕ) (state : Answer) → slice_get states k ≡ Some state → (state.is_sound ≡ true → string_bytes state.line ≡ line)
    → NoOtherFrom states line (k + 1) → NoOtherFrom states line k
no_other_more states line k state there is rest i name le named = elim (eq-or-lt_of_le le) [
  | inl e ↦
      let here : slice_get states k ≡ Some named.state = subst (λ (n : ℕ). slice_get states n ≡ Some named.state) (sym e) named.there in
      let same : state ≡ named.state = ap (λ (o : Option Answer). unwrap_or o state) (sym there ∙ here) in
      let sound : state.is_sound ≡ true = ap (λ (x : Answer). x.is_sound) same ∙ named.sound in
      sym named.same ∙ ap (λ (x : Answer). string_bytes x.line) (sym same) ∙ is sound
  | inr lt ↦ rest i name (let l : k + 1 ≤ i = omega (arith, lt) in l) named
]

pub no_other_from : (states : List Answer) (line : List ℕ) (n : ℕ) → n ≤ 0 → NoOtherFrom states line n → NoOther states line
no_other_from states line n none rest k name named = rest k name (let l : n ≤ k = omega (arith, none) in l) named
