-- What is held of a file.
use Rattle.std.proofs.Common.{◌≡◌, ℕ, ◌+◌, ◌<◌, ◌≤◌, List, [], ◌∷◌, length, get_or, take, drop, refl, sym, ◌∙◌, ap, arith, length-drop}
use Rattle.std.proofs.lemmas.List.{get_or-take, get_or-drop, length-take-le}
use Rattle.std.proofs.lemmas.List.FromFn.{fill_by_all, get_or-map-range_with_len}
use Rattle.sqview.specs.Laid.{part_or_zeros}
use Rattle.sqview.specs.internal.Laid.{HoldsPart}

part_byte : (size at : ℕ) (file : List ℕ) (i : ℕ) → i < size → get_or (part_or_zeros size at file) i 0 ≡ get_or file (at + i) 0
unfolding part_or_zeros
part_byte size at file i lt = get_or-map-range_with_len (λ k. get_or file (at + k) 0) 0 size i i 0 lt (omega arith)

-- a part of what is held is that part of the file
pub held_part : (file piece : List ℕ) (from held place n at e : ℕ) → HoldsPart file from held piece → from + place ≡ at → place + n ≤ held → held ≤ length piece → e ≡ n → take e (drop place piece) ≡ part_or_zeros n at file
unfolding part_or_zeros
held_part file piece from held place n at e holds is within fits same =
    let long : length (take e (drop place piece)) ≡ n = length-take-le e (drop place piece) (omega (arith, length-drop place piece)) ∙ same in
    fill_by_all (λ i. get_or file (at + i) 0) (take e (drop place piece)) n 0 long
    (λ k lt. get_or-take e (drop place piece) k 0 (omega arith) ∙ get_or-drop place piece k 0 ∙ sym (get_or-take held piece (place + k) 0 (omega arith))
    ∙ ap (λ (l : List ℕ). get_or l (place + k) 0) holds ∙ part_byte held from file (place + k) (omega arith)
    ∙ ap (λ (i : ℕ). get_or file i 0) (let x : from + (place + k) ≡ at + k = omega arith in x))

-- nothing is a part of each file
pub holds_nothing : (file : List ℕ) (from held : ℕ) (piece : List ℕ) → held ≡ 0 → HoldsPart file from held piece
unfolding part_or_zeros
holds_nothing file from held piece none = ap (λ (n : ℕ). take n piece) none ∙ empty piece ∙ sym (ap (λ (n : ℕ). part_or_zeros n from file) none)
  where
    empty : (xs : List ℕ) → take 0 xs ≡ []
    empty [] = refl
    empty (x ∷ xs) = refl
