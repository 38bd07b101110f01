-- Bytes that were read over the first of 32 zeros.
use Rattle.std.proofs.Common.{◌≡◌, ℕ, ◌+◌, ◌-◌, ◌<◌, ◌≤◌, List, [], ◌++◌, length, drop, get_or, replicate, ◌∙◌, arith}
use Rattle.std.proofs.lemmas.List.{get_or-append_right, get_or-drop, get_or-replicate, length-replicate}
use Rattle.std.proofs.lemmas.List.FromFn.{fill_by_all}
use Rattle.sqview.specs.Laid.{part_or_zeros}

-- behind them are zeros still
pub zeros_behind : (xs : List ℕ) (count k : ℕ) → length xs ≡ count → count ≤ k → k < 32 → get_or (xs ++ drop count (replicate 32 0)) k 0 ≡ 0
zeros_behind xs count k long above below =
    get_or-append_right xs (drop count (replicate 32 0)) count k 0 long above
    ∙ get_or-drop count (replicate 32 0) (k - count) 0
    ∙ get_or-replicate 32 (count + (k - count)) 0 0 (omega arith)

-- zeros are a part of no bytes
pub zeros_of_nothing : (n at : ℕ) → replicate n 0 ≡ part_or_zeros n at []
unfolding part_or_zeros
zeros_of_nothing n at =
    fill_by_all (λ i. get_or [] (at + i) 0) (replicate n 0) n 0 (length-replicate n 0) (λ k lt. get_or-replicate n k 0 0 lt)
