-- Pairs with commas between them: the first one and the others, or none.
use Rattle.std.proofs.Common.{◌≡◌, ℕ, List, [], ◌∷◌, ◌++◌, length, refl, ap, arith}
use Rattle.std.specs.List.{flat_map}
use Rattle.sqcrash.specs.Objects.{next_pair, pair_text, pairs_text}

pub pairs_first : (ranges : List (ℕ × ℕ)) (first : ℕ × ℕ) (rest : List (ℕ × ℕ)) → ranges ≡ first ∷ rest → pairs_text ranges ≡ pair_text first.0 first.1 ++ flat_map next_pair rest
pairs_first ranges first rest e = ap pairs_text e

pub pairs_none : (ranges : List (ℕ × ℕ)) → length ranges ≡ 0 → pairs_text ranges ≡ []
pairs_none [] none = refl
pairs_none (r ∷ ranges) none = absurd (omega arith)
