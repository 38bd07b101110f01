-- A commit that isn't refused.
use Rattle.rollcore.proofs.Words.{IsFaultless, None, Pages, [], arith, false, faultless, nat_lt, nat_tests, none_both, one_none, page_faults, recorded, refusal_of, segments_of, ℕ, ◌∷◌, ◌≡◌, ◌≤◌}

module _ (old_size page_size : ℕ) (pages : Pages) (size nonces : ℕ) (none : refusal_of old_size page_size pages size nonces ≡ None) where
  pub granted : IsFaultless old_size page_size pages size
  granted = faultless old_size page_size pages size (none_both (page_faults old_size page_size pages size) ((nat_lt nonces (segments_of (recorded pages old_size size)), 16) ∷ []) none).0

  pub segments_enough : segments_of (recorded pages old_size size) ≤ nonces
  segments_enough =
      let few : nat_lt nonces (segments_of (recorded pages old_size size)) ≡ false =
      one_none (nat_lt nonces (segments_of (recorded pages old_size size))) 16 (none_both (page_faults old_size page_size pages size) ((nat_lt nonces (segments_of (recorded pages old_size size)), 16) ∷ []) none).1 in
      grind (arith, nat_tests, few)
