-- What may be asked of a disk, among more that may.
use Rattle.rollcore.proofs.Words.{JournalHeader, List, Log, MayCommit, MayRecover, MayReplay, [], header_bytes, inl, inr, length, longest, record_bytes, refl, replicate, write, ℕ, ◌++◌, ◌+◌, ◌-◌, ◌∷◌, ◌≡◌, ◌≤◌}
use Rattle.recovery.proofs.Words.{Change}

pub recover_may : (size : ℕ) (change : Change) → MayReplay size change → MayRecover size change
recover_may size change may = inl may

pub front_may : (size : ℕ) → MayRecover size (write Log 0 (0 ∷ []))
front_may size = inr refl

module _ (size sector : ℕ) where
  pub replay_may : (change : Change) → MayReplay size change → MayCommit size sector change
  replay_may change may = inl may

  pub zero_may : (at : ℕ) → at + 1 ≤ longest → MayCommit size sector (write Log at (0 ∷ []))
  zero_may at within = inr (within, inl refl)

  pub record_may : (at number nonce : ℕ) (content bytes : List ℕ) → length content ≡ size → bytes ≡ record_bytes number nonce content → at + length bytes ≤ longest → MayCommit size sector (write Log at bytes)
  record_may at number nonce content bytes full is within = inr (within, inr (inl (number, nonce, content, full, is)))

  pub header_may : (at : ℕ) (h : JournalHeader) (bytes : List ℕ) → h.sector ≡ sector → bytes ≡ header_bytes h ++ replicate (sector - 28) 0 → at + length bytes ≤ longest → MayCommit size sector (write Log at bytes)
  header_may at h bytes same is within = inr (within, inr (inr (h, same, is)))
