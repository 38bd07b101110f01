-- The steps of an opening.
use Rattle.walcore.proofs.Below.{AreBytes, Big, GoesOn, IsHeaderOf, IsNewLog, IsSumOf, List, Order, Sum, WalHeader, [], begun_by, length, refl, summed, take, ℕ, ◌≡◌}

-- ---- how many pages a file has

-- ---- a log of a header alone

pub new_log_is : (h : WalHeader) (bytes : List ℕ) (none sum : Sum) → IsHeaderOf bytes h → h.order ≡ Big → length bytes ≡ 32 → AreBytes bytes → ((order : Order) → IsSumOf order [] none) → GoesOn h.order (take 24 bytes) none sum
    → IsNewLog h.page_size h.sequence h.salt1 h.salt2 (record { header = h; sum = sum; bytes = bytes })
unfolding summed
new_log_is h bytes none sum is big long are zero on = record {
  begun = begun_by bytes h is big long are;
  page_size = refl;
  header = is;
  sum = on [] refl (zero h.order);
}
