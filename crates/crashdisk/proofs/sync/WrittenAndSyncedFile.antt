-- A file that was written whole and synced holds the bytes that were written, alone.
use Rattle.crashdisk.proofs.Between.{AreBytes, Changed, FileState, IsDone, IsSettled, IsSynced, List, WriteTouches, [], ap, arith, byte_written, cases_lt, get_or, get_or_past, inl, inr, length, max, settled_byte, sym, written, written_inside, written_outside, ℕ, ◌+◌, ◌-◌, ◌∙◌, ◌≡◌}

pub filled_settled : (sector : ℕ) (bytes : List ℕ) (old mid new : FileState) → IsSettled old [] → AreBytes bytes
    → Changed sector (WriteTouches sector old 0 bytes) (written old 0 bytes) (max old.len (0 + length bytes)) old mid → IsDone sector (WriteTouches sector old 0 bytes) (written old 0 bytes) (max old.len (0 + length bytes)) mid
    → IsSynced mid new → IsSettled new bytes
filled_settled sector bytes old mid new empty are changed done synced =
    let long : mid.len ≡ length bytes = omega (arith, done.len, empty.len) in record {
      earlier = synced.earlier;
      present = λ i. synced.present i ∙ byte_written sector 0 bytes old mid changed done i ∙ at i;
      len = synced.len ∙ long;
      least = synced.least ∙ long;
      greatest = synced.greatest ∙ long;
      are_bytes = are;
    }
  where
    less_none : (i : ℕ) → i - 0 ≡ i
    less_none i = omega arith

    at : (i : ℕ) → written old 0 bytes i ≡ get_or bytes i 0
    at i = elim (cases_lt i (length bytes)) [
      | inl lt ↦ written_inside old 0 bytes i (omega arith) (omega arith) ∙ ap (λ (j : ℕ). get_or bytes j 0) (less_none i)
      | inr le ↦ written_outside old 0 bytes i (inr (omega arith)) ∙ settled_byte old [] empty i ∙ sym (get_or_past bytes i 0 le)
    ]
