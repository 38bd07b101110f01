-- What stands at the place of a record, and the nonce that its sum follows from.
use Rattle.std.proofs.Common.{◌≡◌, ℕ, ◌+◌, ◌-◌, ◌%◌, ◌^◌, ◌<◌, List, length, take, drop, sym, ◌∙◌, ap, arith}
use Rattle.std.specs.Prelude.{◌↔◌}
use Rattle.std.proofs.lemmas.List.{length-take, length-drop}
use Rattle.sqval.specs.Bytes.{part, word}
use Rattle.sqjournal.specs.NonceSum.{total, counted, nonce_sum}
use Rattle.sqjournal.specs.Slots.{IsRecordSlot}
use Rattle.sqjournal.specs.declared.slots.RecordSlot.{RecordSlot}
use Rattle.sqjournal.proofs.journal.DependenceOnPrefix.{part_part, word_part, word_front_of}

-- a sum follows from the nonce that is left when the bytes are taken off
nonce_of_sum : (sum over nonce n : ℕ) → sum < 2 ^ 32 → n < 2 ^ 32 → nonce ≡ (sum + (2 ^ 32 - (0 + over) % 2 ^ 32)) % 2 ^ 32 → (sum ≡ (n + over) % 2 ^ 32 → n ≡ nonce) × (n ≡ nonce → sum ≡ (n + over) % 2 ^ 32)
nonce_of_sum sum over nonce n fits small is = (λ e. omega arith, λ e. omega arith)

pub nonce_one : (sum nonce n : ℕ) (page : List ℕ) → sum < 2 ^ 32 → n < 2 ^ 32 → nonce ≡ (sum + (2 ^ 32 - nonce_sum 0 page)) % 2 ^ 32 → sum ≡ nonce_sum n page ↔ (n ≡ nonce)
unfolding nonce_sum
nonce_one sum nonce n page fits small is = nonce_of_sum sum (total (counted page) (length page)) nonce n fits small is

-- the bytes at a place are a whole record
pub slot_is : (size sum over n : ℕ) (f b : List ℕ) (at : ℕ) (slot : RecordSlot) → length f ≡ size + 8 → part b at (size + 8) ≡ f → slot.page ≡ word f 0 → sum ≡ word f (size + 4) → sum < 2 ^ 32 → n ≡ size → over ≡ nonce_sum 0 (part f 4 n)
    → slot.nonce ≡ (sum + (2 ^ 32 - over)) % 2 ^ 32 → IsRecordSlot size b at slot
slot_is size read over n f b at slot long place page read_is small_sum n_is over_is nonce_is =
    let fits : word f (size + 4) < 2 ^ 32 = omega arith in
    let nonce : slot.nonce ≡ (word f (size + 4) + (2 ^ 32 - nonce_sum 0 (part f 4 size))) % 2 ^ 32 =
    nonce_is ∙ ap (λ k. (k + (2 ^ 32 - over)) % 2 ^ 32) read_is ∙ ap (λ k. (word f (size + 4) + (2 ^ 32 - k)) % 2 ^ 32) (over_is ∙ ap (λ k. nonce_sum 0 (part f 4 k)) n_is) in
    let l : length (take (size + 8) (drop at b)) ≡ size + 8 = ap length place ∙ long in
    let content : part f 4 size ≡ part b (at + 4) size = ap (λ (x : List ℕ). part x 4 size) (sym place) ∙ part_part b at (size + 8) 4 size (omega arith) in
    let sum : word f (size + 4) ≡ word b (at + 4 + size) = ap (λ (x : List ℕ). word x (size + 4)) (sym place) ∙ word_part b at (size + 8) (size + 4) (omega arith) ∙ ap (λ k. word b k) (let e : at + (size + 4) ≡ at + 4 + size = omega arith in e) in
    record {
      whole = omega (arith, length-take (size + 8) (drop at b), length-drop at b);
      page = page ∙ ap (λ (x : List ℕ). word x 0) (sym place) ∙ word_front_of b at (size + 8) (omega arith);
      nonce = λ n small. let one = nonce_one (word f (size + 4)) slot.nonce n (part f 4 size) fits small nonce in (
        λ follows. one.0 (sum ∙ follows ∙ ap (nonce_sum n) (sym content)),
        λ same. sym sum ∙ one.1 same ∙ ap (nonce_sum n) content,
      );
    }
