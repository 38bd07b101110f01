-- Each log has a front.
use Rattle.std.proofs.Common.{◌≡◌, ◌≢◌, ◌⊎◌, inl, inr, ⊎_elim, ℕ, zero, suc, ◌+◌, ◌^◌, ◌≤◌, List, length, refl, sym, ◌∙◌, ap, subst, arith}
use Rattle.std.proofs.lemmas.Bool.{cases_lt, cases_eq}
use Rattle.sqval.specs.Bytes.{part, word}
use Rattle.sqval.specs.PageSize.{IsPageSize}
use Rattle.sqwal.specs.Sums.{words, sum_0, sum_1}
use Rattle.sqwal.specs.Header.{HasMagic, order_of, IsHeader}
use Rattle.sqwal.specs.Frames.{frame_at, frame_end, page_of, size_of, summed, Passes, AllPass, IsValidFrame, IsCommit, IsFront}

abbrev pub Decided : Type 0 → Type 0
Decided P = P ⊎ (P → ⊥)

-- whether a number is a power of two up to 2^16, from 2^9 on
page_size_up : (size k : ℕ) → k ≤ 16 → ((j : ℕ) → 9 ≤ j → j ≤ k → size ≢ 2 ^ j) ⊎ IsPageSize size
page_size_up size zero le = inl (λ j a b. absurd (omega arith))
page_size_up size (suc k) le = ⊎_elim
    (λ none. ⊎_elim
    (λ is. ⊎_elim
    (λ low. inl (λ j a b. absurd (omega arith)))
    (λ high. inr (suc k, high, le, is))
    (cases_lt (suc k) 9))
    (λ not. inl (λ j a b. ⊎_elim (λ e. λ z. not (z ∙ ap (λ x. 2 ^ x) e)) (λ ne. none j a (let lt : j ≤ k = omega arith in lt)) (cases_eq j (suc k))))
    (cases_eq size (2 ^ suc k)))
    (λ is. inr is)
    (page_size_up size k (omega arith))

pub page_size_decided : (size : ℕ) → Decided (IsPageSize size)
page_size_decided size = ⊎_elim (λ none. inr (λ is. none is.0 is.1 is.2 is.3)) (λ is. inl is) (page_size_up size 16 (omega arith))

pub header_decided : (size : ℕ) (w : List ℕ) → Decided (IsHeader size w)
header_decided size w =
    ⊎_elim (λ short. inr (λ is. omega (arith, is.whole))) (λ long.
    ⊎_elim (λ magic.
    ⊎_elim (λ version.
    ⊎_elim (λ is_size.
    ⊎_elim (λ named.
    ⊎_elim (λ sums_0.
    ⊎_elim (λ sums_1. inl (record { whole = long; magic = magic; version = version; is_size = is_size; named = named; sums = (sums_0, sums_1) }))
    (λ ne. inr (λ is. ne is.sums.1)) (cases_eq (word w 28) (sum_1 (words (order_of w) (part w 0 24)))))
    (λ ne. inr (λ is. ne is.sums.0)) (cases_eq (word w 24) (sum_0 (words (order_of w) (part w 0 24)))))
    (λ ne. inr (λ is. ne is.named)) (cases_eq (word w 8) size))
    (λ ne. inr (λ is. ne is.is_size)) (page_size_decided size))
    (λ ne. inr (λ is. ne is.version)) (cases_eq (word w 4) 3007000))
    (λ ne. inr (λ is. ne is.magic))
    (let c : Decided (HasMagic w) = ⊎_elim (λ a. inl (inl a)) (λ na. ⊎_elim (λ b. inl (inr b)) (λ nb. inr (λ x. ⊎_elim na nb x)) (cases_eq (word w 0) 0x377f0683)) (cases_eq (word w 0) 0x377f0682) in c))
    (cases_lt (length w) 32)

pub passes_decided : (size : ℕ) (w : List ℕ) (i : ℕ) → Decided (Passes size w i)
passes_decided size w i =
    ⊎_elim (λ header.
    ⊎_elim (λ short. inr (λ is. omega (arith, is.whole))) (λ long.
    ⊎_elim (λ salt_1.
    ⊎_elim (λ salt_2.
    ⊎_elim (λ zero_page. inr (λ is. is.page zero_page)) (λ page.
    ⊎_elim (λ sums_0.
    ⊎_elim (λ sums_1. inl (record { header = header; whole = long; salts = (salt_1, salt_2); page = page; sums = (sums_0, sums_1) }))
    (λ ne. inr (λ is. ne is.sums.1)) (cases_eq (word w (frame_at size i + 20)) (sum_1 (words (order_of w) (summed size w i)))))
    (λ ne. inr (λ is. ne is.sums.0)) (cases_eq (word w (frame_at size i + 16)) (sum_0 (words (order_of w) (summed size w i)))))
    (cases_eq (page_of size w i) 0))
    (λ ne. inr (λ is. ne is.salts.1)) (cases_eq (word w (frame_at size i + 12)) (word w 20)))
    (λ ne. inr (λ is. ne is.salts.0)) (cases_eq (word w (frame_at size i + 8)) (word w 16)))
    (cases_lt (length w) (frame_end size i)))
    (λ ne. inr (λ is. ne is.header)) (header_decided size w)

pub all_decided : (size : ℕ) (w : List ℕ) (k : ℕ) → Decided (AllPass size w k)
all_decided size w zero = inl (λ j a b. absurd (omega arith))
all_decided size w (suc k) = ⊎_elim
    (λ all. ⊎_elim
    (λ is. inl (λ j a b. ⊎_elim (λ e. subst (λ (x : ℕ). Passes size w x) (sym e) is) (λ ne. all j a (omega arith)) (cases_eq j (suc k))))
    (λ bad. inr (λ x. bad (x (suc k) (omega arith) (omega arith))))
    (passes_decided size w (suc k)))
    (λ bad. inr (λ x. bad (λ j a b. x j a (omega arith))))
    (all_decided size w k)

record UpTo (size : ℕ) (w : List ℕ) (k m : ℕ) : Type 0 where
  is : (m ≡ 0) ⊎ (IsValidFrame size w m × IsCommit size w m)
  greatest : (i : ℕ) → i ≤ k → IsValidFrame size w i → IsCommit size w i → i ≤ m

up_to : (size : ℕ) (w : List ℕ) (k : ℕ) → (m : ℕ) × UpTo size w k m
up_to size w zero = (0, record { is = inl refl; greatest = λ i le a b. le })
up_to size w (suc k) =
    let before = up_to size w k in
    let stay : ((IsValidFrame size w (suc k) × IsCommit size w (suc k)) → ⊥) → (m : ℕ) × UpTo size w (suc k) m
    = λ none. (before.0, record { is = before.1.is; greatest = λ i le a b. ⊎_elim (λ e. absurd (none (subst (λ (x : ℕ). IsValidFrame size w x) e a, subst (λ (x : ℕ). IsCommit size w x) e b))) (λ ne. before.1.greatest i (omega arith) a b) (cases_eq i (suc k)) }) in
    ⊎_elim
    (λ all. ⊎_elim
    (λ none. stay (λ x. x.1 none))
    (λ commit. (suc k, record { is = inr (record { first = omega arith; each = all }, commit); greatest = λ i le a b. le }))
    (cases_eq (size_of size w (suc k)) 0))
    (λ bad. stay (λ x. bad x.0.each))
    (all_decided size w (suc k))

in_length : (size i : ℕ) → i ≤ frame_end size i
unfolding frame_end
in_length size i = omega arith

pub front_exists : (size : ℕ) (w : List ℕ) → (m : ℕ) × IsFront size w m
front_exists size w =
    let found = up_to size w (length w) in
    (found.0, record { is = found.1.is; greatest = λ i a b. found.1.greatest i (omega (arith, (a.each i a.first (omega arith)).whole, in_length size i)) a b })
