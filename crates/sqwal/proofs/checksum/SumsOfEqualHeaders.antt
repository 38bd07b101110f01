-- The first 24 bytes of a header are those of the words that it says, so two headers that say the same have the same sums.
use Rattle.std.proofs.Common.{◌≡◌, ◌⊎◌, ⊎_elim, ℕ, zero, suc, ◌+◌, ◌<◌, ◌≤◌, cond, List, ◌++◌, length, take, drop, get_or, sym, ◌∙◌, ap, subst, arith, length-drop}
use Rattle.std.specs.Prelude.{nat_eq}
use Rattle.std.proofs.lemmas.Bool.{cases_lt}
use Rattle.std.proofs.lemmas.List.{ext_get_or, get_or-take, get_or-drop, get_or_past, length-take-le}
use Rattle.byteorder.specs.Endian.{big_bytes, big_number}
use Rattle.sqval.specs.Bytes.{part, word, AreBytes}
use Rattle.sqwal.specs.Sums.{words, sum_0, sum_1}
use Rattle.sqwal.specs.Header.{order_of, IsHeaderOf}
use Rattle.sqwal.specs.Slots.{stored}
use Rattle.sqwal.specs.declared.sum.Order.{Order}
use Rattle.sqwal.specs.declared.sum.Order.TheVariants.{Big, Little}
use Rattle.sqwal.specs.declared.sum.Sum.{Sum}
use Rattle.sqwal.specs.declared.header.WalHeader.{WalHeader}
use Rattle.sqwal.proofs.log.PartsOfBytes.{take_add}
use Rattle.sqwal.proofs.checksum.SlotParts.{sum_is}

-- four bytes are those of the number that they spell
number_bytes : (xs : List ℕ) → length xs ≡ 4 → AreBytes xs → big_bytes 4 (big_number 4 xs) ≡ xs
number_bytes xs four are = ext_get_or 0 (big_bytes 4 (big_number 4 xs)) xs (sym four) (λ i lt. by i lt)
  where
    by : (i : ℕ) → i < 4 → get_or (big_bytes 4 (big_number 4 xs)) i 0 ≡ get_or xs i 0
    by zero lt = omega (arith, are 0, are 1, are 2, are 3)
    by (suc zero) lt = omega (arith, are 0, are 1, are 2, are 3)
    by (suc (suc zero)) lt = omega (arith, are 0, are 1, are 2, are 3)
    by (suc (suc (suc zero))) lt = omega (arith, are 0, are 1, are 2, are 3)
    by (suc (suc (suc (suc i)))) lt = absurd (omega arith)

part_word : (w : List ℕ) (at x : ℕ) → AreBytes w → at + 4 ≤ length w → word w at ≡ x → part w at 4 ≡ big_bytes 4 x
part_word w at x are fits is =
    let four : length (part w at 4) ≡ 4 = length-take-le 4 (drop at w) (omega (arith, length-drop at w)) in
    let small : AreBytes (part w at 4) = λ i. ⊎_elim
    (λ lt. subst (λ (b : ℕ). b < 256) (sym (get_or-take 4 (drop at w) i 0 lt ∙ get_or-drop at w i 0)) (are (at + i)))
    (λ ge. subst (λ (b : ℕ). b < 256) (sym (get_or_past (part w at 4) i 0 (omega arith))) (omega arith))
    (cases_lt i 4) in
    sym (number_bytes (part w at 4) four small) ∙ ap (λ (n : ℕ). big_bytes 4 n) is

-- the magic of an order
magic_of : Order → ℕ
magic_of Big = 0x377f0683
magic_of Little = 0x377f0682

order_is : (n : ℕ) → (n ≡ 0x377f0682) ⊎ (n ≡ 0x377f0683) → magic_of (cond (nat_eq n 0x377f0682) Little Big) ≡ n
unfolding magic_of
order_is n has = ⊎_elim
    (λ e. ap (λ x. magic_of (cond (nat_eq x 0x377f0682) Little Big)) e ∙ sym e)
    (λ e. ap (λ x. magic_of (cond (nat_eq x 0x377f0682) Little Big)) e ∙ sym e)
    has

magic_is : (w : List ℕ) (h : WalHeader) → IsHeaderOf w h → word w 0 ≡ magic_of h.order
magic_is w h is = sym (order_is (word w 0) is.valid.magic) ∙ ap magic_of (sym is.order)

-- the first bytes of a header
front_of : WalHeader → List ℕ
front_of h = big_bytes 4 (magic_of h.order) ++ big_bytes 4 3007000 ++ big_bytes 4 h.page_size ++ big_bytes 4 h.sequence ++ big_bytes 4 h.salt1 ++ big_bytes 4 h.salt2

-- one word more
take_word : (w front : List ℕ) (at x : ℕ) → AreBytes w → at + 4 ≤ length w → take at w ≡ front → word w at ≡ x → take (at + 4) w ≡ front ++ big_bytes 4 x
take_word w front at x are fits before is = take_add w at 4 ∙ ap (λ (y : List ℕ). y ++ part w at 4) before ∙ ap (λ (y : List ℕ). front ++ y) (part_word w at x are fits is)

front_is : (w : List ℕ) (h : WalHeader) → AreBytes w → IsHeaderOf w h → part w 0 24 ≡ front_of h
unfolding front_of
front_is w h are is =
    let long : 32 ≤ length w = is.valid.whole in
    let e0 : take 4 w ≡ big_bytes 4 (magic_of h.order) = part_word w 0 _ are (omega arith) (magic_is w h is) in
    let e1 : take 8 w ≡ big_bytes 4 (magic_of h.order) ++ big_bytes 4 3007000 = take_word w _ 4 3007000 are (omega arith) e0 is.valid.version in
    let e2 : take 12 w ≡ big_bytes 4 (magic_of h.order) ++ big_bytes 4 3007000 ++ big_bytes 4 h.page_size = take_word w _ 8 h.page_size are (omega arith) e1 is.valid.named in
    let e3 : take 16 w ≡ big_bytes 4 (magic_of h.order) ++ big_bytes 4 3007000 ++ big_bytes 4 h.page_size ++ big_bytes 4 h.sequence = take_word w _ 12 h.sequence are (omega arith) e2 (sym is.sequence) in
    let e4 : take 20 w ≡ big_bytes 4 (magic_of h.order) ++ big_bytes 4 3007000 ++ big_bytes 4 h.page_size ++ big_bytes 4 h.sequence ++ big_bytes 4 h.salt1 = take_word w _ 16 h.salt1 are (omega arith) e3 (sym is.salt1) in
    take_word w _ 20 h.salt2 are (omega arith) e4 (sym is.salt2)

-- the sums that stand in it
pub sums_one : (w v : List ℕ) (h : WalHeader) (sum : Sum) → AreBytes w → AreBytes v → IsHeaderOf w h → IsHeaderOf v h → sum.s0 ≡ word v 24 → sum.s1 ≡ word v 28 → sum ≡ stored h.page_size w 0
sums_one w v h sum are are' is is' first second =
    let over : words (order_of v) (part v 0 24) ≡ words (order_of w) (part w 0 24) =
    ap (λ o. words o (part v 0 24)) (sym is'.order ∙ is.order) ∙ ap (words (order_of w)) (front_is v h are' is' ∙ sym (front_is w h are is)) in
    sum_is sum (word w 24) (word w 28)
    (first ∙ is'.valid.sums.0 ∙ ap sum_0 over ∙ sym is.valid.sums.0)
    (second ∙ is'.valid.sums.1 ∙ ap sum_1 over ∙ sym is.valid.sums.1)
