-- What the reading of a header finds.
use Rattle.std.proofs.Common.{◌≡◌, inl, inr, ⊎_elim, ℕ, ◌≤◌, List, length, cond, sym, ◌∙◌, ap, subst}
use Rattle.std.specs.Prelude.{nat_eq}
use Rattle.sqval.specs.Bytes.{part, word}
use Rattle.sqval.specs.PageSize.{IsPageSize}
use Rattle.sqwal.specs.Sums.{IsSumOf}
use Rattle.sqwal.specs.internal.Magic.{NamesOrder}
use Rattle.sqwal.specs.Header.{HasMagic, order_of, HasHeaderSums, IsHeaderOf}
use Rattle.sqwal.specs.declared.sum.Order.{Order}
use Rattle.sqwal.specs.declared.sum.Order.TheVariants.{Big, Little}
use Rattle.sqwal.specs.declared.sum.Sum.{Sum}
use Rattle.sqwal.specs.declared.header.WalHeader.{WalHeader}

pub magic_named : (w : List ℕ) (order : Order) → NamesOrder (word w 0) order → HasMagic w
magic_named w Big e = inr e
magic_named w Little e = inl e

pub order_named : (w : List ℕ) (order : Order) → NamesOrder (word w 0) order → order ≡ order_of w
order_named w Big e = sym (ap (λ x. cond (nat_eq x 0x377f0682) Little Big) e)
order_named w Little e = sym (ap (λ x. cond (nat_eq x 0x377f0682) Little Big) e)

pub not_named : (w : List ℕ) → ((order : Order) → NamesOrder (word w 0) order → ⊥) → HasMagic w → ⊥
not_named w none has = ⊎_elim (none Little) (none Big) has

-- the sum of a header's first 24 bytes, in the order that it names
sum_first : (w : List ℕ) (order : Order) (sum : Sum) → NamesOrder (word w 0) order → IsSumOf order (part w 0 24) sum → IsSumOf (order_of w) (part w 0 24) sum
sum_first w order sum named is = subst (λ (o : Order). IsSumOf o (part w 0 24) sum) (order_named w order named) is

pub sums_right : (w : List ℕ) (order : Order) (sum : Sum) → NamesOrder (word w 0) order → IsSumOf order (part w 0 24) sum → sum.s0 ≡ word w 24 → sum.s1 ≡ word w 28 → HasHeaderSums w
sums_right w order sum named is a b = let s = sum_first w order sum named is in (sym a ∙ s.first, sym b ∙ s.second)

pub sums_wrong : (w : List ℕ) (order : Order) (sum : Sum) → NamesOrder (word w 0) order → IsSumOf order (part w 0 24) sum → (sum.s0 ≡ word w 24 → sum.s1 ≡ word w 28 → ⊥) → HasHeaderSums w → ⊥
sums_wrong w order sum named is not has = let s = sum_first w order sum named is in not (s.first ∙ sym has.0) (s.second ∙ sym has.1)

pub header_read : (w : List ℕ) (h : WalHeader) → 32 ≤ length w → NamesOrder (word w 0) h.order → IsPageSize h.page_size → h.page_size ≡ word w 8 → HasHeaderSums w → word w 4 ≡ 3007000
    → h.sequence ≡ word w 12 → h.salt1 ≡ word w 16 → h.salt2 ≡ word w 20 → IsHeaderOf w h
header_read w h whole named is_size size sums version sequence salt1 salt2 = record {
  valid = record { whole = whole; magic = magic_named w h.order named; version = version; is_size = is_size; named = sym size; sums = sums };
  order = order_named w h.order named;
  sequence = sequence;
  salt1 = salt1;
  salt2 = salt2;
}
