-- Whether the sums of an index are those of its header.
use Rattle.std.proofs.Common.{◌≡◌, ℕ, List, sym, ◌∙◌, eq-eqb, eqb-true}
use Rattle.std.specs.Prelude.{◌↔◌, IsTrue, nat_eq}
use Rattle.sqval.specs.Bytes.{part}
use Rattle.sqwal.specs.Sums.{IsSumOf}
use Rattle.sqwal.specs.declared.sum.Order.TheVariants.{Little}
use Rattle.sqwal.specs.declared.sum.Sum.{Sum}
use Rattle.sqlocks.specs.Index.{low_word, HasRightSums}

module _ (b : List ℕ) (sum : Sum) (is : IsSumOf Little (part b 0 40) sum) (x : ℕ) (at_x : x ≡ low_word b 40) where
  -- the first one is right
  pub by_second : (y : ℕ) → y ≡ low_word b 44 → x ≡ sum.s0 → IsTrue (nat_eq y sum.s1) ↔ HasRightSums b
  by_second y at_y e = (
    (λ t. (sym at_x ∙ e ∙ is.first, sym at_y ∙ eqb-true y sum.s1 t ∙ is.second)),
    (λ h. eq-eqb y sum.s1 (at_y ∙ h.1 ∙ sym is.second)),
  )

  -- the first one is wrong
  pub by_first : (x ≡ sum.s0 → ⊥) → IsTrue (nat_eq x sum.s0) ↔ HasRightSums b
  by_first wrong = (
    (λ t. absurd (wrong (eqb-true x sum.s0 t))),
    (λ h. absurd (wrong (at_x ∙ h.0 ∙ sym is.first))),
  )
