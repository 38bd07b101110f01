-- Which of two rows comes next.
use Rattle.std.proofs.Common.{◌≡◌, ◌≢◌, ◌∙◌, List, ap, subst}
use Rattle.std.specs.declared.cmp.Ordering.TheVariants.{Less, Greater}
use Rattle.std.specs.Ordering.{ordering_reverse}
use Rattle.sqlite_value.specs.declared.value.Value.{Value}
use Rattle.sqlite_value.specs.declared.keys.Order.{Order}
use Rattle.sqlite_value.specs.Keys.{entry_cmp}
use Rattle.sqlite_value.proofs.KeyLemmas.{entry_cmp_total}
use Rattle.sqkeydiff.specs.declared.side.Place.{Place}
use Rattle.sqkeydiff.specs.declared.side.Place.TheVariants.{At}
use Rattle.sqkeydiff.specs.internal.Turns.{IsBelow}

pub first_below : (order : Order) (one other : Place) (k l : List Value) → one ≡ At k → other ≡ At l → entry_cmp order k l ≡ Less → IsBelow order one other
first_below order one other k l is too less =
    (k, is, λ b e. let same : l ≡ b = cc in subst (λ (z : List Value). entry_cmp order k z ≡ Less) same less)

pub second_below : (order : Order) (one other : Place) (k l : List Value) → one ≡ At k → other ≡ At l → entry_cmp order k l ≡ Greater → IsBelow order other one
second_below order one other k l is too greater =
    first_below order other one l k too is ((entry_cmp_total order).antisymm l k ∙ ap ordering_reverse greater)

pub alone_below : (order : Order) (one other : Place) (k : List Value) → one ≡ At k → ((l : List Value) → other ≢ At l) → IsBelow order one other
alone_below order one other k is none = (k, is, λ b e. absurd (none b e))
