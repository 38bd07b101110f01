-- What the names show in an image.
use Rattle.std.proofs.Common.{◌≡◌, ℕ, ◌<◌, Bool, true, false, List, get_or, Option, refl, subst}
use Rattle.rig_store.specs.Left.{AreLeft, MayLeave, MayShow, MayStand, Shows}
use Rattle.rig_store.specs.Names.{is_ordered}
use Rattle.rig_store.specs.Stores.{StoreState}
use Rattle.rig_store.specs.internal.Showing.{AreShown, StandBy}

-- each name stands behind changes that a crash may leave
pub stand_by : (b : Bool) (s : StoreState) (stands : List ℕ) (all : ℕ) → MayStand s all
    → ((j : ℕ) → j < s.names → MayStand s (get_or stands j 0) × (b ≡ true → get_or stands j 0 ≡ all)) → StandBy b s stands
stand_by true s stands all may each = (all, may, λ j less. (each j less).1 refl)
stand_by false s stands all may each = λ j less. (each j less).0

-- the names show contents after a crash
may_show : (b : Bool) (s : StoreState) (contents : List (List ℕ)) (stands : List ℕ) (image : List (Option (List ℕ))) → StandBy b s stands
    → ((j : ℕ) → j < s.names → Shows s contents image j (get_or stands j 0)) → MayShow b s contents image
may_show true s contents stands image by each = (by.0, by.1, λ k less. subst (λ (n : ℕ). Shows s contents image k n) (by.2 k less) (each k less))
may_show false s contents stands image by each = λ k less. (get_or stands k 0, by k less, each k less)

-- an image that a crash may leave
pub left_image : (s : StoreState) (contents : List (List ℕ)) (stands : List ℕ) (image : List (Option (List ℕ))) → AreLeft s.files contents
    → StandBy (is_ordered s.meta) s stands → AreShown s contents stands s.names image → MayLeave s image
left_image s contents stands image left by shown = record {
  contents = contents;
  left = left;
  count = shown.count;
  shown = may_show (is_ordered s.meta) s contents stands image by shown.each;
}
