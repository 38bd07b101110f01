-- Names are shown one after the other (own).
use Rattle.std.specs.Prelude.{◌≡◌, ℕ, ◌<◌, Bool, true, false, List, length, get_or, Option}
use Rattle.rig_store.specs.Left.{Shows, MayStand}
use Rattle.rig_store.specs.Stores.{StoreState}

-- each name stands behind changes that a crash may leave: where these become durable in the order of the calls, all behind the same
abbrev pub StandBy : (ordered : Bool) → StoreState → (stands : List ℕ) → Type 0
StandBy true s stands = (n : ℕ) × MayStand s n × ((j : ℕ) → j < s.names → get_or stands j 0 ≡ n)
StandBy false s stands = (j : ℕ) → j < s.names → MayStand s (get_or stands j 0)

-- the first k names show contents, each behind so many changes
pub record AreShown (s : StoreState) (contents : List (List ℕ)) (stands : List ℕ) (k : ℕ) (image : List (Option (List ℕ))) : Type 0 where
  pub count : length image ≡ k
  pub each : (j : ℕ) → j < k → Shows s contents image j (get_or stands j 0)
