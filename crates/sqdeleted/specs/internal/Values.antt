-- The first values of a record.
use Rattle.std.specs.Prelude.{ℕ, ◌+◌, ◌<◌, List, length, take, sum_by}
use Rattle.sqval.specs.Varint.{Begins}
use Rattle.sqval.specs.Datum.{Datum}
use Rattle.sqval.specs.Serial.{body_size}
use Rattle.sqval.specs.Record.{Lead, Hold}

-- They are those of the first of these types, up to one whose body ends behind these bodies.
pub record AreFirst (types bodies : List ℕ) (values : List Datum) : Type 0 where
  pub serials : List ℕ
  pub rest : List ℕ
  pub leads : Lead serials types rest
  pub holds : Hold serials values (take (sum_by body_size serials) bodies)
  pub last : (serial size : ℕ) → Begins serial size rest → length bodies < sum_by body_size serials + body_size serial
