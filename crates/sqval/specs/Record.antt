-- Records (fileformat2, 2.1): a header of serial types, and a body for each of them.
use Rattle.std.specs.Prelude.{◌≡◌, ◌≢◌, ℕ, ◌<◌, ◌≤◌, List, [], ◌∷◌, ◌++◌, length, take, drop, sum_by}
use Rattle.sqval.specs.Varint.{Begins}
use Rattle.sqval.specs.Datum.{Datum}
use Rattle.sqval.specs.Serial.{body_size, IsInternal, held}
use Rattle.sqval.specs.declared.error.RecordError.{RecordError}
use Rattle.sqval.specs.declared.error.RecordError.TheVariants.{HeaderSize, TypeCut, InternalType, BodyCut, TrailingBytes, TooLarge, NoMemory}

-- the most bytes of a record (own)
abbrev pub most_bytes : ℕ
most_bytes = 1073741824

-- the bytes begin with the size of their header, in a varint of `size` bytes that it counts too
pub record HasHeader (header size : ℕ) (bytes : List ℕ) : Type 0 where
  pub begins : Begins header size bytes
  pub counts_itself : size ≤ header
  pub within : header ≤ length bytes

-- varints of these serial types, none of them internal, lead from the front of the bytes to the rest
abbrev pub Lead : (types bytes rest : List ℕ) → Type 0
Lead [] bytes rest = bytes ≡ rest
Lead (serial ∷ types) bytes rest =
    (size : ℕ) × Begins serial size bytes × (¬ IsInternal serial) × Lead types (drop size bytes) rest

-- the bytes are bodies of these serial types, one after the other, that hold the values
abbrev pub Hold : (types : List ℕ) → List Datum → List ℕ → Type 0
Hold [] values bytes = (values ≡ []) × (bytes ≡ [])
Hold (serial ∷ types) values bytes =
    (body : List ℕ) × (others : List ℕ) × (more : List Datum)
    × (bytes ≡ body ++ others) × (length body ≡ body_size serial) × (values ≡ held serial body ∷ more)
    × Hold types more others

-- a header that goes on with these types to the rest of it, and what stands behind the header
pub record Reads (types rest bodies bytes : List ℕ) : Type 0 where
  pub header : ℕ
  pub size : ℕ
  pub has : HasHeader header size bytes
  pub leads : Lead types (drop size (take header bytes)) rest
  pub behind : bodies ≡ drop header bytes

-- the bytes are a record of the values
pub record IsRecord (values : List Datum) (bytes : List ℕ) : Type 0 where
  pub types : List ℕ
  pub bodies : List ℕ
  pub reads : Reads types [] bodies bytes
  pub holds : Hold types values bodies

-- what is wrong with the rest of a header, or with the bodies where none is left
abbrev pub Fails : RecordError → (types rest bodies : List ℕ) → Type 0
Fails TypeCut types rest bodies = (rest ≢ []) × ((serial size : ℕ) → ¬ Begins serial size rest)
Fails InternalType types rest bodies = (serial : ℕ) × (size : ℕ) × Begins serial size rest × IsInternal serial
Fails BodyCut types rest bodies = (rest ≡ []) × (length bodies < sum_by body_size types)
Fails TrailingBytes types rest bodies = (rest ≡ []) × (sum_by body_size types < length bodies)
Fails HeaderSize types rest bodies = ⊥
Fails TooLarge types rest bodies = ⊥
Fails NoMemory types rest bodies = ⊥

-- behind a header's size this goes wrong first
abbrev pub FailsBehind : RecordError → List ℕ → Type 0
FailsBehind error bytes =
    (types : List ℕ) × (rest : List ℕ) × (bodies : List ℕ)
    × Reads types rest bodies bytes × Fails error types rest bodies

-- this is what a reader refuses the bytes for
abbrev pub Refused : RecordError → List ℕ → Type 0
Refused TooLarge bytes = most_bytes < length bytes
Refused HeaderSize bytes = (length bytes ≤ most_bytes) × ((header size : ℕ) → ¬ HasHeader header size bytes)
Refused TypeCut bytes = (length bytes ≤ most_bytes) × FailsBehind TypeCut bytes
Refused InternalType bytes = (length bytes ≤ most_bytes) × FailsBehind InternalType bytes
Refused BodyCut bytes = (length bytes ≤ most_bytes) × FailsBehind BodyCut bytes
Refused TrailingBytes bytes = (length bytes ≤ most_bytes) × FailsBehind TrailingBytes bytes
Refused NoMemory bytes = ⊥
