-- A record is read in one way, or refused for one reason.
use Rattle.std.proofs.Common.{◌≡◌, ◌⊎◌, inl, inr, ℕ, ◌-◌, ◌<◌, ◌≤◌, List, [], ◌∷◌, ◌++◌, length, take, drop, min, Result, Ok, Err, refl, sym, ap, ◌∙◌, arith, length-drop, ◌^◌}
use Rattle.std.specs.Prelude.{sum_by}
use Rattle.sqval.specs.Varint.{Begins}
use Rattle.sqval.specs.Datum.{Datum}
use Rattle.sqval.specs.Serial.{body_size, IsInternal}
use Rattle.sqval.specs.Record.{HasHeader, Lead, Reads, IsRecord, Fails, FailsBehind, Refused, most_bytes}
use Rattle.sqval.specs.internal.Shown.{serials, values_held}
use Rattle.sqval.specs.declared.error.RecordError.{RecordError}
use Rattle.sqval.specs.declared.error.RecordError.TheVariants.{HeaderSize, TypeCut, InternalType, BodyCut, TrailingBytes, TooLarge, NoMemory}
use Rattle.sqval.proofs.payload.VarintNumbers.{begins_once}
use Rattle.sqval.proofs.payload.SerialTypesAndBodies.{nothing_begins, serials_of, hold_all, hold_only}

-- no serial type that counts begins here
abbrev pub Ends : List ℕ → Type 0
Ends rest = (serial size : ℕ) → Begins serial size rest → IsInternal serial

none_ends : Ends []
none_ends serial size begins = absurd (nothing_begins serial size begins)

pub leads_once : (types others bytes rest end : List ℕ) → Lead types bytes rest → Lead others bytes end → Ends rest → Ends end
    → (types ≡ others) × (rest ≡ end)
leads_once [] [] bytes rest end a b ends_a ends_b = (refl, sym a ∙ b)
leads_once [] (serial ∷ others) bytes rest end a (size, begins, outer, lead) ends_a ends_b =
    absurd (outer (ends_a serial size (rw a at begins)))
leads_once (serial ∷ types) [] bytes rest end (size, begins, outer, lead) b ends_a ends_b =
    absurd (outer (ends_b serial size (rw b at begins)))
leads_once (serial ∷ types) (other ∷ others) bytes rest end (size, begins, outer, lead) (size', begins', outer', lead') ends_a ends_b =
    let same = begins_once serial other size size' bytes begins begins' in
    let there : Lead others (drop size bytes) end = rw same.1 lead' in
    let behind = leads_once types others (drop size bytes) rest end lead there ends_a ends_b in
    (rw (same.0, behind.0) refl, behind.1)

pub reads_once : (types rest bodies others end behind bytes : List ℕ) → Reads types rest bodies bytes → Reads others end behind bytes
    → Ends rest → Ends end → (types ≡ others) × (rest ≡ end) × (bodies ≡ behind)
reads_once types rest bodies others end behind bytes a b ends_a ends_b =
    let same = begins_once a.header b.header a.size b.size bytes a.has.begins b.has.begins in
    let there : Lead others (drop a.size (take a.header bytes)) end = rw (same.0, same.1) b.leads in
    let leads = leads_once types others (drop a.size (take a.header bytes)) rest end a.leads there ends_a ends_b in
    (leads.0, leads.1, a.behind ∙ ap (λ n. drop n bytes) same.0 ∙ sym b.behind)

fails_ends : (error : RecordError) (types rest bodies : List ℕ) → Fails error types rest bodies → Ends rest
fails_ends TypeCut types rest bodies (some, none) = λ serial size begins. absurd (none serial size begins)
fails_ends InternalType types rest bodies (serial, size, begins, inner) =
    λ other taken there. let same = begins_once serial other size taken rest begins there in rw (← same.0) inner
fails_ends BodyCut types rest bodies (none, less) = rw none none_ends
fails_ends TrailingBytes types rest bodies (none, less) = rw none none_ends
fails_ends HeaderSize types rest bodies fails = absurd fails
fails_ends TooLarge types rest bodies fails = absurd fails
fails_ends NoMemory types rest bodies fails = absurd fails

nothing_left : (rest : List ℕ) (serial size : ℕ) → rest ≡ [] → ¬ Begins serial size rest
nothing_left rest serial size e begins = nothing_begins serial size (rw e at begins)

fails_once : (error other : RecordError) (types rest bodies : List ℕ) → Fails error types rest bodies → Fails other types rest bodies → error ≡ other
fails_once TypeCut TypeCut types rest bodies a b = refl
fails_once TypeCut InternalType types rest bodies a b = absurd (a.1 b.0 b.1 b.2)
fails_once TypeCut BodyCut types rest bodies a b = absurd (a.0 b.0)
fails_once TypeCut TrailingBytes types rest bodies a b = absurd (a.0 b.0)
fails_once InternalType InternalType types rest bodies a b = refl
fails_once InternalType TypeCut types rest bodies a b = absurd (b.1 a.0 a.1 a.2)
fails_once InternalType BodyCut types rest bodies a b = absurd (nothing_left rest a.0 a.1 b.0 a.2)
fails_once InternalType TrailingBytes types rest bodies a b = absurd (nothing_left rest a.0 a.1 b.0 a.2)
fails_once BodyCut BodyCut types rest bodies a b = refl
fails_once BodyCut TypeCut types rest bodies a b = absurd (b.0 a.0)
fails_once BodyCut InternalType types rest bodies a b = absurd (nothing_left rest b.0 b.1 a.0 b.2)
fails_once BodyCut TrailingBytes types rest bodies a b = absurd (omega arith)
fails_once TrailingBytes TrailingBytes types rest bodies a b = refl
fails_once TrailingBytes TypeCut types rest bodies a b = absurd (b.0 a.0)
fails_once TrailingBytes InternalType types rest bodies a b = absurd (nothing_left rest b.0 b.1 a.0 b.2)
fails_once TrailingBytes BodyCut types rest bodies a b = absurd (omega arith)
fails_once _ HeaderSize types rest bodies a b = absurd b
fails_once _ TooLarge types rest bodies a b = absurd b
fails_once _ NoMemory types rest bodies a b = absurd b
fails_once HeaderSize _ types rest bodies a b = absurd a
fails_once TooLarge _ types rest bodies a b = absurd a
fails_once NoMemory _ types rest bodies a b = absurd a

behind_once : (error other : RecordError) (bytes : List ℕ) → FailsBehind error bytes → FailsBehind other bytes → error ≡ other
behind_once error other bytes (types, rest, bodies, reads, fails) (types', rest', bodies', reads', fails') =
    let same = reads_once types rest bodies types' rest' bodies' bytes reads reads'
    (fails_ends error types rest bodies fails) (fails_ends other types' rest' bodies' fails') in
    let there : Fails other types rest bodies = rw (same.0, same.1, same.2) fails' in
    fails_once error other types rest bodies fails there

-- a refusal by where it comes from
abbrev Kind : RecordError → List ℕ → Type 0
Kind error bytes =
    ((error ≡ TooLarge) × (most_bytes < length bytes))
    ⊎ (((error ≡ HeaderSize) × (length bytes ≤ most_bytes) × ((header size : ℕ) → ¬ HasHeader header size bytes))
    ⊎ ((length bytes ≤ most_bytes) × FailsBehind error bytes))

kind_of : (error : RecordError) (bytes : List ℕ) → Refused error bytes → Kind error bytes
kind_of TooLarge bytes r = inl (refl, r)
kind_of HeaderSize bytes r = inr (inl (refl, r.0, r.1))
kind_of TypeCut bytes r = inr (inr r)
kind_of InternalType bytes r = inr (inr r)
kind_of BodyCut bytes r = inr (inr r)
kind_of TrailingBytes bytes r = inr (inr r)
kind_of NoMemory bytes r = absurd r

kinds_once : (error other : RecordError) (bytes : List ℕ) → Kind error bytes → Kind other bytes → error ≡ other
kinds_once error other bytes (inl a) (inl b) = a.0 ∙ sym b.0
kinds_once error other bytes (inl a) (inr (inl b)) = absurd (omega arith)
kinds_once error other bytes (inl a) (inr (inr b)) = absurd (omega arith)
kinds_once error other bytes (inr (inl a)) (inl b) = absurd (omega arith)
kinds_once error other bytes (inr (inl a)) (inr (inl b)) = a.0 ∙ sym b.0
kinds_once error other bytes (inr (inl a)) (inr (inr b)) = absurd (a.2 b.1.3.header b.1.3.size b.1.3.has)
kinds_once error other bytes (inr (inr a)) (inl b) = absurd (omega arith)
kinds_once error other bytes (inr (inr a)) (inr (inl b)) = absurd (b.2 a.1.3.header a.1.3.size a.1.3.has)
kinds_once error other bytes (inr (inr a)) (inr (inr b)) = behind_once error other bytes a.1 b.1

pub refused_once : (error other : RecordError) (bytes : List ℕ) → Refused error bytes → Refused other bytes → error ≡ other
refused_once error other bytes a b = kinds_once error other bytes (kind_of error bytes a) (kind_of other bytes b)

whole_fails_not : (error : RecordError) (types bodies : List ℕ) → sum_by body_size types ≡ length bodies → ¬ Fails error types [] bodies
whole_fails_not TypeCut types bodies e (some, none) = some refl
whole_fails_not InternalType types bodies e (serial, size, begins, inner) = nothing_begins serial size begins
whole_fails_not BodyCut types bodies e (none, less) = omega arith
whole_fails_not TrailingBytes types bodies e (none, less) = omega arith
whole_fails_not HeaderSize types bodies e fails = fails
whole_fails_not TooLarge types bodies e fails = fails
whole_fails_not NoMemory types bodies e fails = fails

kind_not : (error : RecordError) (values : List Datum) (bytes : List ℕ) → Kind error bytes → length bytes ≤ most_bytes → ¬ IsRecord values bytes
kind_not error values bytes (inl a) within r = omega arith
kind_not error values bytes (inr (inl a)) within r = a.2 r.reads.header r.reads.size r.reads.has
kind_not error values bytes (inr (inr (few, (types, rest, bodies, reads, fails)))) within r =
    let same = reads_once types rest bodies r.types [] r.bodies bytes reads r.reads (fails_ends error types rest bodies fails) none_ends in
    let there : Fails error r.types [] r.bodies = rw same.2 at (rw same.1 at (rw same.0 at fails)) in
    whole_fails_not error r.types r.bodies (hold_only r.types values r.bodies r.holds).1 there

pub refused_not : (error : RecordError) (values : List Datum) (bytes : List ℕ) → Refused error bytes → length bytes ≤ most_bytes → ¬ IsRecord values bytes
refused_not error values bytes refused = kind_not error values bytes (kind_of error bytes refused)

-- the answer of a reader that refuses
abbrev pub refusal : {A : Type 0} → RecordError → Result A RecordError
refusal error = Err error

pub refused_exactly : {A : Type 0} (error : RecordError) (bytes : List ℕ) → Refused error bytes → (other : RecordError)
    → (refusal {A = A} error ≡ refusal other → Refused other bytes) × (Refused other bytes → refusal {A = A} error ≡ refusal other)
refused_exactly error bytes refused other = (
  (λ e.
      let same : error ≡ other = ap (λ r. elim r [ Ok _ ↦ error | Err x ↦ x ]) e in
      rw same at refused),
  λ there. let same = refused_once error other bytes refused there in rw same refl,
)

-- what is read is a record of the values that the parts show, and of no others
pub record_of : (types bodies bytes : List ℕ) → Reads types [] bodies bytes → sum_by body_size types ≡ length bodies
    → IsRecord (values_held types bodies) bytes
record_of types bodies bytes reads e = record { types = types; bodies = bodies; reads = reads; holds = hold_all types bodies e }

pub record_only : (types bodies bytes : List ℕ) (values : List Datum) → Reads types [] bodies bytes → IsRecord values bytes
    → values_held types bodies ≡ values
record_only types bodies bytes values reads r =
    let same = reads_once types [] bodies r.types [] r.bodies bytes reads r.reads none_ends none_ends in
    rw (same.0, same.2) (hold_only r.types values r.bodies r.holds).0

-- one more type
pub lead_next : (types : List ℕ) (bytes rest : List ℕ) (serial size : ℕ) → Lead types bytes rest → Begins serial size rest → ¬ IsInternal serial
    → Lead (types ++ serial ∷ []) bytes (drop size rest)
lead_next [] bytes rest serial size e begins outer = (size, rw (← e) at begins, outer, ap (λ b. drop size b) e)
lead_next (first ∷ types) bytes rest serial size (taken, there, inner, lead) begins outer =
    (taken, there, inner, lead_next types (drop taken bytes) rest serial size lead begins outer)

-- the two parts that a header's size gives
abbrev pub Split : (types bodies bytes : List ℕ) → Type 0
Split types bodies bytes =
    (header : ℕ) × (size : ℕ) × HasHeader header size bytes
    × (types ≡ drop size (take header bytes)) × (bodies ≡ drop header bytes)

pub reads_of : (serials rest types bodies bytes : List ℕ) → Split types bodies bytes → Lead serials types rest → Reads serials rest bodies bytes
reads_of serials rest types bodies bytes (header, size, has, front, behind) lead =
    record { header = header; size = size; has = has; leads = rw front at lead; behind = behind }

pub behind_refused : (error : RecordError) (bytes : List ℕ) → length bytes ≤ most_bytes → FailsBehind error bytes → Refused error bytes
behind_refused TypeCut bytes within fails = (within, fails)
behind_refused InternalType bytes within fails = (within, fails)
behind_refused BodyCut bytes within fails = (within, fails)
behind_refused TrailingBytes bytes within fails = (within, fails)
behind_refused HeaderSize bytes within fails = absurd fails.4
behind_refused TooLarge bytes within fails = absurd fails.4
behind_refused NoMemory bytes within fails = absurd fails.4

-- what was measured of the types
abbrev pub Sized : (types : List ℕ) (count size : ℕ) → Type 0
Sized types count size =
    (serials : List ℕ) × Lead serials types [] × (count ≡ length serials) × (size ≡ min (sum_by body_size serials) (2 ^ 64 - 1))

few_bodies : (types bodies bytes : List ℕ) → Split types bodies bytes → length bytes ≤ most_bytes → length bodies < 2 ^ 64 - 1
few_bodies types bodies bytes (header, size, has, front, behind) within = omega (arith, ap length behind, length-drop header bytes)

pub body_cut : (types bodies bytes : List ℕ) (count size : ℕ) → Split types bodies bytes → Sized types count size → length bytes ≤ most_bytes
    → length bodies < size → Refused BodyCut bytes
body_cut types bodies bytes count size split (serials, lead, counted, sized) within more =
    (within, (serials, [], bodies, reads_of serials [] types bodies bytes split lead, (refl, omega arith)))

pub trailing : (types bodies bytes : List ℕ) (count size : ℕ) → Split types bodies bytes → Sized types count size → length bytes ≤ most_bytes
    → size < length bodies → Refused TrailingBytes bytes
trailing types bodies bytes count size split (serials, lead, counted, sized) within fewer =
    (within, (serials, [], bodies, reads_of serials [] types bodies bytes split lead, (refl, omega (arith, few_bodies types bodies bytes split within))))

-- bodies of the right size make a record
pub record Whole (types bodies bytes : List ℕ) (count : ℕ) : Type 0 where
  pub reads : Reads (serials types) [] bodies bytes
  pub counted : count ≡ length (serials types)
  pub sized : sum_by body_size (serials types) ≡ length bodies

pub whole : (types bodies bytes : List ℕ) (count size : ℕ) → Split types bodies bytes → Sized types count size → length bytes ≤ most_bytes
    → size ≡ length bodies → Whole types bodies bytes count
whole types bodies bytes count size split (serials', lead, counted, sized) within e =
    let same = serials_of serials' types lead in
    let sum : sum_by body_size serials' ≡ length bodies = omega (arith, few_bodies types bodies bytes split within) in
    record {
      reads = rw same (reads_of serials' [] types bodies bytes split lead);
      counted = rw same counted;
      sized = rw same sum;
    }

pub whole_only : (types bodies bytes : List ℕ) (count : ℕ) → Whole types bodies bytes count → length bytes ≤ most_bytes → (values : List Datum)
    → (values_held (serials types) bodies ≡ values → (length bytes ≤ most_bytes) × IsRecord values bytes)
    × ((length bytes ≤ most_bytes) × IsRecord values bytes → values_held (serials types) bodies ≡ values)
whole_only types bodies bytes count w within values = (
  (λ e. (within, rw e at (record_of (serials types) bodies bytes w.reads w.sized))),
  λ r. record_only (serials types) bodies bytes values w.reads r.1,
)

pub whole_not : (error : RecordError) (types bodies bytes : List ℕ) (count : ℕ) → Whole types bodies bytes count → length bytes ≤ most_bytes
    → ¬ Refused error bytes
whole_not error types bodies bytes count w within refused =
    refused_not error (values_held (serials types) bodies) bytes refused within (record_of (serials types) bodies bytes w.reads w.sized)
