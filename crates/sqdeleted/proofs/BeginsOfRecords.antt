-- When bytes begin a record.
use Rattle.std.proofs.Common.{◌≡◌, ◌≢◌, ℕ, ◌+◌, ◌-◌, ◌<◌, ◌≤◌, List, [], ◌∷◌, ◌++◌, ◌∙◌, take, drop, sum_by, length, refl, ap, subst, arith, length-take, length-drop}
use Rattle.std.proofs.lemmas.List.Sums.{sum_by-append, sum_by-cons, sum_by_push}
use Rattle.sqval.specs.Varint.{Begins}
use Rattle.sqval.specs.Serial.{body_size, IsInternal}
use Rattle.sqval.specs.Datum.{Datum}
use Rattle.sqval.specs.Record.{HasHeader, Lead, IsRecord}
use Rattle.sqval.specs.Shortest.{varint_size}
use Rattle.sqval.proofs.payload.ShortestRecord.{varint_size_least}
use Rattle.sqval.proofs.payload.VarintNumbers.{begins_once}
use Rattle.sqval.proofs.payload.SerialTypesAndBodies.{nothing_begins}
use Rattle.sqval.proofs.payload.UniquenessOfReading.{Ends, leads_once, lead_next, record_of}
use Rattle.sqdeleted.specs.Deleted.{BeginsRecord, IsShort}

pub none_ends : Ends []
none_ends serial size begins = absurd (nothing_begins serial size begins)

-- no types lead to the end where others lead to a rest in which none begins
pub none_lead : (types others bytes rest : List ℕ) → Lead types bytes rest → Ends rest → rest ≢ [] → ¬ Lead others bytes []
none_lead types others bytes rest lead ends some other = some (leads_once types others bytes rest [] lead other ends none_ends).1

pub cut_ends : (rest : List ℕ) → ((serial size : ℕ) → ¬ Begins serial size rest) → Ends rest
cut_ends rest none serial size begins = absurd (none serial size begins)

pub internal_ends : (rest : List ℕ) (serial size : ℕ) → Begins serial size rest → IsInternal serial → Ends rest
internal_ends rest serial size begins inner other taken there = let same = begins_once serial other size taken rest begins there in rw (← same.0) inner

-- where some bytes are led through there is a type
pub some_lead : (types bytes : List ℕ) → bytes ≢ [] → Lead types bytes [] → types ≢ []
some_lead [] bytes not lead = absurd (not lead)
some_lead (serial ∷ types) bytes not lead = λ e. cc

pub nothing_leads : (types : List ℕ) → types ≢ [] → ¬ Lead types [] []
nothing_leads [] not lead = not refl
nothing_leads (serial ∷ types) not lead = nothing_begins serial lead.0 lead.1

-- a varint takes as many bytes as the shortest one of its number at least
pub size_least : (serial taken : ℕ) (bytes : List ℕ) → Begins serial taken bytes → varint_size serial ≤ taken
size_least serial taken bytes begins =
    let least : varint_size serial ≤ length (take taken bytes) = varint_size_least serial (take taken bytes) begins.front in
    omega (arith, least, length-take taken bytes)

pub lead_least : (serials bytes rest : List ℕ) → Lead serials bytes rest → sum_by varint_size serials + length rest ≤ length bytes
lead_least [] bytes rest lead = omega (arith, ap length lead)
lead_least (serial ∷ serials) bytes rest lead =
    let one : varint_size serial ≤ lead.0 = size_least serial lead.0 bytes lead.1 in
    let within : lead.0 ≤ length bytes = lead.1.within in
    let more : sum_by varint_size serials + length rest ≤ length (drop lead.0 bytes) = lead_least serials (drop lead.0 bytes) rest lead.3 in
    omega (arith, one, within, more, length-drop lead.0 bytes, sum_by-cons varint_size serial serials)

-- types that lead to the end are those that lead to a rest, and others behind them
pub lead_split : (types others bytes rest : List ℕ) → Lead types bytes rest → Lead others bytes [] → (more : List ℕ) × (others ≡ types ++ more) × Lead more rest []
lead_split [] others bytes rest lead other = (others, refl, subst (λ (b : List ℕ). Lead others b []) lead other)
lead_split (serial ∷ types) [] bytes rest lead other = absurd (nothing_begins serial lead.0 (subst (λ (b : List ℕ). Begins serial lead.0 b) other lead.1))
lead_split (serial ∷ types) (first ∷ others) bytes rest lead other =
    let same = begins_once serial first lead.0 other.0 bytes lead.1 other.1 in
    let there : Lead others (drop lead.0 bytes) [] = rw (same.1) other.3 in
    let w = lead_split types others (drop lead.0 bytes) rest lead.3 there in
    let one : serial ≡ first = same.0 in
    let many : others ≡ types ++ w.0 = w.1 in
    (w.0, cc, w.2)

-- the first of them is the one that begins there
pub next_type : (serial taken : ℕ) (more rest : List ℕ) → Begins serial taken rest → Lead more rest [] → (others : List ℕ) × (more ≡ serial ∷ others) × Lead others (drop taken rest) []
next_type serial taken [] rest begins lead = absurd (nothing_begins serial taken (subst (λ (b : List ℕ). Begins serial taken b) lead begins))
next_type serial taken (first ∷ more) rest begins lead =
    let same = begins_once first serial lead.0 taken rest lead.1 begins in
    let one : first ≡ serial = same.0 in
    (more, cc, rw (← same.1) lead.3)

-- the types that were read, each in the fewest bytes, and what is left of the size of the bodies
pub record Measured (types rest : List ℕ) (size left : ℕ) : Type 0 where
  pub serials : List ℕ
  pub lead : Lead serials types rest
  pub sized : sum_by body_size serials + left ≡ size
  pub least : sum_by varint_size serials + length rest ≡ length types

pub measured_next : (types rest : List ℕ) (size left serial taken : ℕ) → Measured types rest size left → Begins serial taken rest → ¬ IsInternal serial
    → body_size serial ≤ left → taken ≤ varint_size serial → Measured types (drop taken rest) size (left - body_size serial)
measured_next types rest size left serial taken m begins outer fits short =
    let within : taken ≤ length rest = begins.within in
    let sized : sum_by body_size m.serials + left ≡ size = m.sized in
    let least : sum_by varint_size m.serials + length rest ≡ length types = m.least in
    record {
      serials = m.serials ++ serial ∷ [];
      lead = lead_next m.serials types rest serial taken m.lead begins outer;
      sized = omega (arith, sized, fits, sum_by_push body_size m.serials serial);
      least = omega (arith, least, short, within, size_least serial taken rest begins, length-drop taken rest, sum_by_push varint_size m.serials serial);
    }

-- where the next one takes more than is left, or not the fewest bytes, no types are such
module _ (types rest serials : List ℕ) (size left serial taken : ℕ) (m : Measured types rest size left) (begins : Begins serial taken rest) (lead : Lead serials types []) where
  behind : (others : List ℕ) × (serials ≡ m.serials ++ serial ∷ others) × Lead others (drop taken rest) []
  behind =
      let s = lead_split m.serials serials types rest m.lead lead in
      let n = next_type serial taken s.0 rest begins s.2 in
      (n.0, s.1 ∙ ap (λ (l : List ℕ). m.serials ++ l) n.1, n.2)

  sum_of : (f : ℕ → ℕ) → sum_by f serials ≡ sum_by f m.serials + (f serial + sum_by f behind.0)
  sum_of f =
      let all : sum_by f serials ≡ sum_by f (m.serials ++ serial ∷ behind.0) = ap (λ (l : List ℕ). sum_by f l) behind.1 in
      omega (arith, all, sum_by-append f m.serials (serial ∷ behind.0), sum_by-cons f serial behind.0)

  pub too_large : left < body_size serial → sum_by body_size serials ≢ size
  too_large large same =
      let sized : sum_by body_size m.serials + left ≡ size = m.sized in
      omega (arith, sized, large, same, sum_of body_size)

  pub too_long : varint_size serial < taken → sum_by varint_size serials ≢ length types
  too_long long same =
      let least : sum_by varint_size m.serials + length rest ≡ length types = m.least in
      let others : sum_by varint_size behind.0 + length {A = ℕ} [] ≤ length (drop taken rest) = lead_least behind.0 (drop taken rest) [] behind.2 in
      let within : taken ≤ length rest = begins.within in
      omega (arith, least, long, same, others, within, length-drop taken rest, sum_of varint_size)

-- the types of a record that its header begins
module _ (total header size : ℕ) (types bytes : List ℕ) (has : HasHeader header size bytes) (is : types ≡ drop size (take header bytes)) where
  length_types : size + length types ≡ header
  length_types =
      let counts : size ≤ header = has.counts_itself in
      let within : header ≤ length bytes = has.within in
      omega (arith, ap length is, counts, within, length-drop size (take header bytes), length-take header bytes)

  pub begun : (serials : List ℕ) → header ≤ total → serials ≢ [] → Lead serials types [] → sum_by body_size serials ≡ total - header → sum_by varint_size serials ≡ length types
      → (b : BeginsRecord total bytes) × IsShort b
  begun serials within some lead sized least = (
    record {
      types = serials;
      header = header;
      size = size;
      has = has;
      leads = subst (λ (l : List ℕ). Lead serials l []) is lead;
      some = some;
      fills = omega (arith, within, sized);
    },
    omega (arith, least, length_types),
  )

  pub not_begun : header ≤ total
      → ((serials : List ℕ) → serials ≢ [] → Lead serials types [] → sum_by body_size serials ≡ total - header → sum_by varint_size serials ≢ length types)
      → (b : BeginsRecord total bytes) → ¬ IsShort b
  not_begun within none b short =
      let same = begins_once header b.header size b.size bytes has.begins b.has.begins in
      let there : Lead b.types types [] = rw (is, same.0, same.1) b.leads in
      let fills : b.header + sum_by body_size b.types ≡ total = b.fills in
      let least : b.header ≡ b.size + sum_by varint_size b.types = short in
      none b.types b.some there (omega (arith, fills, same.0)) (omega (arith, least, length_types, same.0, same.1))

-- a header of more bytes than the record
pub too_small : (total header size : ℕ) (bytes : List ℕ) → HasHeader header size bytes → total < header → ¬ BeginsRecord total bytes
too_small total header size bytes has less b =
    let same : header ≡ b.header = (begins_once header b.header size b.size bytes has.begins b.has.begins).0 in
    let fills : b.header + sum_by body_size b.types ≡ total = b.fills in
    omega (arith, same, fills, less)

-- where all of its bytes are there, they are a record
pub whole_record : (total : ℕ) (bytes : List ℕ) → BeginsRecord total bytes → length bytes ≡ total → (values : List Datum) × IsRecord values bytes
whole_record total bytes b len =
    let fills : b.header + sum_by body_size b.types ≡ total = b.fills in (
      _,
      record_of b.types (drop b.header bytes) bytes (record { header = b.header; size = b.size; has = b.has; leads = b.leads; behind = refl })
          (omega (arith, fills, len, length-drop b.header bytes)),
    )
