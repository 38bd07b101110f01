-- What is left of a cell, by how it is read.
use Rattle.std.proofs.Common.{◌≡◌, ◌⊎◌, ℕ, ◌+◌, ◌<◌, ◌≤◌, Bool, List, drop, length, Option, Some, None, MatchOption, inl, inr, refl, sym, ◌∙◌, subst, arith}
use Rattle.sqval.specs.Varint.{Begins}
use Rattle.sqval.specs.Serial.{body_size}
use Rattle.sqval.specs.Shortest.{varint_size}
use Rattle.sqval.specs.Record.{Lead}
use Rattle.std.specs.Prelude.{sum_by}
use Rattle.sqval.proofs.payload.VarintNumbers.{begins_once}
use Rattle.sqdeleted.specs.Cut.{WasFreed, HeaderBegins, AreTypesOf, EndsHere, IsRest, IsRather, IsWhole}
use Rattle.sqdeleted.specs.declared.rest.Rest.{Rest}
use Rattle.sqdeleted.specs.internal.Rests.{AreTypesFrom, AreFirstFrom, IsRecordFrom, IsRecordBehind}
use Rattle.sqdeleted.proofs.TypesFrom.{size_some, types_some}
use Rattle.sqdeleted.proofs.FreedPlaces.{freed_once}

pub match_weaker : {T P R : Type 0} {Q S : T → Type 0} (o : Option T) → (P → R) → ((x : T) → Q x → S x) → MatchOption o P Q → MatchOption o R S
match_weaker None none some m = none m
match_weaker (Some x) none some m = some x m

-- types and bodies take room
pub types_before : (used : List ℕ) (whole : List Bool) (last to from least most : ℕ) (rest : Rest) → AreTypesFrom used whole last to from least most rest
    → (from < to) × (rest.bodies ≤ to)
types_before used whole last to from least most rest are =
    let some = types_some are.serials are.some in
    let short : rest.bodies ≡ from + sum_by varint_size are.serials = are.short in
    let fills : rest.end ≡ rest.bodies + sum_by body_size are.serials = are.fills in
    let before : rest.end ≤ to = are.before in
    (omega (arith, some, short, fills, before), omega (arith, fills, before))

-- the types of the header that begins here
pub record_same : (used : List ℕ) (whole : List Bool) (last to header number size : ℕ) → Begins number size (drop header used) → (rest : Rest)
    → IsRecordFrom used whole last to header rest → AreTypesFrom used whole last to (header + size) (header + number) (header + number) rest
record_same used whole last to header number size begins rest w =
    let same = begins_once w.0 number w.1 size (drop header used) w.2 begins in
    subst (λ (n : ℕ). AreTypesFrom used whole last to (header + size) (header + n) (header + n) rest) same.0
    (subst (λ (s : ℕ). AreTypesFrom used whole last to (header + s) (header + w.0) (header + w.0) rest) same.1 w.3)

pub record_found : (used : List ℕ) (whole : List Bool) (last to header number size : ℕ) → Begins number size (drop header used) → (rest : Rest)
    → AreFirstFrom used whole last to (header + size) (header + number) (header + number) rest
    → IsRecordFrom used whole last to header rest × ((other : Rest) → IsRecordFrom used whole last to header other → (other.types ≡ rest.types) × (rest.end ≤ other.end))
record_found used whole last to header number size begins rest first = (
  (number, size, begins, first.0),
  λ other w. (let are = record_same used whole last to header number size begins other w in (are.begin ∙ sym first.0.begin, first.1 other are)),
)

-- it lies before `to`, and so does the size that it names
pub record_before : (used : List ℕ) (whole : List Bool) (last to header : ℕ) (rest : Rest) → IsRecordFrom used whole last to header rest → header < to
record_before used whole last to header rest w =
    let b = types_before used whole last to (header + w.1) (header + w.0) (header + w.0) rest w.3 in
    omega (arith, b.0)

pub record_within : (used : List ℕ) (whole : List Bool) (last to header number size : ℕ) → Begins number size (drop header used) → to < number → (rest : Rest)
    → ¬ IsRecordFrom used whole last to header rest
record_within used whole last to header number size begins far rest w =
    let are = record_same used whole last to header number size begins rest w in
    let b = types_before used whole last to (header + size) (header + number) (header + number) rest are in
    let low : header + number ≤ rest.bodies = are.low in
    omega (arith, b.1, low, far)

-- a record behind the end of a rowid, or at once
pub behind_before : (used : List ℕ) (whole : List Bool) (last to start : ℕ) (rest : Rest) → IsRecordBehind used whole last to start rest → start < to
behind_before used whole last to start rest w =
    let before = record_before used whole last to w.0 rest w.2 in
    elim w.1 [
      | inl e ↦ omega (arith, e, before)
      | inr x ↦ (let e : w.0 ≡ start + x.1 = x.3 in omega (arith, e, before))
    ]

pub none_behind : (used : List ℕ) (whole : List Bool) (last to start : ℕ) → ((number size : ℕ) → ¬ Begins number size (drop start used)) → (rest : Rest)
    → ¬ IsRecordBehind used whole last to start rest
none_behind used whole last to start none rest w = elim w.1 [
  | inl e ↦ none w.2.0 w.2.1 (subst (λ (h : ℕ). Begins w.2.0 w.2.1 (drop h used)) e w.2.2)
  | inr x ↦ none x.0 x.1 x.2
]

-- Where a varint begins there.
module _ (used : List ℕ) (whole : List Bool) (last to start number size : ℕ) (begins : Begins number size (drop start used)) where
  -- it is the header's, or the rowid's
  cases : (rest : Rest) → IsRecordBehind used whole last to start rest → IsRecordFrom used whole last to (start + size) rest ⊎ IsRecordFrom used whole last to start rest
  cases rest w = elim w.1 [
    | inl e ↦ inr (subst (λ (h : ℕ). IsRecordFrom used whole last to h rest) e w.2)
    | inr x ↦ inl (let same = begins_once x.0 number x.1 size (drop start used) x.2 begins in
        subst (λ (h : ℕ). IsRecordFrom used whole last to h rest) (x.3 ∙ subst (λ (s : ℕ). start + x.1 ≡ start + s) same.1 refl) w.2)
  ]

  -- where its types begin
  types_far : (rest : Rest) → IsRecordFrom used whole last to (start + size) rest → start + size < rest.types
  types_far rest w =
      let begin : rest.types ≡ start + size + w.1 = w.3.begin in
      omega (arith, begin, size_some w.0 w.1 (drop (start + size) used) w.2)

  types_near : (rest : Rest) → IsRecordFrom used whole last to start rest → rest.types ≡ start + size
  types_near rest w =
      let same = begins_once w.0 number w.1 size (drop start used) w.2 begins in
      let begin : rest.types ≡ start + w.1 = w.3.begin in
      omega (arith, begin, same.1)

  pub behind_first : (rest : Rest) → IsRecordFrom used whole last to (start + size) rest
      → ((other : Rest) → IsRecordFrom used whole last to (start + size) other → (other.types ≡ rest.types) × (rest.end ≤ other.end))
      → IsRecordBehind used whole last to start rest × ((other : Rest) → IsRecordBehind used whole last to start other → ¬ IsRather other rest)
  behind_first rest is first = ((start + size, inr (number, size, begins, refl), is), λ other w. rather other (cases other w))
    where
      rather : (other : Rest) → IsRecordFrom used whole last to (start + size) other ⊎ IsRecordFrom used whole last to start other → ¬ IsRather other rest
      rather other (inl w) (inl more) = omega (arith, more, (first other w).0)
      rather other (inl w) (inr same) = omega (arith, same.1, (first other w).1)
      rather other (inr w) (inl more) = omega (arith, more, types_near other w, types_far rest is)
      rather other (inr w) (inr same) = omega (arith, same.0, types_near other w, types_far rest is)

  pub behind_second : ((rest : Rest) → ¬ IsRecordFrom used whole last to (start + size) rest) → (rest : Rest) → IsRecordFrom used whole last to start rest
      → ((other : Rest) → IsRecordFrom used whole last to start other → (other.types ≡ rest.types) × (rest.end ≤ other.end))
      → IsRecordBehind used whole last to start rest × ((other : Rest) → IsRecordBehind used whole last to start other → ¬ IsRather other rest)
  behind_second none rest is first = ((start, inl refl, is), λ other w. rather other (cases other w))
    where
      rather : (other : Rest) → IsRecordFrom used whole last to (start + size) other ⊎ IsRecordFrom used whole last to start other → ¬ IsRather other rest
      rather other (inl w) r = none other w
      rather other (inr w) (inl more) = omega (arith, more, (first other w).0)
      rather other (inr w) (inr same) = omega (arith, same.1, (first other w).1)

  pub behind_none : ((rest : Rest) → ¬ IsRecordFrom used whole last to (start + size) rest) → ((rest : Rest) → ¬ IsRecordFrom used whole last to start rest) → (rest : Rest)
      → ¬ IsRecordBehind used whole last to start rest
  behind_none none other rest w = elim (cases rest w) [ inl a ↦ none rest a | inr b ↦ other rest b ]

-- A cell whose freeblock ended at `last`.
module _ (used : List ℕ) (whole : List Bool) (to at last : ℕ) (freed : WasFreed used at last) where
  -- the types from a place on, as they stand between two
  of_types : (from least most : ℕ) (rest : Rest) → AreTypesFrom used whole last to from least most rest → AreTypesOf used (at + 4) rest.types rest.bodies → IsRest used whole to at rest
  of_types from least most rest are types = record {
    last = last;
    freed = freed;
    serials = are.serials;
    some = are.some;
    leads = subst (λ (n : ℕ). Lead are.serials (drop n used) (drop rest.bodies used)) (sym are.begin) are.leads;
    short = subst (λ (n : ℕ). rest.bodies ≡ n + sum_by varint_size are.serials) (sym are.begin) are.short;
    fills = are.fills;
    types = types;
    before = are.before;
    ends = are.ends;
  }

  pub of_record : (rest : Rest) → IsRecordBehind used whole last to (at + 4) rest → IsRest used whole to at rest
  of_record rest w =
      let header : ℕ = w.0 in
      let number : ℕ = w.2.0 in
      let size : ℕ = w.2.1 in
      let are = w.2.3 in
      let low : header + number ≤ rest.bodies = are.low in
      let high : rest.bodies ≤ header + number = are.high in
      of_types (header + size) (header + number) (header + number) rest are (inr (header, number, size, w.1, w.2.2, are.begin, omega (arith, low, high)))

  pub of_first : (rest : Rest) → AreTypesFrom used whole last to (at + 4) (at + 4) (at + 4 + 126) rest → IsRest used whole to at rest
  of_first rest are = of_types (at + 4) (at + 4) (at + 4 + 126) rest are (inl (are.begin, are.high))

  pub rest_cases : (rest : Rest) → IsRest used whole to at rest → AreTypesFrom used whole last to (at + 4) (at + 4) (at + 4 + 126) rest ⊎ IsRecordBehind used whole last to (at + 4) rest
  rest_cases rest r = of_cases r.types
    where
      same : r.last ≡ last
      same = freed_once used at r.last last r.freed freed

      types_in : (from least most : ℕ) → rest.types ≡ from → least ≤ rest.bodies → rest.bodies ≤ most → AreTypesFrom used whole last to from least most rest
      types_in from least most begin low high = record {
        serials = r.serials;
        some = r.some;
        begin = begin;
        leads = subst (λ (n : ℕ). Lead r.serials (drop n used) (drop rest.bodies used)) begin r.leads;
        short = subst (λ (n : ℕ). rest.bodies ≡ n + sum_by varint_size r.serials) begin r.short;
        fills = r.fills;
        low = low;
        high = high;
        before = r.before;
        ends = subst (λ (n : ℕ). EndsHere used whole n rest.end) same r.ends;
      }

      of_cases : AreTypesOf used (at + 4) rest.types rest.bodies
          → AreTypesFrom used whole last to (at + 4) (at + 4) (at + 4 + 126) rest ⊎ IsRecordBehind used whole last to (at + 4) rest
      of_cases (inl w) =
          let short : rest.bodies ≡ rest.types + sum_by varint_size r.serials = r.short in
          inl (types_in (at + 4) (at + 4) (at + 4 + 126) w.0 (omega (arith, short, w.0)) w.1)
      of_cases (inr w) =
          let bodies : rest.bodies ≡ w.0 + w.1 = w.6 in
          inr (w.0, w.3, (w.1, w.2, w.4, types_in (w.0 + w.2) (w.0 + w.1) (w.0 + w.1) w.5 (omega (arith, bodies)) (omega (arith, bodies))))

  -- where a record begins its types, behind where they stand alone
  record_far : (rest : Rest) → IsRecordBehind used whole last to (at + 4) rest → at + 4 < rest.types
  record_far rest w =
      let begin : rest.types ≡ w.0 + w.2.1 = w.2.3.begin in
      let some = size_some w.2.0 w.2.1 (drop w.0 used) w.2.2 in
      elim w.1 [
        | inl e ↦ omega (arith, e, begin, some)
        | inr x ↦ (let e : w.0 ≡ at + 4 + x.1 = x.3 in omega (arith, e, begin, some))
      ]

  pub record_rather : (rest : Rest) → IsRecordBehind used whole last to (at + 4) rest
      → ((other : Rest) → IsRecordBehind used whole last to (at + 4) other → ¬ IsRather other rest) → (other : Rest) → IsRest used whole to at other → ¬ IsRather other rest
  record_rather rest is first other r = rather (rest_cases other r)
    where
      rather : AreTypesFrom used whole last to (at + 4) (at + 4) (at + 4 + 126) other ⊎ IsRecordBehind used whole last to (at + 4) other → ¬ IsRather other rest
      rather (inl are) (inl more) = omega (arith, more, are.begin, record_far rest is)
      rather (inl are) (inr same) = omega (arith, same.0, are.begin, record_far rest is)
      rather (inr w) x = first other w x

  pub types_rather : ((other : Rest) → ¬ IsRecordBehind used whole last to (at + 4) other) → (rest : Rest) → AreFirstFrom used whole last to (at + 4) (at + 4) (at + 4 + 126) rest
      → (other : Rest) → IsRest used whole to at other → ¬ IsRather other rest
  types_rather none rest first other r = rather (rest_cases other r)
    where
      rather : AreTypesFrom used whole last to (at + 4) (at + 4) (at + 4 + 126) other ⊎ IsRecordBehind used whole last to (at + 4) other → ¬ IsRather other rest
      rather (inl are) (inl more) = omega (arith, more, are.begin, first.0.begin)
      rather (inl are) (inr same) = omega (arith, same.1, first.1 other are)
      rather (inr w) x = none other w

  pub none_left : ((other : Rest) → ¬ IsRecordBehind used whole last to (at + 4) other) → ((other : Rest) → ¬ AreTypesFrom used whole last to (at + 4) (at + 4) (at + 4 + 126) other)
      → (rest : Rest) → ¬ IsRest used whole to at rest
  none_left none other rest r = elim (rest_cases rest r) [ inl are ↦ other rest are | inr w ↦ none rest w ]

-- a rest ends behind its cell's first four bytes, in the page
pub rest_behind : (used : List ℕ) (whole : List Bool) (to at : ℕ) (rest : Rest) → IsRest used whole to at rest → (at + 4 ≤ rest.types) × (rest.types < rest.bodies) × (rest.bodies ≤ rest.end)
rest_behind used whole to at rest r =
    let some = types_some r.serials r.some in
    let short : rest.bodies ≡ rest.types + sum_by varint_size r.serials = r.short in
    let fills : rest.end ≡ rest.bodies + sum_by body_size r.serials = r.fills in
    (types r.types, omega (arith, some, short), omega (arith, fills))
  where
    types : AreTypesOf used (at + 4) rest.types rest.bodies → at + 4 ≤ rest.types
    types (inl w) = omega (arith, w.0)
    types (inr w) = elim w.3 [
      | inl e ↦ (let begin : rest.types ≡ w.0 + w.2 = w.5 in omega (arith, e, begin))
      | inr x ↦ (let e : w.0 ≡ at + 4 + x.1 = x.3 in let begin : rest.types ≡ w.0 + w.2 = w.5 in omega (arith, e, begin))
    ]
