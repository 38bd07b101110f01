-- The values of a cell that lost its first four bytes.
use Rattle.std.proofs.Common.{◌≡◌, ◌∙◌, ℕ, ◌+◌, ◌-◌, ◌<◌, ◌≤◌, Bool, List, [], ◌∷◌, ◌++◌, take, drop, sum_by, length, sym, ap, subst, arith, append-nil, length-drop}
use Rattle.std.proofs.lemmas.List.{take_all, length-take-le}
use Rattle.std.proofs.lemmas.List.Sums.{sum_by-append, sum_by-cons}
use Rattle.sqval.specs.Bytes.{part}
use Rattle.sqval.specs.Datum.{Datum}
use Rattle.sqval.specs.Serial.{body_size}
use Rattle.sqval.specs.Shortest.{varint_size}
use Rattle.sqval.specs.Record.{Lead, Hold}
use Rattle.sqdeleted.specs.Cut.{AreFilled, AreHeld, IsRest, IsCutCell}
use Rattle.sqdeleted.specs.declared.cut.CutCell.{CutCell}
use Rattle.sqdeleted.specs.declared.rest.Rest.{Rest}
use Rattle.sqdeleted.specs.internal.Values.{AreFirst}
use Rattle.sqdeleted.proofs.BeginsOfRecords.{lead_split}
use Rattle.sqdeleted.proofs.TypesFrom.{lead_alone}
use Rattle.sqdeleted.proofs.CutPlaces.{cut_within}

-- where the bodies are all there, the first values are all of them
pub held_all : (types bodies : List ℕ) (values : List Datum) → AreFilled types bodies → AreFirst types bodies values → AreHeld types bodies values
held_all types bodies values w first = of_split (lead_split first.serials w.0 types first.rest first.leads w.1)
  where
    filled : length bodies ≡ sum_by body_size w.0
    filled = w.2

    of_split : (more : List ℕ) × (w.0 ≡ first.serials ++ more) × Lead more first.rest [] → AreHeld types bodies values
    of_split ([], e, lead) =
        let same : w.0 ≡ first.serials = e ∙ append-nil first.serials in
        let sum : sum_by body_size w.0 ≡ sum_by body_size first.serials = ap (λ (l : List ℕ). sum_by body_size l) same in
        let all : take (sum_by body_size first.serials) bodies ≡ bodies = take_all (sum_by body_size first.serials) bodies (omega (arith, filled, sum)) in
        (first.serials, subst (λ (l : List ℕ). Lead first.serials types l) lead first.leads, subst (λ (l : List ℕ). Hold first.serials values l) all first.holds)
    of_split (serial ∷ others, e, lead) =
        let cut = first.last serial lead.0 lead.1 in
        let sum : sum_by body_size w.0 ≡ sum_by body_size first.serials + sum_by body_size (serial ∷ others) =
        ap (λ (l : List ℕ). sum_by body_size l) e ∙ sum_by-append body_size first.serials (serial ∷ others) in
        absurd (omega (arith, filled, cut, sum, sum_by-cons body_size serial others))

-- what is left of a cell is types and their bodies
pub cut_filled : (used : List ℕ) (whole : List Bool) (to at number place : ℕ) (rest : Rest) (cell : CutCell) → IsRest used whole to at rest → IsCutCell used number place rest cell
    → AreFilled cell.types.now cell.bodies.now
cut_filled used whole to at number place rest cell r is =
    let n = sum_by varint_size r.serials in
    let short : rest.bodies ≡ rest.types + n = r.short in
    let fills : rest.end ≡ rest.bodies + sum_by body_size r.serials = r.fills in
    let within = cut_within used whole to at rest r in
    let size : rest.bodies - rest.types ≡ n = omega (arith, short) in
    let sized : n + length (drop rest.bodies used) ≡ length (drop rest.types used) =
    omega (arith, short, fills, within, length-drop rest.bodies used, length-drop rest.types used) in
    let lead : Lead r.serials (take n (drop rest.types used)) [] = lead_alone r.serials (drop rest.types used) (drop rest.bodies used) r.leads sized in
    let types : cell.types.now ≡ take n (drop rest.types used) = is.types ∙ ap (λ (k : ℕ). part used rest.types k) size in
    let few : rest.end - rest.bodies ≤ length (drop rest.bodies used) = omega (arith, fills, within, length-drop rest.bodies used) in
    let bodies : length cell.bodies.now ≡ rest.end - rest.bodies = ap length is.bodies ∙ length-take-le (rest.end - rest.bodies) (drop rest.bodies used) few in
    (r.serials, subst (λ (l : List ℕ). Lead r.serials l []) (sym types) lead, omega (arith, bodies, fills))
