-- The first values of a record, one more at the end.
use Rattle.std.proofs.Common.{◌≡◌, ℕ, ◌+◌, ◌<◌, ◌≤◌, List, [], ◌∷◌, ◌++◌, ◌∙◌, take, drop, sum_by, length, refl, sym, ap, subst, arith, append_assoc, append-nil, length-drop}
use Rattle.std.specs.Prelude.{Result, Ok, Err, IfOk}
use Rattle.std.proofs.Math.Seq.{take-add}
use Rattle.std.proofs.lemmas.List.{drop-drop, length-take-le}
use Rattle.std.proofs.lemmas.List.Sums.{sum_by_push}
use Rattle.sqval.specs.Varint.{Begins}
use Rattle.sqval.specs.Datum.{Datum}
use Rattle.sqval.specs.Serial.{body_size, held}
use Rattle.sqval.specs.Record.{HasHeader, Lead, Hold}
use Rattle.sqval.proofs.payload.VarintNumbers.{begins_once}
use Rattle.sqval.proofs.payload.UniquenessOfReading.{lead_next}
use Rattle.sqdeleted.specs.Deleted.{BeginsRecord, StandWhole}
use Rattle.sqdeleted.specs.internal.Values.{AreFirst}
use Rattle.sqdeleted.proofs.BeginsOfRecords.{next_type}

hold_more : (types : List ℕ) (values : List Datum) (bytes : List ℕ) (serial : ℕ) (body : List ℕ) → Hold types values bytes → length body ≡ body_size serial
    → Hold (types ++ serial ∷ []) (values ++ held serial body ∷ []) (bytes ++ body)
hold_more [] values bytes serial body (none, empty) size = (body, [], [], rw (empty, append-nil) refl, size, rw none refl, (refl, refl))
hold_more (first ∷ types) values bytes serial body (front, others, more, parts, e, head, rest) size =
    (front, others ++ body, more ++ held serial body ∷ [], rw parts (append_assoc front others body), e, rw head refl, hold_more types more others serial body rest size)

-- the values that were read, the types that are left of all, and the bodies
pub record Standing (types bodies rest left : List ℕ) (values : List Datum) : Type 0 where
  pub done : List ℕ
  pub more : List ℕ
  pub lead : Lead done types rest
  pub ahead : Lead more rest []
  pub holds : Hold done values (take (sum_by body_size done) bodies)
  pub left_is : left ≡ drop (sum_by body_size done) bodies
  pub within : sum_by body_size done ≤ length bodies

pub standing_none : (types bodies serials : List ℕ) → Lead serials types [] → Standing types bodies types bodies []
standing_none types bodies serials lead =
    record { done = []; more = serials; lead = refl; ahead = lead; holds = (refl, refl); left_is = refl; within = omega arith }

pub standing_next : (types bodies rest left : List ℕ) (values : List Datum) (serial taken : ℕ) → Standing types bodies rest left values → Begins serial taken rest
    → body_size serial ≤ length left → Standing types bodies (drop taken rest) (drop (body_size serial) left) (values ++ held serial (take (body_size serial) left) ∷ [])
standing_next types bodies rest left values serial taken s begins fits =
    let n = next_type serial taken s.more rest begins s.ahead in
    let next : Lead (serial ∷ n.0) rest [] = subst (λ (l : List ℕ). Lead l rest []) n.1 s.ahead in
    let size = sum_by body_size s.done in
    let sum : sum_by body_size (s.done ++ serial ∷ []) ≡ size + body_size serial = sum_by_push body_size s.done serial in
    let left_is : left ≡ drop size bodies = s.left_is in
    let within : size ≤ length bodies = s.within in
    let holds : Hold (s.done ++ serial ∷ []) (values ++ held serial (take (body_size serial) left) ∷ []) (take size bodies ++ take (body_size serial) left) =
    hold_more s.done values (take size bodies) serial (take (body_size serial) left) s.holds (length-take-le (body_size serial) left fits) in
    let joined : take size bodies ++ take (body_size serial) left ≡ take (sum_by body_size (s.done ++ serial ∷ [])) bodies =
    ap (λ (l : List ℕ). take size bodies ++ take (body_size serial) l) left_is ∙ sym (take-add size (body_size serial) bodies) ∙ ap (λ (n : ℕ). take n bodies) (sym sum) in
    record {
      done = s.done ++ serial ∷ [];
      more = n.0;
      lead = lead_next s.done types rest serial taken s.lead begins next.2;
      ahead = n.2;
      holds = subst (λ (l : List ℕ). Hold (s.done ++ serial ∷ []) (values ++ held serial (take (body_size serial) left) ∷ []) l) joined holds;
      left_is = ap (λ (l : List ℕ). drop (body_size serial) l) left_is ∙ drop-drop (body_size serial) size bodies ∙ ap (λ (n : ℕ). drop n bodies) (sym sum);
      within = omega (arith, sum, within, fits, ap length left_is, length-drop size bodies);
    }

-- behind the last type, and before one whose body is cut
pub first_all : (types bodies rest left : List ℕ) (values : List Datum) → Standing types bodies rest left values → ((serial size : ℕ) → ¬ Begins serial size rest) → AreFirst types bodies values
first_all types bodies rest left values s none =
    record { serials = s.done; rest = rest; leads = s.lead; holds = s.holds; last = λ serial size begins. absurd (none serial size begins) }

pub first_cut : (types bodies rest left : List ℕ) (values : List Datum) (serial taken : ℕ) → Standing types bodies rest left values → Begins serial taken rest → length left < body_size serial
    → AreFirst types bodies values
first_cut types bodies rest left values serial taken s begins cut =
    let size = sum_by body_size s.done in
    let left_is : left ≡ drop size bodies = s.left_is in
    let within : size ≤ length bodies = s.within in
    record {
      serials = s.done;
      rest = rest;
      leads = s.lead;
      holds = s.holds;
      last = λ other taken_other there.
          let same : serial ≡ other = (begins_once serial other taken taken_other rest begins there).0 in
          let sized : body_size serial ≡ body_size other = ap (λ (n : ℕ). body_size n) same in
          omega (arith, cut, sized, within, ap length left_is, length-drop size bodies);
    }

-- those of a header are those of the bytes that it begins
module _ (total header size : ℕ) (types bytes : List ℕ) (has : HasHeader header size bytes) (is : types ≡ drop size (take header bytes)) where
  pub lead_there : (b : BeginsRecord total bytes) → Lead b.types types []
  lead_there b = let same = begins_once header b.header size b.size bytes has.begins b.has.begins in rw (is, same.0, same.1) b.leads

  pub stand_whole : (bodies : List ℕ) (values : List Datum) → bodies ≡ drop header bytes → AreFirst types bodies values → StandWhole bytes values
  stand_whole bodies values behind first = record {
    types = first.serials;
    rest = first.rest;
    bodies = bodies;
    reads = record { header = header; size = size; has = has; leads = subst (λ (l : List ℕ). Lead first.serials l first.rest) is first.leads; behind = behind };
    holds = first.holds;
    last = first.last;
  }

  pub stand_ok : {A E : Type 0} (f : A → List Datum) (r : Result A E) (bodies : List ℕ) → bodies ≡ drop header bytes → IfOk r (λ v. AreFirst types bodies (f v)) → IfOk r (λ v. StandWhole bytes (f v))
  stand_ok f (Ok v) bodies behind first = stand_whole bodies (f v) behind first
  stand_ok f (Err e) bodies behind first = first
