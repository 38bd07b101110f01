-- What is written of a trace that is refused: nothing where its bytes are none.
use Rattle.std.proofs.Common.{◌≡◌, inl, inr, ℕ, List, Option, sym, subst}
use Rattle.rig_play.specs.declared.trace.Record.{Record}
use Rattle.sqcrash.specs.Ends.{MayWrite}
use Rattle.sqcrash.specs.Refusals.{WriteRefused}
use Rattle.sqcrash.specs.Refused.{RigRefused, BeginRefused, IsNoPoint}
use Rattle.sqcrash.specs.Rigs.{RigState}
use Rattle.sqcrash.specs.declared.outcome.Refusal.{Refusal}
use Rattle.sqcrash.specs.declared.outcome.Refusal.TheVariants as refusals
use Rattle.sqcrash.specs.declared.plan.Plan.{Plan}

-- anything may be written by which another one refuses
written_by : (refusal other : Refusal) (x y : Option (List ℕ)) → refusal ≡ other → MayWrite other x y → MayWrite refusal x y
written_by refusal other x y is may = subst (λ (r : Refusal). MayWrite r x y) (sym is) may

-- what refuses to begin is none of the trace's bytes
pub begun_written : (plan : Plan) (b : List ℕ) (records : List Record) (refusal : Refusal) (x y : Option (List ℕ)) → BeginRefused plan b records refusal → MayWrite refusal x y
begun_written plan b records refusal x y is = elim is [
  | inl unwritten ↦ written_by refusal refusals.Unwritten x y unwritten tt
  | inr (inl memory) ↦ written_by refusal refusals.NoMemory x y memory tt
  | inr (inr (inl many)) ↦ written_by refusal refusals.TooMany x y many.0 tt
  | inr (inr (inr unplayed)) ↦ written_by refusal (refusals.Record unplayed.0 unplayed.1) x y unplayed.3 tt
]

-- nor what refuses a record
pub judged_written : (plan : Plan) (b : List ℕ) (r : Record) (rig : RigState) (refusal : Refusal) (x y : Option (List ℕ)) → RigRefused plan b r rig refusal → MayWrite refusal x y
judged_written plan b r rig refusal x y is = elim is [
  | inl (inl memory) ↦ written_by refusal refusals.NoMemory x y memory tt
  | inl (inr (inl many)) ↦ written_by refusal refusals.TooMany x y many.0 tt
  | inl (inr (inr unplayed)) ↦ written_by refusal (refusals.Record _ unplayed.0) x y unplayed.2 tt
  | inr point ↦ elim point.1 [
    | inl many ↦ written_by refusal refusals.TooMany x y many.0 tt
    | inr (inl (inl memory)) ↦ written_by refusal refusals.NoMemory x y memory tt
    | inr (inl (inr failed)) ↦ written_by refusal refusals.FileFailed x y failed tt
    | inr (inr many) ↦ written_by refusal refusals.TooMany x y many.0 tt
  ]
]

-- nor what refuses to write
pub lines_written : (told n : ℕ) (refusal : Refusal) (x y : Option (List ℕ)) → WriteRefused told n refusal → MayWrite refusal x y
lines_written told n refusal x y is = elim is [
  | inl unwritten ↦ written_by refusal refusals.Unwritten x y unwritten tt
  | inr many ↦ written_by refusal refusals.TooMany x y many.0 tt
]

-- nor that there is no point
pub no_point_written : (plan : Plan) (refusal : Refusal) (x y : Option (List ℕ)) → IsNoPoint plan refusal → MayWrite refusal x y
no_point_written plan refusals.FileFailed x y is = absurd is
no_point_written plan (refusals.Trace e) x y is = absurd is
no_point_written plan (refusals.Record at e) x y is = absurd is
no_point_written plan refusals.NoMarks x y is = tt
no_point_written plan refusals.NoCalls x y is = tt
no_point_written plan refusals.NoPart x y is = tt
no_point_written plan refusals.TooMany x y is = absurd is
no_point_written plan refusals.Unwritten x y is = absurd is
no_point_written plan refusals.NoMemory x y is = absurd is
