-- Why a trace is refused (own).
use Rattle.std.specs.Prelude.{◌≡◌, ◌⊎◌, ℕ, ◌+◌, ◌-◌, ◌*◌, ◌^◌, ◌<◌, ◌≤◌, IsTrue, false, List, ◌∷◌, ◌++◌, length, Option, None, Some, Err}
use Rattle.std.specs.List.{count_by}
use Rattle.rig_play.specs.Plays.{Files, no_files, Plays, StepRefused}
use Rattle.rig_play.specs.Trace.{IsTrace, TraceAnswer}
use Rattle.rig_play.specs.declared.error.PlayError.{PlayError}
use Rattle.rig_play.specs.declared.trace.Record.{Record}
use Rattle.rig_play.specs.declared.trace.Trace.{Trace}
use Rattle.sqcrash.specs.Refusals.{IsOfMemory, IsTooMany, PlayRefused, SurveyRefused, most_images}
use Rattle.sqcrash.specs.Rigs.{RigState, is_point, is_of_part}
use Rattle.sqcrash.specs.declared.outcome.Refusal.{Refusal}
use Rattle.sqcrash.specs.declared.outcome.Refusal.TheVariants as refusals
use Rattle.sqcrash.specs.declared.plan.Part.{Part}
use Rattle.sqcrash.specs.declared.plan.Plan.{Plan}

-- what refuses to judge a record
abbrev pub RigRefused : Plan → List ℕ → Record → RigState → Refusal → Type 0
RigRefused plan b r rig refusal =
    PlayRefused b r rig.run refusal ⊎ (IsTrue (is_point plan.every r) × (IsTooMany rig.point refusal ⊎ SurveyRefused plan.images rig.tally refusal))

-- the record that begins at a place can't be played behind those before it, from no files on
pub record IsUnplayedAt (plan : Plan) (b : List ℕ) (records : List Record) (at : ℕ) (e : PlayError) : Type 0 where
  pub before : List Record
  pub call : Record
  pub behind : List Record
  pub split : records ≡ before ++ call ∷ behind
  pub place : at ≡ call.from - 40
  pub files : Files
  pub played : Plays b before (no_files plan.sector plan.tears plan.meta) files
  pub refused : StepRefused files b call e

-- what refuses to look at the commits at marks
abbrev pub MarkingRefused : Plan → List ℕ → List Record → Refusal → Type 0
MarkingRefused plan b records refusal =
    IsOfMemory refusal
    ⊎ (((refusal ≡ refusals.TooMany) × (2 ^ 64 ≤ length records))
    ⊎ ((at : ℕ) × (e : PlayError) × IsUnplayedAt plan b records at e × (refusal ≡ refusals.Record at e)))

-- how many points there are
abbrev pub point_count : Plan → List Record → ℕ
point_count plan records = count_by (is_point plan.every) records

-- the part that is asked for, if one is, is the first
abbrev pub IsFirstPart : Option Part → Type 0
IsFirstPart None = Unit {0}
IsFirstPart (Some p) = p.number ≤ 1

-- of so many points none is of the part that is asked for, which isn't the first
abbrev pub HasNoneOf : Option Part → (points : ℕ) → Type 0
HasNoneOf part points = ¬ IsFirstPart part × ((point : ℕ) → 0 < point → point ≤ points → is_of_part part point ≡ false)

-- bytes are a trace of such records
abbrev pub IsTraceOf : List ℕ → (List Record → Type 0) → Type 0
IsTraceOf b P = (t : Trace) × IsTrace b t × P t.records.items

-- Why a trace is refused: it is none; a record can't be played; it has no point, or none of the part; it has so many
-- records that a count may pass 2 ^ 64 - 1; or, where there is a point, an image couldn't be kept.
abbrev pub IsRefusal : Plan → List ℕ → Refusal → Type 0
IsRefusal plan b (refusals.Trace e) = TraceAnswer b (Err e)
IsRefusal plan b (refusals.Record at e) = IsTraceOf b (λ records. IsUnplayedAt plan b records at e)
IsRefusal plan b refusals.NoMarks = (plan.every ≡ false) × IsTraceOf b (λ records. point_count plan records ≡ 0)
IsRefusal plan b refusals.NoCalls = IsTrue plan.every × IsTraceOf b (λ records. point_count plan records ≡ 0)
IsRefusal plan b refusals.NoPart = IsTraceOf b (λ records. HasNoneOf plan.part (point_count plan records))
IsRefusal plan b refusals.TooMany = IsTraceOf b (λ records. 2 ^ 64 ≤ length records * (most_images plan.images + 2))
IsRefusal plan b refusals.FileFailed = IsTraceOf b (λ records. 0 < point_count plan records)
IsRefusal plan b refusals.Unwritten = Unit {0}
IsRefusal plan b refusals.NoMemory = Unit {0}

-- what refuses to begin
abbrev pub BeginRefused : Plan → List ℕ → List Record → Refusal → Type 0
BeginRefused plan b records refusal = (refusal ≡ refusals.Unwritten) ⊎ MarkingRefused plan b records refusal

-- why a trace with no point that is asked for is refused
abbrev pub IsNoPoint : Plan → Refusal → Type 0
IsNoPoint plan refusals.NoPart = ¬ IsFirstPart plan.part
IsNoPoint plan refusals.NoMarks = IsFirstPart plan.part × (plan.every ≡ false)
IsNoPoint plan refusals.NoCalls = IsFirstPart plan.part × IsTrue plan.every
IsNoPoint plan _ = ⊥
