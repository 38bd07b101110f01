-- What refuses images of a point, by what refuses one of them.
use Rattle.std.proofs.Common.{inl, inr, ℕ, ◌+◌, ◌^◌, ◌<◌, ◌≤◌, List, length, ap, arith}
use Rattle.rig_images.specs.declared.image.Image.{Image}
use Rattle.sqcrash.specs.Refusals.{HasRoom, JudgingRefused, SurveyRefused, most_images}
use Rattle.sqcrash.specs.Runs.{RunState}
use Rattle.sqcrash.specs.Surveys.{IsBegun, Judged, Tells}
use Rattle.sqcrash.specs.Samples.{IsSampled}
use Rattle.sqcrash.specs.declared.outcome.Refusal.{Refusal}
use Rattle.sqcrash.specs.declared.sample.Sample.{Sample}
use Rattle.sqcrash.specs.declared.survey.Survey.{Survey}
use Rattle.sqcrash.specs.declared.survey.Tally.{Tally}
use Rattle.sqcrash.proofs.CountedPoints.{Grows, GrowsBy, grows_tells}

-- there is room for fewer where counts are higher by no more than what is fewer
room_behind : (n m k : ℕ) (old new : Tally) → Grows k old new → k + m ≤ n → HasRoom n old → HasRoom m new
room_behind n m k old new grows less room = record {
  images = omega (arith, grows.images, room.images);
  lost = omega (arith, grows.lost, room.lost);
  mixed = omega (arith, grows.mixed, room.mixed);
  faults = omega (arith, grows.faults, room.faults);
}

-- what refuses images behind others
pub judging_behind : (n m k : ℕ) (old new : Survey) (refusal : Refusal) → GrowsBy k old new → k + m ≤ n → JudgingRefused m new refusal → JudgingRefused n old refusal
judging_behind n m k old new refusal grows less is = elim is [
  | inl files ↦ inl files
  | inr many ↦ inr (many.0, λ room. absurd (many.1 (room_behind n m k old.tally new.tally grows.tally less room.0, (let a = grows.next in let b = room.1 in omega (arith, a, b)))))
]

-- what refuses images refuses as many, or more
pub judging_within : (s : Survey) (m n : ℕ) (refusal : Refusal) → m ≤ n → JudgingRefused m s refusal → JudgingRefused n s refusal
judging_within s m n refusal less is = elim is [
  | inl files ↦ inl files
  | inr many ↦ inr (
    many.0,
    λ room. absurd (many.1 (
      record {
        images = (let a = room.0.images in omega (arith, a));
        lost = (let a = room.0.lost in omega (arith, a));
        mixed = (let a = room.0.mixed in omega (arith, a));
        faults = (let a = room.0.faults in omega (arith, a));
      },
      (let b = room.1 in omega (arith, b)),
    )),
  )
]

-- one image more of those that are judged
pub judging_told : (run : RunState) (judged : List Judged) (old new : Survey) (n : ℕ) (refusal : Refusal) → Tells run judged old new → length judged + 1 ≤ n
    → JudgingRefused 1 new refusal → JudgingRefused n old refusal
judging_told run judged old new n refusal tells less is = judging_behind n 1 (length judged) old new refusal (grows_tells run judged old new (length judged) tells (omega arith)) less is

-- and of those that are taken into a sample
pub judging_sampled : (Left : Image → Type 0) (run : RunState) (limit : ℕ) (old : Survey) (s : Sample) (new : Survey) (refusal : Refusal) → IsSampled Left run limit old s new
    → 0 < s.left → JudgingRefused 1 new refusal → JudgingRefused limit old refusal
judging_sampled Left run limit old s new refusal so some is = judging_told run so.judged old new limit refusal so.told (let e = so.count in omega (arith, e, some)) is

-- images refuse a point
pub survey_refused : (limit n m : ℕ) (before : Tally) (begun mid : Survey) (refusal : Refusal) → IsBegun before begun → GrowsBy n begun mid → n + m ≤ most_images limit
    → JudgingRefused m mid refusal → SurveyRefused limit before refusal
survey_refused limit n m before begun mid refusal begins grows less is = elim is [
  | inl files ↦ inl files
  | inr many ↦ inr (
    many.0,
    λ room.
        let start : HasRoom (most_images limit) begun.tally = record {
          images = (let a = room.1.images in omega (arith, a, ap (λ (t : Tally). t.images) begins.tally));
          lost = (let a = room.1.lost in omega (arith, a, ap (λ (t : Tally). t.lost) begins.tally));
          mixed = (let a = room.1.mixed in omega (arith, a, ap (λ (t : Tally). t.mixed) begins.tally));
          faults = (let a = room.1.faults in omega (arith, a, ap (λ (t : Tally). t.faults) begins.tally));
        } in
        let next : mid.next + m < 2 ^ 64 = (let a = room.1.images in omega (arith, a, grows.next, begins.next)) in
        absurd (many.1 (room_behind (most_images limit) m n begun.tally mid.tally grows.tally less start, next)),
  )
]
