-- A trace is played, and the images of its points are judged (own).
use Rattle.std.specs.Prelude.{◌≡◌, ℕ, ◌+◌, ◌-◌, ◌%◌, Bool, true, false, ◌&&◌, nat_eq, List, [], ◌∷◌, ◌++◌, length, map, Option, Some, None}
use Rattle.rig_play.specs.Trace.{IsTrace, bytes_of}
use Rattle.rig_play.specs.declared.trace.Kind.{Kind}
use Rattle.rig_play.specs.declared.trace.Kind.TheVariants as kinds
use Rattle.rig_play.specs.declared.trace.Record.{Record}
use Rattle.rig_play.specs.declared.trace.Trace.{Trace}
use Rattle.rig_judge.specs.Shown.{commit_of}
use Rattle.rig_families.specs.Families.{noted}
use Rattle.rig_families.specs.Versions.{Named, named_of, version_now}
use Rattle.sqcrash.specs.Runs.{RunState, run_of, no_run, with_marked, with_why, PlaysOne}
use Rattle.sqcrash.specs.Marked.{are_at_marks, AreMarked}
use Rattle.sqcrash.specs.Surveys.{no_tally, one_if, IsSurvey}
use Rattle.sqcrash.specs.Lines.{texts_of, joined, first_of, left_text, commits_text}
use Rattle.sqcrash.specs.declared.marked.Marked.{Marked}
use Rattle.sqcrash.specs.declared.survey.Tally.{Tally}
use Rattle.sqcrash.specs.Told.{Told}
use Rattle.sqcrash.specs.declared.stopped.Stopped.{Stopped}
use Rattle.sqcrash.specs.declared.survey.Survey.{Survey}
use Rattle.sqcrash.specs.declared.plan.Plan.{Plan}
use Rattle.sqcrash.specs.declared.plan.Part.{Part}
use Rattle.sqcrash.specs.declared.rig.Rig.{Rig}

-- a crash is judged behind a record: a mark, or where it may come after each call one that may change what is on the disk
abbrev pub is_point_by : Kind → (every : Bool) → Record → Bool
is_point_by kinds.Mark every r = true
is_point_by kinds.Base every r = false
is_point_by kinds.Close every r = false
is_point_by kinds.End every r = false
is_point_by kinds.Open every r = every && nat_eq r.place 1
is_point_by _ every r = every

abbrev pub is_point : (every : Bool) → Record → Bool
is_point every r = is_point_by r.kind every r

-- a point of this number, counted from 1, is of the part that is asked for, if one is: of each so many in turn the one of its number
abbrev pub is_of_part : Option Part → (point : ℕ) → Bool
is_of_part None point = true
is_of_part (Some p) point = nat_eq ((point - 1) % p.of) (p.number - 1)

-- a run, the versions of its files behind its last calls, what was counted of it, and the number of its last point
pub record RigState : Type 0 where
  pub run : RunState
  pub versions : List Named
  pub tally : Tally
  pub point : ℕ

abbrev pub rig_of : Rig → RigState
rig_of r = record { run = run_of r.run; versions = map (λ v. named_of v) r.prefixes.versions.items; tally = r.tally; point = r.point }

-- the images of a point are judged, by which this is found; or there is no point, and nothing is counted or found
abbrev pub JudgesWhere : (point : Bool) → (limit : ℕ) → (versions : List Named) → RunState → (old new : Tally) → List Told → Type 0
JudgesWhere true limit versions run old new found = (s : Survey) × IsSurvey versions run limit old s × (new ≡ s.tally) × (found ≡ s.findings.items)
JudgesWhere false limit versions run old new found = (new ≡ old) × (found ≡ [])

-- One record of a trace is played, behind which the version of the files is noted. Where it is a point that is numbered, and where
-- it is of the part that is asked for it is judged, by which this is found.
abbrev pub Judges : Plan → List ℕ → Record → (old new : RigState) → List Told → Type 0
Judges plan b r old new found =
    PlaysOne b r old.run new.run × (new.point ≡ old.point + one_if (is_point plan.every r))
    × JudgesWhere (is_point plan.every r && is_of_part plan.part new.point) plan.images new.versions new.run old.tally new.tally found
    × (new.versions ≡ noted r.kind old.versions (version_now new.run.files))

-- where the machine stops, behind a record
abbrev pub stopped_at : List ℕ → Record → RigState → Stopped
stopped_at b r rig = record {
  point = rig.point;
  known = rig.run.known;
  number = rig.run.played;
  kind = r.kind;
  subject = r.subject;
  place = r.place;
  count = length (bytes_of b r);
}

-- the lines of each finding at a rig's last point, which came behind a record
abbrev pub texts_at : Plan → List ℕ → Record → RigState → List Told → List (List ℕ)
texts_at plan b r rig found = texts_of plan (stopped_at b r rig) found

-- records, one after the other, and the lines of each finding
abbrev pub JudgesAll : Plan → List ℕ → List Record → (old new : RigState) → (lines : List (List ℕ)) → Type 0
JudgesAll plan b [] old new lines = (new ≡ old) × (lines ≡ [])
JudgesAll plan b (r ∷ records) old new lines =
    (mid : RigState) × (found : List Told) × (rest : List (List ℕ))
    × Judges plan b r old mid found × JudgesAll plan b records mid new rest × (lines ≡ texts_at plan b r mid found ++ rest)

-- nothing was played yet
abbrev pub no_rig : Plan → RigState
no_rig plan = record { run = with_why plan.why plan.shrink plan.sector (no_run plan.promise plan.sector plan.tears plan.meta); versions = []; tally = no_tally; point = 0 }

-- a rig of which the commits are those at marks; each that isn't well formed is a fault that is counted
abbrev pub marked_rig : RigState → Marked → RigState
marked_rig rig m = record {
  run = with_marked rig.run (map commit_of m.commits.items);
  versions = rig.versions;
  tally = record rig.tally { faults = length m.faults.items };
  point = rig.point;
}

-- The rig by which a trace is judged, and the lines of what is wrong with its commits: those at marks, of which the
-- files were looked at before.
abbrev pub BeginsBy : (at_marks : Bool) → Plan → List ℕ → List Record → RigState → (lines : List ℕ) → Type 0
BeginsBy false plan b records rig lines = (rig ≡ no_rig plan) × (lines ≡ [])
BeginsBy true plan b records rig lines =
    (m : Marked) × AreMarked (no_run plan.promise plan.sector plan.tears plan.meta) b records m × (rig ≡ marked_rig (no_rig plan) m) × (lines ≡ commits_text plan.style m.faults.items)

abbrev pub BeginsRig : Plan → List ℕ → List Record → RigState → (lines : List ℕ) → Type 0
BeginsRig plan b records rig lines = BeginsBy (are_at_marks plan.commits) plan b records rig lines

-- What is counted of a trace and written of it: its commits, and then all its records, from no files on.
pub record IsJudgment (plan : Plan) (b : List ℕ) (tally : Tally) (lines : List ℕ) : Type 0 where
  pub trace : Trace
  pub is_trace : IsTrace b trace
  pub first : RigState
  pub of_commits : List ℕ
  pub begun : BeginsRig plan b trace.records.items first of_commits
  pub last : RigState
  pub of_images : List (List ℕ)
  pub judged : JudgesAll plan b trace.records.items first last of_images
  pub counted : tally ≡ last.tally
  pub all : lines ≡ of_commits ++ (joined (first_of plan.lines of_images) ++ left_text plan.style plan.lines (length of_images))
