-- Why a trace is refused, by what refuses one of its records.
use Rattle.std.proofs.Common.{◌≡◌, inl, inr, ℕ, ◌+◌, ◌-◌, ◌*◌, ◌%◌, ◌^◌, ◌<◌, ◌≤◌, IsTrue, Bool, true, false, nat_eq, Option, Some, None, List, [], ◌∷◌, ◌++◌, length, take, drop, get_or, cond, refl, sym, ◌∙◌, ap, subst, length-append, arith}
use Rattle.std.proofs.Math.Nat.{mul-le-mul_right, zero-mod}
use Rattle.std.proofs.lemmas.Bool.{cases_lt}
use Rattle.std.proofs.lemmas.Bool.Decides.{nat_tests}
use Rattle.std.proofs.lemmas.List.{drop_more, take-append-drop}
use Rattle.std.proofs.lemmas.List.Sums.{sum_by-append}
use Rattle.rig_play.specs.Plays.{Files, no_files, Plays}
use Rattle.rig_play.specs.Trace.{IsTrace}
use Rattle.rig_play.specs.declared.error.PlayError.{PlayError}
use Rattle.rig_play.specs.declared.trace.Record.{Record}
use Rattle.rig_play.specs.declared.trace.Trace.{Trace}
use Rattle.sqcrash.specs.Marked.{MarkState, MarksAll, are_at_marks}
use Rattle.sqcrash.specs.Refusals.{IsOfMemory, IsOfFiles, IsUnplayed, PlayRefused, HasRoom, WriteRefused, most_images}
use Rattle.sqcrash.specs.Refused.{IsRefusal, IsUnplayedAt, RigRefused, MarkingRefused, BeginRefused, IsNoPoint, IsFirstPart, point_count}
use Rattle.sqcrash.specs.Rigs.{RigState, BeginsBy, JudgesAll, IsJudgment, is_point, is_of_part}
use Rattle.sqcrash.specs.Runs.{no_run}
use Rattle.sqcrash.specs.Surveys.{one_if}
use Rattle.sqcrash.specs.declared.outcome.Refusal.{Refusal}
use Rattle.sqcrash.specs.declared.outcome.Refusal.TheVariants as refusals
use Rattle.sqcrash.specs.declared.marked.CommitFault.{CommitFault}
use Rattle.sqcrash.specs.declared.plan.Part.{Part}
use Rattle.sqcrash.specs.declared.plan.Plan.{Plan}
use Rattle.sqcrash.specs.declared.survey.Tally.{Tally}
use Rattle.sqcrash.proofs.CountedPoints.{counted_all, none_judged}
use Rattle.sqcrash.proofs.PlayedRecords.{plays_all, looks_all}

-- records at one of them
pub split_at : (records : List Record) (i : ℕ) (d : Record) → i < length records → records ≡ take i records ++ get_or records i d ∷ drop (i + 1) records
split_at records i d below = sym (ap (λ (l : List Record). take i records ++ l) (sym (drop_more records i d below)) ∙ take-append-drop i records)

-- no memory refuses any trace
pub of_memory : (plan : Plan) (b : List ℕ) (refusal : Refusal) → IsOfMemory refusal → IsRefusal plan b refusal
of_memory plan b refusal is = subst (λ (x : Refusal). IsRefusal plan b x) (sym is) tt

-- and a writer
pub of_writer : (plan : Plan) (b : List ℕ) (refusal : Refusal) → refusal ≡ refusals.Unwritten → IsRefusal plan b refusal
of_writer plan b refusal is = subst (λ (x : Refusal). IsRefusal plan b x) (sym is) tt

-- a record is refused as it can't be played
pub unplayed_in : (plan : Plan) (b : List ℕ) (records before behind : List Record) (r : Record) (files : Files) (refusal : Refusal)
    → records ≡ before ++ r ∷ behind → Plays b before (no_files plan.sector plan.tears plan.meta) files → IsUnplayed files b r refusal
    → (at : ℕ) × (e : PlayError) × IsUnplayedAt plan b records at e × (refusal ≡ refusals.Record at e)
unplayed_in plan b records before behind r files refusal split plays is =
    (r.from - 40, is.0, record { before = before; call = r; behind = behind; split = split; place = refl; files = files; played = plays; refused = is.1 }, is.2)

-- no record was looked at
abbrev start : Plan → MarkState
start plan = record { run = no_run plan.promise plan.sector plan.tears plan.meta; faults = [] }

-- the first records were looked at, and the next one is refused
pub marking_refused : (plan : Plan) (b : List ℕ) (records before behind : List Record) (r : Record) (mid : MarkState) (refusal : Refusal)
    → records ≡ before ++ r ∷ behind → MarksAll b before (record { run = no_run plan.promise plan.sector plan.tears plan.meta; faults = [] }) mid
    → PlayRefused b r mid.run refusal → MarkingRefused plan b records refusal
marking_refused plan b records before behind r mid refusal split all is =
    let looks = looks_all b before (start plan) mid all in
    let long = ap (λ (l : List Record). length l) split ∙ length-append before (r ∷ behind) in
    elim is [
      | inl memory ↦ inl memory
      | inr (inl many) ↦ inr (inl (many.0, omega (arith, many.1, looks.played, long)))
      | inr (inr unplayed) ↦ inr (inr (unplayed_in plan b records before behind r mid.run.files refusal split looks.plays unplayed))
    ]

-- the first state of a rig
pub record IsFirst (plan : Plan) (n : ℕ) (rig : RigState) : Type 0 where
  pub files : rig.run.files ≡ no_files plan.sector plan.tears plan.meta
  pub played : rig.run.played ≡ 0
  pub point : rig.point ≡ 0
  pub points : rig.tally.points ≡ 0
  pub images : rig.tally.images ≡ 0
  pub lost : rig.tally.lost ≡ 0
  pub mixed : rig.tally.mixed ≡ 0
  pub faults : rig.tally.faults ≤ 2 * n

pub is_first : (at_marks : Bool) (plan : Plan) (b : List ℕ) (records : List Record) (rig : RigState) (lines : List ℕ) → BeginsBy at_marks plan b records rig lines → IsFirst plan (length records) rig
is_first false plan b records rig lines is =
    subst (λ (s : RigState). IsFirst plan (length records) s) (sym is.0)
    (record { files = refl; played = refl; point = refl; points = refl; images = refl; lost = refl; mixed = refl; faults = omega arith })
is_first true plan b records rig lines is =
    let marked = is.1 in
    let looks = looks_all b records (start plan) marked.last marked.all in
    let few = ap (λ (l : List CommitFault). length l) marked.faults in
    let most : length is.0.faults.items ≤ 2 * length records = omega (arith, few, looks.faults) in
    subst (λ (s : RigState). IsFirst plan (length records) s) (sym is.2)
    (record { files = refl; played = refl; point = refl; points = refl; images = refl; lost = refl; mixed = refl; faults = most })

-- the counts have room behind the first of so many records, where all of them have
record HasRoomBehind (images : ℕ) (rig : RigState) : Type 0 where
  played : rig.run.played + 1 < 2 ^ 64
  point : rig.point + 1 < 2 ^ 64
  points : rig.tally.points + 1 < 2 ^ 64
  room : HasRoom images rig.tally

-- a count behind i of n records, each with so many images at most, where all have room
fits_behind : (images i n x first : ℕ) → x ≤ first + i * images → first ≤ 2 * n → i + 1 ≤ n → n * (images + 2) < 2 ^ 64 → x + images < 2 ^ 64
fits_behind images i n x first most few less fits =
    let more : (i + 1) * images ≤ n * images = mul-le-mul_right images less in
    omega (arith, most, few, less, fits, more)

-- as many records have room
few_records : (images n : ℕ) → n * (images + 2) < 2 ^ 64 → n < 2 ^ 64
few_records images n fits = omega (arith, fits)

room_behind : (plan : Plan) (b : List ℕ) (before : List Record) (n : ℕ) (first mid : RigState) (lines : List (List ℕ)) → IsFirst plan n first → JudgesAll plan b before first mid lines
    → length before + 1 ≤ n → n * (most_images plan.images + 2) < 2 ^ 64 → HasRoomBehind (most_images plan.images) mid
room_behind plan b before n first mid lines is all less fits =
    let images = most_images plan.images in
    let counted = counted_all plan b before first mid lines all in
    let plays = plays_all plan b before first mid lines all in
    let i = length before in
    let all = few_records images n fits in
    record {
      played = omega (arith, is.played, plays.1, less, all);
      point = omega (arith, is.point, counted.point, less, all);
      points = omega (arith, is.points, counted.points, less, all);
      room = record {
        images = fits_behind images i n mid.tally.images first.tally.images counted.images (omega (arith, is.images)) less fits;
        lost = fits_behind images i n mid.tally.lost first.tally.lost counted.lost (omega (arith, is.lost)) less fits;
        mixed = fits_behind images i n mid.tally.mixed first.tally.mixed counted.mixed (omega (arith, is.mixed)) less fits;
        faults = fits_behind images i n mid.tally.faults first.tally.faults counted.faults is.faults less fits;
      };
    }

-- the first records of a trace were judged, and another one follows
pub record IsJudgedTo (plan : Plan) (b : List ℕ) (t : Trace) (before behind : List Record) (r : Record) (mid : RigState) (lines : List (List ℕ)) : Type 0 where
  pub trace : IsTrace b t
  pub split : t.records.items ≡ before ++ r ∷ behind
  pub first : RigState
  pub is_first : IsFirst plan (length t.records.items) first
  pub judged : JudgesAll plan b before first mid lines

long_split : (records before behind : List Record) (r : Record) → records ≡ before ++ r ∷ behind → length before + 1 ≤ length records
long_split records before behind r split = let e = ap (λ (l : List Record). length l) split in omega (arith, e, length-append before (r ∷ behind))

-- that is refused as a count may pass 2 ^ 64 - 1
many_of : (plan : Plan) (b : List ℕ) (t : Trace) (before behind : List Record) (r : Record) (mid : RigState) (lines : List (List ℕ)) (refusal : Refusal)
    → IsJudgedTo plan b t before behind r mid lines → refusal ≡ refusals.TooMany → ¬ HasRoomBehind (most_images plan.images) mid → IsRefusal plan b refusal
many_of plan b t before behind r mid lines refusal to is none =
    let records = t.records.items in
    let n = length records in
    let many : 2 ^ 64 ≤ n * (most_images plan.images + 2) = elim (cases_lt (n * (most_images plan.images + 2)) (2 ^ 64)) [
      | inl fits ↦ absurd (none (room_behind plan b before n to.first mid lines to.is_first to.judged (long_split records before behind r to.split) fits))
      | inr more ↦ more
    ] in
    subst (λ (x : Refusal). IsRefusal plan b x) (sym is) (t, to.trace, many)

-- one record that is a point
some_point : (plan : Plan) (records before behind : List Record) (r : Record) → records ≡ before ++ r ∷ behind → IsTrue (is_point plan.every r) → 0 < point_count plan records
some_point plan records before behind r split is =
    let a = ap (λ (l : List Record). point_count plan l) split in
    let d = sum_by-append (λ (x : Record). cond (is_point plan.every x) 1 0) before (r ∷ behind) in
    let e = sum_by-append (λ (x : Record). cond (is_point plan.every x) 1 0) (r ∷ []) behind in
    let one : one_if (is_point plan.every r) ≡ 1 = ap (λ (p : Bool). one_if p) is in
    omega (arith, a, d, e, one)

-- what refuses to play it
of_play : (plan : Plan) (b : List ℕ) (t : Trace) (before behind : List Record) (r : Record) (mid : RigState) (lines : List (List ℕ)) (refusal : Refusal)
    → IsJudgedTo plan b t before behind r mid lines → PlayRefused b r mid.run refusal → IsRefusal plan b refusal
of_play plan b t before behind r mid lines refusal to is = elim is [
  | inl memory ↦ of_memory plan b refusal memory
  | inr (inl many) ↦ many_of plan b t before behind r mid lines refusal to many.0 (λ room. let no = room.played in absurd (omega (arith, no, many.1)))
  | inr (inr unplayed) ↦
      let plays = plays_all plan b before to.first mid lines to.judged in
      let start = subst (λ (s : Files). Plays b before s mid.run.files) to.is_first.files plays.0 in
      let found = unplayed_in plan b t.records.items before behind r mid.run.files refusal to.split start unplayed in
      subst (λ (x : Refusal). IsRefusal plan b x) (sym found.3) (t, to.trace, found.2)
]

-- the system of files refuses an image of a point
of_files : (plan : Plan) (b : List ℕ) (t : Trace) (refusal : Refusal) → IsTrace b t → 0 < point_count plan t.records.items → IsOfFiles refusal → IsRefusal plan b refusal
of_files plan b t refusal trace some is = elim is [
  | inl memory ↦ of_memory plan b refusal memory
  | inr failed ↦ subst (λ (x : Refusal). IsRefusal plan b x) (sym failed) (t, trace, some)
]

-- what refuses to judge it
pub of_rig : (plan : Plan) (b : List ℕ) (t : Trace) (before behind : List Record) (r : Record) (mid : RigState) (lines : List (List ℕ)) (refusal : Refusal)
    → IsJudgedTo plan b t before behind r mid lines → RigRefused plan b r mid refusal → IsRefusal plan b refusal
of_rig plan b t before behind r mid lines refusal to is = elim is [
  | inl unplayed ↦ of_play plan b t before behind r mid lines refusal to unplayed
  | inr (point, inl many) ↦ many_of plan b t before behind r mid lines refusal to many.0 (λ room. let no = room.point in absurd (omega (arith, no, many.1)))
  | inr (point, inr (inl files)) ↦ of_files plan b t refusal to.trace (some_point plan t.records.items before behind r to.split point) files
  | inr (point, inr (inr many)) ↦ many_of plan b t before behind r mid lines refusal to many.0 (λ room. absurd (many.1 (room.points, room.room)))
]

-- so many lines, or records, are more than there is room for
many_lines : (images i n x : ℕ) → 2 ^ 64 ≤ x → x ≤ i * images → i ≤ n → 2 ^ 64 ≤ n * (images + 2)
many_lines images i n x many most less =
    let more : i * images ≤ n * images = mul-le-mul_right images less in
    omega (arith, many, most, more)

many_records : (images n : ℕ) → 2 ^ 64 ≤ n → 2 ^ 64 ≤ n * (images + 2)
many_records images n many = omega (arith, many)

-- behind it the findings are too many, or can't be written
pub of_writes : (plan : Plan) (b : List ℕ) (t : Trace) (before behind : List Record) (r : Record) (first last : RigState) (lines : List (List ℕ)) (told n : ℕ) (refusal : Refusal)
    → IsTrace b t → t.records.items ≡ before ++ r ∷ behind → JudgesAll plan b (before ++ r ∷ []) first last lines → told + n ≤ length lines → WriteRefused told n refusal → IsRefusal plan b refusal
of_writes plan b t before behind r first last lines told n refusal trace split judged long is = elim is [
  | inl unwritten ↦ of_writer plan b refusal unwritten
  | inr many ↦
      let images = most_images plan.images in
      let counted = counted_all plan b (before ++ r ∷ []) first last lines judged in
      let i : length (before ++ r ∷ []) ≡ length before + 1 = length-append before (r ∷ []) in
      let less : length (before ++ r ∷ []) ≤ length t.records.items = omega (arith, i, long_split t.records.items before behind r split) in
      let all : 2 ^ 64 ≤ length t.records.items * (images + 2) =
      many_lines images (length (before ++ r ∷ [])) (length t.records.items) (length lines) (omega (arith, many.1, long)) counted.lines less in
      subst (λ (x : Refusal). IsRefusal plan b x) (sym many.0) (t, trace, all)
]

-- what refuses to begin
pub of_begin : (plan : Plan) (b : List ℕ) (t : Trace) (refusal : Refusal) → IsTrace b t → BeginRefused plan b t.records.items refusal → IsRefusal plan b refusal
of_begin plan b t refusal trace is =
    let n = length t.records.items in
    elim is [
      | inl unwritten ↦ of_writer plan b refusal unwritten
      | inr (inl memory) ↦ of_memory plan b refusal memory
      | inr (inr (inl many)) ↦
          let all : 2 ^ 64 ≤ n * (most_images plan.images + 2) = many_records (most_images plan.images) n many.1 in
          subst (λ (x : Refusal). IsRefusal plan b x) (sym many.0) (t, trace, all)
      | inr (inr (inr unplayed)) ↦ subst (λ (x : Refusal). IsRefusal plan b x) (sym unplayed.3) (t, trace, unplayed.2)
    ]

-- the first point is of the first part
first_of_part : (part : Option Part) → IsFirstPart part → is_of_part part 1 ≡ true
first_of_part None is = refl
first_of_part (Some p) is =
    let a : (1 - 1) % p.of ≡ 0 = zero-mod p.of in
    let d : p.number - 1 ≡ 0 = omega (arith, is) in
    let e : nat_eq ((1 - 1) % p.of) (p.number - 1) ≡ true = grind (arith, nat_tests, a, d) in
    e

-- a trace in which no point is of the part that is asked for
no_part : (plan : Plan) (b : List ℕ) (tally : Tally) (lines : List ℕ) (is : IsJudgment plan b tally lines) → tally.points ≡ 0
    → (point : ℕ) → 0 < point → point ≤ point_count plan is.trace.records.items → is_of_part plan.part point ≡ false
no_part plan b tally lines is none point above below =
    let records = is.trace.records.items in
    let start = is_first (are_at_marks plan.commits) plan b records is.first is.of_commits is.begun in
    let last : is.last.tally.points ≡ 0 = sym (ap (λ (t : Tally). t.points) is.counted) ∙ none in
    let found = none_judged plan b records is.first is.last is.of_images is.judged last in
    found.each point (omega (arith, start.point, above)) (omega (arith, start.point, below))

-- and one in which there is none, where the first point is of that part
no_point : (plan : Plan) (b : List ℕ) (tally : Tally) (lines : List ℕ) (is : IsJudgment plan b tally lines) → tally.points ≡ 0 → IsFirstPart plan.part
    → point_count plan is.trace.records.items ≡ 0
no_point plan b tally lines is none first = elim (cases_lt 0 (point_count plan is.trace.records.items)) [
  | inl some ↦
      let no : true ≡ false = sym (first_of_part plan.part first) ∙ no_part plan b tally lines is none 1 (omega arith) (omega (arith, some)) in
      absurd (cc no)
  | inr few ↦ omega (arith, few)
]

-- it is refused for that
pub no_point_of : (plan : Plan) (b : List ℕ) (tally : Tally) (lines : List ℕ) (refusal : Refusal) → IsJudgment plan b tally lines → tally.points ≡ 0 → IsNoPoint plan refusal
    → IsRefusal plan b refusal
no_point_of plan b tally lines refusals.NoPart is none why = (is.trace, is.is_trace, (why, no_part plan b tally lines is none))
no_point_of plan b tally lines refusals.NoMarks is none why = (why.1, (is.trace, is.is_trace, no_point plan b tally lines is none why.0))
no_point_of plan b tally lines refusals.NoCalls is none why = (why.1, (is.trace, is.is_trace, no_point plan b tally lines is none why.0))
no_point_of plan b tally lines refusals.FileFailed is none why = absurd why
no_point_of plan b tally lines (refusals.Trace e) is none why = absurd why
no_point_of plan b tally lines (refusals.Record at e) is none why = absurd why
no_point_of plan b tally lines refusals.TooMany is none why = absurd why
no_point_of plan b tally lines refusals.Unwritten is none why = absurd why
no_point_of plan b tally lines refusals.NoMemory is none why = absurd why
