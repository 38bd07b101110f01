-- What is counted and told of the images at a point (own).
use Rattle.std.specs.Prelude.{◌≡◌, ◌⊎◌, ℕ, suc, ◌+◌, ◌/◌, ◌<◌, ◌≤◌, IsTrue, Bool, true, false, cond, List, [], ◌∷◌, ◌++◌, length, map, Option, Some, None}
use Rattle.std.specs.List.{All, AllPairs, Contains, count_by}
use Rattle.sqwal.specs.Took.{Took}
use Rattle.sqwal.specs.declared.scan.Scan.{Scan}
use Rattle.rig_families.specs.Families.{IsLikely}
use Rattle.rig_families.specs.Versions.{Named}
use Rattle.rig_images.specs.Keys.{key_of}
use Rattle.rig_play.specs.Plays.{Files}
use Rattle.rig_images.specs.Images.{AreCounts, IsNumbered, image_count}
use Rattle.rig_images.specs.Left.{MayLeave}
use Rattle.rig_images.specs.Torn.{MayLeaveTorn, NoneTears}
use Rattle.rig_images.specs.declared.counts.Counts.{Counts}
use Rattle.rig_images.specs.declared.fixed.Fixed.{Fixed}
use Rattle.rig_images.specs.declared.image.Image.{Image}
use Rattle.rig_images.specs.declared.torn.Which.{Which}
use Rattle.rig_images.specs.declared.torn.Which.TheVariants.{Db, Wal, Journal}
use Rattle.rig_judge.specs.Judged.{IsFilesJudgment}
use Rattle.rig_judge.specs.declared.judgment.Judgment.{Judgment}
use Rattle.rig_judge.specs.declared.judgment.Judgment.TheVariants.{Kept, Lost, Mixed, Fault, Refused}
use Rattle.sqcrash.specs.Runs.{RunState, Explains}
use Rattle.sqcrash.specs.Told.{Told}
use Rattle.sqcrash.specs.declared.survey.Tally.{Tally}
use Rattle.rig_missing.specs.declared.missing.Missing.{Missing}
use Rattle.rig_shrink.specs.Shrunk.{IsShrunk}
use Rattle.sqcrash.specs.declared.survey.Survey.{Survey}

-- this is the scan of a log, if there is one
abbrev pub IsLogScan : List ℕ → Option Scan → Type 0
IsLogScan log None = Unit {0}
IsLogScan log (Some scan) = Took log scan

-- of an image's log
abbrev pub IsScanOf : Image → Option Scan → Type 0
IsScanOf image scan = IsLogScan image.wal.items scan

-- the same where that is fixed; otherwise there is none
abbrev pub IsFixedScan : Fixed → Image → Option Scan → Type 0
IsFixedScan fixed image None = Unit {0}
IsFixedScan fixed image (Some scan) = IsTrue fixed.wal × Took image.wal.items scan

abbrev pub is_lost : Judgment → Bool
is_lost (Lost k) = true
is_lost _ = false

abbrev pub is_mixed : Judgment → Bool
is_mixed Mixed = true
is_mixed _ = false

-- no well-formed database is shown, or none
abbrev pub is_fault : Judgment → Bool
is_fault (Fault e) = true
is_fault (Refused e) = true
is_fault _ = false

abbrev pub no_tally : Tally
no_tally = record { points = 0; images = 0; lost = 0; mixed = 0; faults = 0 }

-- nothing is wrong
pub record IsClean (t : Tally) : Type 0 where
  pub lost : t.lost ≡ 0
  pub mixed : t.mixed ≡ 0
  pub faults : t.faults ≡ 0

abbrev pub with_point : Tally → Tally
with_point t = record t { points = t.points + 1 }

-- one, if so
abbrev pub one_if : Bool → ℕ
one_if b = cond b 1 0

-- with one more image, which is judged so
abbrev pub with_image : Tally → Judgment → Tally
with_image t j = record t { images = t.images + 1; lost = t.lost + one_if (is_lost j); mixed = t.mixed + one_if (is_mixed j); faults = t.faults + one_if (is_fault j) }

-- an image, its judgment, and the calls that aren't down in it, where these are told
pub record Judged : Type 0 where
  pub image : Image
  pub judgment : Judgment
  pub missing : List Missing

abbrev pub judgments : List Judged → List Judgment
judgments judged = map (λ x. x.judgment) judged

-- with more images
abbrev pub with_images : Tally → List Judgment → Tally
with_images t js = record t { images = t.images + length js; lost = t.lost + count_by is_lost js; mixed = t.mixed + count_by is_mixed js; faults = t.faults + count_by is_fault js }

-- what is told of the image of a number: its judgment, where something is wrong, and the calls that aren't down
abbrev pub finding_of : (n : ℕ) → Judgment → List Missing → List Told
finding_of n (Kept k) missing = []
finding_of n j missing = record { image = n; judgment = j; missing = missing } ∷ []

-- and of images one after the other, from a number on
abbrev pub findings_from : (n : ℕ) → List Judged → List Told
findings_from n [] = []
findings_from n (x ∷ judged) = finding_of n x.judgment x.missing ++ findings_from (suc n) judged

-- nothing is found yet at the next point
pub record IsBegun (before : Tally) (s : Survey) : Type 0 where
  pub tally : s.tally ≡ with_point before
  pub findings : s.findings.items ≡ []
  pub next : s.next ≡ 0

-- two images are wrong in the same way: a commit is lost, the database is mixed, or none that is well formed is shown
abbrev pub are_alike : Judgment → Judgment → Bool
are_alike (Kept i) k = false
are_alike (Lost i) k = is_lost k
are_alike Mixed k = is_mixed k
are_alike (Fault e) k = is_fault k
are_alike (Refused e) k = is_fault k

-- an image is wrong in the same way as one that is judged so, or isn't
abbrev pub IsFoundAs : RunState → Judgment → Image → Bool → Type 0
IsFoundAs run j image same = (k : Judgment) × IsFilesJudgment run.commits run.known image.db.items image.wal.items image.journal.items k × (same ≡ are_alike j k)

-- the image that is shown of one with something wrong: where it is to be shrunk, one of which nothing more can be brought down
abbrev pub ShowsBy : (shrinks : Option ℕ) → RunState → Judgment → Image → Image → Type 0
ShowsBy None run j image shown = shown ≡ image
ShowsBy (Some sector) run j image shown = IsShrunk (IsFoundAs run j) run.files sector image shown

-- the same of any image: where nothing is wrong with it, it is shown as it is
abbrev pub Shows : RunState → Judgment → Image → Image → Type 0
Shows run (Kept k) image shown = shown ≡ image
Shows run j image shown = ShowsBy run.shrinks run j image shown

-- the calls that aren't down in what is shown of an image, where something is wrong with it
abbrev pub ExplainsWrong : RunState → Image → Judgment → List Missing → Type 0
ExplainsWrong run image (Kept k) missing = missing ≡ []
ExplainsWrong run image j missing = (shown : Image) × ShowsBy run.shrinks run j image shown × Explains run shown missing

-- an image has its judgment, by the commits of the run, and these calls aren't down in it
pub record IsJudgedBy (run : RunState) (x : Judged) : Type 0 where
  pub judged : IsFilesJudgment run.commits run.known x.image.db.items x.image.wal.items x.image.journal.items x.judgment
  pub missing : ExplainsWrong run x.image x.judgment x.missing

-- images are judged, counted and told, by their numbers at the point
pub record Tells (run : RunState) (judged : List Judged) (old new : Survey) : Type 0 where
  pub each : All (IsJudgedBy run) judged
  pub tally : new.tally ≡ with_images old.tally (judgments judged)
  pub findings : new.findings.items ≡ old.findings.items ++ findings_from old.next judged
  pub next : new.next ≡ old.next + length judged

-- images are those of the numbers from n on
abbrev pub AreNumbered : RunState → Counts → (n : ℕ) → List Judged → Type 0
AreNumbered run c n [] = Unit {0}
AreNumbered run c n (x ∷ judged) = IsNumbered run.files c n x.image × AreNumbered run c (suc n) judged

-- all images, by their numbers
pub record IsNumberedSurvey (run : RunState) (old new : Survey) : Type 0 where
  pub judged : List Judged
  pub counts : Counts
  pub are : AreCounts run.files counts
  pub numbered : AreNumbered run counts 0 judged
  pub all : length judged ≡ image_count run.files
  pub told : Tells run judged old new

-- what is shown of an image: another one, or itself
abbrev pub shown_of : Image → Option Image → Image
shown_of image None = image
shown_of image (Some other) = other

-- two images have the same files
pub record AreSame (x y : Image) : Type 0 where
  pub db : x.db.items ≡ y.db.items
  pub wal : x.wal.items ≡ y.wal.items
  pub journal : x.journal.items ≡ y.journal.items

-- images that are drawn of those that may be left: no two are the same, and there are no more than so many, but one at least
pub record IsSample (Left : Image → Type 0) (run : RunState) (limit : ℕ) (old new : Survey) : Type 0 where
  pub judged : List Judged
  pub left : All (λ x. Left x.image) judged
  pub differ : AllPairs (λ x y. ¬ AreSame x.image y.image) judged
  pub some : 0 < limit → 0 < length judged
  pub most : length judged ≤ limit
  pub told : Tells run judged old new

-- half of them, or one more where they are odd
abbrev pub half_of : ℕ → ℕ
half_of n = (n + 1) / 2

-- Of the images that are judged the likeliest come first: half of the limit, or one of each key of theirs where these are fewer.
pub record AreLikeliestFirst (s : Files) (versions : List Named) (limit : ℕ) (judged : List Judged) : Type 0 where
  pub likely : List Judged
  pub drawn : List Judged
  pub first : judged ≡ likely ++ drawn
  pub are : All (λ x. IsLikely s versions x.image) likely
  pub most : length likely ≤ half_of limit
  pub all : (length likely ≡ half_of limit) ⊎ ((image : Image) → IsLikely s versions image → Contains (map (λ x. key_of x.image) likely) (key_of image))

-- of those that a crash may leave, first the likeliest, also by the versions of the files behind earlier calls, and then others
pub record IsDrawnSurvey (versions : List Named) (run : RunState) (limit : ℕ) (old new : Survey) : Type 0 where
  pub sample : IsSample (MayLeave run.files) run limit old new
  pub likeliest : AreLikeliestFirst run.files versions limit sample.judged

-- of those in which a sector of this file is torn, where one may be
abbrev pub IsTornSurvey : RunState → Which → (limit : ℕ) → (old new : Survey) → Type 0
IsTornSurvey run w limit old new = IsSample (MayLeaveTorn run.files w) run limit old new ⊎ (NoneTears run.files w × (new ≡ old))

-- a third, and one where that leaves something
abbrev pub third_of : ℕ → ℕ
third_of n = (n + 2) / 3

-- all that a crash may leave with no sector torn, where they are no more than the limit, otherwise some that are drawn
abbrev pub IsUntornSurvey : (versions : List Named) → RunState → (limit : ℕ) → (old new : Survey) → Type 0
IsUntornSurvey versions run limit old new =
    ((image_count run.files ≤ limit) × IsNumberedSurvey run old new) ⊎ ((limit < image_count run.files) × IsDrawnSurvey versions run limit old new)

-- The images of a point: those with no sector torn, and where sectors may tear a third as many in which one of the database file is
-- torn, of the log, and of the journal.
pub record IsSurvey (versions : List Named) (run : RunState) (limit : ℕ) (before : Tally) (s : Survey) : Type 0 where
  pub begun : Survey
  pub begins : IsBegun before begun
  pub mid : Survey
  pub untorn : IsUntornSurvey versions run limit begun mid
  pub db : Survey
  pub torn_db : IsTornSurvey run Db (third_of limit) mid db
  pub wal : Survey
  pub torn_wal : IsTornSurvey run Wal (third_of limit) db wal
  pub torn_journal : IsTornSurvey run Journal (third_of limit) wal s
