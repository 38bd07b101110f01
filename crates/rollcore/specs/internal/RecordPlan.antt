-- What a replay copies, record after record (fileformat2, 3).
use Rattle.std.specs.Prelude.{◌≡◌, ℕ, List, take, unwrap_or}
use Rattle.sqval.specs.Bytes.{word}
use Rattle.sqval.specs.Database.{file_page}
use Rattle.sqjournal.specs.Journal.{Segment, IsHot, IsJournal}
use Rattle.sqjournal.specs.Restored.{all_records, last_content}
use Rattle.sqjournal.specs.Took.{HasCount}
use Rattle.sqjournal.specs.declared.reading.Why.{Why}
use Rattle.recovery.specs.Copying.{PlanKind}
use Rattle.rollcore.specs.declared.copying.Records.{Records}
use Rattle.rollcore.specs.internal.Phases.{Unnamed}
use Rattle.rollcore.specs.internal.Steps.{HasRead}

-- a journal that is hot was read, and names pages of this size
pub record IsReplay (plan : Records) (size : ℕ) (w : List ℕ) : Type 0 where
  pub read : HasRead w plan.scan.now
  pub hot : IsHot w
  pub same : size ≡ word w 24

-- page p of the file db, once the first records of a journal are copied
pub record IsLeft (db w : List ℕ) (steps p : ℕ) (content : List ℕ) : Type 0 where
  pub segments : List Segment
  pub at : ℕ
  pub why : Why
  pub is : IsJournal w segments at why
  pub last : content ≡ unwrap_or (last_content (take steps (all_records segments)) p) (file_page (word w 24) db p)

-- no record of a journal names page p
abbrev pub IsLacking : List ℕ → (p : ℕ) → Type 0
IsLacking w p = (segments : List Segment) (at : ℕ) (why : Why) → IsJournal w segments at why → Unnamed (all_records segments) p

-- the records of a journal as a plan; each record is a step
abbrev pub record_plan : PlanKind Records
record_plan = record {
  between = 8;
  Takes = λ plan count steps. (w : List ℕ) → HasRead w plan.scan.now → HasCount w steps;
  IsOf = λ plan size count w. IsReplay plan size w;
  Lacks = λ plan size w p. IsLacking w p;
  Leaves = λ plan size db w steps p content. IsLeft db w steps p content;
}
