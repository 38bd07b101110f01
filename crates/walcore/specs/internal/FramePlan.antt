-- What a fold copies, page after page (fileformat2, 4.3).
use Rattle.std.specs.Prelude.{◌≡◌, ℕ, ◌≤◌, List}
use Rattle.sqval.specs.Database.{file_page}
use Rattle.sqwal.specs.Frames.{content_of}
use Rattle.sqwal.specs.View.{Unnamed, IsLast}
use Rattle.recovery.specs.Copying.{PlanKind}
use Rattle.walcore.specs.declared.copying.Frames.{Frames}
use Rattle.walcore.specs.internal.Plans.{IsCopy}

-- page p of the file db, once the first of the pages that the frames 1 to m name are copied
pub record IsLeft (size : ℕ) (db w : List ℕ) (m steps p : ℕ) (content : List ℕ) : Type 0 where
  pub logged : p ≤ steps → (i : ℕ) → IsLast size w m p i → content ≡ content_of size w i
  pub other : (p ≤ steps → Unnamed size w m p) → content ≡ file_page size db p

-- the frames of a log as a plan; each page is a step
abbrev pub frame_plan : PlanKind Frames
frame_plan = record {
  between = 24;
  Takes = λ plan count steps. steps ≡ count;
  IsOf = λ plan size count w. IsCopy size count w plan.frames plan.index.now;
  Lacks = λ plan size w p. Unnamed size w plan.frames p;
  Leaves = λ plan size db w steps p content. IsLeft size db w plan.frames steps p content;
}
