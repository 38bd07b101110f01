-- What a fold plans of a scanned log (own).
use Rattle.std.specs.Prelude.{◌≡◌, ℕ, ◌*◌, ◌^◌, ◌≤◌, nat_le, cond, List, length, Result, Ok, Err}
use Rattle.sqwal.specs.Header.{named_size}
use Rattle.sqwal.specs.Frames.{page_of, size_of, IsValidFrame, IsFront}
use Rattle.sqwal.specs.Index.{FrameTable}
use Rattle.sqwal.specs.declared.scan.Front.{Front}
use Rattle.crashdisk.specs.Call.{DiskState}
use Rattle.sqval.specs.Limits.{Bounds, greatest}
use Rattle.walcore.specs.Folding.{IsTooLargeWithin, IsOfOtherSize}
use Rattle.crashdisk.specs.Keeps.{HadRefusal}
use Rattle.walcore.specs.declared.plan.Plan.{Plan}
use Rattle.walcore.specs.declared.error.WalError.{WalError}
use Rattle.walcore.specs.declared.error.WalError.TheVariants.{TooLarge, PageSize, NoMemory, Device}
use Rattle.walcore.specs.Plans.{IsTable, IsFitWithin}

-- the page that frame i names, 0 where it is above the count
unfoldable pub wanted_page : (size count : ℕ) → List ℕ → (i : ℕ) → ℕ
wanted_page size count w i = cond (nat_le (page_of size w i) count) (page_of size w i) 0

-- what the copying of the frames 1 to m stands on
pub record IsCopy (size count : ℕ) (w : List ℕ) (m : ℕ) (t : FrameTable) : Type 0 where
  pub valid : IsValidFrame size w m
  pub size_is : count ≡ size_of size w m
  pub within : count * size ≤ greatest.bytes
  pub table : IsTable size count w m t

-- all that is needed to fold committed frames into a database of at most so many bytes
pub record IsReady (most size : ℕ) (w : List ℕ) (plan : Plan) : Type 0 where
  pub named : named_size w ≡ size
  pub few : plan.size * size ≤ most
  pub copy : IsCopy size plan.size w plan.frames plan.index
  pub sized : plan.page_size ≡ size

-- where frames are to be folded there is room for a page, and no more than for a few
abbrev pub HasRoom : Plan → Type 0
HasRoom plan = 1 ≤ plan.frames → (plan.page_size ≤ length plan.room.items) × (length plan.room.items ≤ 2 ^ 24)

-- what is planned for the log w, up to its front
pub record IsPlan (most size : ℕ) (w : List ℕ) (plan : Plan) : Type 0 where
  pub front : IsFront (named_size w) w plan.frames
  pub none : plan.frames ≡ 0 → plan.size ≡ 0
  pub some : 1 ≤ plan.frames → IsReady most size w plan

-- the log w can be folded, and this is its front
pub record IsJudged (limits : Bounds) (size : ℕ) (w : List ℕ) (f : Front) : Type 0 where
  pub fit : IsFitWithin limits size w
  pub front : IsFront (named_size w) w f.frames
  pub none : f.frames ≡ 0 → f.size ≡ 0
  pub some : 1 ≤ f.frames → (named_size w ≡ size) × (f.size ≡ size_of size w f.frames) × (f.size * size ≤ limits.bytes) × (f.size * size ≤ greatest.bytes)

-- why the log w cannot be: the first of these that holds
unfoldable pub LogRefused : (limits : Bounds) (size : ℕ) → List ℕ → WalError → Type 0
LogRefused limits size w TooLarge = IsTooLargeWithin limits w
LogRefused limits size w PageSize = (IsTooLargeWithin limits w → ⊥) × IsOfOtherSize size w
LogRefused limits size w _ = ⊥

-- what the judging of the log w answers
unfoldable pub JudgeAnswer : (limits : Bounds) (size : ℕ) → List ℕ → Result Front WalError → Type 0
JudgeAnswer limits size w (Ok f) = IsJudged limits size w f
JudgeAnswer limits size w (Err e) = LogRefused limits size w e

-- the same with memory for the fold
unfoldable pub PlanAnswer : (limits : Bounds) (size : ℕ) → List ℕ → Result Plan WalError → Type 0
PlanAnswer limits size w (Ok plan) = IsFitWithin limits size w × IsPlan limits.bytes size w plan
PlanAnswer limits size w (Err NoMemory) = Unit {0}
PlanAnswer limits size w (Err e) = LogRefused limits size w e

-- the same of a log on a disk
unfoldable pub ReadAnswer : (limits : Bounds) (size : ℕ) → List ℕ → Result Plan WalError → (old new : DiskState) → Type 0
ReadAnswer limits size w (Err Device) old new = HadRefusal old new
ReadAnswer limits size w result old new = PlanAnswer limits size w result
