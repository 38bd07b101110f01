-- The steps of a plan, and what they come to, in numbers (own).
use Rattle.std.specs.Prelude.{◌≡◌, ℕ, Bool, true, false, List, map, nat_eq, if◌then◌else◌}
use Rattle.sqlocks.specs.Bytes.{bytes_of}
use Rattle.sqlocks.specs.Runs.{IsRun, MayAsk, log_of}
use Rattle.sqlocks.specs.declared.plan.Want.{Want}
use Rattle.sqlocks.specs.declared.plan.Want.TheVariants.{Read, Recover}
use Rattle.sqlocks.specs.declared.plan.Target.TheVariants.{Database, Index}
use Rattle.sqlocks.specs.declared.plan.Lock.{Lock}
use Rattle.sqlocks.specs.declared.plan.Reason.TheVariants.{InUse, NoLocks, Failed}
use Rattle.sqlocks.specs.declared.plan.Step.{Step}
use Rattle.sqlocks.specs.declared.plan.Step.TheVariants.{Open, Take, Give, Compare, LookForFolder, Look, LookAtJournal, AskReserved, CompareJournal, Wait, Go, GoUnlocked, GiveUp, End}
use Rattle.sqlocks.specs.declared.plan.Answer.{Answer}
use Rattle.sqlocks.specs.declared.plan.Answer.TheVariants.{Given, Refused, Missing, Unsupported}
use Rattle.sqlocks_c.specs.declared.step.LockStep.{LockStep}

abbrev pub want_of : ℕ → Want
want_of n = if nat_eq n 0 then Read else Recover

abbrev pub answer_of : ℕ → Answer
answer_of n = if nat_eq n 0 then Given else if nat_eq n 1 then Refused else if nat_eq n 2 then Missing else Unsupported

abbrev pub plain : (kind is_of_index reason : ℕ) → LockStep
plain kind is_of_index reason = record { kind = kind; is_of_index = is_of_index; is_exclusive = 0; reason = reason; start = 0; count = 0 }

abbrev pub on_bytes : (kind : ℕ) → Lock → LockStep
on_bytes kind lock = let bytes = bytes_of lock in record {
  kind = kind;
  is_of_index = if bytes.is_of_index then 1 else 0;
  is_exclusive = if bytes.is_exclusive then 1 else 0;
  reason = 0;
  start = bytes.start;
  count = bytes.count;
}

-- RESERVED_BYTE of SQLite's os.h, asked about as who wants it by itself
abbrev pub on_reserved : LockStep
on_reserved = record { kind = 6; is_of_index = 0; is_exclusive = 1; reason = 0; start = 1073741825; count = 1 }

abbrev pub numbers_of : Step → LockStep
numbers_of (Open Database) = plain 0 0 0
numbers_of (Open Index) = plain 0 1 0
numbers_of (Take lock) = on_bytes 1 lock
numbers_of (Give lock) = on_bytes 2 lock
numbers_of Compare = plain 3 0 0
numbers_of Look = plain 4 0 0
numbers_of Wait = plain 5 0 0
numbers_of AskReserved = on_reserved
numbers_of LookAtJournal = plain 7 0 0
numbers_of CompareJournal = plain 8 0 0
numbers_of LookForFolder = plain 9 0 0
numbers_of Go = plain 10 0 0
numbers_of GoUnlocked = plain 11 0 0
numbers_of (GiveUp InUse) = plain 12 0 0
numbers_of (GiveUp NoLocks) = plain 12 0 1
numbers_of (GiveUp Failed) = plain 12 0 2
numbers_of End = plain 13 0 0

-- each step behind these answers was one that may be asked, and so is the one with these numbers
pub record IsNext (want : ℕ) (answers : List ℕ) (out : LockStep) : Type 0 where
  pub step : Step
  pub run : IsRun (want_of want) (log_of (want_of want) (map answer_of answers))
  pub may : MayAsk (want_of want) (log_of (want_of want) (map answer_of answers)) step
  pub numbers : out ≡ numbers_of step
