-- What the parts of a commit promise one another (own).
use Rattle.std.specs.Prelude.{◌≡◌, ◌⊎◌, ℕ, ◌+◌, ◌≤◌, true, false, List, ◌++◌, drop, length, Some, None, Result, Ok, Err}
use Rattle.std.specs.List.{All}
use Rattle.std.specs.Borrow.{Bor}
use Rattle.sqval.specs.Bytes.{AreBytes}
use Rattle.sqwal.specs.Frames.{IsFrameHead}
use Rattle.sqwal.specs.declared.sum.Sum.{Sum}
use Rattle.sqwal.specs.declared.header.WalHeader.{WalHeader}
use Rattle.walcore.specs.Refusal.{number_of}
use Rattle.walcore.specs.CommitRefusals.{refusal_of}
use Rattle.sqval.specs.JudgedPages.{lent}
use Rattle.walcore.specs.declared.state.Core.{Core}
use Rattle.walcore.specs.declared.error.WalError.{WalError}
use Rattle.walcore.specs.declared.error.WalError.TheVariants.{NoMemory}
use Rattle.walcore.specs.Commits.{SameLog, SameMarks}

-- a commit of these pages isn't refused, and there is memory for it
pub record IsReady (pages : List (ℕ × Bor (List ℕ))) (size : ℕ) (core : Core) : Type 0 where
  pub granted : refusal_of core.size core.page_size core.used (lent pages) size ≡ None
  pub bound : size ≤ core.index.bound
  pub room : core.frames + length pages + 1 ≤ core.index.room
  pub bytes : All (λ x. AreBytes x.1.now) pages

-- a commit is granted, with memory for it; or refused by the first condition that holds, or by want of memory where none does
abbrev pub PrepareAnswer : {T : Type 0} → List (ℕ × Bor (List ℕ)) → (size : ℕ) → Result T WalError → (old new : Core) → Type 0
PrepareAnswer pages size (Ok _) old new = IsReady pages size new
PrepareAnswer pages size (Err e) old new =
    (refusal_of old.size old.page_size old.used (lent pages) size ≡ Some (number_of e)) ⊎ ((refusal_of old.size old.page_size old.used (lent pages) size ≡ None) × (e ≡ NoMemory))

-- so many pages more are in the log
pub record Counts (pages : ℕ) (old new : Core) : Type 0 where
  pub log : SameLog old new
  pub marks : SameMarks old new
  pub used : new.used ≡ old.used + pages
  pub unsynced : new.unsynced ≡ true

-- the commit is the newest one
pub record Ends (size : ℕ) (old new : Core) : Type 0 where
  pub log : SameLog old new
  pub is_open : new.is_open ≡ old.is_open
  pub drained : new.drained ≡ false
  pub mark : new.mark ≡ old.frames
  pub size_is : new.size ≡ size
  pub used : new.used ≡ old.used
  pub unsynced : new.unsynced ≡ old.unsynced
  pub marks : new.marks ≡ old.marks

-- a core is closed
pub record Closes (old new : Core) : Type 0 where
  pub page_size : new.page_size ≡ old.page_size
  pub is_open : new.is_open ≡ false
  pub marks : new.marks ≡ old.marks

-- the commit is the newest one, or the core is closed
abbrev pub EndAnswer : {T : Type 0} → (size : ℕ) → Result T WalError → (old new : Core) → Type 0
EndAnswer size (Ok _) old new = Ends size old new
EndAnswer size (Err e) old new = Closes old new

-- a frame in a buffer has this head now
pub record IsHeaded (h : WalHeader) (before : Sum) (page size : ℕ) (after : Sum) (old new : List ℕ) : Type 0 where
  pub head : List ℕ
  pub made : IsFrameHead h before page size (drop 24 old) head after
  pub bytes : new ≡ head ++ drop 24 old

-- all commits of a log are durable
pub record Rests (old new : Core) : Type 0 where
  pub log : SameLog old new
  pub marks : SameMarks old new
  pub used : new.used ≡ old.used
  pub unsynced : new.unsynced ≡ false

-- all commits are durable, or the core is closed
abbrev pub RestAnswer : {T : Type 0} → Result T WalError → (old new : Core) → Type 0
RestAnswer (Ok _) old new = Rests old new
RestAnswer (Err e) old new = Closes old new
