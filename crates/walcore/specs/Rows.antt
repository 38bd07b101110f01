-- Worked runs of the machine (own). Each page has 512 bytes, and the base is one page.
use Rattle.std.specs.Prelude.{◌≡◌, ◌≢◌, ℕ, List, [], ◌∷◌, length, None}
use Rattle.sqval.specs.Database.{Database}
use Rattle.walcore.specs.Alone.{Show}
use Rattle.sqval.specs.Answers.{Files, Done, Reader, Page, Complete, Partial, NoReader, Refused}
use Rattle.walcore.specs.Machine.{Act, Opens, Commits, Syncs, Begins, Reads, Ends, Checkpoints, Restarts, Crashes, Sets, start, Step}
use Rattle.sqval.specs.Runs.{Moment, IsRun}
use Rattle.recovery.specs.Moments.{did, then_did}

-- a commit of page 1
abbrev pub puts : List ℕ → Act
puts content = Commits ((1, content) ∷ []) 1

-- the files show this database
abbrev pub Finds : Files → Database → Type 0
Finds found d = Show 512 found.db found.log d

-- the moments are a run of the machine on a base of this page
pub record IsRunOn (base : List ℕ) (ms : List (Moment Act)) : Type 0 where
  pub run : IsRun Step (start 512 (base ∷ [])) ms

-- what holds of four pages and of what three openings find, the first of them the base
abbrev pub ForAll : ((a b c d : List ℕ) (first second third : Files) → Type 0) → Type 0
ForAll P = (a b c d : List ℕ) (first second third : Files)
    → length a ≡ 512 → length b ≡ 512 → length c ≡ 512 → length d ≡ 512 → Finds first (a ∷ []) → P a b c d first second third

-- ---- Runs.

-- what is synced is shown after a crash
abbrev pub Synced : Type 0
Synced = ForAll (λ a b c d first second third. Finds second (b ∷ []) → IsRunOn a
    (did (Opens (1, 2) first) Done ∷ did (puts b) Done ∷ did Syncs Done ∷ did (puts c) Done ∷ did (Crashes None) Done
    ∷ did (Opens (3, 4) second) Done ∷ did Begins (Reader 0) ∷ did (Reads 0 1) (Page b) ∷ []))

-- what isn't may be lost
abbrev pub Lost : Type 0
Lost = ForAll (λ a b c d first second third. Finds second (a ∷ []) → IsRunOn a
    (did (Opens (1, 2) first) Done ∷ did (puts b) Done ∷ did (puts c) Done ∷ did (Crashes None) Done
    ∷ did (Opens (3, 4) second) Done ∷ did Begins (Reader 0) ∷ did (Reads 0 1) (Page a) ∷ []))

-- the commits b, c and d, of which the first alone is left; then c again, and a crash
abbrev pub one_is_left : (b c d : List ℕ) → (first second third : Files) → List (Moment Act) → List (Moment Act)
one_is_left b c d first second third ms =
    did (Opens (1, 2) first) Done ∷ did (puts b) Done ∷ did (puts c) Done ∷ did (puts d) Done ∷ did (Crashes None) Done
    ∷ did (Opens (3, 4) second) Done ∷ did Begins (Reader 0) ∷ did (Reads 0 1) (Page b)
    ∷ did (puts c) Done ∷ did (Crashes None) Done ∷ did (Opens (5, 6) third) Done ∷ ms

-- what was lost doesn't come back
abbrev pub LostForGood : Type 0
LostForGood = ForAll (λ a b c d first second third. Finds second (b ∷ []) → Finds third (c ∷ []) → IsRunOn a
    (one_is_left b c d first second third (did Begins (Reader 1) ∷ did (Reads 1 1) (Page c) ∷ [])))

-- a checkpoint and a restart wait for readers
abbrev pub Waits : Type 0
Waits = ForAll (λ a b c d first second third. IsRunOn a
    (did (Opens (1, 2) first) Done ∷ did (puts b) Done ∷ did Begins (Reader 0) ∷ did (puts c) Done ∷ did Checkpoints Partial
    ∷ did (Reads 0 1) (Page b) ∷ did (Restarts 3) (Refused 11) ∷ did (Ends 0) Done ∷ did Checkpoints Complete ∷ did (Restarts 3) Done ∷ []))

-- a restart that the disk stops
abbrev pub Stopped : Type 0
Stopped = ForAll (λ a b c d first second third. Finds second (b ∷ []) → IsRunOn a
    (did (Opens (1, 2) first) Done ∷ did (puts b) Done ∷ did Checkpoints Complete ∷ did Begins (Reader 0) ∷ did (Restarts 3) (Refused 12)
    ∷ did (Ends 0) Done ∷ did Sets Done ∷ then_did (Restarts 3) (Refused 15) ∷ then_did (Crashes None) Done
    ∷ then_did (Opens (5, 6) second) Done ∷ then_did Begins (Reader 1) ∷ then_did (Reads 1 1) (Page b) ∷ []))

-- refused commits change nothing
abbrev pub CommitsRefused : Type 0
CommitsRefused = ForAll (λ a b c d first second third. (short : List ℕ) → length short ≡ 511 → IsRunOn a
    (did (puts b) (Refused 1) ∷ did (Opens (1, 2) first) Done ∷ did (Commits [] 1) (Refused 2) ∷ did (Commits ((2, b) ∷ []) 1) (Refused 5)
    ∷ did (Commits ((3, b) ∷ []) 3) (Refused 7) ∷ did (Commits ((1, b) ∷ (1, c) ∷ []) 1) (Refused 6) ∷ did (puts short) (Refused 8)
    ∷ did Begins (Reader 0) ∷ did (Reads 0 1) (Page a) ∷ []))

-- a sync that the disk refuses closes the machine, and what an opening then shows stays
abbrev pub SyncFailed : Type 0
SyncFailed = ForAll (λ a b c d first second third. Finds second (b ∷ []) → Finds third (b ∷ []) → IsRunOn a
    (did (Opens (1, 2) first) Done ∷ did (puts b) Done ∷ did Sets Done ∷ then_did Syncs (Refused 15) ∷ then_did (Reads 0 1) NoReader
    ∷ then_did Syncs (Refused 1) ∷ then_did (Opens (3, 4) second) Done ∷ then_did (Crashes None) Done
    ∷ then_did (Opens (5, 6) third) Done ∷ then_did Begins (Reader 0) ∷ then_did (Reads 0 1) (Page b) ∷ []))

-- a crash forgets a reader
abbrev pub Forgotten : Type 0
Forgotten = ForAll (λ a b c d first second third. Finds second (b ∷ []) → IsRunOn a
    (did (Opens (1, 2) first) Done ∷ did Begins (Reader 0) ∷ did (puts b) Done ∷ did (Crashes None) Done ∷ did (Reads 0 1) NoReader
    ∷ did (Opens (3, 4) second) Done ∷ did Begins (Reader 1) ∷ did (Reads 1 1) (Page b) ∷ []))

-- each of two readers has the database at which it began
abbrev pub TwoReaders : Type 0
TwoReaders = ForAll (λ a b c d first second third. IsRunOn a
    (did (Opens (1, 2) first) Done ∷ did (Commits ((1, b) ∷ (2, b) ∷ []) 2) Done ∷ did Begins (Reader 0) ∷ did (puts c) Done
    ∷ did (Reads 0 2) (Page b) ∷ did Begins (Reader 1) ∷ did (Reads 1 2) (Refused 5) ∷ did Checkpoints Partial ∷ did (Ends 0) Done
    ∷ did Checkpoints Complete ∷ did (Restarts 3) (Refused 12) ∷ did (Ends 1) Done ∷ did (Restarts 3) Done ∷ []))

-- ---- No runs.

-- what was synced is lost
abbrev pub NoLostSync : Type 0
NoLostSync = ForAll (λ a b c d first second third. a ≢ b → a ≢ c → Finds second (a ∷ []) → IsRunOn a
    (did (Opens (1, 2) first) Done ∷ did (puts b) Done ∷ did Syncs Done ∷ did (puts c) Done ∷ did (Crashes None) Done
    ∷ did (Opens (3, 4) second) Done ∷ []) → ⊥)

-- the second commit without the first
abbrev pub NoSkipped : Type 0
NoSkipped = ForAll (λ a b c d first second third. a ≢ b → Finds second (a ∷ c ∷ []) → IsRunOn a
    (did (Opens (1, 2) first) Done ∷ did (puts b) Done ∷ did (Commits ((2, c) ∷ []) 2) Done ∷ did (Crashes None) Done
    ∷ did (Opens (3, 4) second) Done ∷ []) → ⊥)

-- what was lost comes back
abbrev pub NoReturn : Type 0
NoReturn = ForAll (λ a b c d first second third. b ≢ d → c ≢ d → Finds second (b ∷ []) → Finds third (d ∷ []) → IsRunOn a
    (one_is_left b c d first second third []) → ⊥)

-- a reader is given a later page
abbrev pub NoOtherPage : Type 0
NoOtherPage = ForAll (λ a b c d first second third. a ≢ b → IsRunOn a
    (did (Opens (1, 2) first) Done ∷ did Begins (Reader 0) ∷ did (puts b) Done ∷ did (Reads 0 1) (Page b) ∷ []) → ⊥)

-- a checkpoint is complete with a reader behind
abbrev pub NoEarlyComplete : Type 0
NoEarlyComplete = ForAll (λ a b c d first second third. IsRunOn a
    (did (Opens (1, 2) first) Done ∷ did (puts b) Done ∷ did Begins (Reader 0) ∷ did (puts c) Done ∷ did Checkpoints Complete ∷ []) → ⊥)
