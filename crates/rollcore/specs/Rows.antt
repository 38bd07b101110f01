-- Worked runs of the machine (own). Each page has 512 bytes, and the base is three pages.
use Rattle.std.specs.Prelude.{◌≡◌, ◌≢◌, ℕ, List, [], ◌∷◌, length, None}
use Rattle.sqval.specs.Database.{Database}
use Rattle.sqval.specs.Answers.{Files, Answer, Done, Page, Refused}
use Rattle.sqval.specs.Runs.{Moment, IsRun}
use Rattle.rollcore.specs.Alone.{Show}
use Rattle.rollcore.specs.Refusal.{number_of}
use Rattle.rollcore.specs.declared.error.RollError.{RollError}
use Rattle.rollcore.specs.declared.error.RollError.TheVariants.{Closed, EmptyCommit, PageZero, PageAboveSize, Device, NonceMissing}
use Rattle.rollcore.specs.Machine.{Act, Opens, Commits, Reads, Crashes, Sets, start, Step}
use Rattle.recovery.specs.Moments.{did, then_did}

-- a call is refused, by this error
abbrev pub Fails : RollError → Answer
Fails error = Refused (number_of error)

-- three pages of this content
abbrev pub three : List ℕ → Database
three a = a ∷ a ∷ a ∷ []

-- page 1 alone is left, and has this content
abbrev pub puts : List ℕ → Act
puts content = Commits ((1, content) ∷ []) 1 (7 ∷ [])

-- the files show this database
abbrev pub Finds : Files → Database → Type 0
Finds found d = Show 512 found.db found.log d

-- the moments are a run of the machine on a base of three such pages
pub record IsRunOn (base : List ℕ) (ms : List (Moment Act)) : Type 0 where
  pub run : IsRun Step (start 512 (three base)) ms

-- what holds of two pages and of what two openings find, the first of them the base
abbrev pub ForAll : ((a b : List ℕ) (first second : Files) → Type 0) → Type 0
ForAll P = (a b : List ℕ) (first second : Files) → length a ≡ 512 → length b ≡ 512 → Finds first (three a) → P a b first second

-- ---- Runs.

-- what was committed is shown after a crash
abbrev pub Committed : Type 0
Committed = ForAll (λ a b first second. Finds second (b ∷ []) → IsRunOn a
    (did (Opens first) Done ∷ did (puts b) Done ∷ did (Crashes None) Done ∷ did (Opens second) Done ∷ did (Reads 1) (Page b) ∷ []))

-- a commit that the disk stops closes the machine; an opening shows the base
abbrev pub Stopped : Type 0
Stopped = ForAll (λ a b first second. Finds second (three a) → IsRunOn a
    (did (Opens first) Done ∷ did Sets Done ∷ then_did (puts b) (Fails Device) ∷ then_did (Reads 1) (Fails Closed) ∷ then_did (Crashes None) Done
    ∷ then_did (Opens second) Done ∷ then_did (Reads 3) (Page a) ∷ []))

-- or what was to be committed
abbrev pub StoppedLate : Type 0
StoppedLate = ForAll (λ a b first second. Finds second (b ∷ []) → IsRunOn a
    (did (Opens first) Done ∷ did Sets Done ∷ then_did (puts b) (Fails Device) ∷ then_did (Crashes None) Done
    ∷ then_did (Opens second) Done ∷ then_did (Reads 1) (Page b) ∷ []))

-- what is refused changes nothing
abbrev pub CallsRefused : Type 0
CallsRefused = ForAll (λ a b first second. IsRunOn a
    (did (puts b) (Fails Closed) ∷ did (Opens first) Done ∷ did (Reads 0) (Fails PageZero) ∷ did (Reads 4) (Fails PageAboveSize)
    ∷ did (Commits ((1, b) ∷ []) 1 []) (Fails NonceMissing) ∷ did (Commits [] 1 []) (Fails EmptyCommit) ∷ did (Reads 3) (Page a) ∷ []))

-- ---- No runs.

-- a commit that is done is lost
abbrev pub NoLostCommit : Type 0
NoLostCommit = ForAll (λ a b first second. Finds second (three a) → IsRunOn a
    (did (Opens first) Done ∷ did (puts b) Done ∷ did (Crashes None) Done ∷ did (Opens second) Done ∷ []) → ⊥)

-- half of a commit is shown
abbrev pub NoHalf : Type 0
NoHalf = ForAll (λ a b first second. a ≢ b → Finds second (b ∷ a ∷ a ∷ []) → IsRunOn a
    (did (Opens first) Done ∷ did Sets Done ∷ then_did (puts b) (Fails Device) ∷ then_did (Crashes None) Done ∷ then_did (Opens second) Done ∷ []) → ⊥)
