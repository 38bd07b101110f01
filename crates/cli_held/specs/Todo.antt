-- What words say of whoever starts the program, of locks, and of what is left of them (own).
use Rattle.std.specs.Prelude.{◌≡◌, ◌≢◌, ◌⊎◌, ℕ, false, List, map, codes, slice_get, Option, Some, None}
use Rattle.std.specs.Borrow.{Bor}
use Rattle.std.specs.List.{Contains}
use Rattle.cli_words.specs.Line.{IsNamed}
use Rattle.sqlocks.specs.declared.plan.Want.{Want}
use Rattle.cli_held.specs.Held.{TellsSo}
use Rattle.cli_held.specs.declared.fdinfo.Held.TheVariants as held
use Rattle.cli_held.specs.declared.line.Hidden.{Hidden}
use Rattle.cli_held.specs.declared.line.Hidden.TheVariants as hidden
use Rattle.cli_held.specs.declared.line.Line.{Line}
use Rattle.cli_held.specs.declared.todo.Locks.{Locks}
use Rattle.cli_held.specs.declared.todo.Locks.TheVariants as locks
use Rattle.cli_held.specs.declared.todo.Why.{Why}
use Rattle.cli_held.specs.declared.todo.Why.TheVariants as whys

abbrev pub texts : List (Bor (List ℕ)) → List (List ℕ)
texts words = map (λ w. w.now) words

-- none of the words is one that says how locks are taken
abbrev pub SaysNothing : (words : List (List ℕ)) → Type 0
SaysNothing words = (word : List ℕ) → Contains words word → (word ≢ codes "--no-lock") × (¬ IsNamed (codes "--wait") word)

-- what the second and the third word say of whoever starts the program
abbrev pub IsHidden : (words : List (List ℕ)) → Option Hidden → Type 0
IsHidden words None = (word : List ℕ) → slice_get words 2 ≡ Some word → (slice_get words 1 ≢ Some (codes "--locks")) × (slice_get words 1 ≢ Some (codes "--held")) × (slice_get words 1 ≢ Some (codes "--refused"))
IsHidden words (Some hidden.Locks) = slice_get words 1 ≡ Some (codes "--locks")
IsHidden words (Some (hidden.Held numbers)) = (slice_get words 1 ≡ Some (codes "--held")) × (slice_get words 2 ≡ Some numbers.now)
IsHidden words (Some (hidden.Refused why)) = (slice_get words 1 ≡ Some (codes "--refused")) × (slice_get words 2 ≡ Some why.now)

-- words that say nothing of locks, nor anything before the command, are left as they are
abbrev pub IsPlainLine : (words : List (List ℕ)) → Line → Type 0
IsPlainLine words line = line.hidden ≡ None → SaysNothing words → (texts line.words.items ≡ words) × (line.wait ≡ None) × (line.is_unlocked ≡ false)

-- a recovery asks nobody: that was said, or no locks were wanted, or SQLite's own are held that keep all others off
abbrev pub MayAskNobody : (words : List (List ℕ)) → Locks → Type 0
MayAskNobody words under = Contains words (codes "--force") ⊎ Contains words (codes "--no-lock") ⊎ (under ≡ locks.Held held.Everything)

-- nothing stands before the command
abbrev pub IsBare : (words : List (List ℕ)) → Type 0
IsBare words = (slice_get words 1 ≢ Some (codes "--locks")) × (slice_get words 1 ≢ Some (codes "--held")) × (slice_get words 1 ≢ Some (codes "--refused"))

-- each is one of these words, or the one by which nobody is asked
abbrev pub AreSome : (words done : List (List ℕ)) → Type 0
AreSome words done = (word : List ℕ) → Contains done word → Contains words word ⊎ (word ≡ codes "--force")

-- What is left of words without what they say of locks, and what stands before the command: they themselves, where they
-- say nothing of them and nothing stands there.
pub record AreLeft (words done : List (List ℕ)) : Type 0 where
  pub only : AreSome words done
  pub plain : IsBare words → SaysNothing words → done ≡ words

-- Locks are held only where whoever starts the program says so and a text of the system tells so; there are none where the file is
-- only where that was said.
abbrev pub AreUnder : (words : List (List ℕ)) → Locks → Type 0
AreUnder words locks.None = Unit {0}
AreUnder words locks.NotThere = (slice_get words 1 ≡ Some (codes "--refused")) × (slice_get words 2 ≡ Some (codes "no-locks"))
AreUnder words (locks.Held held) = (slice_get words 1 ≡ Some (codes "--held")) × ((want : Want) × TellsSo want held)

-- why locks can't be had, by the word that says it
abbrev pub IsReason : (word : List ℕ) → Why → Type 0
IsReason word whys.NoLocks = word ≡ codes "no-locks"
IsReason word whys.FileFailed = word ≡ codes "file-failed"
IsReason word whys.InUse = (word ≢ codes "no-locks") × (word ≢ codes "file-failed")

-- that was said before the command
abbrev pub IsSaidWhy : (words : List (List ℕ)) → Why → Type 0
IsSaidWhy words why = (word : List ℕ) × (slice_get words 2 ≡ Some word) × IsReason word why
