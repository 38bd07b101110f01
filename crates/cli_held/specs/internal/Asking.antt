-- Whether words that are to be carried out ask whether a file is in use (own).
use Rattle.std.specs.Prelude.{◌≡◌, ◌≢◌, ◌⊎◌, ℕ, List, Option, None, Some, codes}
use Rattle.std.specs.Borrow.{Bor}
use Rattle.std.specs.List.{Contains}
use Rattle.cli_held.specs.declared.fdinfo.Held.TheVariants as held
use Rattle.cli_held.specs.declared.line.Hidden.{Hidden}
use Rattle.cli_held.specs.declared.line.Hidden.TheVariants.{Held, Refused}
use Rattle.cli_held.specs.declared.todo.Locks.{Locks}
use Rattle.cli_held.specs.declared.todo.Locks.TheVariants as locks
use Rattle.cli_held.specs.declared.todo.Todo.{Todo}
use Rattle.cli_held.specs.declared.todo.Todo.TheVariants.{Run, Tell, Refuse}
use Rattle.cli_held.specs.declared.todo.Why.{Why}
use Rattle.sqlocks.specs.declared.plan.Want.{Want}
use Rattle.cli_held.specs.Held.{TellsSo}
use Rattle.cli_held.specs.Todo.{AreSome, IsReason, texts}

-- they ask as these words do, or all others are kept off
abbrev pub AsksAs : (words done : List (List ℕ)) → Locks → Type 0
AsksAs words done under = (Contains done (codes "--force") → Contains words (codes "--force") ⊎ (under ≡ locks.Held held.Everything)) × (under ≢ locks.Held held.Nothing)

-- they are these words, or where something stands before the command some of them
abbrev pub AreAs : Option Hidden → (words done : List (List ℕ)) → Type 0
AreAs None words done = done ≡ words
AreAs (Some hidden) words done = AreSome words done

-- locks are held, or aren't there, only where what stands before the command says so
abbrev pub IsUnder : Option Hidden → Locks → Type 0
IsUnder hidden locks.None = Unit {0}
IsUnder hidden locks.NotThere = (why : Bor (List ℕ)) × (hidden ≡ Some (Refused why)) × (why.now ≡ codes "no-locks")
IsUnder hidden (locks.Held held) = (numbers : Bor (List ℕ)) × (hidden ≡ Some (Held numbers)) × ((want : Want) × TellsSo want held)

-- it says why
abbrev pub IsWhy : Option Hidden → Why → Type 0
IsWhy hidden why = (word : Bor (List ℕ)) × (hidden ≡ Some (Refused word)) × IsReason word.now why

-- they are carried out so, and read again for so many seconds, or are refused
abbrev pub KeepsAsking : Option Hidden → (words : List (List ℕ)) → (wait : ℕ) → Todo → Type 0
KeepsAsking hidden words wait (Run done under said) = AsksAs words (texts done.items) under × AreAs hidden words (texts done.items) × IsUnder hidden under × (said ≡ wait)
KeepsAsking hidden words wait (Tell line) = ⊥
KeepsAsking hidden words wait (Refuse done why) = AreAs hidden words (texts done.items) × IsWhy hidden why

-- some of these words are carried out at once, while nothing is held
abbrev pub IsUnheld : (words : List (List ℕ)) → Todo → Type 0
IsUnheld words (Run done under wait) = (under ≡ locks.None) × AreSome words (texts done.items) × (wait ≡ 0)
IsUnheld words (Tell line) = ⊥
IsUnheld words (Refuse done why) = ⊥
