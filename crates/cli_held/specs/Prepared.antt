-- What is to be done with a command line, by its words (own).
use Rattle.std.specs.Prelude.{◌≡◌, ◌≢◌, ◌⊎◌, ◌++◌, ℕ, cond, false, List, [], codes, slice_get, string_bytes, unwrap_or, Some}
use Rattle.std.specs.Borrow.{Bor}
use Rattle.std.specs.Fmt.{decimal}
use Rattle.std.specs.List.{Contains}
use Rattle.sqlocks.specs.declared.plan.Want.{Want}
use Rattle.sqlocks.specs.declared.plan.Want.TheVariants.{Read, Recover as ToRecover}
use Rattle.cli_held.specs.Saying.{IsTakenApart}
use Rattle.cli_held.specs.Todo.{AreLeft, AreUnder, IsHidden, IsSaidWhy, MayAskNobody, texts}
use Rattle.cli_held.specs.Wants.{IsWanted}
use Rattle.cli_held.specs.declared.fdinfo.Held.TheVariants as held
use Rattle.cli_held.specs.declared.line.Line.{Line}
use Rattle.cli_held.specs.declared.todo.Locks.TheVariants as locks
use Rattle.cli_held.specs.declared.todo.Todo.{Todo}
use Rattle.cli_held.specs.declared.todo.Todo.TheVariants.{Run, Tell, Refuse}

-- the words taken apart, behind what stands before the command
pub record IsLineOf (words : List (List ℕ)) (line : Line) : Type 0 where
  pub hidden : IsHidden words line.hidden
  pub apart : IsTakenApart words line

-- for how many seconds locks are waited for where it isn't said
abbrev pub default_wait : Want → ℕ
default_wait Read = 5
default_wait ToRecover = 0

-- For how many seconds what is read is read again, where others change it meanwhile: not at all where no locks are to be taken, and
-- else for as long as a reader waits for them.
abbrev pub waits_of : Line → ℕ
waits_of line = cond line.is_unlocked 0 (unwrap_or line.wait (default_wait Read))

abbrev pub RunsFor : (words : List (List ℕ)) → (wait : ℕ) → Type 0
RunsFor words wait = (line : Line) × IsLineOf words line × (wait ≡ waits_of line)

-- the number that says what locks are wanted for
abbrev pub number_of : Want → ℕ
number_of Read = 0
number_of ToRecover = 1

-- the line that says which locks are wanted, for how many seconds they are waited for, and on the file of which path
abbrev pub wanting_text : Want → (wait : ℕ) → (path : List ℕ) → List ℕ
wanting_text want wait path = decimal (number_of want) ++ (codes " " ++ (decimal wait ++ (codes " " ++ (path ++ codes "\n"))))

-- A line is told where locks are to be taken and its words want some. Of the path that it names nothing is said, as std doesn't say
-- where a link leads.
pub record AreWanting (line : Line) (text : List ℕ) : Type 0 where
  pub locked : line.is_unlocked ≡ false
  pub want : Want
  pub file : Bor (List ℕ)
  pub wanted : IsWanted (texts line.words.items) want file
  pub path : List ℕ
  pub told : text ≡ wanting_text want (unwrap_or line.wait (default_wait want)) path

-- that, or nothing
abbrev pub IsToldOf : Line → (text : List ℕ) → Type 0
IsToldOf line text = (text ≡ []) ⊎ AreWanting line text

abbrev pub TellsWanted : (words : List (List ℕ)) → (text : List ℕ) → Type 0
TellsWanted words text = (line : Line) × IsLineOf words line × IsToldOf line text

-- These are carried out, as words that ask nobody only where they may be, and read again for as long as the line says; locks are
-- held only where some are.
abbrev pub IsPrepared : (words : List (List ℕ)) → Todo → Type 0
IsPrepared words (Run done under wait) = (Contains (texts done.items) (codes "--force") → MayAskNobody words under) × (under ≢ locks.Held held.Nothing)
    × AreLeft words (texts done.items) × AreUnder words under × RunsFor words wait
IsPrepared words (Tell told) = (slice_get words 1 ≡ Some (codes "--locks")) × TellsWanted words (string_bytes told)
IsPrepared words (Refuse done why) = (slice_get words 1 ≡ Some (codes "--refused")) × AreLeft words (texts done.items) × IsSaidWhy words why
