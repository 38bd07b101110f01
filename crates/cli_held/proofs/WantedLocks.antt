-- What is told of the locks that words want.
use Rattle.std.proofs.Common.{◌≡◌, inr, ◌∙◌, ap, subst, ℕ, List, Bor}
use Rattle.std.specs.Prelude.{Option, None, Some, IfSome, MatchOption, false, unwrap_or}
use Rattle.sqlocks.specs.declared.plan.Want.{Want}
use Rattle.cli_held.specs.Prepared.{IsToldOf, default_wait, wanting_text}
use Rattle.cli_held.specs.Todo.{texts}
use Rattle.cli_held.specs.Wants.{IsWanted}
use Rattle.cli_held.specs.declared.line.Line.{Line}

-- what is found is of this kind where it is of another that is
pub some_of : {T : Type 0} (found : Option T) (P : Type 0) (Q R : T → Type 0) → ((x : T) → Q x → R x) → MatchOption found P Q → IfSome found R
some_of None P Q R so is = tt
some_of (Some x) P Q R so is = so x is

-- a line of the locks that words want
pub wanting : (line : Line) (words : List (Bor (List ℕ))) (want : Want) (file : Bor (List ℕ)) (wait : ℕ) (path text : List ℕ) → line.is_unlocked ≡ false
    → words ≡ line.words.items → IsWanted (texts words) want file → wait ≡ unwrap_or line.wait (default_wait want) → text ≡ wanting_text want wait path → IsToldOf line text
wanting line words want file wait path text locked same wanted waits told = inr (record {
  locked = locked;
  want = want;
  file = file;
  wanted = subst (λ (w : List (Bor (List ℕ))). IsWanted (texts w) want file) same wanted;
  path = path;
  told = told ∙ ap (λ (n : ℕ). wanting_text want n path) waits;
})
