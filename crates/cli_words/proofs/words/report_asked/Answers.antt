use Rattle.std.proofs.Common.{◌≡◌, Bool, true, false, refl}
use Rattle.std.specs.Prelude.{IsTrue}
use Rattle.cli_words.proofs.words.report_asked.Goals as goal

-- what isn't false is true
is_true : (P : Type 0) (x : Bool) → (x ≡ false → ¬ P) → P → IsTrue x
is_true P true not holds = refl
is_true P false not holds = absurd (not refl holds)

pub returns : goal.returns
returns c = (c.if-not-are_known.ensures.yes refl, (c.in_ok-to.to, c.stands_in-changes.result, c.in_ok-to.ensures, (c.stands_in-changes.ensures.yes, is_true _ c.stands_in-changes.result c.stands_in-changes.ensures.not), refl))
