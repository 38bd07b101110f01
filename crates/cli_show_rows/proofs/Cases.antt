-- A fact by the case of a test.
use Rattle.std.proofs.Common.{◌≡◌, Bool, true, false, subst, sym}
use Rattle.std.specs.Prelude.{MatchBool}

pub when_true : (b : Bool) (P Q : Type 0) → b ≡ true → P → MatchBool b P Q
when_true b P Q holds p = subst (λ (x : Bool). MatchBool x P Q) (sym holds) p

pub when_false : (b : Bool) (P Q : Type 0) → b ≡ false → Q → MatchBool b P Q
when_false b P Q fails q = subst (λ (x : Bool). MatchBool x P Q) (sym fails) q
