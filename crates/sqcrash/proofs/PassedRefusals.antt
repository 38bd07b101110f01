-- What `?` hands on of a refusal.
use Rattle.std.proofs.Common.{◌≡◌, Result, Err, sym, ◌∙◌, ap, subst}
use Rattle.std.specs.Result.{MatchResult, IsErrAnd}
use Rattle.std.proofs.lemmas.Result.{err_from_is_err_and}

pub passed : {T E : Type 0} (r : Result T E) (e : E) (P : T → Type 0) (Q : E → Type 0) → IsErrAnd r (λ x. x ≡ e) → Q e → MatchResult r P Q
passed {T} {E} r e P Q is holds = let p = err_from_is_err_and r is in subst (λ (x : Result T E). MatchResult x P Q) (sym p.1) (subst Q (sym p.2) holds)

pub is_passed : {T E : Type 0} (r : Result T E) (e : E) → IsErrAnd r (λ x. x ≡ e) → r ≡ Err e
is_passed r e is = let p = err_from_is_err_and r is in p.1 ∙ ap Err p.2
