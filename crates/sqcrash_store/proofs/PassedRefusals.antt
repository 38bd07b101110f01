-- What `?` hands on of a refusal.
use Rattle.std.proofs.Common.{◌≡◌, Result, Ok, Err, MatchResult, IsErrAnd, sym, subst}

-- what holds of an answer that is an error
pub of_error : {T E : Type 0} (r : Result T E) (C : Result T E → Type 0) (G : E → Type 0) → IsErrAnd r G → ((x : E) → G x → C (Err x)) → C r
of_error (Ok x) C G is more = absurd is
of_error (Err e) C G is more = more e is

-- what a clause says of one
pub made : {T E : Type 0} (r : Result T E) (P : T → Type 0) (Q G : E → Type 0) → IsErrAnd r G → ((x : E) → G x → Q x) → MatchResult r P Q
made (Ok x) P Q G is more = absurd is
made (Err e) P Q G is more = more e is

-- the same error
pub passed : {T E : Type 0} (r : Result T E) (e : E) (P : T → Type 0) (Q : E → Type 0) → IsErrAnd r (λ x. x ≡ e) → Q e → MatchResult r P Q
passed {T} {E} r e P Q is holds = made r P Q (λ (x : E). x ≡ e) is (λ x same. subst Q (sym same) holds)
