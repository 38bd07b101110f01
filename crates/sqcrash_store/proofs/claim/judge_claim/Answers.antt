use Rattle.std.proofs.Common.{Option, Some, None, Result, Ok, Err, IfOk, MatchResult, refl}
use Rattle.sqcrash_store.proofs.AppendedBytes.{appends_none}
use Rattle.sqcrash_store.proofs.claim.judge_claim.Goals as goal

-- what holds of each answer that is made, by what is said of it
when_ok : {T E : Type 0} (r : Result T E) (P P' : T → Type 0) (Q : E → Type 0) → MatchResult r P Q → ((x : T) → P x → P' x) → IfOk r P'
when_ok (Ok x) P P' Q is more = more x is
when_ok (Err e) P P' Q is more = tt

pub returns-in_default-clause-judged : goal.returns-in_default-clause-judged
returns-in_default-clause-judged g c =
    when_ok c.with_claim.result _ _ _ c.with_claim.ensures
    (λ tally is. (Some None, (c.if-not-claims_commit.ensures.0 refl, c.in_default.ensures), is, appends_none (g.O.Write.contents c.args.out.now)))
