-- Records that are played one after the other.
use Rattle.std.proofs.Common.{◌≡◌, ℕ, List, [], ◌∷◌, ◌++◌, inl, inr, Result, Err, IsErrAnd, refl, ◌∙◌, ap, subst}
use Rattle.rig_play.specs.Plays.{Files, Step, StepRefused, Plays, PlaysRefused}
use Rattle.rig_play.specs.declared.error.PlayError.{PlayError}
use Rattle.rig_play.specs.declared.trace.Record.{Record}
use Rattle.std.proofs.lemmas.Result.{err_from_is_err_and}

-- one more
pub plays_more : (b : List ℕ) (records : List Record) (r : Record) (old mid new : Files) → Plays b records old mid → Step b r mid new → Plays b (records ++ r ∷ []) old new
plays_more b [] r old mid new is step = (new, subst (λ (s : Files). Step b r s new) is step, refl)
plays_more b (first ∷ records) r old mid new plays step = (plays.0, plays.1, plays_more b records r plays.0 mid new plays.2 step)

-- and one that can't be played behind those that were
pub plays_refused : (b : List ℕ) (before records : List Record) (r : Record) (old mid : Files) (e : PlayError) → Plays b before old mid → StepRefused mid b r e → PlaysRefused b (before ++ r ∷ records) old e
plays_refused b [] records r old mid e is refused = inl (subst (λ (s : Files). StepRefused s b r e) is refused)
plays_refused b (first ∷ before) records r old mid e plays refused = inr (plays.0, plays.1, plays_refused b before records r plays.0 mid e plays.2 refused)

-- what `?` hands on
pub passed : {T E : Type 0} (r : Result T E) (e : E) → IsErrAnd r (λ x. x ≡ e) → r ≡ Err e
passed r e is = let p = err_from_is_err_and r is in p.1 ∙ ap Err p.2
