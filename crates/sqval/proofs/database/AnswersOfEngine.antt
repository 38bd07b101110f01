-- What an engine answers, of its parts.
use Rattle.std.proofs.Common.{◌≡◌, ◌⊎◌, inl, inr, ℕ, ◌<◌, ◌≤◌, Bool, true, false, not, ◌==◌, nat_lt, [], ◌∷◌, IsTrue, Option, Some, None, refl, sym, ◌∙◌, ap, subst, arith}
use Rattle.std.specs.Prelude.{Result, Err, IsErrAnd, IfErr, MatchResult}
use Rattle.std.proofs.lemmas.Bool.Decides.{nat_tests}
use Rattle.std.proofs.lemmas.Result.{err_from_is_err_and}
use Rattle.sqval.specs.Answers.{Answer, Refused, HasCause, Refuses, told, is_accepted, IsShort}
use Rattle.sqval.specs.CommitFaults.{first_true}

-- ---- What a `?` gives on.

pub passed : {T E : Type 0} (r : Result T E) (e : E) → IsErrAnd r (λ x. x ≡ e) → r ≡ Err e
passed r e is = let p = err_from_is_err_and r is in p.1 ∙ ap Err p.2

pub if_err : {T E : Type 0} (r : Result T E) (e : E) (P : E → Type 0) → r ≡ Err e → P e → IfErr r P
if_err {T = T} {E = E} r e P is p = subst (λ (x : Result T E). IfErr x P) (sym is) p

pub match_err : {T E : Type 0} (r : Result T E) (e : E) (P : T → Type 0) (Q : E → Type 0) → r ≡ Err e → Q e → MatchResult r P Q
match_err {T = T} {E = E} r e P Q is q = subst (λ (x : Result T E). MatchResult x P Q) (sym is) q

-- ---- A refusal.

abbrev pub IsOf : Answer → (takes_memory needs_disk : Bool) → Answer → (before after : ℕ) → Type 0
IsOf wanted m d answer b a = (answer ≡ wanted) ⊎ (IsTrue (is_accepted wanted) × IsShort m d answer b a)

pub refused_of : {S : Type 0} (first : Option ℕ) (good : Answer) (m : Bool) (failed : S) (b a : ℕ) (old : S) (n : ℕ) (t : S) → IsTrue (is_accepted good)
    → Refuses first m failed b a old n t → IsOf (told first good) m true (Refused n) b a
refused_of (Some k) good m failed b a old n t is h = inl (ap Refused h.0)
refused_of None good m failed b a old n t is (inl h) = inr (is, inl (h.0, ap Refused h.1))
refused_of None good m failed b a old n t is (inr h) = inr (is, inr (refl, ap Refused h.0, h.1))

pub accepted : (first : Option ℕ) (good : Answer) → first ≡ None → good ≡ told first good
accepted first good e = sym (ap (λ f. told f good) e)

pub refuses_first : {S : Type 0} (o : Option ℕ) (first : ℕ) (memory : Bool) (failed s : S) (before after : ℕ) → o ≡ Some first → Refuses o memory failed before after s first s
refuses_first o first memory failed s before after e = subst (λ (x : Option ℕ). Refuses x memory failed before after s first s) (sym e) (refl, refl)

pub refuses_cause : {S : Type 0} (o : Option ℕ) (failed s : S) (before after : ℕ) → o ≡ None → HasCause before after → Refuses o false failed before after s 15 failed
refuses_cause o failed s before after e cause = subst (λ (x : Option ℕ). Refuses x false failed before after s 15 failed) (sym e) (inr (refl, cause, refl))

-- ---- A page that is read.

pub none_above : (b : Bool) (p n : ℕ) → b ≡ true → 1 ≤ p → p ≤ n → first_true ((not b, 1) ∷ (p == 0, 4) ∷ (nat_lt n p, 5) ∷ []) ≡ None
none_above b p n is one le = subst (λ (x : Bool). first_true ((not x, 1) ∷ (p == 0, 4) ∷ (nat_lt n p, 5) ∷ []) ≡ None) (sym is) (grind (arith, nat_tests))

pub is_zero : (b : Bool) (p n : ℕ) → b ≡ true → p ≡ 0 → first_true ((not b, 1) ∷ (p == 0, 4) ∷ (nat_lt n p, 5) ∷ []) ≡ Some 4
is_zero b p n is zero = subst (λ (x : Bool). first_true ((not x, 1) ∷ (p == 0, 4) ∷ (nat_lt n p, 5) ∷ []) ≡ Some 4) (sym is) (grind (arith, nat_tests))

pub is_above : (b : Bool) (p n : ℕ) → b ≡ true → 1 ≤ p → n < p → first_true ((not b, 1) ∷ (p == 0, 4) ∷ (nat_lt n p, 5) ∷ []) ≡ Some 5
is_above b p n is one lt = subst (λ (x : Bool). first_true ((not x, 1) ∷ (p == 0, 4) ∷ (nat_lt n p, 5) ∷ []) ≡ Some 5) (sym is) (grind (arith, nat_tests))

pub is_closed : (b : Bool) (p n : ℕ) → b ≡ false → first_true ((not b, 1) ∷ (p == 0, 4) ∷ (nat_lt n p, 5) ∷ []) ≡ Some 1
is_closed b p n is = ap (λ (x : Bool). first_true ((not x, 1) ∷ (p == 0, 4) ∷ (nat_lt n p, 5) ∷ [])) is
