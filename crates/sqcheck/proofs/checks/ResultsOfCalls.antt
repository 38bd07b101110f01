-- Results of calls.
use Rattle.sqcheck.proofs.Words.{Bool, Err, IfErr, IfOk, IsErrAnd, MatchResult, Ok, OnOk, Result, false, is_err, subst, sym, true, ◌∙◌, ◌≡◌}

pub on_ok : {A E : Type 0} (P Q : Type 0) (r : Result A E) → (P → Q) → OnOk r P → OnOk r Q
on_ok P Q (Ok x) f h = f h
on_ok P Q (Err e) f h = h

-- What holds of a result that is Ok, where it was asked whether it is an error.
pub of_ok : {A E : Type 0} (P : Type 0) (r : Result A E) (b : Bool) → b ≡ is_err r → b ≡ false → OnOk r P → P
of_ok P (Ok x) b said right h = h
of_ok P (Err e) b said right h = absurd (let both : false ≡ true = sym right ∙ said in cc)

pub if_both : {A E : Type 0} (P Q : A → Type 0) (r : Result A E) → IfOk r P → IfOk r Q → IfOk r (λ x. P x × Q x)
if_both P Q (Ok x) h k = (h, k)
if_both P Q (Err e) h k = h

-- what holds anyway
pub anyway : {A E : Type 0} (P : Type 0) (r : Result A E) → P → OnOk r P
anyway P (Ok x) h = h
anyway P (Err e) h = tt

pub if_ok : {A E : Type 0} (P Q : A → Type 0) (r : Result A E) → ((x : A) → P x → Q x) → IfOk r P → IfOk r Q
if_ok P Q (Ok x) f h = f x h
if_ok P Q (Err e) f h = h

pub if_err : {A E : Type 0} (P Q : E → Type 0) (r : Result A E) → ((e : E) → P e → Q e) → IfErr r P → IfErr r Q
if_err P Q (Ok x) f h = h
if_err P Q (Err e) f h = f e h

-- What the exit of a `?` answers, where errors stay what they are.
pub exits : {T E : Type 0} (R : E → Type 0) (x : E) (r : Result T E) → IsErrAnd r (λ y. y ≡ x) → R x → IfErr r R
exits R x (Ok v) h p = absurd h
exits R x (Err y) h p = subst R (sym h) p

-- The same of a result of which something is said where it is Ok too.
pub exits_as : {T E : Type 0} (P : T → Type 0) (R : E → Type 0) (x : E) (r : Result T E) → IsErrAnd r (λ y. y ≡ x) → R x → MatchResult r P R
exits_as P R x (Ok v) h p = absurd h
exits_as P R x (Err y) h p = subst R (sym h) p

-- Of a result that is Ok more is said, and of an error the same.
pub on_match : {A E : Type 0} (P Q : Type 0) (R : E → Type 0) (r : Result A E) → (P → Q) → MatchResult r (λ _. P) R → MatchResult r (λ _. Q) R
on_match P Q R (Ok x) f h = f h
on_match P Q R (Err e) f h = h

-- what is said of a result where it is Ok, and where it is an error
pub ok_of : {A E : Type 0} (P : A → Type 0) (R : E → Type 0) (r : Result A E) → MatchResult r P R → IfOk r P
ok_of P R (Ok x) h = h
ok_of P R (Err e) h = tt

pub err_of : {A E : Type 0} (P : A → Type 0) (R : E → Type 0) (r : Result A E) → MatchResult r P R → IfErr r R
err_of P R (Ok x) h = tt
err_of P R (Err e) h = h

pub both_ok : {A E : Type 0} (P Q : Type 0) (r : Result A E) → OnOk r P → OnOk r Q → OnOk r (P × Q)
both_ok P Q (Ok x) h k = (h, k)
both_ok P Q (Err e) h k = h
