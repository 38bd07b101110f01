-- What follows of an answer.
use Rattle.std.proofs.Common.{OnOk, Result, Ok, Err}
use Rattle.std.specs.Prelude.{IfErr, IfOk}

pub on_ok : {T E : Type 0} (answer : Result T E) (P Q : Type 0) → (P → Q) → OnOk answer P → OnOk answer Q
on_ok (Ok _) P Q follows p = follows p
on_ok (Err _) P Q follows p = tt

pub on_err : {T E : Type 0} (answer : Result T E) (P Q : E → Type 0) → ((e : E) → P e → Q e) → IfErr answer P → IfErr answer Q
on_err (Ok _) P Q follows p = tt
on_err (Err e) P Q follows p = follows e p

pub if_ok : {T E : Type 0} (answer : Result T E) (P Q : T → Type 0) → ((x : T) → P x → Q x) → IfOk answer P → IfOk answer Q
if_ok (Ok x) P Q follows p = follows x p
if_ok (Err _) P Q follows p = tt
