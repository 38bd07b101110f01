-- What follows of an answer.
use Rattle.std.specs.Prelude.{Result, Ok, Err, IfOk}

pub if_ok : {T E : Type 0} (answer : Result T E) (P Q : T → Type 0) → ((x : T) → P x → Q x) → IfOk answer P → IfOk answer Q
if_ok (Ok x) P Q follows p = follows x p
if_ok (Err _) P Q follows p = tt
