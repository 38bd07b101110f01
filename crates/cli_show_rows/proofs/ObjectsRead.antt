-- Objects whose texts are read one by one.
use Rattle.std.proofs.Common.{◌≡◌, ◌<◌, ◌+◌, List, [], ◌∷◌, ◌++◌, ℕ, length, take, get_or, refl, sym, ap, ◌∙◌, subst, add-one}
use Rattle.std.proofs.Math.Seq.{take-suc}
use Rattle.sqdeep.specs.declared.text.Encoding.{Encoding}
use Rattle.sqtables.specs.declared.list.Object.{Object}
use Rattle.cli_show_rows.specs.Schemas.{AreObjectsRead, IsObjectRead}

objects_snoc : (encoding : Encoding) (stored : List Object) (s : Object) (objects : List Object) (o : Object)
    → AreObjectsRead encoding stored objects → IsObjectRead encoding s o → AreObjectsRead encoding (stored ++ s ∷ []) (objects ++ o ∷ [])
objects_snoc encoding [] s objects o are is = (o, [], is, refl, ap (λ z. z ++ o ∷ []) are)
objects_snoc encoding (x ∷ stored) s objects o are is = (are.0, are.1 ++ o ∷ [], are.2, objects_snoc encoding stored s are.1 o are.3 is, ap (λ z. z ++ o ∷ []) are.4)

-- one more
pub objects_more : (encoding : Encoding) (stored : List Object) (i : ℕ) (x : Object) (objects : List Object) (o : Object) → i < length stored
    → AreObjectsRead encoding (take i stored) objects → IsObjectRead encoding (get_or stored i x) o → AreObjectsRead encoding (take (i + 1) stored) (objects ++ o ∷ [])
objects_more encoding stored i x objects o within are is =
    let more : take (i + 1) stored ≡ take i stored ++ get_or stored i x ∷ [] = ap (λ n. take n stored) (add-one i) ∙ take-suc stored i x within in
    subst (λ (os : List Object). AreObjectsRead encoding os (objects ++ o ∷ [])) (sym more) (objects_snoc encoding (take i stored) (get_or stored i x) objects o are is)
