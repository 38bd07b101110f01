use Rattle.sqcheck.proofs.Words.{IsRootOf, refl, subst, sym}
use Rattle.sqcheck.proofs.schema.schema_root.Goals as goal

pub returns-in-Ok : goal.returns-in-Ok
returns-in-Ok c = λ r. (
  (λ e. let v = (c.in-Ok.ensures.read c.in-Ok.row).0 refl in record { values = c.in-Ok.row; read = v.1; short = v.0; names = (c.root_in.ensures r).0 e }),
  (λ is. let same = (c.in-Ok.ensures.read is.values).1 (is.short, is.read) in (c.root_in.ensures r).1 (subst (λ v. IsRootOf v r) (sym same) is.names)),
)

pub returns-in-Err : goal.returns-in-Err
returns-in-Err c = λ r. ((λ e. absurd (cc)), (λ is. absurd ((c.in-Err.ensures.read is.values).1 (is.short, is.read))))
