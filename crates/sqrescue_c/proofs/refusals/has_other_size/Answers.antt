use Rattle.std.proofs.Common.{◌≡◌, true, false, List, ℕ, sym, subst}
use Rattle.sqpage.specs.Header.{HasPageSize}
use Rattle.sqrescue_c.proofs.refusals.has_other_size.Goals as goal

pub returns-in-None : goal.returns-in-None
returns-in-None c = (
  λ yes. absurd (let no : false ≡ true = yes in cc),
  λ n. absurd (let no : false ≡ true = c.in-None.ensures.valid.1 (subst (λ (h : List ℕ). HasPageSize h) (sym c.head_of_file-head.ensures) n.is_size) in cc),
)
