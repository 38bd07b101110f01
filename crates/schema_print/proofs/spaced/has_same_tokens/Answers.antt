-- `==` of pieces decides whether they are equal.
use Rattle.std.proofs.Common.{rules}
use Rattle.std.proofs.lemmas.Slice.Eq.{slice_eq-Decides}
use Rattle.schema_print.proofs.spaced.has_same_tokens.Goals as goal

pub returns : goal.returns
returns c = slice_eq-Decides (λ a b. (λ t. search rules, λ e. search rules)) _ _ _ c.eq.ensures
