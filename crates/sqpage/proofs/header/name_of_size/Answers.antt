use Rattle.std.proofs.Common.{◌≡◌, ℕ, ◌<◌, Result, Ok, Err, sym, ◌∙◌, ap, arith}
use Rattle.std.specs.Result.{OkIff, result_unwrap_or}
use Rattle.std.proofs.lemmas.Bool.Decides.{nat_tests}
use Rattle.sqval.proofs.page.PageSizes.{one_of, IsOneOf}
use Rattle.sqpage.specs.Header.{size_named_by}
use Rattle.sqpage.proofs.header.name_of_size.Goals as goal

named : {E : Type 0} (size : ℕ) (r : Result ℕ E) → IsOneOf size → OkIff r (size < 65536) size → size ≡ size_named_by (result_unwrap_or r 1)
named size (Ok n) one t = let e : size ≡ n = sym t.1 in let lt : size < 65536 = t.0 in grind (arith, nat_tests, one)
named size (Err e) one t = let h : size < 65536 → ⊥ = t in grind (arith, nat_tests, one)

pub returns : goal.returns
returns c = named c.args.size c.try_from.result (one_of c.args.size c.requires) c.try_from.ensures ∙ sym (ap size_named_by c.unwrap_or.ensures)
