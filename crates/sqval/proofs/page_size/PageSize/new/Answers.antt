use Rattle.std.proofs.Common.{refl, arith}
use Rattle.std.proofs.lemmas.Bool.Decides.{nat_tests}
use Rattle.sqval.proofs.page.PageSizes.{IsOneOf, one_of, is_page_size}
use Rattle.sqval.proofs.page_size.PageSize.new.Goals as goal

pub invariant_of-result : goal.invariant_of-result
invariant_of-result c = is_page_size c.args.bytes (let h = c.if-contains.ensures.value in let g : IsOneOf c.args.bytes = grind (arith, nat_tests, h) in g)

pub returns-then-contains-clause-valid : goal.returns-then-contains-clause-valid
returns-then-contains-clause-valid c = (λ _. is_page_size c.args.bytes (let h = c.if-contains.ensures.value in let g : IsOneOf c.args.bytes = grind (arith, nat_tests, h) in g), λ _. refl)

pub returns-else-contains-clause-valid : goal.returns-else-contains-clause-valid
returns-else-contains-clause-valid c = (λ e. (cc), λ s. let h = c.if-contains.ensures.value in let o = one_of c.args.bytes s in grind (arith, nat_tests, h, o))
