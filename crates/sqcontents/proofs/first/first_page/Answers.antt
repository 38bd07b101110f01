use Rattle.std.proofs.Common.{◌≡◌, ◌≤◌, ◌++◌, ℕ, List, length, take, drop, arith, length-append}
use Rattle.std.proofs.lemmas.Grind.{common_steps}
use Rattle.std.proofs.lemmas.List.{length-take}
use Rattle.sqval.specs.PageSize.{IsPageSize}
use Rattle.sqval.proofs.page.FilePages.{size_some}
use Rattle.sqcontents.proofs.first.first_page.Goals as goal

-- what was read over bytes of a page's size has no less than the least size
long_enough : (size n : ℕ) (out old : List ℕ) → IsPageSize size → n ≡ size → length out ≡ size → 512 ≤ length (take n (out ++ drop (length out) old))
long_enough size n out old is many long =
    let least = size_some size is in
    omega (arith, length-take n (out ++ drop (length out) old), length-append out (drop (length out) old), least)

pub returns-in-Ok-page-clause-size : goal.returns-in-Ok-page-clause-size
returns-in-Ok-page-clause-size g c =
    let size = c.get-size.result in
    let many : c.in-Ok.bytes.len ≡ size = grind (arith, common_steps) in
    let long : length c.page.new.out ≡ size = grind (arith, common_steps) in
    long_enough size c.in-Ok.bytes.len c.page.new.out c.in-Ok.bytes.items c.get-size.ensures.valid many long
