use Rattle.std.proofs.Common.{◌≡◌, ◌∙◌, ◌-◌, ◌<◌, ℕ, length, get_or, ap, arith}
use Rattle.std.proofs.lemmas.List.{length-replicate, get_or-replicate}
use Rattle.sqpage.specs.Freelist.{IsPage}
use Rattle.sqdeep.specs.declared.trees.Trees.{Trees}
use Rattle.sqdeep.specs.declared.trees.Use.TheVariants.{Aside}
use Rattle.sqdeep.proofs.UsesOfPages.{all_uses}
use Rattle.sqdeep.proofs.trees.find_trees.Goals as goal

pub returns-clause-ok : goal.returns-clause-ok
returns-clause-ok g c = λ right.
    let d = g.S.PageSource.pages c.args.source.now in
    let size = g.S.PageSource.size c.args.source.now in
    let v = c.in_ok-report.ensures.ok right in
    let old : Trees = record { uses = c.in-Ok.uses } in
    let n : ℕ = c.count-count.result in
    let long : length c.in-Ok.uses.items ≡ length d = ap length c.in-Ok.ensures ∙ length-replicate n Aside ∙ c.count-count.ensures in
    let none = λ (p : ℕ) (is : IsPage d p). (let lt : p - 1 < n = omega (arith, is.0, is.1, c.count-count.ensures) in ap (λ l. get_or l (p - 1) Aside) c.in-Ok.ensures ∙ get_or-replicate n (p - 1) Aside Aside lt) in
    (v.0, v.1, all_uses c.args.options.pointer_maps d size v.0 v.2 old c.visit_pages_with.new.visitor long none v.3 v.4)
