use Rattle.std.proofs.Common.{◌≤◌, ℕ, ◌∙◌, ap, take, arith}
use Rattle.sqview.specs.Shapes.{Shape}
use Rattle.sqpast.specs.Used.{used_by}
use Rattle.sqpast.proofs.known.UsedPages.{used_fits, used_view}
use Rattle.sqpast.proofs.used.leave_used.Goals as goal

pub shorten-requires : goal.shorten-requires
shorten-requires g c = omega (arith, c.used.ensures, used_fits c.in_ok-counts.counts, c.in_ok-counts.ensures.all, ap (λ (x : Shape). x.count) c.counts_of.ensures.same)

pub returns-clause-used : goal.returns-clause-used
returns-clause-used g c = λ rights.
    let v = c.counts_of.new.view in
    let counts = c.in_ok-counts.counts in
    let le : used_by counts ≤ v.count = omega (arith, used_fits counts, c.in_ok-counts.ensures.all, ap (λ (x : Shape). x.count) c.counts_of.ensures.same) in
    used_view g.F.FileBytes.bytes c.args.view.now v c.shorten.new.self counts (c.in_ok-counts.ensures.right rights) c.counts_of.ensures.same le (c.shorten.ensures.count ∙ c.used.ensures)
    c.shorten.ensures.sizes (c.shorten.ensures.places ∙ ap (λ (n : ℕ). take n v.places.items) c.used.ensures) c.shorten.ensures.files
