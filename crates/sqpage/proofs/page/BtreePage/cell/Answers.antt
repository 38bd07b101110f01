use Rattle.std.proofs.Common.{◌<◌, sym, subst}
use Rattle.sqpage.specs.Page.{cell_count_in, cell_count, HasParts}
use Rattle.sqpage.proofs.page.BtreePage.cell.Goals as goal

pub unreachable-requires : goal.unreachable-requires
unreachable-requires c =
    let lt : c.args.i < cell_count_in c.self.inside.used.now c.self.inside.number = subst (λ p. c.args.i < cell_count p) (sym c.self.view_is) c.requires in
    absurd (c.self.invariant.cells c.args.i lt (λ has. let h = (c.in-None.ensures.found has.0).1 (subst (λ at. HasParts c.self.inside.kind c.self.inside.used.now at has.0) (sym c.pointer-at.ensures.value) has.1) in absurd (cc)))
