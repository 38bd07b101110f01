use Rattle.std.proofs.Common.{◌∙◌, sym, ap}
use Rattle.std.specs.Prelude.{◌||◌, ◌&&◌, map}
use Rattle.std.specs.Str.{bytes_eq}
use Rattle.sqschema.specs.Items.{seen}
use Rattle.sqschema.specs.internal.Judging.{may_own, key_of}
use Rattle.sqschema.proofs.ItemsAt.{any_next}
use Rattle.sqschema.proofs.owners.owners.Goals as goal

pub items-preserved : goal.items-preserved
items-preserved c = λ key.
    let x = seen c.item_at.result.now in
    c.in_ok-add_owner.ensures key ∙ ap (λ b. b || (may_own c.args.views x && bytes_eq key (key_of 0 x.name))) (c.items.invariant key)
    ∙ sym (any_next (λ y. may_own c.args.views y && bytes_eq key (key_of 0 y.name)) (map seen c.args.items.now) c.items.i x c.item_at.ensures)
