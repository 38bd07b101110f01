use Rattle.std.proofs.Common.{◌⊎◌, Bool, ℕ, List, false, inl, inr, true}
use Rattle.std.specs.Prelude.{MatchBool}
use Rattle.sqtables.specs.declared.list.Object.{Object}
use Rattle.cli_show_diff.specs.Frames.{IsTextLeft, IsTriggerNamed}
use Rattle.cli_show_diff.proofs.Answered.{if_ok}
use Rattle.cli_show_diff.proofs.frame.stays_for.Goals as goal

abbrev Stays : (name : List ℕ) (o : Object) → Bool → Type 0
Stays name o stays = MatchBool stays (IsTriggerNamed name o × IsTextLeft o true) ((¬ IsTriggerNamed name o) ⊎ IsTextLeft o false)

stays_case : (name : List ℕ) (o : Object) → IsTriggerNamed name o → (stays : Bool) → IsTextLeft o stays → Stays name o stays
stays_case name o named true w = (named, w)
stays_case name o named false w = inr w

pub returns-then-not-is_trigger_named : goal.returns-then-not-is_trigger_named
returns-then-not-is_trigger_named c = inl (c.is_trigger_named.ensures.not c.if-not-is_trigger_named.true)

pub returns : goal.returns
returns c =
    let o = c.args.object.now in
    let name = c.args.name.now in
    if_ok c.is_text_left.result (IsTextLeft o) (Stays name o) (stays_case name o (c.is_trigger_named.ensures.yes c.if-not-is_trigger_named.false)) c.is_text_left.ensures
