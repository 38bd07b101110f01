use Rattle.std.proofs.Common.{◌∙◌, inl, inr, sym}
use Rattle.cli_show_diff.specs.Changes.{texts_of}
use Rattle.cli_show_diff.specs.Frames.{IsTextLeft}
use Rattle.cli_show_diff.specs.LeftOut.{IsMadeLeft, IsNewLeft}
use Rattle.cli_show_diff.proofs.Answered.{if_ok}
use Rattle.cli_show_diff.proofs.left.is_new_left.Goals as goal

pub returns-then-is_trigger : goal.returns-then-is_trigger
returns-then-is_trigger c =
    let o = c.args.object.now in
    let of = sym c.is_trigger.ensures ∙ c.if-is_trigger.true in
    if_ok c.is_text_left.result (IsTextLeft o) (IsNewLeft (texts_of c.args.names.now) c.args.olds.now o) (λ left w. inl (of, w)) c.is_text_left.ensures

pub returns-then-is_made : goal.returns-then-is_made
returns-then-is_made c =
    let o = c.args.object.now in
    let made = c.is_made.ensures.yes c.if-is_made.true in
    if_ok c.is_made_left.result (IsMadeLeft o) (IsNewLeft (texts_of c.args.names.now) c.args.olds.now o) (λ left w. inr (inl (made.0, made.1, made.2, w))) c.is_made_left.ensures

pub returns : goal.returns
returns c = inr (inr (sym c.is_trigger.ensures ∙ c.if-is_trigger.false, c.is_made.ensures.not c.if-is_made.false, c.is_virtual_left.ensures))
