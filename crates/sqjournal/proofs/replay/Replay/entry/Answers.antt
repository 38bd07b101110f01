use Rattle.std.proofs.Common.{◌≡◌, ◌∙◌, slice_get, sym, ap, arith}
use Rattle.sqjournal.proofs.read.BytesTakenByReplay.{copied_at, has_entry, entry_zero, entry_some}
use Rattle.sqjournal.proofs.replay.Replay.entry.Goals as goal

pub returns-in_err-at : goal.returns-in_err-at
returns-in_err-at c =
    let none : c.args.i ≡ 0 = omega (arith, c.in_err-at.ensures) in
    λ b t. has_entry b c.args.self.now c.args.i c.from_residual.result t (c.from_residual.ensures ∙ sym (entry_zero c.args.self.now.records.items c.args.i none))

pub returns : goal.returns
returns c =
    let es = c.args.self.now.records.items in
    let found : c.copied.result ≡ slice_get c.deref.result.now c.in_ok-at.at = c.copied.ensures ∙ copied_at c.deref.result.now c.in_ok-at.at c.get.result c.get.ensures.lookup.0 c.get.ensures.lookup.1 in
    λ b t. has_entry b c.args.self.now c.args.i c.copied.result t
    (found ∙ ap (λ l. slice_get l c.in_ok-at.at) c.deref.ensures.value ∙ ap (slice_get es) c.in_ok-at.ensures.1 ∙ sym (entry_some es c.args.i (λ z. omega (arith, c.in_ok-at.ensures.0))))
