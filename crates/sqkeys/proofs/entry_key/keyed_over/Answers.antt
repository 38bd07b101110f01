use Rattle.sqkeys.proofs.EntriesOver.{of_over}
use Rattle.sqkeys.proofs.entry_key.keyed_over.Goals as goal

pub returns-in-Some : goal.returns-in-Some
returns-in-Some c =
    of_over c.args.body.now c.args.format c.args.named.now c.in-Some.key.items c.deref.result.now c.deref-in-Some.result.now c.entry_over.result (rw c.in-Some.is at c.in_ok-key.ensures) c.deref.ensures.value c.deref-in-Some.ensures.value c.entry_over.ensures.key
