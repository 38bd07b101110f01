use Rattle.sqkeys.proofs.EntriesOver.{of_between}
use Rattle.sqkeys.proofs.entry_key.keyed_entry_of.Goals as goal

pub returns : goal.returns
returns c =
    of_between c.args.table.now c.args.index.now c.args.schema_format c.in-Some.made c.in-Some-2.read.1 c.in-Some-2.read.0 c.keyed_between.result (rw c.in-Some.is at c.in_ok-made.ensures) (rw c.in-Some-2.is at c.in_ok-read.ensures) c.keyed_between.ensures
