use Rattle.std.proofs.Common.{◌∙◌, List, map, ap}
use Rattle.sqlite_ast.specs.declared.Keyed.{Keyed}
use Rattle.sqkeys.specs.Entries.{rising}
use Rattle.sqkeys.proofs.EntriesOver.{of_automatic}
use Rattle.sqkeys.proofs.entry_key.keyed_automatic_of.Goals as goal

pub returns : goal.returns
returns c =
    of_automatic c.args.table.now c.args.number c.args.schema_format c.in-Some.made c.in-Some-2.named.now c.in-Some-3.key.items c.deref-2.result.now c.deref-3.result.now c.entry_over.result (rw c.in-Some.is at c.in_ok-made.ensures)
    (rw c.in-Some-2.is at c.in_ok-named.ensures) (rw c.in-Some-3.is at c.in_ok-key.ensures) c.deref-2.ensures.value
    (c.deref-3.ensures.value ∙ c.in_ok-behind.ensures ∙ ap (λ (k : List Keyed). map rising k) c.deref.ensures.value) c.entry_over.ensures.key c.entry_over.ensures.plain
