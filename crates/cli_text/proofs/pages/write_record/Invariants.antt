use Rattle.std.proofs.Common.{◌≡◌, ◌++◌, map}
use Rattle.std.specs.Io.KnownBytes.{Appends}
use Rattle.sqval.specs.Datum.{datum_of}
use Rattle.cli_text.specs.Pages.{columns_text}
use Rattle.cli_text.proofs.pages.write_record.Given as goal

abbrev pub invariant-loop-value : goal.invariant-loop-value
invariant-loop-value g l =
    (map datum_of l.yielded ++ l.value-iterator ≡ l.«record»)
    × Appends (g.W.Write.contents l.fn.out) (g.W.Write.contents l.out) (columns_text l.style (map datum_of l.yielded))
