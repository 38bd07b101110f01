use Rattle.std.proofs.Common.{◌≡◌, take, false}
use Rattle.std.specs.Prelude.{All}
use Rattle.std.specs.Str.{str_eq_ignore_ascii_case}
use Rattle.cli_show_salvage.proofs.tables.is_free.Given as goal

abbrev pub invariant-loop-object : goal.invariant-loop-object
invariant-loop-object l = All (λ o. str_eq_ignore_ascii_case o.name.items l.name ≡ false) (take l.object-index l.objects)
