use Rattle.std.proofs.Common.{[], ◌∷◌, ◌++◌}
use Rattle.sqcrash.specs.Lines.{stopped_text, missings_text}
use Rattle.sqcrash.proofs.AppendedBytes.{appends_more}
use Rattle.sqcrash.proofs.explained.write_why.Goals as goal

pub returns : goal.returns
returns g c =
    appends_more (g.O.Write.contents c.args.out.now) (g.O.Write.contents c.writeln.new.self) (g.O.Write.contents c.write_missings.new.out) (stopped_text c.args.style c.args.at ++ 10 ∷ [])
    (missings_text c.args.style c.args.missing.now) c.in_ok-writeln.ensures.bytes c.in_ok-write_missings.ensures
