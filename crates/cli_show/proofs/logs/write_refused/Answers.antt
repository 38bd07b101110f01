use Rattle.std.proofs.Common.{◌∙◌, ℕ, [], ◌∷◌, OnOk, subst}
use Rattle.std.specs.Prelude.{codes}
use Rattle.std.specs.Io.KnownBytes.{Appends}
use Rattle.cli_text.specs.Facts.{number_text, object_text}
use Rattle.cli_show.proofs.logs.write_refused.Goals as goal

pub returns : goal.returns
returns g c =
    let style = c.args.style in
    let old = g.W.Write.contents c.args.out.now in
    let new = g.W.Write.contents c.write_facts.new.out in
    subst (λ (n : ℕ). OnOk c.write_facts.result (Appends old new (object_text style (number_text style (codes "wal refused") n ∷ []))))
    (c.from.ensures ∙ c.number.ensures) c.write_facts.ensures
