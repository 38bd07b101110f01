use Rattle.std.proofs.Common.{◌∙◌, ap}
use Rattle.sqtext.specs.Texts.{has_nul_or_cr}
use Rattle.sqtext.proofs.TextsRead.{text_once}
use Rattle.cli_row_text.proofs.value.is_plain.Goals as goal

pub returns-in-Some-clause-not : goal.returns-in-Some-clause-not
returns-in-Some-clause-not c = λ no utf8 plain.
    let e = c.in-Some.ensures in
    c.can_stand.ensures.not no utf8 (e.2 ∙ ap has_nul_or_cr (text_once c.args.form.encoding c.args.bytes.now e.0 utf8 e.1 plain.0)) plain.1

pub returns-in-None-clause-not : goal.returns-in-None-clause-not
returns-in-None-clause-not c = λ _ utf8 plain. c.in-None.ensures utf8 plain.0
