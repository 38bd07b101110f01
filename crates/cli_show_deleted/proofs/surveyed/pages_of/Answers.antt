use Rattle.std.proofs.Common.{◌≡◌, ◌∙◌, length, inl, ap, arith}
use Rattle.sqdeep.specs.declared.text.Encoding.{Encoding}
use Rattle.cli_row_text.specs.Lines.{form_of}
use Rattle.cli_show_deleted.specs.Printed.{notation_in}
use Rattle.cli_show_deleted.proofs.PagesBetween.{encoding_none}
use Rattle.cli_show_deleted.proofs.surveyed.pages_of.Goals as goal

pub returns-then-count-eq0-clause-ok : goal.returns-then-count-eq0-clause-ok
returns-then-count-eq0-clause-ok g c = λ right.
    let d = g.S.PageSource.pages c.args.source.now in
    let none : length d ≡ 0 = omega arith in
    record {
      roles = inl (none, c.no_pages.ensures.roles);
      usable = inl none;
      form = c.no_pages.ensures.form ∙ ap (λ (e : Encoding). form_of (notation_in c.args.style) e) (encoding_none d none);
    }
