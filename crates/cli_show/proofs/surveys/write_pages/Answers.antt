use Rattle.std.proofs.Common.{[], ◌∷◌, ◌++◌, arith}
use Rattle.cli_text.specs.Pages.{page_line_text}
use Rattle.cli_show.specs.PageLines.{IsPageLine}
use Rattle.cli_show.proofs.LinesOfPages.{appends_line, each_more, length_more}
use Rattle.cli_show.proofs.surveys.write_pages.Goals as goal

pub loop-i-preserved : goal.loop-i-preserved
loop-i-preserved g c =
    let so_far = c.loop-i.invariant in
    let line = c.line_of-line.result in (
      so_far.0 ++ line ∷ [],
      length_more so_far.0 line c.loop-i.i so_far.1,
      each_more (IsPageLine c.args.found.now) so_far.0 c.loop-i.i line so_far.1 so_far.2 c.line_of-line.ensures,
      appends_line (g.W.Write.contents c.args.out.now) (g.W.Write.contents c.loop-i.out) (g.W.Write.contents c.write.new.out)
          (page_line_text c.args.style) so_far.0 line so_far.3 c.in_ok-write.ensures,
    )

pub returns : goal.returns
returns g c =
    let lines = c.loop-i.invariant in (
      lines.0,
      record {
        all = omega (arith, lines.1, c.loop-i-test.false, c.loop-i.auto.i-end, c.len-i-end.ensures, c.args.found.now.survey.roles.ok.0);
        each = lines.2;
      },
      lines.3,
    )
