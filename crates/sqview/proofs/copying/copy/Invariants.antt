use Rattle.std.proofs.Common.{◌≡◌, length, take}
use Rattle.std.specs.List.{concat}
use Rattle.std.specs.Io.KnownBytes.{Appends, append_known}
use Rattle.sqview.specs.LogView.{pages_of}
use Rattle.sqview.specs.Shapes.{shape_of}
use Rattle.sqview.proofs.copying.copy.Given as goal

abbrev pub invariant-loop-before : goal.invariant-loop-before
invariant-loop-before g l =
    let bytes = g.F.FileBytes.bytes in
    record {
      same : shape_of bytes l.view ≡ shape_of bytes l.fn.view;
      right : g.F.FileBytes.reads_right l.fn.view.db × g.F.FileBytes.reads_right l.fn.view.log → g.F.FileBytes.reads_right l.view.db × g.F.FileBytes.reads_right l.view.log;
      gives : g.F.FileBytes.gives_bytes l.fn.view.db × g.F.FileBytes.gives_bytes l.fn.view.log → g.F.FileBytes.gives_bytes l.view.db × g.F.FileBytes.gives_bytes l.view.log;
      long : length l.page.items ≡ l.fn.view.page_size;
      written : g.F.FileBytes.reads_right l.fn.view.db × g.F.FileBytes.reads_right l.fn.view.log → Appends (g.W.Write.contents l.fn.out) (append_known (g.W.Write.contents l.out) l.run.items) (concat (take l.before (pages_of bytes l.fn.view)));
    }
