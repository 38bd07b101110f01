use Rattle.std.proofs.Common.{◌≡◌, ℕ, subst, arith}
use Rattle.cli_show_salvage.specs.Faults.{AreFirstsWritten}
use Rattle.cli_show_salvage.proofs.FirstsWritten.{firsts_begun, firsts_written}
use Rattle.cli_show_salvage.proofs.faults.print_faults.Goals as goal

pub pages-init : goal.pages-init
pages-init g c = λ sorted. firsts_begun c.args.faults.now (g.W.Write.contents c.args.out.now)

pub pages-preserved : goal.pages-preserved
pages-preserved g c = λ sorted.
    firsts_written c.args.faults.now c.pages.i (g.W.Write.contents c.args.out.now) (g.W.Write.contents c.pages.out) (g.W.Write.contents c.print_first.new.out) (c.pages.invariant sorted) (c.in-Ok.ensures.ok sorted)

pub returns-clause-ok : goal.returns-clause-ok
returns-clause-ok g c = λ sorted.
    let all : c.pages.i ≡ c.args.count = omega arith in
    subst (λ (n : ℕ). AreFirstsWritten n c.args.faults.now (g.W.Write.contents c.args.out.now) (g.W.Write.contents c.pages.out)) all (c.pages.invariant sorted)
