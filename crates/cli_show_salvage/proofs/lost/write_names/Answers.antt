use Rattle.std.proofs.Common.{◌≡◌, ◌+◌, ◌++◌, arith, codes}
use Rattle.std.proofs.KnownBytes.{Appends-nil}
use Rattle.std.specs.Fmt.{decimal}
use Rattle.cli_show_salvage.proofs.TextsInRow.{appends_more}
use Rattle.cli_show_salvage.proofs.lost.write_names.Goals as goal

pub names-init : goal.names-init
names-init g c = Appends-nil (g.W.Write.contents c.args.out.now)

pub names-preserved : goal.names-preserved
names-preserved g c =
    let at : 0 + c.names.k ≡ c.names.k = omega arith in
    appends_more (λ k. codes ",c" ++ decimal k) 0 c.names.k c.names.k (g.W.Write.contents c.args.out.now) (g.W.Write.contents c.names.out) (g.W.Write.contents c.write_name.new.out)
    at c.names.invariant c.in_ok-write_name.ensures
