use Rattle.std.proofs.Common.{subst}
use Rattle.std.proofs.lemmas.Result.{MatchResult-weaker}
use Rattle.rig_play.specs.Names.{NameState}
use Rattle.rig_images.specs.Left.{MayBeLeft}
use Rattle.rig_images.proofs.draws.draw_in.Goals as goal

pub returns : goal.returns
returns g c =
    let e = c.args.epoch in
    MatchResult-weaker c.put_draw-3.result c.put_draw-3.ensures (λ done left. record {
      db = subst (λ (s : NameState). MayBeLeft s e.db c.put_draw.new.out.items) c.db.ensures c.in_ok-put_draw.ensures;
      wal = subst (λ (s : NameState). MayBeLeft s e.wal c.put_draw-2.new.out.items) c.wal.ensures c.in_ok-put_draw-2.ensures;
      journal = subst (λ (s : NameState). MayBeLeft s e.journal c.put_draw-3.new.out.items) c.journal.ensures left;
    }) (λ e no. no)
