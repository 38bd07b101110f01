use Rattle.std.proofs.Common.{inl, inr, sym, subst, arith}
use Rattle.std.proofs.lemmas.Bool.{eqb-true, eqb-false}
use Rattle.sqwal.specs.Stops.{IsStop}
use Rattle.sqwal.specs.declared.scan.Why.{Why}
use Rattle.sqwal.proofs.feed.ScanAnswers.{stop_is}
use Rattle.sqwal.proofs.scan.Scan.stop.Goals as goal
use Rattle.sqwal.proofs.scan.Scan.stop.Goals.{then-is_empty, else-is_empty}

pub returns : goal.returns
returns c most b t =
    let s = c.args.self.now in
    subst (λ (w : Why). IsStop b s.frames.progress.next w) (sym c.unwrap_or.ensures)
    (stop_is b s.held.items s.frames.entries.items s.frames.progress s.header c.if-is_empty.short t.parts
    (elim c.if-is_empty.branch [
      | then-is_empty w ↦ inl (omega (arith, eqb-true s.held.len 0 (sym w.if-is_empty.ensures), s.held.ok.0), w.short-is)
      | else-is_empty w ↦ inr (omega (arith, eqb-false s.held.len 0 (sym w.if-is_empty.ensures), s.held.ok.0), w.short-is)
    ]))
