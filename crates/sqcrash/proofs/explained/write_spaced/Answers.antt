use Rattle.std.proofs.Common.{ℕ, List, get_or, refl, subst}
use Rattle.std.proofs.lemmas.List.{take_all}
use Rattle.std.specs.Io.KnownBytes.{Appends}
use Rattle.sqcrash.specs.Lines.{range_text, spaced_text}
use Rattle.sqcrash.proofs.AppendedBytes.{appends_none, appends_next}
use Rattle.sqcrash.proofs.explained.write_spaced.Goals as goal

pub loop-range-init : goal.loop-range-init
loop-range-init g c = appends_none (g.O.Write.contents c.args.out.now)

pub loop-range-preserved : goal.loop-range-preserved
loop-range-preserved g c =
    let ranges = c.args.ranges.now in
    let i = c.loop-range.range-index in
    appends_next (λ (r : ℕ × ℕ). range_text r.0 r.1) ranges i (get_or ranges i (0, 0)) (0, 0) (g.O.Write.contents c.args.out.now) (g.O.Write.contents c.loop-range.out) (g.O.Write.contents c.write.new.self)
    c.loop-range-test.true refl c.loop-range.invariant c.in_ok-write.ensures.bytes

pub returns : goal.returns
returns g c =
    subst (λ (l : List (ℕ × ℕ)). Appends (g.O.Write.contents c.args.out.now) (g.O.Write.contents c.loop-range.out) (spaced_text l))
    (take_all c.loop-range.range-index c.args.ranges.now c.loop-range-test.false) c.loop-range.invariant
