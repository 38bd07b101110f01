use Rattle.std.proofs.Common.{◌≡◌, ℕ, ◌-◌, List, length, take, subst, arith}
use Rattle.std.specs.List.{flat_map}
use Rattle.std.specs.Io.KnownBytes.{Appends}
use Rattle.rig_missing.specs.declared.missing.Missing.{Missing}
use Rattle.sqcrash.specs.Lines.{missing_text, more_text}
use Rattle.sqcrash.proofs.AppendedBytes.{appends_more}
use Rattle.sqcrash.proofs.explained.write_missings.Goals as goal

pub returns : goal.returns
returns g c =
    let all = c.args.missing.now in
    let old = g.O.Write.contents c.args.out.now in
    let mid = g.O.Write.contents c.write_each.new.out in
    let new = g.O.Write.contents c.write_more.new.out in
    let each : Appends old mid (flat_map (missing_text c.args.style) (take 20 all)) = subst (λ (l : List Missing). Appends old mid (flat_map (missing_text c.args.style) l)) c.first_few.ensures c.in_ok-write_each.ensures in
    let count : c.saturating_sub.result ≡ length all - 20 = omega (arith, c.saturating_sub.ensures) in
    appends_more old mid new (flat_map (missing_text c.args.style) (take 20 all)) (more_text c.args.style (length all - 20)) each (subst (λ (n : ℕ). Appends mid new (more_text c.args.style n)) count c.in_ok-write_more.ensures)
