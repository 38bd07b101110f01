use Rattle.std.proofs.Common.{ℕ, List, [], ◌∷◌, ◌++◌, Bool, cond, sym, subst}
use Rattle.std.specs.Io.KnownBytes.{Appends}
use Rattle.rig_judge.specs.declared.judgment.Judgment.{Judgment}
use Rattle.rig_missing.specs.declared.missing.Missing.{Missing}
use Rattle.sqcrash.specs.Lines.{line_text, why_text}
use Rattle.sqcrash.proofs.AppendedBytes.{appends_more}
use Rattle.sqcrash.proofs.explained.write_finding.Goals as goal

pub returns : goal.returns
returns g c =
    let at = c.args.at in
    let f = c.args.finding.now in
    let old = g.O.Write.contents c.args.out.now in
    let mid = g.O.Write.contents c.writeln.new.self in
    let new = g.O.Write.contents c.write_why.new.out in
    let text = line_text c.args.style at.point at.known f.image f.judgment ++ 10 ∷ [] in
    let line : Appends old mid text =
    subst (λ (n : ℕ). Appends old mid (line_text c.args.style at.point at.known n f.judgment ++ 10 ∷ [])) c.image.ensures
    (subst (λ (j : Judgment). Appends old mid (line_text c.args.style at.point at.known c.image.result j ++ 10 ∷ [])) c.judgment.ensures c.in_ok-writeln.ensures.bytes) in
    let more : Appends mid new (why_text c.args.style at f.missing) = subst (λ (l : List Missing). Appends mid new (why_text c.args.style at l)) c.missing.ensures c.in_ok-write_why.ensures in
    subst (λ (b : Bool). Appends old new (text ++ cond b (why_text c.args.style at f.missing) [])) (sym c.if-not-why.false) (appends_more old mid new text (why_text c.args.style at f.missing) line more)
