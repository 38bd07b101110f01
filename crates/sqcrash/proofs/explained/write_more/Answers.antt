use Rattle.std.proofs.Common.{◌≡◌, [], ◌∷◌, ◌++◌, Bool, true, false, cond, nat_eq, sym, subst, arith}
use Rattle.std.proofs.lemmas.Bool.Decides.{nat_tests}
use Rattle.std.specs.Io.KnownBytes.{Appends}
use Rattle.sqcrash.specs.Lines.{count_text}
use Rattle.sqcrash.proofs.AppendedBytes.{appends_none}
use Rattle.sqcrash.proofs.explained.write_more.Goals as goal

pub returns-then-count-eq0 : goal.returns-then-count-eq0
returns-then-count-eq0 g c =
    let n = c.args.count in
    let old = g.O.Write.contents c.args.out.now in
    let is : nat_eq n 0 ≡ true = grind (arith, nat_tests) in
    subst (λ (b : Bool). Appends old old (cond b [] (count_text c.args.style n ++ 10 ∷ []))) (sym is) (appends_none old)

pub returns : goal.returns
returns g c =
    let n = c.args.count in
    let old = g.O.Write.contents c.args.out.now in
    let new = g.O.Write.contents c.writeln.new.self in
    let is : nat_eq n 0 ≡ false = grind (arith, nat_tests) in
    subst (λ (b : Bool). Appends old new (cond b [] (count_text c.args.style n ++ 10 ∷ []))) (sym is) c.in_ok-writeln.ensures.bytes
