use Rattle.std.proofs.Common.{◌≡◌, ℕ, ◌+◌, List, [], ◌∷◌, ◌++◌, take, get_or, sym, ◌∙◌, ap, subst}
use Rattle.std.specs.List.{flat_map}
use Rattle.std.proofs.lemmas.List.{append-nil, take_more, take_all}
use Rattle.std.proofs.lemmas.Grind.{flat_map-append}
use Rattle.std.specs.Io.KnownBytes.{Appends}
use Rattle.sqpage.specs.declared.fault.Fault.TheVariants.{Magic}
use Rattle.sqcrash.specs.Lines.{commit_text, commits_text}
use Rattle.sqcrash.specs.declared.marked.CommitFault.{CommitFault}
use Rattle.sqcrash.proofs.AppendedBytes.{appends_none, appends_more}
use Rattle.sqcrash.proofs.lines.write_commits.Goals as goal

-- what stands for a commit behind the last
behind : CommitFault
behind = record { commit = 0; error = record { page = 0; fault = Magic } }

pub loop-fault-init : goal.loop-fault-init
loop-fault-init g c = appends_none (g.O.Write.contents c.args.out.now)

pub loop-fault-preserved : goal.loop-fault-preserved
unfolding behind
loop-fault-preserved g c =
    let faults = c.args.faults.now in
    let i = c.loop-fault.fault-index in
    let old = g.O.Write.contents c.args.out.now in
    let mid = g.O.Write.contents c.loop-fault.out in
    let new = g.O.Write.contents c.writeln.new.self in
    let text : CommitFault → List ℕ = λ f. commit_text c.args.style f ++ 10 ∷ [] in
    let before = flat_map text (take i faults) in
    let fault = get_or faults i behind in
    let lines : flat_map text (take (i + 1) faults) ≡ before ++ text fault =
    ap (λ (l : List CommitFault). flat_map text l) (take_more faults i behind c.loop-fault-test.true)
    ∙ flat_map-append text (take i faults) (fault ∷ [])
    ∙ ap (λ (l : List ℕ). before ++ l) (append-nil (text fault)) in
    subst (λ (l : List ℕ). Appends old new l) (sym lines) (appends_more old mid new before (text fault) c.loop-fault.invariant c.in_ok-writeln.ensures.bytes)

pub returns : goal.returns
returns g c =
    subst (λ (l : List CommitFault). Appends (g.O.Write.contents c.args.out.now) (g.O.Write.contents c.loop-fault.out) (commits_text c.args.style l))
    (take_all c.loop-fault.fault-index c.args.faults.now c.loop-fault-test.false) c.loop-fault.invariant
