use Rattle.std.proofs.Common.{◌≡◌, ℕ, List, [], ◌∷◌, ◌++◌, codes, map, sym, ap, subst, append_assoc}
use Rattle.std.specs.Fmt.{decimal}
use Rattle.std.specs.Io.KnownBytes.{Appends}
use Rattle.std.specs.String.{string_bytes}
use Rattle.rig_store.specs.declared.call.Call.{Call}
use Rattle.rig_store.specs.declared.differing.Difference.{Difference}
use Rattle.sqcrash_store.specs.Calls.{call_text, call_text_by, name_of}
use Rattle.sqcrash_store.specs.Lines.{stopped_text, differences_text}
use Rattle.sqcrash_store.proofs.AppendedBytes.{appends_more}
use Rattle.sqcrash_store.proofs.lines.write_why.Goals as goal

-- the end of the line stands behind all of it
ended : (played call : List ℕ) → codes "  stopped behind record " ++ (played ++ (codes ": " ++ (call ++ 10 ∷ []))) ≡ (codes "  stopped behind record " ++ (played ++ (codes ": " ++ call))) ++ 10 ∷ []
ended played call = ap (λ (l : List ℕ). codes "  stopped behind record " ++ l) (sym (append_assoc played (codes ": " ++ call) (10 ∷ [])))

pub returns : goal.returns
returns g c =
    let f = c.args.found.now in
    let names = map (λ n. string_bytes n) c.args.names.now in
    let old = g.O.Write.contents c.args.out.now in
    let mid = g.O.Write.contents c.writeln.new.self in
    let new = g.O.Write.contents c.write_differences.new.out in
    let line : List ℕ → List ℕ → Call → List ℕ = λ name other call. codes "  stopped behind record " ++ (decimal f.crash.played ++ (codes ": " ++ (call_text_by name other call ++ 10 ∷ []))) in
    let x = c.of-call.result in
    let stopped : Appends old mid (stopped_text names f.crash ++ 10 ∷ []) =
    subst (λ (l : List ℕ). Appends old mid l) (ended (decimal f.crash.played) (call_text names f.crash.call))
    (subst (λ (n : List ℕ). Appends old mid (line n (name_of names f.crash.call.place) f.crash.call)) c.of-call.ensures.name
    (subst (λ (n : List ℕ). Appends old mid (line x.name.now n f.crash.call)) c.of-call.ensures.other
    (subst (λ (k : Call). Appends old mid (line x.name.now x.other.now k)) c.of-call.ensures.call c.in_ok-writeln.ensures.bytes))) in
    let more : Appends mid new (differences_text names f.differences.items) = subst (λ (l : List Difference). Appends mid new (differences_text names l)) c.deref.ensures.value c.in_ok-write_differences.ensures in
    appends_more old mid new (stopped_text names f.crash ++ 10 ∷ []) (differences_text names f.differences.items) stopped more
