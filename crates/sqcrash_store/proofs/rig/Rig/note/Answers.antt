use Rattle.std.proofs.Common.{◌≡◌, ℕ, ◌+◌, List, sym, ap, subst}
use Rattle.rig_store.specs.Calls.{bytes_of}
use Rattle.rig_store.specs.declared.call.Action.{Action}
use Rattle.sqcrash_store.specs.Points.{IsKnown}
use Rattle.sqcrash_store.specs.Rigs.{RigState, rig_of, NotesBy}
use Rattle.sqcrash_store.proofs.rig.Rig.note.Goals as goal

pub returns-in_ok-self-in-Mark : goal.returns-in_ok-self-in-Mark
returns-in_ok-self-in-Mark c =
    let bench = c.args.bench.now in
    let line = bytes_of bench.trace.now c.args.call.now in
    let old = rig_of c.args.self.now in
    let known = c.known_by-self.result in
    let mark = c.in_ok-self-in-Mark.field-0 in
    let next : mark ≡ old.marks + 1 = c.in_ok-self-in-Mark.ensures in
    let is : IsKnown bench.plan line (old.marks + 1) old.known known =
    subst (λ (n : ℕ). IsKnown bench.plan line n old.known known) next
    (subst (λ (l : List ℕ). IsKnown bench.plan l mark old.known known) c.bytes.ensures c.known_by-self.ensures) in
    let same : ◌≡◌ {A = RigState} (record old { marks = mark; known = known }) (record old { marks = old.marks + 1; known = known }) = ap (λ (n : ℕ). record old { marks = n; known = known }) next in
    subst (λ (a : Action). NotesBy a bench.plan line old (record old { marks = mark; known = known })) (sym c.in-Mark.is) (known, is, same)
