use Rattle.std.proofs.Common.{◌≡◌, ◌<◌, ℕ, List, length, Option, Some, sym, ◌∙◌, ap, subst, arith}
use Rattle.std.specs.Option.{unwrap_or}
use Rattle.std.proofs.lemmas.Result.{on_ok_weaker}
use Rattle.rig_play.specs.Plays.{Files}
use Rattle.rig_play.specs.declared.trace.Record.{Record}
use Rattle.rig_store.specs.Names.{holder}
use Rattle.rig_store.specs.Stores.{store_of, FileGoes, HolderGoes}
use Rattle.rig_store.specs.declared.table.Naming.{Naming}
use Rattle.rig_store.proofs.store.Store.end.Goals as goal

pub returns-in-Some-clause-goes : goal.returns-in-Some-clause-goes
returns-in-Some-clause-goes c =
    let old = store_of c.args.self.now in
    let call = c.args.call.now in
    let trace = c.args.trace.now in
    let has : Some c.in-Some.file ≡ holder old.log call.name =
    sym c.in-Some.is ∙ c.holder.ensures ∙ ap (λ (l : List Naming). holder l call.name) c.deref.ensures.value in
    on_ok_weaker c.go.result (λ does.
    let files : List Files = does.0 in
    let less : c.in-Some.file < length old.files = does.1 in
    let goes : FileGoes trace c.record.result c.in-Some.file old.files files = does.2 in (
      (
        omega (arith, c.if-call-self.false),
        λ i is. let same : c.in-Some.file ≡ i = ap (λ (o : Option ℕ). unwrap_or o 0) (has ∙ is) in omega (arith, less, same),
      ),
      (
        files,
        subst (λ (o : Option ℕ). HolderGoes trace call o old.files files) has
            (subst (λ (r : Record). FileGoes trace r c.in-Some.file old.files files) c.record.ensures goes),
        does.3,
      ),
    )) c.go.ensures.does
