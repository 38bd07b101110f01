use Rattle.std.proofs.Common.{◌<◌, List, length, sym, subst}
use Rattle.std.proofs.lemmas.Result.{on_ok_weaker}
use Rattle.rig_play.specs.Plays.{Files}
use Rattle.rig_play.specs.declared.trace.Record.{Record}
use Rattle.rig_store.specs.Stores.{store_of, FileGoes, GoesAs}
use Rattle.rig_store.specs.declared.call.Action.{Action}
use Rattle.rig_store.proofs.store.Store.play.Goals as goal

pub returns-in-Write-clause-goes : goal.returns-in-Write-clause-goes
returns-in-Write-clause-goes c =
    let old = store_of c.args.self.now in
    let call = c.args.call.now in
    let trace = c.args.trace.now in
    on_ok_weaker c.go.result (λ does.
    let files : List Files = does.0 in
    let less : call.file < length old.files = does.1 in
    let goes : FileGoes trace c.record.result call.file old.files files = does.2 in
    subst (λ (a : Action). GoesAs a trace call old (store_of c.go.new.self)) (sym c.in-Write.is)
    (less, (files, subst (λ (r : Record). FileGoes trace r call.file old.files files) c.record.ensures goes, does.3))) c.go.ensures.does

pub returns-in-Unlink-clause-goes : goal.returns-in-Unlink-clause-goes
returns-in-Unlink-clause-goes c =
    let old = store_of c.args.self.now in
    let call = c.args.call.now in
    on_ok_weaker c.unlink.result (λ goes. subst (λ (a : Action). GoesAs a c.args.trace.now call old (store_of c.unlink.new.self)) (sym c.in-Unlink.is) (goes c.args.trace.now)) c.unlink.ensures.goes

pub returns-in-Rename-clause-goes : goal.returns-in-Rename-clause-goes
returns-in-Rename-clause-goes c =
    let old = store_of c.args.self.now in
    let call = c.args.call.now in
    on_ok_weaker c.rename.result (λ goes. subst (λ (a : Action). GoesAs a c.args.trace.now call old (store_of c.rename.new.self)) (sym c.in-Rename.is) (goes c.args.trace.now)) c.rename.ensures.goes
