use Rattle.std.proofs.Common.{◌≡◌, ℕ, Bool, length, cond, ◌∙◌, ap, subst, arith}
use Rattle.rig_play.specs.declared.trace.Record.{Record}
use Rattle.rig_store.specs.Stores.{store_of, FileGoes, StoreState}
use Rattle.rig_store.proofs.store.Store.sync.Goals as goal

pub returns-then-all-clause-goes : goal.returns-then-all-clause-goes
returns-then-all-clause-goes c =
    let old = store_of c.args.self.now in
    let does = c.in_ok-go.ensures.does in
    let files = does.0 in
    let goes = subst (λ (r : Record). FileGoes c.args.trace.now r c.args.call.now.file old.files files) c.record.ensures does.2 in
    let at : StoreState → StoreState = λ s. record s { durable = c.len-self.result } in
    let by : ℕ → StoreState = λ n. record old { files = files; durable = n } in
    let which : Bool → ℕ = λ b. cond b (length old.log) old.durable in
    let long : c.len-self.result ≡ length c.go.new.self.log.items = omega (arith, c.len-self.ensures, c.go.new.self.log.ok) in (
      does.1,
      (files, goes, ap at does.3 ∙ ap by (long ∙ ap (λ (s : StoreState). length s.log) does.3 ∙ ap which c.if-all.ensures)),
    )

pub returns-else-all-clause-goes : goal.returns-else-all-clause-goes
returns-else-all-clause-goes c =
    let old = store_of c.args.self.now in
    let does = c.in_ok-go.ensures.does in
    let files = does.0 in
    let goes = subst (λ (r : Record). FileGoes c.args.trace.now r c.args.call.now.file old.files files) c.record.ensures does.2 in
    let by : Bool → StoreState = λ b. record old { files = files; durable = cond b (length old.log) old.durable } in
    (does.1, (files, goes, does.3 ∙ ap by c.if-all.ensures))
