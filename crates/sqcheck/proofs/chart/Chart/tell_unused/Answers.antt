use Rattle.sqcheck.proofs.Below.{ArePutDown, Chart, PageUnused, Unused, [], all_told, ap, arith, get_or, length, next_named, next_told, rules, subst, sym, take, unused_faults, ◌+◌, ◌<◌, ◌∙◌, ◌∷◌, ◌≡◌, ◌≢◌}
use Rattle.sqcheck.proofs.chart.Chart.tell_unused.Goals.{then-eq+in_ok-tell, else-eq}
use Rattle.sqcheck.proofs.chart.Chart.tell_unused.Goals as goal

pub returns-clause-down : goal.returns-clause-down
returns-clause-down c =
    all_told c.args.self.now.faults.items c.pages.self.faults.items c.args.self.now.roles.items c.pages.i (omega arith) c.pages.invariant.down

pub pages-preserved : goal.pages-preserved
pages-preserved c =
    let within : c.pages.i < length c.args.self.now.roles.items = omega arith in
    let here : get_or c.args.self.now.roles.items c.pages.i c.index.result.now ≡ c.index.result.now =
    sym (ap (λ rs. get_or rs c.pages.i c.index.result.now) c.pages.invariant.same) ∙ sym c.index.ensures in
    elim c.if-eq.branch [
      | then-eq+in_ok-tell w ↦ (
          let is : c.index.result.now ≡ Unused = search rules in
          let down : ArePutDown c.pages.self.faults.items (record { page = c.pages.i + 1; fault = PageUnused } ∷ []) c.if-eq.self.faults.items = search rules in
          record {
            same = search rules;
            down = next_told c.args.self.now.faults.items c.pages.self.faults.items c.if-eq.self.faults.items c.args.self.now.roles.items c.pages.i c.index.result.now within (here ∙ is) c.pages.invariant.down down;
          })
      | else-eq w ↦ (
          let ne : c.index.result.now ≢ Unused = search rules in
          record {
            same = search rules;
            down = next_named c.args.self.now.faults.items c.if-eq.self.faults.items c.args.self.now.roles.items c.pages.i c.index.result.now within (λ e. ne (sym here ∙ e))
                (subst (λ (s : Chart). ArePutDown c.args.self.now.faults.items (unused_faults 1 (take c.pages.i c.args.self.now.roles.items)) s.faults.items) (sym w.self-is) c.pages.invariant.down);
          })
    ]
