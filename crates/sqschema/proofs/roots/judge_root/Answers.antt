use Rattle.std.proofs.Common.{Bool, refl, sym, subst}
use Rattle.std.specs.Prelude.{Option}
use Rattle.sqschema.specs.Items.{seen}
use Rattle.sqschema.specs.Schema.{IsLimit}
use Rattle.sqschema.specs.internal.Judging.{TellsOf, KindTells, Fits}
use Rattle.sqschema.proofs.RootsOfItems.{no_root, outside, kindless, misfit, fitting}
use Rattle.sqschema.proofs.roots.judge_root.Goals as goal

pub returns-then-is_rootless-clause-ok : goal.returns-then-is_rootless-clause-ok
returns-then-is_rootless-clause-ok g c = λ gives. no_root (g.S.PageSource.pages c.args.source.now) (seen c.args.item.now) (c.is_rootless.ensures.none c.if-is_rootless.true)

pub returns-in-None-clause-err : goal.returns-in-None-clause-err
returns-in-None-clause-err g c = λ gives.
    let d = g.S.PageSource.pages c.args.source.now in
    let x = seen c.args.item.now in
    subst (TellsOf d c.args.row x) (sym c.at_row.ensures) (refl, refl, outside d x c.count-count.result c.count-count.ensures (c.is_rootless.ensures.some c.if-is_rootless.false) c.in-None.ensures)

pub returns-in-Err-clause-err : goal.returns-in-Err-clause-err
returns-in-Err-clause-err g c = λ gives. subst IsLimit (sym (c.in-Err.ensures.err gives)) tt

pub returns-in-None-found-clause-err : goal.returns-in-None-found-clause-err
returns-in-None-found-clause-err g c = λ gives.
    let d = g.S.PageSource.pages c.args.source.now in
    let x = seen c.args.item.now in
    let p = c.in-Some.p in
    let kind = subst (λ (s : Option Bool). KindTells d p s) c.in-None-found.is (c.in-Ok.ensures.ok gives) in
    subst (TellsOf d c.args.row x) (sym c.at_row-in-None-found.ensures) (refl, refl, kindless d x p (c.is_rootless.ensures.some c.if-is_rootless.false) c.in-Some.ensures.1 kind)

pub returns-in-Ok-Some-clause-ok : goal.returns-in-Ok-Some-clause-ok
returns-in-Ok-Some-clause-ok g c = λ gives.
    let d = g.S.PageSource.pages c.args.source.now in
    let x = seen c.args.item.now in
    let p = c.in-Some.p in
    let table = c.in-Some-found.table in
    let kind = subst (λ (s : Option Bool). KindTells d p s) c.in-Some-found.is (c.in-Ok.ensures.ok gives) in
    fitting d x p table c.in-Ok-Some.understood (c.is_rootless.ensures.some c.if-is_rootless.false) c.in-Some.ensures.1 kind (subst (λ (s : Option Bool). Fits x table s) c.in-Ok-Some.field-0-is c.in-Ok-Some.ensures)

pub returns-in-Ok-None-clause-err : goal.returns-in-Ok-None-clause-err
returns-in-Ok-None-clause-err g c = λ gives.
    let d = g.S.PageSource.pages c.args.source.now in
    let x = seen c.args.item.now in
    let p = c.in-Some.p in
    let table = c.in-Some-found.table in
    let kind = subst (λ (s : Option Bool). KindTells d p s) c.in-Some-found.is (c.in-Ok.ensures.ok gives) in
    let bad = misfit d x p table (c.is_rootless.ensures.some c.if-is_rootless.false) c.in-Some.ensures.1 kind (subst (λ (s : Option Bool). Fits x table s) c.in-Ok-None.field-0-is c.in-Ok-None.ensures) in
    subst (TellsOf d c.args.row x) (sym c.at_row-in-Ok-None.ensures) (refl, refl, bad)

pub returns-in-Err-fits-clause-err : goal.returns-in-Err-fits-clause-err
returns-in-Err-fits-clause-err g c = λ gives. subst (TellsOf (g.S.PageSource.pages c.args.source.now) c.args.row (seen c.args.item.now)) (sym c.no_memory.ensures) tt
