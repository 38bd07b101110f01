use Rattle.std.proofs.Common.{◌+◌, List, [], take, drop, get_or, refl, sym, subst}
use Rattle.std.proofs.lemmas.List.{take_more, take_all}
use Rattle.rig_play.specs.declared.trace.Kind.TheVariants.{Base}
use Rattle.rig_play.specs.declared.trace.Subject.TheVariants.{Db}
use Rattle.rig_play.specs.declared.trace.Record.{Record}
use Rattle.sqcrash.specs.Runs.{no_run}
use Rattle.sqcrash.specs.Marked.{MarkState, MarksAll}
use Rattle.sqcrash.specs.Markings.{marking_of}
use Rattle.sqcrash.specs.declared.plan.Plan.{Plan}
use Rattle.sqcrash.proofs.MarkedRecords.{marks_more}
use Rattle.sqcrash.proofs.RefusedTraces.{marking_refused, split_at}
use Rattle.sqcrash.proofs.PassedRefusals.{passed}
use Rattle.sqcrash.proofs.marked.take_marked.Goals as goal

-- what stands for a record behind the last
behind : Record
behind = record { kind = Base; subject = Db; making = 0; thread = 0; answer = 0; place = 0; length = 0; from = 0 }

abbrev start : Plan → MarkState
start plan = record { run = no_run plan.promise plan.sector plan.tears plan.meta; faults = [] }

pub loop-call-preserved : goal.loop-call-preserved
unfolding behind
loop-call-preserved c =
    let bytes = c.args.bytes.now in
    let records = c.args.records.now in
    let i = c.loop-call.call-index in
    let mid = marking_of c.loop-call.marking in
    let new = marking_of c.play.new.self in
    subst (λ (l : List Record). MarksAll bytes l (start c.args.plan) new) (sym (take_more records i behind c.loop-call-test.true))
    (marks_more bytes (take i records) (get_or records i behind) (start c.args.plan) mid new c.loop-call.invariant c.in_ok-play.ensures)

pub returns : goal.returns
returns c =
    let last = marking_of c.loop-call.marking in
    record {
      last = last;
      all = subst (λ (l : List Record). MarksAll c.args.bytes.now l (start c.args.plan) last) (take_all c.loop-call.call-index c.args.records.now c.loop-call-test.false) c.loop-call.invariant;
      commits = c.into_commits.ensures;
      faults = refl;
    }

pub returns-in_err-play : goal.returns-in_err-play
unfolding behind
returns-in_err-play c =
    let records = c.args.records.now in
    let i = c.loop-call.call-index in
    passed c.from_residual.result _ _ _ c.from_residual.ensures.1
    (marking_refused c.args.plan c.args.bytes.now records (take i records) (drop (i + 1) records) (get_or records i behind) (marking_of c.loop-call.marking) _
    (split_at records i behind c.loop-call-test.true) c.loop-call.invariant c.in_err-play.ensures)
