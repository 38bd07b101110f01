use Rattle.std.proofs.Common.{inl, inr, ◌+◌, Bool, List, [], take, drop, get_or, refl, sym, ◌∙◌, ap, subst}
use Rattle.std.proofs.lemmas.List.{take_more, take_all}
use Rattle.rig_store.specs.Stores.{StoreState, store_of, no_store}
use Rattle.rig_store.specs.declared.call.Action.TheVariants.{Base}
use Rattle.rig_store.specs.declared.call.Call.{Call}
use Rattle.sqcrash_store.specs.States.{TakeState, Takes, TakesAll, SaysWhere, is_first, is_mark, none_taken}
use Rattle.sqcrash_store.specs.declared.verdict.Answer.{Answer}
use Rattle.sqcrash_store.proofs.CountedRecords.{first_is_call, mark_is_call, some_call, taken_all}
use Rattle.sqcrash_store.proofs.KeptImages.{keeps_none, keeps_more}
use Rattle.sqcrash_store.proofs.PassedRefusals.{passed}
use Rattle.sqcrash_store.proofs.PlayedRecords.{takes_more}
use Rattle.sqcrash_store.proofs.RefusedTraces.{split_at, unplayed_in}
use Rattle.sqcrash_store.proofs.states.take_states.Goals as goal

-- what stands for a record behind the last
behind : Call
behind = record { action = Base; file = 0; name = 0; thread = 0; answer = 0; place = 0; length = 0; from = 0 }

pub loop-call-init : goal.loop-call-init
loop-call-init g c =
    let plan = c.args.plan in
    let none : StoreState = no_store plan.sector plan.tears plan.meta in
    let make : StoreState → List Answer → TakeState = λ s l. record { store = s; states = l } in
    (ap (λ (s : StoreState). make s c.new-states.result.items) c.new-store.ensures ∙ ap (λ (l : List Answer). make none l) c.new-states.ensures.items, keeps_none (g.J.Judge.kept c.args.judge.now))

pub loop-call-preserved : goal.loop-call-preserved
unfolding behind
loop-call-preserved g c =
    let says = g.J.Judge.says in
    let trace = c.args.trace.now in
    let calls = c.args.calls.now in
    let i = c.loop-call.call-index in
    let r = get_or calls i behind in
    let old : TakeState = record { store = store_of c.loop-call.store; states = c.loop-call.states.items } in
    let begun = c.take_where.new.states.items in
    let new : TakeState = record { store = store_of c.play.new.store; states = c.take_where-in-loop-call.new.states.items } in
    let first = c.is_first-is_first.ensures ∙ ap (λ (l : List Answer). is_first l r.action) c.deref.ensures.value in
    let begins : SaysWhere says (is_first old.states r.action) old.store old.states begun = subst (λ (b : Bool). SaysWhere says b old.store old.states begun) first c.in_ok-take_where.ensures.says in
    let marks : SaysWhere says (is_mark r.action) new.store begun new.states = subst (λ (b : Bool). SaysWhere says b new.store begun new.states) c.is_mark.ensures c.in_ok-take_where-2.ensures.says in
    let one : Takes says trace r old new = record { begun = begun; begins = begins; goes = c.in_ok-play.ensures; marks = marks } in
    let kept = g.J.Judge.kept in
    let first_kept = keeps_more (kept c.args.judge.now) (kept c.loop-call.judge) (kept c.take_where.new.judge) [] [] c.loop-call.invariant.1 c.in_ok-take_where.ensures.kept in (
      subst (λ (played : List Call). TakesAll says trace played (none_taken c.args.plan) new) (sym (take_more calls i behind c.loop-call-test.true))
          (takes_more says trace (take i calls) r (none_taken c.args.plan) old new c.loop-call.invariant.0 one),
      keeps_more (kept c.args.judge.now) (kept c.take_where.new.judge) (kept c.take_where-in-loop-call.new.judge) [] [] first_kept c.in_ok-take_where-2.ensures.kept,
    )

pub returns-clause-says : goal.returns-clause-says
returns-clause-says g c =
    let last : TakeState = record { store = store_of c.loop-call.store; states = c.loop-call.states.items } in (
      last,
      subst (λ (played : List Call). TakesAll g.J.Judge.says c.args.trace.now played (none_taken c.args.plan) last) (take_all c.loop-call.call-index c.args.calls.now c.loop-call-test.false) c.loop-call.invariant.0,
      refl,
    )

pub returns-clause-kept : goal.returns-clause-kept
returns-clause-kept g c = c.loop-call.invariant.1

pub returns-in_err-take_where-clause-refused : goal.returns-in_err-take_where-clause-refused
unfolding behind
returns-in_err-take_where-clause-refused g c =
    let calls = c.args.calls.now in
    let i = c.loop-call.call-index in
    let r = get_or calls i behind in
    let asked = c.in_err-take_where.ensures.refused in
    let call = first_is_call c.deref.result.now r.action (sym c.is_first-is_first.ensures ∙ asked.0) in
    passed c.from_residual.result _ _ _ c.from_residual.ensures.1
    (inl (some_call calls (take i calls) (drop (i + 1) calls) r (split_at calls i behind c.loop-call-test.true) call, asked.1))

pub returns-in_err-play-clause-refused : goal.returns-in_err-play-clause-refused
unfolding behind
returns-in_err-play-clause-refused g c =
    let plan = c.args.plan in
    let trace = c.args.trace.now in
    let calls = c.args.calls.now in
    let i = c.loop-call.call-index in
    let r = get_or calls i behind in
    let old : TakeState = record { store = store_of c.loop-call.store; states = c.loop-call.states.items } in
    let goes = taken_all g.J.Judge.says trace (take i calls) (none_taken plan) old c.loop-call.invariant.0 in
    passed c.from_residual-in_err-play.result _ _ _ c.from_residual-in_err-play.ensures.1
    (inr (unplayed_in plan trace calls (take i calls) (drop (i + 1) calls) r old.store _ (split_at calls i behind c.loop-call-test.true) goes c.in_err-play.ensures))

pub returns-in_err-take_where-2-clause-refused : goal.returns-in_err-take_where-2-clause-refused
unfolding behind
returns-in_err-take_where-2-clause-refused g c =
    let calls = c.args.calls.now in
    let i = c.loop-call.call-index in
    let r = get_or calls i behind in
    let asked = c.in_err-take_where-2.ensures.refused in
    let call = mark_is_call r.action (sym c.is_mark.ensures ∙ asked.0) in
    passed c.from_residual-in_err-take_where-2.result _ _ _ c.from_residual-in_err-take_where-2.ensures.1
    (inl (some_call calls (take i calls) (drop (i + 1) calls) r (split_at calls i behind c.loop-call-test.true) call, asked.1))
