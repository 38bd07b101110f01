use Rattle.std.proofs.Common.{◌≡◌, ℕ, ◌+◌, ◌<◌, true, false, Option, arith, List, [], ◌∷◌, ◌++◌, map, take, drop, get_or, refl, sym, ◌∙◌, ap, subst}
use Rattle.std.specs.String.{string_bytes}
use Rattle.std.proofs.lemmas.List.{take_more, take_all}
use Rattle.rig_store.specs.declared.call.Action.TheVariants.{Base}
use Rattle.rig_store.specs.declared.call.Call.{Call}
use Rattle.sqcrash_store.specs.Surveys.{Judging}
use Rattle.sqcrash_store.specs.Judged.{Judged}
use Rattle.sqcrash_store.specs.Refused.{IsOfWriter, NamesRefused, StatesRefused, call_count, point_count}
use Rattle.sqcrash_store.specs.Rigs.{RigState, PlaysAll, rig_of, no_rig}
use Rattle.sqcrash_store.specs.Printed.{last_lines}
use Rattle.sqcrash_store.specs.States.{AreStates, names_told}
use Rattle.sqcrash_store.specs.Verdicts.{AreAlike}
use Rattle.sqcrash_store.specs.declared.tally.Tally.{Tally}
use Rattle.sqcrash_store.specs.declared.verdict.Answer.{Answer}
use Rattle.sqcrash_store.proofs.AppendedBytes.{appends_none, appends_more}
use Rattle.sqcrash_store.proofs.CountedRecords.{counts_all, points_few}
use Rattle.sqcrash_store.proofs.KeptImages.{keeps_none, keeps_more}
use Rattle.sqcrash_store.proofs.PassedRefusals.{made, passed}
use Rattle.sqcrash_store.proofs.PlayedRecords.{plays_more}
use Rattle.sqcrash_store.proofs.RefusedTraces.{IsJudgedTo, of_names, of_rig, of_states, of_writer, split_at}
use Rattle.sqcrash_store.proofs.judging.judge_trace.Goals as goal

-- what stands for a record behind the last
behind : Call
behind = record { action = Base; file = 0; name = 0; thread = 0; answer = 0; place = 0; length = 0; from = 0 }

pub loop-call-init : goal.loop-call-init
loop-call-init g c = ([], [], (c.new-rig.ensures, refl, refl), appends_none (g.O.Write.contents c.args.out.now), keeps_none (g.J.Judge.kept c.take_states.new.judge))

pub loop-call-preserved : goal.loop-call-preserved
unfolding behind
loop-call-preserved g c =
    let says = g.J.Judge.says in
    let kept = g.J.Judge.kept in
    let j : Judging = record { plan = c.args.plan; trace = c.args.bytes.now; names = map (λ n. string_bytes n) c.deref-5.result.now; states = c.deref-6.result.now } in
    let first = no_rig c.args.plan in
    let records = c.deref-call-items.result.now in
    let i = c.loop-call.call-index in
    let r = get_or records i behind in
    let mid = rig_of c.loop-call.rig in
    let new = rig_of c.play.new.self in
    let so_far = c.loop-call.invariant in
    let one = c.in_ok-play.ensures.played in
    let lines = so_far.0 ++ one.0 in
    let more = so_far.1 ++ one.1 in (
      lines,
      more,
      subst (λ (played : List Call). PlaysAll says j played first new lines more) (sym (take_more records i behind c.loop-call-test.true))
          (plays_more says j (take i records) r first mid new so_far.0 one.0 so_far.1 one.1 so_far.2 one.2),
      appends_more (g.O.Write.contents c.args.out.now) (g.O.Write.contents c.loop-call.out) (g.O.Write.contents c.play.new.out) so_far.0 one.0 so_far.3 one.3,
      keeps_more (kept c.take_states.new.judge) (kept c.loop-call.judge) (kept c.play.new.judge) so_far.1 one.1 so_far.4 one.4,
    )

pub returns-clause-judged : goal.returns-clause-judged
returns-clause-judged g c =
    let says = g.J.Judge.says in
    let kept = g.J.Judge.kept in
    let out = g.O.Write.contents in
    let plan = c.args.plan in
    let bytes = c.args.bytes.now in
    let trace = c.in_ok-trace.trace in
    let states = c.in_ok-states.states.items in
    let tally = c.tally-tally.result in
    let names = names_told bytes trace.calls.items in
    let given = map (λ n. string_bytes n) c.deref-5.result.now in
    let names_are : given ≡ names = ap (λ l. map (λ n. string_bytes n) l) c.deref-5.ensures.value ∙ c.in_ok-names.ensures ∙ ap (λ (l : List Call). names_told bytes l) c.deref.ensures.value in
    let j : List (List ℕ) → List Answer → Judging = λ n s. record { plan = plan; trace = bytes; names = n; states = s } in
    let last = rig_of c.loop-call.rig in
    let so_far = c.loop-call.invariant in
    let lines = so_far.0 in
    let more = so_far.1 in
    let whole = take_all c.loop-call.call-index c.deref-call-items.result.now c.loop-call-test.false ∙ c.deref-call-items.ensures.value in (
      lines ++ last_lines plan tally,
      more,
      record {
        trace = trace;
        is_trace = c.in_ok-trace.ensures;
        states = states;
        are_states = subst (λ (l : List Call). AreStates says plan bytes l states) c.deref-2.ensures.value c.in_ok-states.ensures.says;
        differ = λ alike. let e : false ≡ true = c.if-are_alike.ensures.1 (subst (λ (s : List Answer). AreAlike s) (sym c.deref-4.ensures.value) alike) in absurd (cc e);
        last = last;
        told = lines;
        judged = subst (λ (n : List (List ℕ)). PlaysAll says (j n states) trace.calls.items (no_rig plan) last lines more) names_are
            (subst (λ (s : List Answer). PlaysAll says (j given s) trace.calls.items (no_rig plan) last lines more) c.deref-6.ensures.value
            (subst (λ (l : List Call). PlaysAll says (j given c.deref-6.result.now) l (no_rig plan) last lines more) whole so_far.2));
        counted = c.tally-tally.ensures;
        all = refl;
      },
      appends_more (out c.args.out.now) (out c.loop-call.out) (out c.write_last.new.out) lines (last_lines plan tally) so_far.3 c.in_ok-write_last.ensures,
      keeps_more (kept c.args.judge.now) (kept c.take_states.new.judge) (kept c.loop-call.judge) [] more c.in_ok-states.ensures.kept so_far.4,
    )

pub returns-then-has_no_image-clause-refused : goal.returns-then-has_no_image-clause-refused
returns-then-has_no_image-clause-refused g c =
    let says = g.J.Judge.says in
    let plan = c.args.plan in
    let bytes = c.args.bytes.now in
    let trace = c.in_ok-trace.trace in
    let states = c.in_ok-states.states.items in
    let tally = c.tally-tally.result in
    let names = names_told bytes trace.calls.items in
    let given = map (λ n. string_bytes n) c.deref-5.result.now in
    let names_are : given ≡ names = ap (λ l. map (λ n. string_bytes n) l) c.deref-5.ensures.value ∙ c.in_ok-names.ensures ∙ ap (λ (l : List Call). names_told bytes l) c.deref.ensures.value in
    let j : List (List ℕ) → List Answer → Judging = λ n s. record { plan = plan; trace = bytes; names = n; states = s } in
    let last = rig_of c.loop-call.rig in
    let so_far = c.loop-call.invariant in
    let whole = take_all c.loop-call.call-index c.deref-call-items.result.now c.loop-call-test.false ∙ c.deref-call-items.ensures.value in
    let counted : tally ≡ last.tally = c.tally-tally.ensures in
    let none : tally.images ≡ 0 = c.if-has_no_image.ensures.0 refl in (
      trace,
      c.in_ok-trace.ensures,
      record {
        states = states;
        are_states = subst (λ (l : List Call). AreStates says plan bytes l states) c.deref-2.ensures.value c.in_ok-states.ensures.says;
        last = last;
        told = so_far.0;
        kept = so_far.1;
        judged = subst (λ (n : List (List ℕ)). PlaysAll says (j n states) trace.calls.items (no_rig plan) last so_far.0 so_far.1) names_are
            (subst (λ (s : List Answer). PlaysAll says (j given s) trace.calls.items (no_rig plan) last so_far.0 so_far.1) c.deref-6.ensures.value
            (subst (λ (l : List Call). PlaysAll says (j given c.deref-6.result.now) l (no_rig plan) last so_far.0 so_far.1) whole so_far.2));
        none = sym (ap (λ (t : Tally). t.images) counted) ∙ none;
      },
    )

pub returns-then-are_alike-clause-refused : goal.returns-then-are_alike-clause-refused
returns-then-are_alike-clause-refused g c =
    let says = g.J.Judge.says in
    let plan = c.args.plan in
    let bytes = c.args.bytes.now in
    let trace = c.in_ok-trace.trace in
    let states = c.in_ok-states.states.items in
    let are : AreStates says plan bytes trace.calls.items states =
    subst (λ (l : List Call). AreStates says plan bytes l states) c.deref-2.ensures.value c.in_ok-states.ensures.says in
    let alike : AreAlike states = subst (λ (s : List Answer). AreAlike s) c.deref-4.ensures.value (c.if-are_alike.ensures.0 refl) in
    (trace, c.in_ok-trace.ensures, (states, are, alike))

pub returns-in_err-names-clause-refused : goal.returns-in_err-names-clause-refused
returns-in_err-names-clause-refused g c =
    let plan = c.args.plan in
    let bytes = c.args.bytes.now in
    let trace = c.in_ok-trace.trace in
    let refusal = c.in_err-names.field-0.0 in
    let refused = subst (λ (l : List Call). NamesRefused (names_told bytes l) refusal) c.deref.ensures.value c.in_err-names.ensures in
    passed c.from_residual-in_err-names.result _ _ _ c.from_residual-in_err-names.ensures.1 (of_names g.J.Judge.says plan bytes trace refusal c.in_ok-trace.ensures refused)

pub returns-in_err-states-clause-refused : goal.returns-in_err-states-clause-refused
returns-in_err-states-clause-refused g c =
    let plan = c.args.plan in
    let bytes = c.args.bytes.now in
    let trace = c.in_ok-trace.trace in
    let refusal = c.in_err-states.field-0.0 in
    let given = map (λ n. string_bytes n) c.deref-3.result.now in
    let names_are : given ≡ names_told bytes trace.calls.items =
    ap (λ l. map (λ n. string_bytes n) l) c.deref-3.ensures.value ∙ c.in_ok-names.ensures ∙ ap (λ (l : List Call). names_told bytes l) c.deref.ensures.value in
    let refused = subst (λ (l : List Call). StatesRefused plan bytes l given refusal) c.deref-2.ensures.value c.in_err-states.ensures.refused in
    passed c.from_residual-in_err-states.result _ _ _ c.from_residual-in_err-states.ensures.1
    (of_states g.J.Judge.says plan bytes trace given refusal c.in_ok-trace.ensures names_are refused)

pub returns-in_err-play-clause-refused : goal.returns-in_err-play-clause-refused
unfolding behind
returns-in_err-play-clause-refused g c =
    let says = g.J.Judge.says in
    let plan = c.args.plan in
    let bytes = c.args.bytes.now in
    let trace = c.in_ok-trace.trace in
    let refusal = c.in_err-play.field-0.0 in
    let given = map (λ n. string_bytes n) c.deref-5.result.now in
    let names_are : given ≡ names_told bytes trace.calls.items =
    ap (λ l. map (λ n. string_bytes n) l) c.deref-5.ensures.value ∙ c.in_ok-names.ensures ∙ ap (λ (l : List Call). names_told bytes l) c.deref.ensures.value in
    let j : Judging = record { plan = plan; trace = bytes; names = given; states = c.deref-6.result.now } in
    let records = c.deref-call-items.result.now in
    let i = c.loop-call.call-index in
    let r = get_or records i behind in
    let mid = rig_of c.loop-call.rig in
    let so_far = c.loop-call.invariant in
    let split : trace.calls.items ≡ take i records ++ r ∷ drop (i + 1) records = sym c.deref-call-items.ensures.value ∙ split_at records i behind c.loop-call-test.true in
    let to : IsJudgedTo says j trace (take i records) (drop (i + 1) records) r mid so_far.0 so_far.1 = record { trace = c.in_ok-trace.ensures; names = names_are; split = split; judged = so_far.2 } in
    passed c.from_residual-in_err-play.result _ _ _ c.from_residual-in_err-play.ensures.1
    (of_rig says j trace (take i records) (drop (i + 1) records) r mid so_far.0 so_far.1 refusal to c.in_err-play.ensures.refused)

-- how many points are counted of all records
points_of : (says : List (Option (List ℕ)) → Answer → Type 0) (j : Judging) (calls played : List Call) (last : RigState) (lines : List ℕ) (kept : List Judged) → played ≡ calls
    → PlaysAll says j played (no_rig j.plan) last lines kept → last.tally.points ≡ point_count j.plan calls
points_of says j calls played last lines kept whole is =
    let counted = counts_all says j played (no_rig j.plan) last lines kept is in
    let e = counted.points in
    let same = ap (λ (l : List Call). point_count j.plan l) whole in
    omega (arith, e, same)

pub returns-then-tally-eq0-clause-refused : goal.returns-then-tally-eq0-clause-refused
returns-then-tally-eq0-clause-refused g c =
    let plan = c.args.plan in
    let j : Judging = record { plan = plan; trace = c.args.bytes.now; names = map (λ n. string_bytes n) c.deref-5.result.now; states = c.deref-6.result.now } in
    let records = c.deref-call-items.result.now in
    let calls = c.in_ok-trace.trace.calls.items in
    let so_far = c.loop-call.invariant in
    let whole = take_all c.loop-call.call-index records c.loop-call-test.false ∙ c.deref-call-items.ensures.value in
    let points = points_of g.J.Judge.says j calls (take c.loop-call.call-index records) (rig_of c.loop-call.rig) so_far.0 so_far.1 whole so_far.2 in
    let is = ap (λ (t : Tally). t.points) c.tally-tally.ensures in
    (c.in_ok-trace.trace, c.in_ok-trace.ensures, let none : point_count plan calls ≡ 0 = omega (arith, points, is, c.if-tally-eq0.true) in none)

pub returns-in_err-write_last-clause-refused : goal.returns-in_err-write_last-clause-refused
returns-in_err-write_last-clause-refused g c =
    let plan = c.args.plan in
    let bytes = c.args.bytes.now in
    let trace = c.in_ok-trace.trace in
    let j : Judging = record { plan = plan; trace = bytes; names = map (λ n. string_bytes n) c.deref-5.result.now; states = c.deref-6.result.now } in
    let records = c.deref-call-items.result.now in
    let calls = trace.calls.items in
    let so_far = c.loop-call.invariant in
    let whole = take_all c.loop-call.call-index records c.loop-call-test.false ∙ c.deref-call-items.ensures.value in
    let points = points_of g.J.Judge.says j calls (take c.loop-call.call-index records) (rig_of c.loop-call.rig) so_far.0 so_far.1 whole so_far.2 in
    let is = ap (λ (t : Tally). t.points) c.tally-tally.ensures in
    let some : 0 < call_count calls = omega (arith, points, is, c.if-tally-eq0.false, points_few plan calls) in
    made c.from_residual-in_err-write_last.result _ _ IsOfWriter c.from_residual-in_err-write_last.ensures.1
    (λ refusal writer. of_writer g.J.Judge.says plan bytes trace refusal c.in_ok-trace.ensures some writer)
