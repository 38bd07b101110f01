use Rattle.std.proofs.Common.{◌≡◌, ℕ, ◌+◌, ◌<◌, ◌≤◌, Option, List, [], ◌∷◌, ◌++◌, length, length-append, take, drop, get_or, refl, sym, ◌∙◌, subst, arith}
use Rattle.std.proofs.lemmas.List.{take_more, take_all}
use Rattle.std.specs.Io.KnownBytes.{Appends}
use Rattle.rig_play.specs.declared.trace.Kind.TheVariants.{Base}
use Rattle.rig_play.specs.declared.trace.Subject.TheVariants.{Db}
use Rattle.rig_play.specs.declared.trace.Record.{Record}
use Rattle.sqcrash.specs.Lines.{texts_of, joined, first_of, left_text}
use Rattle.sqcrash.specs.Writes.{Writes}
use Rattle.sqcrash.specs.Rigs.{RigState, rig_of, Judges, JudgesAll, BeginsRig, texts_at}
use Rattle.sqcrash.specs.declared.plan.Plan.{Plan}
use Rattle.sqcrash.specs.Told.{Told}
use Rattle.sqcrash.specs.declared.stopped.Stopped.{Stopped}
use Rattle.sqcrash.proofs.JudgedRecords.{judges_more}
use Rattle.sqcrash.proofs.AppendedBytes.{appends_more}
use Rattle.sqcrash.proofs.WrittenTexts.{writes_none, writes_more, behind_none}
use Rattle.rig_play.specs.Trace.{IsTrace}
use Rattle.rig_play.specs.declared.trace.Trace.{Trace}
use Rattle.sqcrash.specs.Marked.{are_at_marks}
use Rattle.sqcrash.specs.Refusals.{WriteRefused}
use Rattle.sqcrash.specs.Refused.{RigRefused, BeginRefused}
use Rattle.sqcrash.proofs.PassedRefusals.{passed}
use Rattle.sqcrash.proofs.RefusedTraces.{IsFirst, IsJudgedTo, is_first, split_at, of_begin, of_rig, of_writes}
use Rattle.sqcrash.proofs.UnreadTraces.{begun_written, judged_written, lines_written}
use Rattle.sqcrash.proofs.program.judge_records.Goals as goal

-- what stands for a record behind the last
behind : Record
behind = record { kind = Base; subject = Db; making = 0; thread = 0; answer = 0; place = 0; length = 0; from = 0 }

pub loop-call-init : goal.loop-call-init
loop-call-init g c = record { judged = ([], (refl, refl), writes_none c.args.plan.lines 0 (g.O.Write.contents c.begun.new.out)); plan = c.in_ok-rig.ensures.plan }

pub loop-call-preserved : goal.loop-call-preserved
unfolding behind
loop-call-preserved g c =
    let bytes = c.args.bytes.now in
    let plan = c.args.plan in
    let first = rig_of c.in_ok-rig.rig in
    let records = c.deref-call-items.result.now in
    let i = c.loop-call.call-index in
    let mid = rig_of c.loop-call.rig in
    let new = rig_of c.play.new.self in
    let found = c.in_ok-findings.findings.items in
    let so_far = c.loop-call.invariant.judged in
    let r = get_or records i behind in
    let of_found = texts_at plan bytes r new found in
    let texts = so_far.0 ++ of_found in
    let told = c.loop-call.told in
    let next = c.in_ok-next.next in
    let judged = subst (λ (p : Plan). Judges p bytes r mid new found) c.loop-call.invariant.plan c.in_ok-findings.ensures.judged in
    let before = g.O.Write.contents c.loop-call.out in
    let after = g.O.Write.contents c.write_findings.new.out in
    let written : Writes plan.lines of_found told next before after =
    subst (λ (at : Stopped). Writes plan.lines (texts_of plan at found) told next before after) c.stopped.ensures
    (subst (λ (l : List Told). Writes plan.lines (texts_of plan c.stopped.result l) told next before after) c.deref.ensures.value c.in_ok-next.ensures) in
    record {
      judged = (
        texts,
        subst (λ (played : List Record). JudgesAll plan bytes played first new texts) (sym (take_more records i behind c.loop-call-test.true))
            (judges_more plan bytes (take i records) r first mid new so_far.0 found so_far.1 judged),
        writes_more plan.lines so_far.0 of_found 0 told next (g.O.Write.contents c.begun.new.out) before after so_far.2 written,
      );
      plan = c.in_ok-findings.ensures.plan ∙ c.loop-call.invariant.plan;
    }

pub returns-clause-judged : goal.returns-clause-judged
returns-clause-judged g c =
    let plan = c.args.plan in
    let bytes = c.args.bytes.now in
    let first = rig_of c.in_ok-rig.rig in
    let records = c.deref-call-items.result.now in
    let last = rig_of c.loop-call.rig in
    let so_far = c.loop-call.invariant.judged in
    let begun = c.in_ok-rig.ensures.begins in
    let old = g.O.Write.contents c.args.out.now in
    let mid = g.O.Write.contents c.begun.new.out in
    let told = g.O.Write.contents c.loop-call.out in
    let new = g.O.Write.contents c.write_left.new.out in
    let texts = so_far.0 in
    let of_texts = joined (first_of plan.lines texts) in
    let left = left_text plan.style plan.lines (length texts) in
    let of_first : Appends mid told of_texts =
    subst (λ (k : Option ℕ). Appends mid told (joined (first_of k texts))) (behind_none plan.lines) so_far.2.1 in
    let count : c.loop-call.told ≡ length texts = omega (arith, so_far.2.0) in
    let of_left : Appends told new left = subst (λ (k : ℕ). Appends told new (left_text plan.style plan.lines k)) count c.in_ok-write_left.ensures in (
      begun.0 ++ (of_texts ++ left),
      record {
        trace = c.in_ok-trace.trace;
        is_trace = c.in_ok-trace.ensures;
        first = first;
        of_commits = begun.0;
        begun = subst (λ (l : List Record). BeginsRig plan bytes l first begun.0) c.as_slice.ensures.value begun.1;
        last = last;
        of_images = so_far.0;
        judged = subst (λ (played : List Record). JudgesAll plan bytes played first last so_far.0) (take_all c.loop-call.call-index records c.loop-call-test.false ∙ c.deref-call-items.ensures.value) so_far.1;
        counted = c.tally.ensures;
        all = refl;
      },
      appends_more old mid new begun.0 (of_texts ++ left) begun.2 (appends_more mid told new of_texts left of_first of_left),
    )

-- the records before one that is refused were judged
judged_to : (plan : Plan) (b : List ℕ) (trace : Trace) (records slice : List Record) (i : ℕ) (first mid : RigState) (of_commits : List ℕ) (lines : List (List ℕ))
    → IsTrace b trace → records ≡ trace.records.items → slice ≡ trace.records.items → i < length records → BeginsRig plan b slice first of_commits
    → JudgesAll plan b (take i records) first mid lines
    → IsJudgedTo plan b trace (take i records) (drop (i + 1) records) (get_or records i behind) mid lines
judged_to plan b trace records slice i first mid of_commits lines is all same below begins judged = record {
  trace = is;
  split = sym all ∙ split_at records i behind below;
  first = first;
  is_first = subst (λ (l : List Record). IsFirst plan (length l) first) same (is_first (are_at_marks plan.commits) plan b slice first of_commits begins);
  judged = judged;
}

pub returns-in_err-rig-clause-refused : goal.returns-in_err-rig-clause-refused
returns-in_err-rig-clause-refused g c =
    let plan = c.args.plan in
    let bytes = c.args.bytes.now in
    let trace = c.in_ok-trace.trace in
    let refused = subst (λ (l : List Record). BeginRefused plan bytes l c.in_err-rig.field-0.0) c.as_slice.ensures.value c.in_err-rig.ensures.refused in
    passed c.from_residual-in_err-rig.result _ _ _ c.from_residual-in_err-rig.ensures.1 (of_begin plan bytes trace _ c.in_ok-trace.ensures refused)

pub returns-in_err-findings-clause-refused : goal.returns-in_err-findings-clause-refused
unfolding behind
returns-in_err-findings-clause-refused g c =
    let plan = c.args.plan in
    let bytes = c.args.bytes.now in
    let trace = c.in_ok-trace.trace in
    let records = c.deref-call-items.result.now in
    let i = c.loop-call.call-index in
    let mid = rig_of c.loop-call.rig in
    let so_far = c.loop-call.invariant.judged in
    let r = get_or records i behind in
    let begun = c.in_ok-rig.ensures.begins in
    let to = judged_to plan bytes trace records c.as_slice.result.now i (rig_of c.in_ok-rig.rig) mid begun.0 so_far.0 c.in_ok-trace.ensures
    c.deref-call-items.ensures.value c.as_slice.ensures.value c.loop-call-test.true begun.1 so_far.1 in
    let refused = subst (λ (p : Plan). RigRefused p bytes r mid c.in_err-findings.field-0.0) c.loop-call.invariant.plan c.in_err-findings.ensures.refused in
    passed c.from_residual-in_err-findings.result _ _ _ c.from_residual-in_err-findings.ensures.1
    (of_rig plan bytes trace (take i records) (drop (i + 1) records) r mid so_far.0 _ to refused)

pub returns-in_err-next-clause-refused : goal.returns-in_err-next-clause-refused
unfolding behind
returns-in_err-next-clause-refused g c =
    let plan = c.args.plan in
    let bytes = c.args.bytes.now in
    let trace = c.in_ok-trace.trace in
    let records = c.deref-call-items.result.now in
    let i = c.loop-call.call-index in
    let first = rig_of c.in_ok-rig.rig in
    let mid = rig_of c.loop-call.rig in
    let new = rig_of c.play.new.self in
    let found = c.in_ok-findings.findings.items in
    let so_far = c.loop-call.invariant.judged in
    let r = get_or records i behind in
    let of_found = texts_at plan bytes r new found in
    let texts = so_far.0 ++ of_found in
    let told = c.loop-call.told in
    let judged = subst (λ (p : Plan). Judges p bytes r mid new found) c.loop-call.invariant.plan c.in_ok-findings.ensures.judged in
    let all = judges_more plan bytes (take i records) r first mid new so_far.0 found so_far.1 judged in
    let count : told + length of_found ≤ length texts = omega (arith, so_far.2.0, length-append so_far.0 of_found) in
    let split : trace.records.items ≡ take i records ++ r ∷ drop (i + 1) records = sym c.deref-call-items.ensures.value ∙ split_at records i behind c.loop-call-test.true in
    let refused : WriteRefused told (length of_found) c.in_err-next.field-0.0 =
    subst (λ (at : Stopped). WriteRefused told (length (texts_of plan at found)) c.in_err-next.field-0.0) c.stopped.ensures
    (subst (λ (l : List Told). WriteRefused told (length (texts_of plan c.stopped.result l)) c.in_err-next.field-0.0) c.deref.ensures.value c.in_err-next.ensures) in
    passed c.from_residual-in_err-next.result _ _ _ c.from_residual-in_err-next.ensures.1
    (of_writes plan bytes trace (take i records) (drop (i + 1) records) r first new texts told (length of_found) _ c.in_ok-trace.ensures split all count refused)

pub returns-in_err-rig-clause-unread : goal.returns-in_err-rig-clause-unread
returns-in_err-rig-clause-unread g c =
    let written = begun_written c.args.plan c.args.bytes.now c.as_slice.result.now _ (g.O.Write.contents c.args.out.now) (g.O.Write.contents c.begun.new.out) c.in_err-rig.ensures.refused in
    passed c.from_residual-in_err-rig.result _ _ _ c.from_residual-in_err-rig.ensures.1 written

pub returns-in_err-findings-clause-unread : goal.returns-in_err-findings-clause-unread
unfolding behind
returns-in_err-findings-clause-unread g c =
    let r = get_or c.deref-call-items.result.now c.loop-call.call-index behind in
    let written = judged_written c.loop-call.rig.plan c.args.bytes.now r (rig_of c.loop-call.rig) c.in_err-findings.field-0.0 (g.O.Write.contents c.args.out.now) (g.O.Write.contents c.loop-call.out) c.in_err-findings.ensures.refused in
    passed c.from_residual-in_err-findings.result _ _ _ c.from_residual-in_err-findings.ensures.1 written

pub returns-in_err-next-clause-unread : goal.returns-in_err-next-clause-unread
unfolding behind
returns-in_err-next-clause-unread g c =
    let plan = c.args.plan in
    let found = c.in_ok-findings.findings.items in
    let r = get_or c.deref-call-items.result.now c.loop-call.call-index behind in
    let of_found = texts_at plan c.args.bytes.now r (rig_of c.play.new.self) found in
    let told = c.loop-call.told in
    let refused : WriteRefused told (length of_found) c.in_err-next.field-0.0 =
    subst (λ (at : Stopped). WriteRefused told (length (texts_of plan at found)) c.in_err-next.field-0.0) c.stopped.ensures
    (subst (λ (l : List Told). WriteRefused told (length (texts_of plan c.stopped.result l)) c.in_err-next.field-0.0) c.deref.ensures.value c.in_err-next.ensures) in
    let written = lines_written told (length of_found) c.in_err-next.field-0.0 (g.O.Write.contents c.args.out.now) (g.O.Write.contents c.write_findings.new.out) refused in
    passed c.from_residual-in_err-next.result _ _ _ c.from_residual-in_err-next.ensures.1 written
