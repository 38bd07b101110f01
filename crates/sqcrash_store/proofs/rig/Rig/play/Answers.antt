use Rattle.std.proofs.Common.{◌≡◌, inr, ℕ, Bool, [], refl, sym, subst}
use Rattle.std.proofs.lemmas.Result.{IfErr-weaker, IfOk-weaker}
use Rattle.rig_store.specs.Calls.{bytes_of}
use Rattle.rig_store.specs.Stores.{store_of}
use Rattle.sqcrash_store.specs.Refused.{PointRefused}
use Rattle.sqcrash_store.specs.Rigs.{RigState, rig_of, JudgesWhere, NotesBy}
use Rattle.sqcrash_store.specs.Surveys.{judging_of}
use Rattle.sqcrash_store.specs.declared.tally.Tally.{Tally}
use Rattle.sqcrash_store.proofs.AppendedBytes.{appends_none}
use Rattle.sqcrash_store.proofs.CountedRecords.{noted_by}
use Rattle.sqcrash_store.proofs.KeptImages.{keeps_none}
use Rattle.sqcrash_store.proofs.rig.Rig.play.Goals as goal

pub returns-then-not-is_point-clause-played : goal.returns-then-not-is_point-clause-played
returns-then-not-is_point-clause-played g c =
    let noted = rig_of c.note.new.self in
    let bench = c.args.bench.now in
    let call = c.args.call.now in
    let played : RigState = record (rig_of c.args.self.now) { store = store_of c.play.new.store } in (
      [],
      [],
      record {
        store = store_of c.play.new.store;
        goes = c.in_ok-play.ensures;
        noted = noted;
        notes = subst (λ (n : ℕ). NotesBy call.action bench.plan (bytes_of bench.trace.now call) (record played { played = n }) noted) c.in_ok-self.ensures c.in_ok-note.ensures;
        tally = noted.tally;
        judges = subst (λ (b : Bool). JudgesWhere g.J.Judge.says b (judging_of bench) call noted noted.tally [] []) c.if-not-is_point.ensures (refl, refl, refl);
        counts = refl;
      },
      appends_none (g.O.Write.contents c.args.out.now),
      keeps_none (g.J.Judge.kept c.args.judge.now),
    )

pub returns-clause-played : goal.returns-clause-played
returns-clause-played g c =
    let noted = rig_of c.note.new.self in
    let bench = c.args.bench.now in
    let call = c.args.call.now in
    let played : RigState = record (rig_of c.args.self.now) { store = store_of c.play.new.store } in
    IfOk-weaker c.judge.result _ _ (λ done judged. (
      judged.0,
      judged.1,
      record {
        store = store_of c.play.new.store;
        goes = c.in_ok-play.ensures;
        noted = noted;
        notes = subst (λ (n : ℕ). NotesBy call.action bench.plan (bytes_of bench.trace.now call) (record played { played = n }) noted) c.in_ok-self.ensures c.in_ok-note.ensures;
        tally = c.judge.new.self.tally;
        judges = subst (λ (b : Bool). JudgesWhere g.J.Judge.says b (judging_of bench) call noted c.judge.new.self.tally judged.0 judged.1) c.if-not-is_point.ensures judged.2;
        counts = judged.3;
      },
      judged.4,
      judged.5,
    )) c.judge.ensures.judged

pub returns-clause-refused : goal.returns-clause-refused
returns-clause-refused g c =
    let noted = rig_of c.note.new.self in
    let bench = c.args.bench.now in
    let j = judging_of bench in
    let call = c.args.call.now in
    let old = rig_of c.args.self.now in
    let begun : RigState = record old { store = store_of c.play.new.store; played = c.in_ok-self.field-0 } in
    let same : noted.tally ≡ old.tally = (noted_by call.action bench.plan (bytes_of bench.trace.now call) begun noted c.in_ok-note.ensures).tally in
    IfErr-weaker c.judge.result _ _ (λ refusal is. inr (inr (inr (sym c.if-not-is_point.ensures, subst (λ (t : Tally). PointRefused j t refusal) same is)))) c.judge.ensures.refused
