use Rattle.std.proofs.Common.{inl, sym, subst}
use Rattle.std.proofs.lemmas.Result.{MatchResult-weaker}
use Rattle.rig_play.specs.declared.trace.Kind.{Kind}
use Rattle.sqcrash.specs.Marked.{MarksBy}
use Rattle.sqcrash.specs.Markings.{marking_of}
use Rattle.sqcrash.specs.Runs.{run_of}
use Rattle.sqcrash.proofs.MarkedRecords.{marks_call}
use Rattle.sqcrash.proofs.PlayedRecords.{keeps_checked, refused_keeps}
use Rattle.sqcrash.proofs.PassedRefusals.{passed}
use Rattle.sqcrash.proofs.marked.Marking.play.Goals as goal

pub returns-in_ok-go-in-Mark : goal.returns-in_ok-go-in-Mark
returns-in_ok-go-in-Mark c =
    let call = c.args.call.now in
    let old = marking_of c.args.self.now in
    let new = marking_of c.note.new.self in
    MatchResult-weaker c.note.result c.note.ensures
    (λ done noted. subst (λ (k : Kind). MarksBy k c.args.trace.now call old new) (sym c.in-Mark.is) (marking_of c.begin.new.self, marking_of c.go-in-Mark.new.self, c.in_ok-begin-in-Mark.ensures, c.in_ok-go-in-Mark.ensures, noted))
    (λ refusal memory. inl memory)

pub returns-in_ok-begin-in_default : goal.returns-in_ok-begin-in_default
returns-in_ok-begin-in_default c =
    let call = c.args.call.now in
    MatchResult-weaker c.go-in_default.result c.go-in_default.ensures
    (λ done goes. marks_call call.kind c.args.trace.now call (marking_of c.args.self.now) (marking_of c.begin-in_default.new.self) (marking_of c.go-in_default.new.self) c.in_default.not-Base c.in_default.not-Mark c.in_ok-begin-in_default.ensures goes)
    (λ refusal is. refused_keeps c.args.trace.now call (run_of c.args.self.now.run) (run_of c.begin-in_default.new.self.run) refusal
    (keeps_checked call.thread (marking_of c.args.self.now) (marking_of c.begin-in_default.new.self) c.in_ok-begin-in_default.ensures) is)

pub returns-in_err-go-in-Mark : goal.returns-in_err-go-in-Mark
returns-in_err-go-in-Mark c =
    let call = c.args.call.now in
    passed c.from_residual-in_err-go-in-Mark.result _ _ _ c.from_residual-in_err-go-in-Mark.ensures.1
    (refused_keeps c.args.trace.now call (run_of c.args.self.now.run) (run_of c.begin.new.self.run) _
    (keeps_checked call.thread (marking_of c.args.self.now) (marking_of c.begin.new.self) c.in_ok-begin-in-Mark.ensures) c.in_err-go-in-Mark.ensures)
