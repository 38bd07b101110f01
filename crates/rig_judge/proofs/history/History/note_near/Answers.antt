use Rattle.std.proofs.Common.{ℕ, List, sym, subst}
use Rattle.rig_judge.specs.Near.{IsNear, last_of}
use Rattle.rig_judge.specs.Shown.{commits_of}
use Rattle.rig_judge.proofs.JudgmentOfFiles.{noted_view, empty_tells}
use Rattle.rig_judge.proofs.history.History.note_near.Goals as goal

pub returns-in-Ok-clause-noted : goal.returns-in-Ok-clause-noted
returns-in-Ok-clause-noted c = λ near.
    let last = last_of (commits_of c.args.self.now) in
    let there = subst (λ (x : List ℕ). IsNear last x c.args.near.now) (sym (c.in-Ok.ensures.reads (tt, tt)).file_is) near in
    noted_view _ c.args.db.now c.args.wal.now c.args.journal.now c.in-Ok.view (commits_of c.args.self.now) (commits_of c.note_view.new.self) c.note_view.result
    (c.in-Ok.ensures.answer (tt, tt, tt)) (c.note_view.ensures.noted (tt, tt) there)

pub returns-in-Ok-clause-near : goal.returns-in-Ok-clause-near
returns-in-Ok-clause-near c = λ near.
    let last = last_of (commits_of c.args.self.now) in
    let file = (c.in-Ok.ensures.reads (tt, tt)).file_is in
    let there = subst (λ (x : List ℕ). IsNear last x c.args.near.now) (sym file) near in
    subst (λ (x : List ℕ). IsNear (last_of (commits_of c.note_view.new.self)) x c.note_view.new.near) file (c.note_view.ensures.near (tt, tt) there)

pub returns-in-Err-clause-noted : goal.returns-in-Err-clause-noted
returns-in-Err-clause-noted c = λ near.
    c.note_refused.ensures.noted c.args.db.now c.args.wal.now c.args.journal.now (c.in-Err.ensures.answer (tt, tt, tt)) (empty_tells c.is_empty.result c.args.db.now c.is_empty.ensures)

pub returns-in-Err-clause-near : goal.returns-in-Err-clause-near
returns-in-Err-clause-near c = λ near. c.forget.ensures (last_of (commits_of c.note_refused.new.self)) c.args.db.now

pub returns-in-Err-clause-memory : goal.returns-in-Err-clause-memory
returns-in-Err-clause-memory c =
    c.note_refused.ensures.memory c.args.db.now c.args.wal.now c.args.journal.now (c.in-Err.ensures.answer (tt, tt, tt))
