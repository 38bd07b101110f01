use Rattle.sqworld.proofs.Facts.{Event, None, act_of, answer_of, ap, numbered, sym, told_act, ◌∙◌}
use Rattle.walcore.specs.Machine.{Commits}
use Rattle.sqworld.proofs.serve.AnswersToEvents.{guarded, set_serves, others_set}
use Rattle.sqworld.proofs.session.Session.call.Goals as goal

pub returns-in-Commit-clause-serves : goal.returns-in-Commit-clause-serves
returns-in-Commit-clause-serves c = guarded c.commit.result c.args.page_size c.args.self.now c.commit.new.self c.args.event.now (Commits (numbered c.deref.result.now) c.in-Commit.size)
    (ap (λ p. Commits (numbered p) c.in-Commit.size) c.deref.ensures.value ∙ sym (ap (λ (e : Event). act_of e None None) c.in-Commit.is)) (c.commit.ensures.serves c.args.page_size)

pub returns-in-Sync-clause-serves : goal.returns-in-Sync-clause-serves
returns-in-Sync-clause-serves c = told_act c.args.page_size c.args.self.now c.sync.new.self c.args.event.now _ (answer_of c.sync.result) (sym (ap (λ (e : Event). act_of e None None) c.in-Sync.is)) (c.sync.ensures.serves c.args.page_size)

pub returns-in-Checkpoint-clause-serves : goal.returns-in-Checkpoint-clause-serves
returns-in-Checkpoint-clause-serves c = told_act c.args.page_size c.args.self.now c.checkpoint.new.self c.args.event.now _ (answer_of c.checkpoint.result) (sym (ap (λ (e : Event). act_of e None None) c.in-Checkpoint.is)) (c.checkpoint.ensures.serves c.args.page_size)

pub returns-in-Restart-clause-serves : goal.returns-in-Restart-clause-serves
returns-in-Restart-clause-serves c = told_act c.args.page_size c.args.self.now c.restart.new.self c.args.event.now _ (answer_of c.restart.result) (sym (ap (λ (e : Event). act_of e None None) c.in-Restart.is)) (c.restart.ensures.serves c.args.page_size)

pub returns-in-Begin-clause-serves : goal.returns-in-Begin-clause-serves
returns-in-Begin-clause-serves c = guarded c.begin.result c.args.page_size c.args.self.now c.begin.new.self c.args.event.now _ (sym (ap (λ (e : Event). act_of e None None) c.in-Begin.is)) (c.begin.ensures.serves c.args.page_size)

pub returns-in-Read-clause-serves : goal.returns-in-Read-clause-serves
returns-in-Read-clause-serves c = guarded c.read.result c.args.page_size c.args.self.now c.read.new.self c.args.event.now _ (sym (ap (λ (e : Event). act_of e None None) c.in-Read.is)) c.read.ensures.serves

pub returns-in-End-clause-serves : goal.returns-in-End-clause-serves
returns-in-End-clause-serves c = told_act c.args.page_size c.args.self.now c.end.new.self c.args.event.now _ (answer_of c.end.result) (sym (ap (λ (e : Event). act_of e None None) c.in-End.is)) (c.end.ensures.serves c.args.page_size)

pub returns-in_ok-set-in_default-clause-serves : goal.returns-in_ok-set-in_default-clause-serves
returns-in_ok-set-in_default-clause-serves c opens crashes =
    let d = c.in_default in
    set_serves c.args.page_size c.args.self.now c.set.new.self c.args.event.now opens
    (others_set c.args.event.now d.not-Commit d.not-Sync d.not-Checkpoint d.not-Restart d.not-Begin d.not-Read d.not-End opens crashes) c.set.ensures.core c.in_ok-set-in_default.ensures.set c.set.ensures.first c.set.ensures.slots
