use Rattle.sqworld.proofs.Facts.{Commits, JEvent, None, ap, guarded, numbered, others_set, set_serves, sym, ◌∙◌}
use Rattle.sqworld.specs.JournalRun.{act_of}
use Rattle.sqworld.proofs.journal_engine.answer.Goals as goal

pub returns-in-Commit-clause-serves : goal.returns-in-Commit-clause-serves
returns-in-Commit-clause-serves c = guarded c.commit.result c.args.page_size c.args.roll.now c.commit.new.roll c.args.event.now (Commits (numbered c.deref.result.now) c.in-Commit.size c.deref-in-Commit.result.now)
    (ap (λ p. Commits (numbered p) c.in-Commit.size c.deref-in-Commit.result.now) c.deref.ensures.value
    ∙ (ap (λ n. Commits (numbered c.in-Commit.pages.items) c.in-Commit.size n) c.deref-in-Commit.ensures.value ∙ sym (ap (λ (e : JEvent). act_of e None None) c.in-Commit.is)))
    (c.commit.ensures c.args.page_size)

pub returns-in-Read-clause-serves : goal.returns-in-Read-clause-serves
returns-in-Read-clause-serves c = guarded c.read.result c.args.page_size c.args.roll.now c.read.new.roll c.args.event.now _ (sym (ap (λ (e : JEvent). act_of e None None) c.in-Read.is)) c.read.ensures

pub returns-in_ok-set-in_default-clause-serves : goal.returns-in_ok-set-in_default-clause-serves
returns-in_ok-set-in_default-clause-serves c opens crashes =
    set_serves c.args.page_size c.args.roll.now c.set.new.roll c.args.event.now opens (others_set c.args.event.now c.in_default.not-Commit c.in_default.not-Read opens crashes) c.set.ensures.core c.in_ok-set-in_default.ensures.set
