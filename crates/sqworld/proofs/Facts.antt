-- The same, with all facts that the proofs of functions cite.
pub use Rattle.sqworld.proofs.Words.{Answers, Begins, Bool, Checkpoints, Choice, Closed, Commits, CrashedLog, DiskState, Done, EngineServes, Err, Event, HasServed, IfOk, IsLeftAt, IsLeftBy, JEvent, JournalEngine, ModelDisk, None, Ok, OnOk, Open, Option, Page, Refused, Restarts, Rests, Result, StepsTo, Syncs, WalEngine, [], act_of, answer_of, answered, ap, concat, false, get_or, is_crash, is_opening, length, lent, number_of, numbered, pages_of, refl, rules, set, state_of, subst, sym, take, ℕ, ◌+◌, ◌<◌, ◌∙◌, ◌≡◌}
pub use Rattle.sqworld.proofs.run.BasePages.{joined_more, not_pages, pages_more}
pub use Rattle.sqworld.proofs.run.NextEvent.{life_begins, served_none}
pub use Rattle.sqworld.proofs.serve.AnswersToEvents.{opened_session, told_act}
pub use Rattle.sqworld.proofs.serve.CallsAsSteps.{began, ended, filled, found_slot, is_token, no_read, stepped_still, was_read}
pub use Rattle.sqworld.proofs.serve.JournalAnswersToEvents.{call_answers, closed_rests, closed_serves, crash_answers, crash_at_answers, given_up, guarded, not_crash, not_open, open_answers, open_rests, open_serves, opened, others_set, set_serves, stepped}
pub use Rattle.sqworld.proofs.serve.NextServedEvent.{run_of, serves_next, taken_on, taken_whole}
