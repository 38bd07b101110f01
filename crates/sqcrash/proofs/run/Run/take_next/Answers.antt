use Rattle.std.proofs.Common.{◌<◌, Bool, true, false, length, reverse, refl, sym, ap, subst, arith}
use Rattle.std.proofs.lemmas.Result.{MatchResult-weaker}
use Rattle.rig_images.specs.Left.{IsPresent}
use Rattle.sqcrash.specs.Runs.{RunState, TakesWaiting, run_of}
use Rattle.sqcrash.specs.Snapshots.{ShowsLastOf}
use Rattle.sqcrash.proofs.WaitingCommits.{takes_waiting, takes_none, some_left}
use Rattle.sqcrash.proofs.run.Run.take_next.Goals as goal

pub returns-then-len-eq0 : goal.returns-then-len-eq0
returns-then-len-eq0 c =
    let items = c.args.self.now.waiting.items in
    takes_none items c.args.thread (run_of c.args.self.now) (omega (arith, c.len.ensures, c.args.self.now.waiting.ok.0))

pub returns-then-not-branch : goal.returns-then-not-branch
returns-then-not-branch c =
    let items = c.look.new.self.waiting.items in
    let seen = run_of c.look.new.self in
    let present = c.look.new.self.watched.present in
    let same = c.in_ok-look.ensures.same in
    let is_present = subst (λ (s : RunState). IsPresent s.files present) (sym same) c.in_ok-look.ensures.present in
    let shows : ShowsLastOf items present false = subst (λ (b : Bool). ShowsLastOf items present b) c.if-not-branch.true c.in_ok-shows_next.ensures in
    subst (λ (s : RunState). TakesWaiting s.waiting c.args.thread s seen) same
    (takes_waiting (reverse items) c.args.thread seen seen present false is_present shows (λ e. refl) (λ next rest e. refl))

pub returns : goal.returns
returns c =
    let items = c.look.new.self.waiting.items in
    let seen = run_of c.look.new.self in
    let present = c.look.new.self.watched.present in
    let same = c.in_ok-look.ensures.same in
    let is_present = subst (λ (s : RunState). IsPresent s.files present) (sym same) c.in_ok-look.ensures.present in
    let shows : ShowsLastOf items present true = subst (λ (b : Bool). ShowsLastOf items present b) c.if-not-branch.false c.in_ok-shows_next.ensures in
    let some : 0 < length items = omega (arith, c.if-len-eq0.false, c.len.ensures, c.args.self.now.waiting.ok.0, ap length c.in_ok-look.ensures.waiting) in
    MatchResult-weaker c.push_next.result c.push_next.ensures
    (λ done took. subst (λ (s : RunState). TakesWaiting s.waiting c.args.thread s (run_of c.push_next.new.self)) same
    (takes_waiting (reverse items) c.args.thread seen (run_of c.push_next.new.self) present true is_present shows (λ e. absurd (some_left items some e)) took))
    (λ refusal is. is)
