use Rattle.std.proofs.Common.{[], ◌++◌, ◌∙◌, subst}
use Rattle.std.specs.Prelude.{MatchResult}
use Rattle.sqwal.specs.Took.{TookFrames}
use Rattle.sqwal.specs.internal.ScanParts.{FramesRefused}
use Rattle.sqwal.specs.declared.scan.Progress.{Progress}
use Rattle.sqwal.proofs.scan.Scan.finish.Goals as goal

pub returns-then-len-frame_length-clause-took : goal.returns-then-len-frame_length-clause-took
returns-then-len-frame_length-clause-took c b t none is = subst (λ (k : Progress). MatchResult c.take.result (λ _. TookFrames c.args.header.now (b ++ c.args.first.now) [] c.take.new.self.entries.items c.take.new.self.progress) (FramesRefused k.limits.frames c.args.header.now.page_size (b ++ c.args.first.now))) c.in_ok-hold.ensures.progress (c.take.ensures.took b c.args.self.now.held.items c.args.first.now (rw (c.in_ok-hold.ensures.entries, c.in_ok-hold.ensures.progress) t) (c.deref.ensures.value ∙ c.in_ok-hold.ensures.held))
