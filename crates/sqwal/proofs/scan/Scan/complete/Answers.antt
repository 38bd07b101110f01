use Rattle.std.proofs.Common.{◌++◌, take, refl, ◌∙◌, ap}
use Rattle.sqwal.proofs.feed.PieceFedToScan.{fed-back}
use Rattle.sqwal.proofs.scan.Scan.complete.Goals as goal

pub returns-in-Err : goal.returns-in-Err
returns-in-Err c b some t none is =
    let back = fed-back c.args.self.now.frames.progress.limits.frames c.args.header.now b (c.args.first.now ++ c.args.rest.now) c.args.self.now.held.items c.truncate.new.self.items c.args.self.now.frames.entries.items c.truncate-in-Err.new.self.items c.args.self.now.frames.progress c.args.self.now.header c.advance.new.self.header c.in-Err.error some
    (c.truncate.ensures.items ∙ ap (λ n. take n c.advance.new.self.held.items) (c.len-held.ensures ∙ c.args.self.now.held.ok.0) ∙ c.in-Err.ensures.held)
    (c.truncate-in-Err.ensures.items ∙ ap (λ n. take n c.advance.new.self.frames.entries.items) (c.len-count.ensures ∙ c.args.self.now.frames.entries.ok.0) ∙ c.in-Err.ensures.entries)
    c.in-Err.ensures.header t (c.in-Err.ensures.took b t none is) in
    (record { limit = refl; parts = back.0 }, back.1)
