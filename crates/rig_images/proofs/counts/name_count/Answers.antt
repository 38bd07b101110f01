use Rattle.std.proofs.Common.{◌≡◌, ◌+◌, ◌<◌, ◌≤◌, Bool, List, cond, map, subst}
use Rattle.std.specs.Prelude.{MatchOption}
use Rattle.crashdisk.specs.Call.{DiskState}
use Rattle.crashdisk.specs.Model.{state_of}
use Rattle.rig_play.specs.Names.{name_of}
use Rattle.rig_images.specs.Ways.{files_ways, may_be_none}
use Rattle.rig_images.proofs.counts.name_count.Goals as goal

pub returns : goal.returns
returns c =
    let limit = c.args.limit in
    let answer = c.files_count.result in
    subst (λ (files : List DiskState). MatchOption answer (limit < cond (may_be_none (name_of c.args.name.now) c.args.holds) 1 0 + files_ways files) (λ n. (n ≡ cond (may_be_none (name_of c.args.name.now) c.args.holds) 1 0 + files_ways files) × (n ≤ limit))) c.held_files.ensures
    (subst (λ (none : Bool). MatchOption answer (limit < cond none 1 0 + files_ways (map (λ d. state_of d) c.held_files.result.now)) (λ n. (n ≡ cond none 1 0 + files_ways (map (λ d. state_of d) c.held_files.result.now)) × (n ≤ limit))) c.may_be_none.ensures c.files_count.ensures)
