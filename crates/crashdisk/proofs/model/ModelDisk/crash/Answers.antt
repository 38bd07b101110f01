use Rattle.crashdisk.proofs.Between.{file_of, image_of, left_since, naming_of}
use Rattle.crashdisk.proofs.model.ModelDisk.crash.Goals as goal

pub returns-clause-left : goal.returns-clause-left
returns-clause-left c =
    let disk = c.args.self.now in
    let image = image_of disk.sector disk.tears (file_of disk.sector disk.log) (naming_of c.args.choice.now.log) in
    assumption (left_since disk.tears image disk.since c.crash_log.new.since disk.untorn c.crash_log.ensures.since)
