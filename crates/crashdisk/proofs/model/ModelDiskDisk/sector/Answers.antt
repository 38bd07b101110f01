use Rattle.crashdisk.proofs.Between.{size_is, sound_disk, state_of}
use Rattle.crashdisk.proofs.model.ModelDiskDisk.sector.Goals as goal

pub returns-clause-is_size : goal.returns-clause-is_size
returns-clause-is_size c = size_is c.args.self.now.sector c.args.self.now.is_size

pub returns-clause-sound : goal.returns-clause-sound
returns-clause-sound c = λ word.
    let disk = c.args.self.now in
    sound_disk (state_of disk) disk.is_size disk.db_solid disk.log_solid disk.counted disk.untorn
