-- What the scans of logs answer.
use Rattle.sqwal.specs.declared.scan.Entry.{Entry}
use Rattle.sqrescue_c.specs.declared.wal.Frame.{Frame}

abbrev pub no_entry : Entry
no_entry = record { page = 0; size = 0 }

abbrev pub frame_of : Entry → Frame
frame_of entry = record { page = entry.page; size = entry.size }
