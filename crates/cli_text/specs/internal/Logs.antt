-- How a write-ahead log and a journal are printed (own).
use Rattle.cli_text.specs.declared.logs.Shown.{Shown}
use Rattle.cli_text.specs.Logs.{Log}

-- what a scan answers
abbrev pub log_of : Shown → Log
log_of s = record { header = s.header; entries = s.entries.now; front = s.front; stop = s.stop }
