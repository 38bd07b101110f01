use Rattle.std.proofs.Common.{append_assoc}
use Rattle.std.proofs.lemmas.List.{append-nil}
use Rattle.cli_text.proofs.pages.write_payload.Goals as goal

pub returns-in-Json-Some : goal.returns-in-Json-Some
returns-in-Json-Some g c =
    rw (c.in-Json-Some.is-0, c.in-Json-Some.is-1) (simp (append_assoc, append-nil) c.write-in-Json-Some.ensures.bytes)
