use Rattle.cli_text.proofs.PaddedHex.{padded-hex}
use Rattle.cli_text.proofs.fact.HexWordDisplay.fmt.Goals as goal

pub returns-clause-writes : goal.returns-clause-writes
returns-clause-writes g c plain ok =
    let written = rw (c.laid_out.ensures, c.in_radix.ensures) at c.write.ensures.writes in
    rw (padded-hex 8 c.args.self.now.0) at (written plain ok)
