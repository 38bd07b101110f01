use Rattle.std.proofs.Common.{◌≢◌, inr, subst}
use Rattle.sqpage.specs.declared.fault.CheckError.{CheckError}
use Rattle.sqpage.specs.declared.fault.Fault.TheVariants.{NoMemory}
use Rattle.sqrows.specs.declared.payload.PayloadError.{PayloadError}
use Rattle.sqrows.specs.Payloads.{PayloadRefused}
use Rattle.sqval.specs.Record.{most_bytes}
use Rattle.cli_show_salvage.proofs.found.read_cell.Goals as goal

pub returns-in_default : goal.returns-in_default
returns-in_default g c =
    let d = g.S.PageSource.pages c.args.source.now in
    let other = subst (λ (r : CheckError). r.fault ≢ NoMemory) c.in-Err-Chain.refusal-is c.in_default.not-NoMemory in
    record {
      ok = λ right. inr ((subst (λ (e : PayloadError). PayloadRefused d c.args.cell.now most_bytes e) c.in-Err-Chain.field-0-is (c.in-Err-Chain.ensures.err right)).1 other);
      err = λ right. tt;
      keeps = c.in-Err-Chain.ensures.keeps;
    }
