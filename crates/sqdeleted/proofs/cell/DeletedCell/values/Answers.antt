use Rattle.sqval.specs.Datum.{row_of}
use Rattle.sqdeleted.proofs.FirstValues.{lead_there, stand_ok}
use Rattle.sqdeleted.proofs.cell.DeletedCell.values.Goals as goal

pub returns-in-Some : goal.returns-in-Some
returns-in-Some c = λ begins.
    let h = c.in-Some.ensures in
    let payload = c.args.self.now.payload in
    let local = c.args.self.now.local.now in
    let header = c.in-Some.header in
    let types = c.in-Some.types.now in
    let lead = lead_there payload header h.0 types local h.1 h.2 begins in
    stand_ok payload header h.0 types local h.1 h.2 (λ v. row_of v.items) c.first_values.result c.split_at.result.1.now c.split_at.ensures.back (c.first_values.ensures begins.types lead)

pub returns-in-None : goal.returns-in-None
returns-in-None c = λ begins. absurd (c.in-None.ensures begins.header begins.size begins.has)
