use Rattle.std.proofs.Common.{subst}
use Rattle.sqschema.specs.Schema.{SchemaRefused}
use Rattle.sqview.specs.LogView.{pages_of}
use Rattle.sqdeepjudge.proofs.SchemaFindings.{TellsUnread, only_limit}
use Rattle.sqdeepjudge.proofs.verdict.judge_schema.Goals as goal

pub returns-in-Err-Unread-clause-refused : goal.returns-in-Err-Unread-clause-refused
returns-in-Err-Unread-clause-refused g c = λ gives maps w inside.
    let v = c.args.view.now in
    let d = pages_of g.F.FileBytes.bytes v in
    let refused = subst (SchemaRefused d) c.in-Err-Unread.field-0-is (c.in-Err-Unread.ensures.err gives) in
    let told = subst (λ e. TellsUnread e c.unread.result) c.in-Err-Unread.error-is c.unread.ensures in
    only_limit maps d v.page_size c.in-Err-Unread.error c.unread.result w inside refused told
