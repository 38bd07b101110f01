use Rattle.std.proofs.Common.{List, ℕ, refl, sym, subst}
use Rattle.sqpage.specs.Header.{IsHeader}
use Rattle.cli_show.proofs.LinesBehind.{head_read}
use Rattle.cli_show.proofs.ShownFiles.{header_refused}
use Rattle.cli_show.proofs.behind.page_size_of.Goals as goal

pub returns-in-Ok : goal.returns-in-Ok
returns-in-Ok g c = λ gives.
    let db = g.F.FileBytes.bytes c.args.db.now in
    let head = head_read db c.read_at.new.out (c.in_ok-read_at.ensures.read (g.met.F.FileBytes.right c.args.db.now gives)) in
    (c.in-Ok.header, subst (λ (l : List ℕ). IsHeader c.in-Ok.header l) head c.in-Ok.ensures.ok, refl)

pub returns-in-Err : goal.returns-in-Err
returns-in-Err g c = λ gives header is.
    let db = g.F.FileBytes.bytes c.args.db.now in
    let head = head_read db c.read_at.new.out (c.in_ok-read_at.ensures.read (g.met.F.FileBytes.right c.args.db.now gives)) in
    header_refused c.in-Err.field-0 header c.read_at.new.out c.in-Err.ensures.err (subst (λ (l : List ℕ). IsHeader header l) (sym head) is)
