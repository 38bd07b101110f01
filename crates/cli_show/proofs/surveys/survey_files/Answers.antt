use Rattle.std.proofs.Common.{List, ℕ, sym, subst}
use Rattle.std.specs.Prelude.{Result, IfOk, IfErr}
use Rattle.cli_facts.specs.declared.outcome.Refusal.{Refusal}
use Rattle.cli_show.specs.Contents.{contents_of}
use Rattle.cli_show.specs.Found.{IsFoundOf, IsUnfound}
use Rattle.cli_show.specs.Views.{IsAskedView, AskedRefused}
use Rattle.cli_show.specs.declared.surveys.Found.{Found}
use Rattle.cli_show.proofs.FoundFiles.{found_of_view, refused_of_view, found_of_none, refused_of_none}
use Rattle.cli_show.proofs.surveys.survey_files.Goals as goal

pub returns-in-Ok-clause-found : goal.returns-in-Ok-clause-found
returns-in-Ok-clause-found g c = λ given.
    let bytes = g.F.FileBytes.bytes in
    let files = contents_of bytes c.args.files in
    let same = c.records_in.ensures.same in
    let still = same.still_gives given.2 in
    let asked = subst (λ (j : List ℕ). IsAskedView c.args.asked.limits bytes c.args.asked.at files.db files.wal j c.in-Ok.view) same.same_bytes (c.in-Ok.ensures.answer (given.0, given.1, still)) in
    found_of_view c.args.asked.maps.pointer_maps c.args.asked.limits bytes c.args.asked.at files c.in-Ok.view c.in_ok-records.records asked c.found_in.result (c.in_ok-records.ensures.found given.2)
    (c.found_in.ensures.found (c.in-Ok.ensures.still_gives (given.0, given.1, still)))

pub returns-in-Ok-clause-refused : goal.returns-in-Ok-clause-refused
returns-in-Ok-clause-refused g c = λ given.
    let bytes = g.F.FileBytes.bytes in
    let files = contents_of bytes c.args.files in
    let same = c.records_in.ensures.same in
    let still = same.still_gives given.2 in
    let asked = subst (λ (j : List ℕ). IsAskedView c.args.asked.limits bytes c.args.asked.at files.db files.wal j c.in-Ok.view) same.same_bytes (c.in-Ok.ensures.answer (given.0, given.1, still)) in
    refused_of_view c.args.asked.maps.pointer_maps c.args.asked.limits bytes c.args.asked.at files c.in-Ok.view c.in_ok-records.records asked c.found_in.result
    (c.found_in.ensures.refused (c.in-Ok.ensures.still_gives (given.0, given.1, still)))

pub returns-in-Err-clause-found : goal.returns-in-Err-clause-found
returns-in-Err-clause-found g c = λ given.
    let bytes = g.F.FileBytes.bytes in
    let files = contents_of bytes c.args.files in
    let same = c.records_in.ensures.same in
    let still = same.still_gives given.2 in
    let refused = c.in-Err.ensures.answer (given.0, given.1, still) in
    let asked = subst (λ (j : List ℕ). AskedRefused c.args.asked.limits c.args.asked.at files.db files.wal j c.in-Err.error) same.same_bytes refused in
    subst (λ (r : Result (Found g.row.F.Denot) Refusal). IfOk r (IsFoundOf c.args.asked.maps.pointer_maps c.args.asked.limits bytes c.args.asked.at files)) (sym c.without_pages.ensures)
    (found_of_none c.args.asked.maps.pointer_maps c.args.asked.limits bytes c.args.asked.at files c.in-Err.error asked)

pub returns-in-Err-clause-refused : goal.returns-in-Err-clause-refused
returns-in-Err-clause-refused g c = λ given.
    let bytes = g.F.FileBytes.bytes in
    let files = contents_of bytes c.args.files in
    let same = c.records_in.ensures.same in
    let still = same.still_gives given.2 in
    let refused = c.in-Err.ensures.answer (given.0, given.1, still) in
    let asked = subst (λ (j : List ℕ). AskedRefused c.args.asked.limits c.args.asked.at files.db files.wal j c.in-Err.error) same.same_bytes refused in
    subst (λ (r : Result (Found g.row.F.Denot) Refusal). IfErr r (IsUnfound c.args.asked.maps.pointer_maps c.args.asked.limits c.args.asked.at files)) (sym c.without_pages.ensures)
    (refused_of_none c.args.asked.maps.pointer_maps c.args.asked.limits bytes c.args.asked.at files c.in-Err.error asked)
