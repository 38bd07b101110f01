use Rattle.sqcheck.proofs.Facts.{AreFoundFaults, AreFoundRoles, CheckError, Database, IfSome, IsReserved, List, Option, Role, along_reserved, found_roles, judged_roles, none_free, subst}
use Rattle.sqcheck.proofs.survey.survey_behind.Goals as goal

pub returns-clause-roles : goal.returns-clause-roles
returns-clause-roles g c = λ right.
    let pages = g.S.PageSource.pages in
    let size = g.S.PageSource.size in
    let read = c.reserved_by_maps.new.source in
    let keeps = c.in_ok-reserved.ensures.keeps in
    let reserved = c.in_ok-reserved.reserved in
    let set = c.in_ok-chart.ensures.set in
    let new : List Role = c.survey_snapshot.new.chart.roles.items in
    let known = c.in_ok-reserved.ensures.only right in
    let here = along_reserved (pages c.args.source.now) (pages read) (size c.args.source.now) (size read) reserved keeps.same_pages keeps.same_size known in
    let found = c.in_ok-survey_snapshot.ensures.found (keeps.still_right right) set.long (none_free (pages read) (size read) reserved c.in_ok-chart.chart.roles.items set) c.if-not-branch.false in
    let roles = found_roles (pages read) (size read) c.in_ok-chart.chart.roles.items new c.survey_snapshot.new.chart.faults.items reserved set here found.charted in
    subst (λ k. AreFoundRoles (pages c.args.source.now) k new) keeps.same_size (subst (λ (q : Database). AreFoundRoles q (size read) new) keeps.same_pages roles)

pub returns-clause-faults : goal.returns-clause-faults
returns-clause-faults g c = λ right.
    let pages = g.S.PageSource.pages in
    let size = g.S.PageSource.size in
    let maps = c.args.options.pointer_maps in
    let read = c.reserved_by_maps.new.source in
    let keeps = c.in_ok-reserved.ensures.keeps in
    let reserved = c.in_ok-reserved.reserved in
    let set = c.in_ok-chart.ensures.set in
    let new : List Role = c.survey_snapshot.new.chart.roles.items in
    let told : List CheckError = c.survey_snapshot.new.chart.faults.items in
    let known = c.in_ok-reserved.ensures.only right in
    let here = along_reserved (pages c.args.source.now) (pages read) (size c.args.source.now) (size read) reserved keeps.same_pages keeps.same_size known in
    let found = c.in_ok-survey_snapshot.ensures.found (keeps.still_right right) set.long (none_free (pages read) (size read) reserved c.in_ok-chart.chart.roles.items set) c.if-not-branch.false in
    let there : AreFoundFaults maps (pages read) (size read) new told = record {
      only = found.only;
      header = found.header;
      starts = found.charted.starts;
      judged = judged_roles (pages read) (size read) c.in_ok-chart.chart.roles.items new told reserved set here found.charted;
      unused = found.unused;
      free = found.free;
      largest = found.largest;
    } in
    subst (λ k. AreFoundFaults maps (pages c.args.source.now) k new told) keeps.same_size (subst (λ (q : Database). AreFoundFaults maps q (size read) new told) keeps.same_pages there)
