use Rattle.sqkeydiff.proofs.LawsOfChanges.{changes_are_makers, changes_once, changes_apply}
use Rattle.sqkeydiff.proofs.laws.changes_make_the_new_rows.Goals as goal

pub returns-clause-make : goal.returns-clause-make
returns-clause-make c by old new cs h k = changes_are_makers by old new cs h k

pub returns-clause-one : goal.returns-clause-one
returns-clause-one c by old new cs other all more = changes_once by old new cs other all more

pub returns-clause-rows : goal.returns-clause-rows
returns-clause-rows c by old new rows cs h k all = changes_apply by old new cs h k all rows
