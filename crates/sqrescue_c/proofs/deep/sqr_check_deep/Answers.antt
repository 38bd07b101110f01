use Rattle.sqrescue_c.proofs.deep.sqr_check_deep.Goals as goal

pub returns-clause-found : goal.returns-clause-found
returns-clause-found c = λ low. let told = c.sqr_check_deep_all-status.ensures.found low in (told.0, told.1, told.2, told.3, told.4)

pub returns-clause-in_part : goal.returns-clause-in_part
returns-clause-in_part c = λ part. let told = c.sqr_check_deep_all-status.ensures.in_part part in (told.0, told.1, told.2, told.3, told.4)
