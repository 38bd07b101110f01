use Rattle.sqrescue_c.proofs.place.sqr_page_place.Goals as goal

pub returns-clause-placed : goal.returns-clause-placed
returns-clause-placed c = λ _. c.place_at.ensures
