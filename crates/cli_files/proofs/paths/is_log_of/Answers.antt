use Rattle.cli_files.proofs.paths.is_log_of.Goals as goal

pub returns-then-not-has_name_beside : goal.returns-then-not-has_name_beside
returns-then-not-has_name_beside c = ((λ no. absurd (cc)), λ both. absurd (let yes = c.has_name_beside.ensures.1 both.0 in let no = c.if-not-has_name_beside.true in cc))

pub returns : goal.returns
returns c = ((λ yes. (c.has_name_beside.ensures.0 c.if-not-has_name_beside.false, c.are_one_folder.ensures.0 yes)), λ both. c.are_one_folder.ensures.1 both.1)
