use Rattle.sqpage.proofs.page.read_parts.Goals as goal

pub returns-in-TableLeaf-clause-yes : goal.returns-in-TableLeaf-clause-yes
returns-in-TableLeaf-clause-yes c = rw c.in-TableLeaf.is c.read_parts_of.ensures.yes

pub returns-in-TableLeaf-clause-not : goal.returns-in-TableLeaf-clause-not
returns-in-TableLeaf-clause-not c = rw c.in-TableLeaf.is c.read_parts_of.ensures.not

pub returns-in-TableInterior-clause-yes : goal.returns-in-TableInterior-clause-yes
returns-in-TableInterior-clause-yes c = rw c.in-TableInterior.is c.read_parts_of-in-TableInterior.ensures.yes

pub returns-in-TableInterior-clause-not : goal.returns-in-TableInterior-clause-not
returns-in-TableInterior-clause-not c = rw c.in-TableInterior.is c.read_parts_of-in-TableInterior.ensures.not

pub returns-in-IndexLeaf-clause-yes : goal.returns-in-IndexLeaf-clause-yes
returns-in-IndexLeaf-clause-yes c = rw c.in-IndexLeaf.is c.read_parts_of-in-IndexLeaf.ensures.yes

pub returns-in-IndexLeaf-clause-not : goal.returns-in-IndexLeaf-clause-not
returns-in-IndexLeaf-clause-not c = rw c.in-IndexLeaf.is c.read_parts_of-in-IndexLeaf.ensures.not

pub returns-in-IndexInterior-clause-yes : goal.returns-in-IndexInterior-clause-yes
returns-in-IndexInterior-clause-yes c = rw c.in-IndexInterior.is c.read_parts_of-in-IndexInterior.ensures.yes

pub returns-in-IndexInterior-clause-not : goal.returns-in-IndexInterior-clause-not
returns-in-IndexInterior-clause-not c = rw c.in-IndexInterior.is c.read_parts_of-in-IndexInterior.ensures.not
