use Rattle.fmt_super.proofs.EndOfJournal.{named_by_end, names_by_end}
use Rattle.fmt_super.proofs.name.super_path.Goals as goal

pub returns-in-Some : goal.returns-in-Some
returns-in-Some c = λ journal is. record {
  name = c.in-Some.name.now;
  named = named_by_end journal c.args.end.now is c.in-Some.name.now c.in-Some.ensures;
  is = c.path_in.ensures;
}

pub returns-in-None : goal.returns-in-None
returns-in-None c = λ journal is path named. c.in-None.ensures named.name (names_by_end journal c.args.end.now is named.name named.named)
