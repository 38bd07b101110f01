use Rattle.rollcore.proofs.Facts.{List, Names, ap, length, length-take-le, subst, sym, ℕ, ◌∙◌}
use Rattle.rollcore.proofs.segments.fill_header.Goals as goal

pub copy_from_slice-requires : goal.copy_from_slice-requires
copy_from_slice-requires c = length-take-le 28 c.args.header.now c.requires.long ∙ sym (ap (λ (l : List ℕ). length l) c.write.ensures.bytes)

pub returns-clause-names : goal.returns-clause-names
returns-clause-names c = subst (λ (l : List ℕ). Names l c.args.head.now) c.write.ensures.bytes c.write.ensures.names
