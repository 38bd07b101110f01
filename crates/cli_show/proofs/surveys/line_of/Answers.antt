use Rattle.std.proofs.Common.{List, length, refl, subst}
use Rattle.std.proofs.lemmas.Option.{slice_get_read}
use Rattle.std.specs.List.Sorted.{IsNonDecreasingBy}
use Rattle.sqpage.specs.declared.fault.CheckError.{CheckError}
use Rattle.cli_facts.specs.Faults.{IsFirstFault}
use Rattle.cli_show.proofs.surveys.line_of.Goals as goal

pub returns : goal.returns
returns g c =
    let roles = c.args.found.now.survey.roles.items in
    record {
      number = c.number_of-number.ensures;
      role = slice_get_read roles (length roles) c.args.i c.index-role.result.now refl c.requires c.index-role.ensures;
      name = c.name_of.ensures;
      logged = record { frame = c.logged.ensures.frame; record_number = c.logged.ensures.record };
      fault = subst (λ (l : List CheckError). IsNonDecreasingBy (λ (e : CheckError). e.page) l → IsFirstFault l c.number_of-number.result c.first_fault.result)
          c.deref.ensures.value c.first_fault.ensures;
    }
