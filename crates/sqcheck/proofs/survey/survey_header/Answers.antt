use Rattle.sqcheck.proofs.Facts.{HasHeaderOf, HeaderFault, IsFoundFault, header_found, header_kind, header_sound, inr, is_of_header, names_down, on_ok, refl, subst, sym, tells_nothing, tells_one, true, ◌≡◌, ◌⊎◌}
use Rattle.sqpage.specs.declared.fault.Fault.TheVariants.{PointerMap}
use Rattle.sqcheck.proofs.survey.survey_header.Goals as goal

pub returns-in-Ok-clause-tells : goal.returns-in-Ok-clause-tells
returns-in-Ok-clause-tells c = λ d first. tells_nothing c.args.options.pointer_maps d c.args.size c.args.chart.now.faults.items c.args.chart.now.faults.items refl

pub returns-in-Err-clause-tells : goal.returns-in-Err-clause-tells
returns-in-Err-clause-tells c = λ d first.
    let maps = c.args.options.pointer_maps in
    let size = c.args.size in
    let e = c.in-Err.error in
    let h = c.in-Err.ensures.err in
    on_ok _ _ c.tell.result
    (λ down. tells_one maps d size e c.args.chart.now.faults.items c.tell.new.self.faults.items down
    (subst (IsFoundFault maps d size e.fault) (sym h.0) (header_found maps d size size e.fault refl (subst (HeaderFault maps e.fault size) first h.1))))
    c.tell.ensures.down

pub returns-in-Ok-clause-header : goal.returns-in-Ok-clause-header
returns-in-Ok-clause-header c = λ d first none.
    absurd (none (header_sound c.args.options.pointer_maps d _ c.args.size c.args.size refl (subst (HasHeaderOf c.args.options.pointer_maps _ c.args.size) first c.in-Ok.ensures.ok)))

pub returns-in-Err-clause-header : goal.returns-in-Err-clause-header
returns-in-Err-clause-header c = λ d first.
    let maps = c.args.options.pointer_maps in
    let e = c.in-Err.error in
    let h = c.in-Err.ensures.err in
    on_ok _ _ c.tell.result
    (λ down none. names_down (λ x. (x.page ≡ 1) × ((is_of_header x.fault ≡ true) ⊎ (x.fault ≡ PointerMap))) e c.args.chart.now.faults.items c.tell.new.self.faults.items down
    (h.0, header_kind maps e.fault c.args.size c.args.bytes.now h.1))
    c.tell.ensures.down
