use Rattle.sqcheck.proofs.Below.{HasMagic, HasPageSize, HeaderFault, HeaderRefused, IsHeader, List, exits, false, heading_is, heading_refused, not_incremental, not_plain, size_differs, size_named, subst, sym, take, true, ℕ, ◌+◌, ◌∙◌, ◌≡◌, ◌≢◌, ◌≤◌}
use Rattle.sqcheck.proofs.header.judge.Goals.{else-not-maps-via-then-not-maps+else-header-ne0, else-not-maps-via-else-not-maps, else-maps-via-then-maps+then-header-eq0+else-header-ne0-2, else-maps-via-then-maps+else-header-eq0, else-maps-via-else-maps}
use Rattle.sqcheck.proofs.header.judge.Goals as goal

pub returns-then-names_another-clause-err : goal.returns-then-names_another-clause-err
returns-then-names_another-clause-err c =
    let another = subst (λ (h : List ℕ). HasMagic h × (size_named h ≢ c.args.size)) c.head_in-head.ensures (c.names_another.ensures.another c.if-names_another.true) in
    size_differs c.args.maps c.args.size c.args.bytes.now another.0 another.1

pub returns-in_err-header-clause-err : goal.returns-in_err-header-clause-err
returns-in_err-header-clause-err c = exits (λ fault. HeaderFault c.args.maps fault c.args.size c.args.bytes.now) c.in_err-header.field-0.0 c.from_residual.result c.from_residual.ensures.1
    (heading_refused c.args.maps c.in_err-header.field-0.0 c.args.size c.args.bytes.now
    (subst (λ (h : List ℕ). HasMagic h → HasPageSize h × (size_named h ≡ c.args.size)) c.head_in-head.ensures (c.names_another.ensures.same c.if-names_another.false))
    (subst (λ (h : List ℕ). HeaderRefused c.in_err-header.field-0.0 h) c.head_in-head.ensures c.in_err-header.ensures.err))

pub returns-then-header-ne0-clause-err : goal.returns-then-header-ne0-clause-err
returns-then-header-ne0-clause-err c =
    let is = subst (λ (h : List ℕ). IsHeader c.in_ok-header.header h) c.head_in-head.ensures c.in_ok-header.ensures.ok in
    let same = subst (λ (h : List ℕ). HasMagic h → HasPageSize h × (size_named h ≡ c.args.size)) c.head_in-head.ensures (c.names_another.ensures.same c.if-names_another.false) in
    not_plain c.args.maps c.in_ok-header.header c.args.size c.args.bytes.now is (same is.magic).1 c.if-not-maps.true c.if-header-ne0.true

pub returns-then-header-ne0-2-clause-err : goal.returns-then-header-ne0-2-clause-err
returns-then-header-ne0-2-clause-err c =
    let is = subst (λ (h : List ℕ). IsHeader c.in_ok-header.header h) c.head_in-head.ensures c.in_ok-header.ensures.ok in
    let same = subst (λ (h : List ℕ). HasMagic h → HasPageSize h × (size_named h ≡ c.args.size)) c.head_in-head.ensures (c.names_another.ensures.same c.if-names_another.false) in
    not_incremental c.args.maps c.in_ok-header.header c.args.size c.args.bytes.now is (same is.magic).1 c.if-maps.true c.if-header-ne0-2.true c.if-header-eq0.true

pub returns-clause-ok : goal.returns-clause-ok
returns-clause-ok c =
    let is = subst (λ (h : List ℕ). IsHeader c.in_ok-header.header h) c.head_in-head.ensures c.in_ok-header.ensures.ok in
    let same = subst (λ (h : List ℕ). HasMagic h → HasPageSize h × (size_named h ≡ c.args.size)) c.head_in-head.ensures (c.names_another.ensures.same c.if-names_another.false) in
    heading_is c.args.maps c.in_ok-header.header c.args.size c.args.bytes.now is (same is.magic).1
    (λ none. elim c.else-not-maps.branch [
      | else-not-maps-via-then-not-maps+else-header-ne0 w ↦ w.if-header-ne0.false
      | else-not-maps-via-else-not-maps w ↦ absurd (let both : true ≡ false = sym w.if-not-maps.false ∙ none in cc)
    ])
    (λ asked ne zero'. elim c.else-maps.branch [
      | else-maps-via-then-maps+then-header-eq0+else-header-ne0-2 w ↦ ne w.if-header-ne0-2.false
      | else-maps-via-then-maps+else-header-eq0 w ↦ w.if-header-eq0.false zero'
      | else-maps-via-else-maps w ↦ absurd (let both : false ≡ true = sym w.if-maps.false ∙ asked in cc)
    ])

pub returns-clause-room : goal.returns-clause-room
returns-clause-room c =
    let is = subst (λ (h : List ℕ). IsHeader c.in_ok-header.header h) c.head_in-head.ensures c.in_ok-header.ensures.ok in
    let same = subst (λ (h : List ℕ). HasMagic h → HasPageSize h × (size_named h ≡ c.args.size)) c.head_in-head.ensures (c.names_another.ensures.same c.if-names_another.false) in
    let room : 480 + c.in_ok-header.header.reserved ≤ size_named (take 100 c.args.bytes.now) = subst (λ (n : ℕ). 480 + n ≤ size_named (take 100 c.args.bytes.now)) (sym is.reserved) is.room in
    subst (λ (n : ℕ). 480 + c.in_ok-header.header.reserved ≤ n) (same is.magic).1 room
