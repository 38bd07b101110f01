use Rattle.sqcheck.proofs.Words.{AreFound, inl, inr, is_marked, length, refl, subst, sym, true, ◌≡◌, ◌≢◌, ◌≤◌}
use Rattle.sqcheck.proofs.visit.FollowedPlaces.{step_on, step_wrong, step_left, within_marked}
use Rattle.sqcheck.proofs.walker.Walker.step.Goals.{else-not-before-via-then-not-before+else-is_taken, else-not-before-via-else-not-before}
use Rattle.sqpage.specs.declared.fault.Fault.TheVariants as faults
use Rattle.sqcheck.proofs.walker.Walker.step.Goals as goal

pub returns-in_ok-put_down-in-Ok-clause-found : goal.returns-in_ok-put_down-in-Ok-clause-found
returns-in_ok-put_down-in-Ok-clause-found g c = λ right first bars counted late rest n.
    let h = c.in-Ok.ensures in
    let passed = h.behind right n.is.proper in
    step_on g.V.Snapshot.maps g.V.Snapshot.pages g.V.Snapshot.size first bars counted late rest c.args.tree.now c.args.item c.args.self.now.uses c.args.self.now.walk c.args.chart.now n c.follow.new.self.uses c.follow.new.self.walk c.put_down.new.chart c.in-Ok.role
    h.taken.0 h.taken.1 passed.0 passed.1 (h.level right) c.in_ok-put_down-in-Ok.ensures.put (c.in_ok-put_down-in-Ok.ensures.tells right c.args.tree.now (n.spot, n.mapped.tour.waiting.0, n.is))

pub returns-in_ok-put_refused-in-Err-clause-found : goal.returns-in_ok-put_refused-in-Err-clause-found
returns-in_ok-put_refused-in-Err-clause-found g c = λ right first bars counted late rest n.
    let maps = g.V.Snapshot.maps in
    let d = g.V.Snapshot.pages in
    let size = g.V.Snapshot.size in
    let tree = c.args.tree.now in
    let it = c.args.item in
    let s = c.args.self.now in
    let f = c.follow.new.self in
    let e = c.in-Err.error in
    let h = c.in-Err.ensures in
    let taken = c.in_ok-tell-in-Err.ensures.taken in
    let some : e.fault ≢ faults.NoMemory = λ is. taken (inr is) in
    let refused = h.err right n.is.proper (λ is. taken (inl is)) in
    let mid = c.tell.new.self in
    let put = c.in_ok-put_refused-in-Err.ensures in
    let walk = put.walk in
    elim h.takes [
      | inl t ↦
          let found = step_wrong maps d size first bars counted late rest tree it s.uses s.walk c.args.chart.now n f.uses f.walk e mid.faults.items some h.rows refused c.in_ok-tell-in-Err.ensures.down (h.left some) (h.level right) c.put_refused.new.chart t.0 t.1
          (subst (λ l. Rattle.sqcheck.specs.internal.Found.PutsRole d it.page (Rattle.sqcheck.specs.internal.Walking.role_of tree it.task) l c.put_refused.new.chart.roles.items) c.tell.ensures.same (put.put right)) (put.tells right tree (n.spot, n.mapped.tour.waiting.0, n.is)) in
          subst (λ w. AreFound maps d size first bars counted late rest tree c.put_refused.new.self.uses w c.put_refused.new.chart) (sym walk.0)
          (subst (λ u. AreFound maps d size first bars counted late rest tree u f.walk c.put_refused.new.chart) (sym walk.1) found)
      | inr same ↦
          let now = c.is_taken.ensures.0 c.if-is_taken.true in
          let before = c.is_taken-before.ensures.1 (now.0, subst (λ l. it.page ≤ length l) same.0 now.1, subst (λ l. is_marked l it.page ≡ true) same.0 now.2) in
          let none = c.if-not-before.true in
          absurd (cc)
    ]

pub returns-else-not-before-clause-found : goal.returns-else-not-before-clause-found
returns-else-not-before-clause-found g c = λ right first bars counted late rest n.
    let maps = g.V.Snapshot.maps in
    let d = g.V.Snapshot.pages in
    let size = g.V.Snapshot.size in
    let tree = c.args.tree.now in
    let it = c.args.item in
    let s = c.args.self.now in
    let f = c.follow.new.self in
    let e = c.in-Err.error in
    let h = c.in-Err.ensures in
    let taken = c.in_ok-tell-in-Err.ensures.taken in
    let some : e.fault ≢ faults.NoMemory = λ is. taken (inr is) in
    let refused = h.err right n.is.proper (λ is. taken (inl is)) in
    let mid = c.tell.new.self in
    elim h.takes [
      | inr same ↦ step_left maps d size first bars counted late rest tree it s.uses s.walk c.args.chart.now n f.uses f.walk e mid.faults.items some h.rows refused c.in_ok-tell-in-Err.ensures.down (h.left some) (h.level right) mid same.0 same.1 c.tell.ensures.same refl
      | inl t ↦ elim c.else-not-before.branch [
        | else-not-before-via-then-not-before+else-is_taken w ↦
            let now = w.is_taken.ensures.1 (within_marked s.uses.marks.items f.uses.marks.items it.page t.0) in
            let none = w.if-is_taken.false in
            absurd (cc)
        | else-not-before-via-else-not-before w ↦
            let before = w.if-not-before.false in
            let was = t.0.was in
            let is = (c.is_taken-before.ensures.0 before).2 in
            absurd (cc)
      ]
    ]
