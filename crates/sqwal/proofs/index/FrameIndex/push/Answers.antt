use Rattle.std.proofs.Common.{◌≡◌, ◌∷◌, ◌++◌, ◌+◌, [], List, ℕ, length, get_or, sym, ◌∙◌, ap, subst, arith}
use Rattle.std.specs.Prelude.{slice_set, vec_capacity}
use Rattle.sqwal.specs.Index.{FrameTable}
use Rattle.sqwal.specs.internal.Chains.{IsIndex, table_of}
use Rattle.sqwal.proofs.find.FrameChainsOfPages.{may_push, pushed, index_next, table_next}
use Rattle.sqwal.proofs.index.FrameIndex.push.Goals as goal

pub invariant_of-self : goal.invariant_of-self
invariant_of-self c =
    let newest : List ℕ = c.self.inside.newest.items in
    let earlier : List ℕ = c.self.inside.earlier.items in
    let p : ℕ = c.args.page in
    let room : ℕ = c.self.inside.room in
    let old : ℕ = vec_capacity c.self.inside.earlier in
    let count : c.len.result ≡ length earlier = omega arith in
    let may = may_push newest earlier room old p c.len.result c.args.self.now c.self.view_is c.self.invariant count c.requires.page c.requires.room in
    let items : c.push.new.self.items ≡ earlier ++ get_or newest p 0 ∷ [] = pushed newest earlier c.push.new.self.items c.index-before.result.now p may.some c.index-before.ensures (rw c.unwrap.ensures at c.push.ensures.items) in
    let fits = c.self.invariant.fits in
    let more = c.push.ensures.capacity in
    subst (λ (l : List ℕ). IsIndex (slice_set newest p (c.len.result + 1)) l room (vec_capacity c.push.new.self)) (sym items)
    (index_next newest earlier room old (vec_capacity c.push.new.self) p c.len.result c.self.invariant may.page count may.room_left (omega arith))

pub returns : goal.returns
returns c =
    let newest : List ℕ = c.self.inside.newest.items in
    let earlier : List ℕ = c.self.inside.earlier.items in
    let p : ℕ = c.args.page in
    let room : ℕ = c.self.inside.room in
    let old : ℕ = vec_capacity c.self.inside.earlier in
    let count : c.len.result ≡ length earlier = omega arith in
    let may = may_push newest earlier room old p c.len.result c.args.self.now c.self.view_is c.self.invariant count c.requires.page c.requires.room in
    let items : c.push.new.self.items ≡ earlier ++ get_or newest p 0 ∷ [] = pushed newest earlier c.push.new.self.items c.index-before.result.now p may.some c.index-before.ensures (rw c.unwrap.ensures at c.push.ensures.items) in
    ap (λ (l : List ℕ). table_of (slice_set newest p (c.len.result + 1)) l room) items
    ∙ table_next newest earlier room old p c.len.result c.self.invariant may.page count may.room_left
    ∙ ap (λ (t : FrameTable). record t { pages = t.pages ++ p ∷ [] }) c.self.view_is
