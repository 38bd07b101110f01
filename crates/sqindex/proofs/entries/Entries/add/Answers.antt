use Rattle.std.proofs.Common.{◌≡◌, ◌<◌, ◌≤◌, ◌+◌, Bool, true, false, All, sym, subst, ◌++◌, ◌∷◌, [], ◌∙◌, ap, map, length, List, ℕ, None, w64, arith}
use Rattle.std.specs.Prelude.{is_ok, if◌then◌else◌}
use Rattle.std.proofs.lemmas.Grind.{common_steps}
use Rattle.std.proofs.lemmas.Int.{to_z-of_z}
use Rattle.sqindex.specs.declared.entries.Held.{Held}
use Rattle.sqindex.specs.internal.Bodies.{start_in, size_in}
use Rattle.sqindex.specs.internal.Held.{held_in}
use Rattle.sqindex.proofs.EntriesHeld.{held_more, one_within, all_within}
use Rattle.sqindex.proofs.entries.Entries.add.Goals as goal

-- one was added, or none was
pushed : (P : Held → Type 0) (list new : List Held) (h : Held) (b : Bool) → new ≡ (if b then list ++ h ∷ [] else list) → All P list → All P (list ++ h ∷ []) → All P new
pushed P list new h true is kept grown = subst (All P) (sym is) grown
pushed P list new h false is kept grown = subst (All P) (sym is) kept

pub returns-clause-held : goal.returns-clause-held
returns-clause-held c =
    let bytes = c.args.self.now.bytes.items in
    let new = c.keep_behind.new.bytes.items in
    let list = c.args.self.now.list.items in
    let payload = c.args.payload.now in
    let found = c.args.found in
    let h : Held = c.held_of.result in
    let e = c.held_of.ensures in
    let items : c.push.new.self.items ≡ list ++ h ∷ [] = c.in_ok-push.ensures.items in
    let start : c.in_ok-start.start ≡ length bytes = grind (arith, common_steps) in
    let cell : c.in_ok-cell.cell ≡ found.cell = c.in_ok-cell.ensures in
    ap (λ (z : List Held). map (held_in new) z) items
    ∙ held_more bytes new list payload h c.args.self.now.within c.in_ok-keep_behind.ensures.ok e.few (λ many. let m = e.many many in (m.0, m.1 ∙ start, m.2))
    ∙ ap (λ (k : ℕ). map (held_in bytes) list ++ record { page = k; cell = h.cell; rowid = None; bytes = payload } ∷ []) e.place.1
    ∙ ap (λ (k : ℕ). map (held_in bytes) list ++ record { page = found.page; cell = k; rowid = None; bytes = payload } ∷ []) (e.place.2 ∙ cell)

pub returns-clause-last : goal.returns-clause-last
returns-clause-last c = (c.held_of.result, c.in_ok-push.ensures.items, c.held_of.ensures.place.0 ∙ to_z-of_z w64 c.args.rowid c.ranges.rowid)

pub invariant_of-self-2 : goal.invariant_of-self-2
invariant_of-self-2 c =
    let bytes = c.args.self.now.bytes.items in
    let new = c.keep_behind.new.bytes.items in
    let list = c.args.self.now.list.items in
    let payload = c.args.payload.now in
    let h : Held = c.held_of.result in
    let e = c.held_of.ensures in
    let start : c.in_ok-start.start ≡ length bytes = grind (arith, common_steps) in
    let grown = one_within bytes new list payload h c.args.self.now.within c.in_ok-keep_behind.ensures.ok e.few (λ many. let m = e.many many in (m.0, m.1 ∙ start, m.2)) in
    let kept = all_within (length bytes) (length new) list c.args.self.now.within (omega (arith, c.in_ok-keep_behind.ensures.more)) in
    record { within = pushed (λ h. 16 < h.size → start_in h.body + size_in h.body ≤ length new) list c.push.new.self.items h (is_ok c.push.result) c.push.ensures.items kept grown }
