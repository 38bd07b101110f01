use Rattle.std.proofs.Common.{◌≡◌, ◌++◌, ◌+◌, ◌-◌, ℕ, suc, List, [], refl, sym, subst, add-one, append_assoc, append-nil, arith}
use Rattle.std.proofs.KnownBytes.{Appends-trans}
use Rattle.sqval.specs.Datum.{Datum, datum_of}
use Rattle.sqlite_value.specs.declared.keys.Key.{Key}
use Rattle.sqlite_value.specs.declared.keys.Order.{Order}
use Rattle.sqlite_value.specs.Keys.{first_key, later}
use Rattle.cli_change_text.specs.Names.{AreKeyColumns, IsKeyColumn}
use Rattle.cli_change_text.proofs.name.write_key_columns.Goals as goal

pub loop-place-preserved : goal.loop-place-preserved
loop-place-preserved g c =
    let naming = c.args.naming in
    let columns = c.args.style.columns.now in
    let key = c.args.key in
    let values = c.args.values.now in
    let h = c.loop-place.invariant in
    let e = c.in_ok-write_key_column.ensures in
    let p = c.loop-place.place in
    let order = c.loop-place.order in
    let sorted = subst (λ (k : Key). IsKeyColumn c.args.style.encoding naming columns k.collation p (datum_of c.stored_in-value.result) e.0) c.first-sorted.ensures e.1 in
    let own = subst (λ (v : Datum). IsKeyColumn c.args.style.encoding naming columns (first_key order).collation p v e.0) c.stored_in-value.ensures sorted in
    let left : key.width - p ≡ suc (key.width - (p + 1)) = omega (arith, c.loop-place-test.true) in (
      h.0 ++ e.0,
      Appends-trans (g.W.Write.contents c.args.out.now) (g.W.Write.contents c.loop-place.out) (g.W.Write.contents c.write_key_column.new.out) h.0 e.0 h.1 e.2,
      λ more are.
          let rest = subst (λ (o : Order). AreKeyColumns c.args.style.encoding naming columns o values (p + 1) (key.width - (p + 1)) more) c.later-order.ensures are in
          let next = subst (λ (k : ℕ). AreKeyColumns c.args.style.encoding naming columns (later order) values k (key.width - (p + 1)) more) (add-one p) rest in
          let all = h.2 (e.0 ++ more) (subst (λ (n : ℕ). AreKeyColumns c.args.style.encoding naming columns order values p n (e.0 ++ more)) (sym left) (e.0, more, own, next, refl)) in
          subst (AreKeyColumns c.args.style.encoding naming columns key.order values 0 key.width) (sym (append_assoc h.0 e.0 more)) all,
    )

pub returns : goal.returns
returns g c =
    let key = c.args.key in
    let h = c.loop-place.invariant in
    let none : key.width - c.loop-place.place ≡ 0 = omega (arith, c.loop-place-test.false) in
    let all = h.2 [] (subst (λ (n : ℕ). AreKeyColumns c.args.style.encoding c.args.naming c.args.style.columns.now c.loop-place.order c.args.values.now c.loop-place.place n []) (sym none) refl) in
    (h.0, subst (AreKeyColumns c.args.style.encoding c.args.naming c.args.style.columns.now key.order c.args.values.now 0 key.width) (append-nil h.0) all, h.1)
