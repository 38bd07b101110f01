use Rattle.std.proofs.Common.{◌≡◌, ◌∙◌, ◌∷◌, ◌++◌, map, refl, inl, sym, ap, subst, rules}
use Rattle.sqval.specs.Datum.{Datum, datum_of}
use Rattle.sqpage.specs.Lists.{In}
use Rattle.sqpage.proofs.chain.ListsByRecursion.{every_in, in_right}
use Rattle.sqdeep.specs.Records.{IsFormed}
use Rattle.sqdeep.proofs.records.texts_are_formed.Goals as goal

pub returns-then-not-is_formed : goal.returns-then-not-is_formed
returns-then-not-is_formed c =
    let x : Datum = datum_of c.in-Some.value in
    let next : c.values.value-iterator ≡ x ∷ c.next.new.self = search rules in
    let row : c.args.row.now ≡ map datum_of c.values.yielded ++ (x ∷ c.next.new.self) = sym c.values.invariant.all ∙ ap (λ l. map datum_of c.values.yielded ++ l) next in
    let at : In x c.args.row.now = subst (In x) (sym row) (in_right x (map datum_of c.values.yielded) (x ∷ c.next.new.self) (inl refl)) in (
      (λ no. cc),
      (λ all. let yes = c.is_formed.ensures.1 (every_in (IsFormed c.args.encoding) x c.args.row.now all at) in let no = c.if-not-is_formed.true in cc),
    )
