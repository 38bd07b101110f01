use Rattle.std.proofs.Common.{◌≡◌, inl, inr, List, ℕ, None, subst, sym}
use Rattle.std.specs.Prelude.{position}
use Rattle.std.specs.Str.{str_eq_ignore_ascii_case}
use Rattle.sqkeys.specs.Keyed.{stored}
use Rattle.sqkeys.proofs.entry_key.stored_as.Goals as goal

pub returns-in_default-place_in : goal.returns-in_default-place_in
returns-in_default-place_in c =
    let at = sym c.in_default-place_in.ensures in
    let here : position (λ other. str_eq_ignore_ascii_case other c.as_slice-name.result.now) (stored c.args.body.now c.args.key.now) ≡ None
    = subst (λ (xs : List (List ℕ)). position (λ other. str_eq_ignore_ascii_case other c.as_slice-name.result.now) xs ≡ None) c.requires at in
    inr (inl (subst (λ (n : List ℕ). position (λ other. str_eq_ignore_ascii_case other n) (stored c.args.body.now c.args.key.now) ≡ None) c.as_slice-name.ensures here))
