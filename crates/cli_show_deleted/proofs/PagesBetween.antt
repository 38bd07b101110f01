-- The pages of two databases, one more at the end.
use Rattle.std.proofs.Common.{◌≡◌, ◌∙◌, ℕ, suc, ◌+◌, ◌-◌, ◌≤◌, List, [], ◌∷◌, ◌++◌, Option, length, take, refl, sym, ap, subst, add-one, arith}
use Rattle.std.proofs.KnownBytes.{Appends-nil, Appends-trans}
use Rattle.std.proofs.lemmas.List.{get_or_past}
use Rattle.std.proofs.Math.Seq.{take-nil}
use Rattle.std.specs.Io.KnownBytes.{Appends}
use Rattle.sqval.specs.Database.{Database, page}
use Rattle.sqpage.specs.Freelist.{usable_size}
use Rattle.sqcheck.specs.Places.{used_in}
use Rattle.sqcheck.specs.Surveys.{role_at}
use Rattle.sqcheck.specs.declared.role.Role.{Role}
use Rattle.sqdeep.specs.Records.{encoding_of}
use Rattle.sqdeep.specs.declared.text.Encoding.TheVariants.{Utf8}
use Rattle.cli_show_deleted.specs.Changes.{AreChangesOf, AreTextsBetween, Change, IsTextBetween, Surveyed, page_used}

-- a page behind the last one has no bytes
pub used_past : (d : Database) (n : ℕ) → length d ≤ n → used_in d (n + 1) ≡ []
unfolding page
used_past d n past = ap (take (usable_size d)) (get_or_past d (n + 1 - 1) [] (omega (arith, past))) ∙ take-nil {A = ℕ} (usable_size d)

-- where there are no pages texts are in UTF-8
pub encoding_none : (d : Database) → length d ≡ 0 → Utf8 ≡ encoding_of d
unfolding page
encoding_none [] none = refl
encoding_none (x ∷ d) none = absurd (omega (arith, none))

-- the changes of two pages as they were read are those of the databases
pub seen_between : (old new : Surveyed) (n : ℕ) (role later : Role) (used bytes : List ℕ) (changes : List Change) → role ≡ role_at old.roles n → used ≡ used_in old.pages n
    → later ≡ role_at new.roles n → bytes ≡ used_in new.pages n → AreChangesOf (record { role = role; used = used }) (record { role = later; used = bytes }) n changes
    → AreChangesOf (page_used old n) (page_used new n) n changes
seen_between old new n role later used bytes changes first are second too between =
    subst (λ (b : List ℕ). AreChangesOf (page_used old n) (record { role = role_at new.roles n; used = b }) n changes) too
    (subst (λ (r : Role). AreChangesOf (page_used old n) (record { role = r; used = bytes }) n changes) second
    (subst (λ (u : List ℕ). AreChangesOf (record { role = role_at old.roles n; used = u }) (record { role = later; used = bytes }) n changes) are
    (subst (λ (r : Role). AreChangesOf (record { role = r; used = used }) (record { role = later; used = bytes }) n changes) first between)))

-- the changes of the first pages were printed
abbrev pub AreBetween : (old new : Surveyed) → (n : ℕ) → (before after : Option (List ℕ)) → Type 0
AreBetween old new n before after = (t : List ℕ) × AreTextsBetween old new n t × Appends before after t

pub none_between : (old new : Surveyed) (out : Option (List ℕ)) → AreBetween old new 0 out out
none_between old new out = ([], refl, Appends-nil out)

pub one_between : (old new : Surveyed) (n : ℕ) (before mid after : Option (List ℕ)) → AreBetween old new n before mid
    → (t : List ℕ) × IsTextBetween old new (n + 1) t × Appends mid after t → AreBetween old new (n + 1) before after
one_between old new n before mid after done one =
    let text : IsTextBetween old new (suc n) one.0 = subst (λ (p : ℕ). IsTextBetween old new p one.0) (add-one n) one.1 in
    subst (λ (p : ℕ). AreBetween old new p before after) (sym (add-one n))
    (done.0 ++ one.0, (done.0, one.0, done.1, text, refl), Appends-trans before mid after done.0 one.0 done.2 one.2)
