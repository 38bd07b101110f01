-- The first faults of pages, of one page more.
use Rattle.std.proofs.Common.{◌≡◌, ◌∙◌, ◌⊎◌, ⊎_elim, inl, inr, ℕ, ◌+◌, ◌<◌, ◌≤◌, List, [], ◌∷◌, ◌++◌, get_or, Option, Some, None, refl, sym, ap, ap₂, subst, arith}
use Rattle.std.specs.Prelude.{slice_get}
use Rattle.std.specs.Io.KnownBytes.{Appends}
use Rattle.std.specs.List.{Contains, flat_map}
use Rattle.std.proofs.KnownBytes.{Appends-nil, Appends-trans}
use Rattle.std.proofs.lemmas.Bool.{cases_lt}
use Rattle.std.proofs.lemmas.List.{append-nil}
use Rattle.std.proofs.lemmas.List.Concat.{flat_map-append}
use Rattle.std.proofs.lemmas.List.Elements.{Contains-append_left, Contains-get_or, Contains-push, Contains-push_cases}
use Rattle.std.proofs.lemmas.List.Quantifiers.{all_pairs_push}
use Rattle.sqpage.specs.Freelist.{IsWithin}
use Rattle.sqpage.specs.declared.fault.CheckError.{CheckError}
use Rattle.sqpage.specs.declared.fault.Fault.{Fault}
use Rattle.cli_facts.specs.Faults.{IsFirstFault}
use Rattle.cli_show_salvage.specs.Faults.{AreFirsts, AreFirstsWritten, fault_line}
use Rattle.cli_show_salvage.specs.internal.Opening.{IsFirstTold}

abbrev error : (p : ℕ) → Fault → CheckError
error p f = record { page = p; fault = f }

some_same : {x y : CheckError} → Some x ≡ Some y → x ≡ y
some_same h = cc

-- a page has one first fault
once : (faults : List CheckError) (p : ℕ) (f g : Fault) → IsFirstFault faults p (Some f) → IsFirstFault faults p (Some g) → f ≡ g
once faults p f g (i, is, least) (j, at, first) =
    ⊎_elim (λ lt. absurd (first i (error p f) lt is refl))
    (λ ge. ⊎_elim (λ lt. absurd (least j (error p g) lt at refl))
    (λ le.
    let same : i ≡ j = omega arith in
    ap (λ (e : CheckError). e.fault) (some_same (sym is ∙ ap (slice_get faults) same ∙ at))) (cases_lt j i)) (cases_lt i j)

module _ (faults : List CheckError) where
  -- a page within more is one of those before, or the last
  within_cases : (n : ℕ) (e : CheckError) → IsWithin (n + 1) e.page → IsWithin n e.page ⊎ (e.page ≡ n + 1)
  within_cases n e h = ⊎_elim (λ lt. let last : e.page ≡ n + 1 = omega (arith, h.1) in inr last) (λ le. let before : e.page ≤ n = omega arith in inl (h.0, before)) (cases_lt n e.page)

  within_more : (n : ℕ) (e : CheckError) → IsWithin n e.page → IsWithin (n + 1) e.page
  within_more n e h = (h.0, omega (arith, h.1))

  -- none of a page that has no fault
  firsts_same : (n : ℕ) (firsts : List CheckError) → AreFirsts n faults firsts → IsFirstFault faults (n + 1) None → AreFirsts (n + 1) faults firsts
  firsts_same n firsts a none = record {
    each = λ e. (
      (λ is. let h = (a.each e).0 is in (within_more n e h.0, h.1)),
      (λ h. ⊎_elim (λ before. (a.each e).1 (before, h.1)) (λ last. absurd (none h.1.0 e h.1.1 last)) (within_cases n e h.0)),
    );
    rising = a.rising;
  }

  -- one more of a page that has one
  firsts_more : (n : ℕ) (fault : Fault) (firsts : List CheckError) → AreFirsts n faults firsts → IsFirstFault faults (n + 1) (Some fault) → AreFirsts (n + 1) faults (firsts ++ error (n + 1) fault ∷ [])
  firsts_more n fault firsts a first =
      let x = error (n + 1) fault in
      record {
        each = λ e. (
          (λ is. ⊎_elim (λ before. let h = (a.each e).0 before in (within_more n e h.0, h.1))
              (λ last. subst (λ (y : CheckError). IsWithin (n + 1) y.page × IsFirstFault faults y.page (Some y.fault)) last ((omega arith, omega arith), first))
              (Contains-push_cases firsts x e is)),
          (λ h. ⊎_elim (λ before. Contains-append_left firsts (x ∷ []) e ((a.each e).1 (before, h.1)))
              (λ last.
              let same = once faults (n + 1) fault e.fault first (subst (λ (p : ℕ). IsFirstFault faults p (Some e.fault)) last h.1) in
              let is : x ≡ e = ap₂ error (sym last) same in
              subst (λ (y : CheckError). Contains (firsts ++ x ∷ []) y) is (Contains-push firsts x))
              (within_cases n e h.0)),
        );
        rising = all_pairs_push (λ (x y : CheckError). x.page < y.page) firsts x a.rising
            (λ k d lt. let h = (a.each (get_or firsts k d)).0 (Contains-get_or firsts k d lt) in omega (arith, h.0.1));
      }

  pub firsts_begun : (before : Option (List ℕ)) → AreFirstsWritten 0 faults before before
  firsts_begun before = (
    [],
    record {
      each = λ e. ((λ is. absurd (omega (arith, is.1))), (λ h. absurd (omega (arith, h.0.0, h.0.1))));
      rising = λ i j d less within. absurd (omega (arith, within));
    },
    Appends-nil before,
  )

  pub firsts_written : (n : ℕ) (before mid after : Option (List ℕ)) → AreFirstsWritten n faults before mid → IsFirstTold faults (n + 1) mid after → AreFirstsWritten (n + 1) faults before after
  firsts_written n before mid after (firsts, are, written) (inl (none, same)) =
      (firsts, firsts_same n firsts are none, subst (λ (o : Option (List ℕ)). Appends before o (flat_map fault_line firsts)) same written)
  firsts_written n before mid after (firsts, are, written) (inr (fault, first, more)) =
      let x = error (n + 1) fault in
      let all : flat_map fault_line (firsts ++ x ∷ []) ≡ flat_map fault_line firsts ++ fault_line x =
      flat_map-append fault_line firsts (x ∷ []) ∙ ap (λ (l : List ℕ). flat_map fault_line firsts ++ l) (append-nil (fault_line x)) in (
        firsts ++ x ∷ [],
        firsts_more n fault firsts are first,
        subst (λ (l : List ℕ). Appends before after l) (sym all) (Appends-trans before mid after (flat_map fault_line firsts) (fault_line x) written more),
      )
