-- The database that is shown while a plan is carried out.
use Rattle.std.proofs.Common.{◌≡◌, ◌≢◌, ⊎_elim, ne_eqb, ℕ, zero, suc, ◌+◌, ◌*◌, ◌<◌, ◌≤◌, Bool, true, false, cond, ◌==◌, List, [], ◌∷◌, ◌++◌, map, take, refl, sym, ◌∙◌, ap, arith}
use Rattle.std.specs.List.{range_with_len, All}
use Rattle.std.proofs.lemmas.Bool.{cases_eq}
use Rattle.std.proofs.lemmas.List.Elements.{All-cons, All-nil, All-head, All-tail, All-take, All-from_recursion}
use Rattle.crashdisk.specs.Call.{Change, set_len, sync}
use Rattle.crashdisk.specs.declared.file.File.TheVariants.{Db, Log}
use Rattle.sqval.specs.Database.{page, file_page}
use Rattle.sqview.specs.Laid.{laid, laid_page, place_of, part_or_zeros}
use Rattle.sqplan.specs.Plans.{call_of, pages_from, ending}
use Rattle.sqplan.specs.Applied.{db_after, after_all}
use Rattle.sqplan.specs.declared.plan.Plan.{Plan}
use Rattle.sqplan.specs.declared.plan.Recovery.{Recovery}
use Rattle.sqplan.specs.declared.plan.Recovery.TheVariants.{Nothing, Fold, Empty, RollBack}
use Rattle.sqplan.specs.declared.plan.Step.TheVariants.{WritePage}
use Rattle.sqplan.proofs.WrittenFiles.{page_kept, page_cut}
use Rattle.sqplan.proofs.CarriedOutPlans.{asks, tail, calls, length_page}

map_same : (f g : ℕ → List ℕ) (n a : ℕ) → ((i : ℕ) → a ≤ i → i < a + n → f i ≡ g i) → map f (range_with_len a n) ≡ map g (range_with_len a n)
map_same f g zero a each = refl
map_same f g (suc n) a each = ap (λ x. x ∷ map f (range_with_len (a + 1) n)) (each a (omega arith) (omega arith))
    ∙ ap (λ xs. g a ∷ xs) (map_same f g n (a + 1) (λ i low high. each i (omega (arith, low)) (omega (arith, high))))

same_page : (b : Bool) (own other logged : List ℕ) → (b ≡ true → own ≡ other) → cond b own logged ≡ cond b other logged
same_page true own other logged same = same refl
same_page false own other logged same = refl

zero_place : (n : ℕ) → (n == 0) ≡ true → n ≡ 0
zero_place n e = ⊎_elim (λ zero. zero) (λ some. let no : true ≡ false = sym e ∙ ne_eqb n 0 some in absurd (cc)) (cases_eq n 0)

pub same_laid : (size count : ℕ) (file other log places : List ℕ)
    → ((p : ℕ) → 1 ≤ p → p ≤ count → place_of places p ≡ 0 → file_page size file p ≡ file_page size other p)
    → laid size count file log places ≡ laid size count other log places
unfolding laid laid_page
same_laid size count file other log places same = map_same (laid_page size file log places) (laid_page size other log places) count 1
    (λ p one most. same_page (place_of places p == 0) (file_page size file p) (file_page size other p) (part_or_zeros size (place_of places p) log)
    (λ none. same p one (omega (arith, most)) (zero_place (place_of places p) none)))

module _ (plan : Plan) (file log : List ℕ) where
  abbrev size : ℕ
  size = plan.page_size

  abbrev own_pages_stay : (old new : List ℕ) → Type 0
  own_pages_stay old new = (p : ℕ) → 1 ≤ p → p ≤ plan.pages → place_of plan.places.now p ≡ 0 → file_page size old p ≡ file_page size new p

  abbrev keeps : Change → Type 0
  keeps call = (f : List ℕ) → own_pages_stay f (db_after call f)

  all_keep : (calls : List Change) (f : List ℕ) → All keeps calls → own_pages_stay f (after_all db_after calls f)
  all_keep [] f each = λ p one most none. refl
  all_keep (call ∷ calls) f each = λ p one most none.
      All-head keeps call calls each f p one most none ∙ all_keep calls (db_after call f) (All-tail keeps call calls each) p one most none

  page_keeps : (q : ℕ) → 1 ≤ q → q ≤ plan.pages → (place_of plan.places.now q == 0) ≡ false → keeps (call_of size plan.pages file log plan.places.now (WritePage q))
  page_keeps q some within placed f p one most none =
      let apart : p ≢ q = λ same. (let e : (place_of plan.places.now q == 0) ≡ true = grind (arith, none, same) in let no : true ≡ false = sym e ∙ placed in absurd (cc)) in
      page_kept size f (page (laid size plan.pages file log plan.places.now) q) (length_page size plan.pages file log plan.places.now q some within) p q one some apart

  length_keeps : keeps (set_len Db (plan.pages * size))
  length_keeps f p one most none = page_cut size plan.pages f p one most

  each_keeps : (r : Recovery) → All keeps (calls plan file log r)
  each_keeps Nothing = All-nil keeps
  each_keeps Fold =
      All-cons keeps (sync Log) (map (call_of size plan.pages file log plan.places.now) (pages_from plan 1 ++ ending Fold (plan.pages * size))) (λ f p one most none. refl)
      (asks plan file log keeps Fold page_keeps (All-from_recursion keeps (tail plan file log Fold)
      (length_keeps, ((λ f p one most none. refl), ((λ f p one most none. refl), ((λ f p one most none. refl), ((λ f p one most none. refl), ((λ f p one most none. refl), tt))))))))
  each_keeps Empty =
      All-cons keeps (sync Log) (map (call_of size plan.pages file log plan.places.now) (pages_from plan 1 ++ ending Empty (plan.pages * size))) (λ f p one most none. refl)
      (asks plan file log keeps Empty page_keeps (All-from_recursion keeps (tail plan file log Empty)
      ((λ f p one most none. refl), ((λ f p one most none. refl), ((λ f p one most none. refl), ((λ f p one most none. refl), ((λ f p one most none. refl), tt)))))))
  each_keeps RollBack =
      All-cons keeps (sync Log) (map (call_of size plan.pages file log plan.places.now) (pages_from plan 1 ++ ending RollBack (plan.pages * size))) (λ f p one most none. refl)
      (asks plan file log keeps RollBack page_keeps (All-from_recursion keeps (tail plan file log RollBack)
      (length_keeps, ((λ f p one most none. refl), ((λ f p one most none. refl), ((λ f p one most none. refl), tt))))))

  pub shown : (r : Recovery) (k : ℕ) → laid size plan.pages file log plan.places.now
      ≡ laid size plan.pages (after_all db_after (take k (calls plan file log r)) file) log plan.places.now
  shown r k = same_laid size plan.pages file (after_all db_after (take k (calls plan file log r)) file) log plan.places.now
      (all_keep (take k (calls plan file log r)) file (All-take keeps k (calls plan file log r) (each_keeps r)))
