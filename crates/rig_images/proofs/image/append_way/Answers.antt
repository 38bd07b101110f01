use Rattle.std.proofs.Common.{◌≡◌, ℕ, ◌+◌, ◌-◌, ◌*◌, ◌<◌, ◌≤◌, ◌++◌, List, cond, true, false, length, drop, map, get_or, refl, sym, ◌∙◌, ap, suc, arith}
use Rattle.std.proofs.Math.Seq.{drop-cons}
use Rattle.std.proofs.lemmas.Bool.{lt-ltb, le-ltb}
use Rattle.std.proofs.lemmas.List.{get_or-map, length-map}
use Rattle.std.proofs.lemmas.Result.{IfOk-weaker, MatchResult-from_both}
use Rattle.std.specs.Prelude.{nat_lt, is_some}
use Rattle.crashdisk.specs.Call.{DiskState}
use Rattle.crashdisk.specs.Choice.{Naming, naming_of, image_of}
use Rattle.crashdisk.specs.Count.{choice_count}
use Rattle.crashdisk.specs.Model.{state_of}
use Rattle.crashdisk.specs.declared.model.ModelDisk.{ModelDisk}
use Rattle.crashdisk.proofs.image.DigitsOfChoice.{some_choice}
use Rattle.rig_images.specs.Ways.{file_ways, file_way, files_way}
use Rattle.rig_images.proofs.CountsOfWays.{above_ways}
use Rattle.rig_images.proofs.image.append_way.Goals as goal

-- the way of a number among the files from one on: one of that file, or of those behind it
way_step : (xs : List ModelDisk) (files : List DiskState) (i rest : ℕ) (x : ModelDisk) → map (λ d. state_of d) xs ≡ files → i < length xs → x ≡ get_or xs i x
    → files_way (drop i files) rest ≡ cond (nat_lt rest (file_ways (state_of x))) (file_way (state_of x) rest) (files_way (drop (i + 1) files) (rest - file_ways (state_of x)))
way_step xs files i rest x same less is =
    let f : ModelDisk → DiskState = λ d. state_of d in
    let long : length (map f xs) ≡ length xs = length-map xs f in
    let within : i < length files = omega (arith, ap (λ (l : List DiskState). length l) same) in
    let at : get_or files i (state_of x) ≡ state_of x = ap (λ (l : List DiskState). get_or l i (state_of x)) (sym same) ∙ get_or-map f xs i x (state_of x) less ∙ ap f (sym is) in
    let next : suc i ≡ i + 1 = omega arith in
    ap (λ (l : List DiskState). files_way l rest) (drop-cons files i (state_of x) within)
    ∙ ap (λ (y : DiskState). cond (nat_lt rest (file_ways y)) (file_way y rest) (files_way (drop (suc i) files) (rest - file_ways y))) at
    ∙ ap (λ (k : ℕ). cond (nat_lt rest (file_ways (state_of x))) (file_way (state_of x) rest) (files_way (drop k files) (rest - file_ways (state_of x)))) next

pub loop-disk-preserved : goal.loop-disk-preserved
loop-disk-preserved c =
    let files = map (λ d. state_of d) c.args.files.now in
    let i = c.loop-disk.disk-index in
    let rest = c.loop-disk.rest in
    let x = state_of c.disk-item.result in
    let count : c.in-Some.count ≡ file_ways x = c.in-Some.ensures.0 in
    let le : file_ways x ≤ rest = omega (arith, count, c.in-Some.ensures.1) in
    let later : nat_lt rest (file_ways x) ≡ false = le-ltb _ _ le in (
      c.loop-disk.invariant.0
          ∙ way_step c.args.files.now files i rest c.disk-item.result refl c.loop-disk-test.true c.disk-item.is
          ∙ ap (λ b. cond b (file_way x rest) (files_way (drop (i + 1) files) (rest - file_ways x))) later
          ∙ ap (λ (n : ℕ). files_way (drop (i + 1) files) (rest - n)) (sym count),
      c.loop-disk.invariant.1,
    )

pub returns-in-None : goal.returns-in-None
returns-in-None c =
    let files = map (λ d. state_of d) c.args.files.now in
    let i = c.loop-disk.disk-index in
    let rest = c.loop-disk.rest in
    let x = state_of c.disk-item.result in
    let out = c.args.out.now.items in
    let here : nat_lt rest (file_ways x) ≡ true = lt-ltb _ _ c.in-None.ensures in
    let way : files_way files c.args.n ≡ file_way x rest =
    c.loop-disk.invariant.0
    ∙ way_step c.args.files.now files i rest c.disk-item.result refl c.loop-disk-test.true c.disk-item.is
    ∙ ap (λ b. cond b (file_way x rest) (files_way (drop (i + 1) files) (rest - file_ways x))) here in
    let named = rw c.in-Some-2.is at c.in_ok-choice-in-None.ensures.named in
    MatchResult-from_both c.image.result _ _ (IfOk-weaker c.image.result _ _ (λ done h. h ∙ ap (λ (l : List ℕ). l ++ image_of x.sector x.tears x.db (naming_of c.in-Some-2.choice.db)) c.loop-disk.invariant.1 ∙ ap (λ (n : Naming). out ++ image_of x.sector x.tears x.db n) named.db_named ∙ ap (λ (l : List ℕ). out ++ l) (sym way)) c.image.ensures.ok) c.image.ensures.error

pub returns-in_default : goal.returns-in_default
returns-in_default c =
    let x = state_of c.disk-item.result in
    let less : c.loop-disk.rest < choice_count x.sector x.db * choice_count x.sector x.log = above_ways c.loop-disk.rest (choice_count x.sector x.db) (choice_count x.sector x.log) c.in-None.ensures (some_choice x.sector x.log) in
    let some : is_some c.in_ok-choice-in-None.field-0 ≡ true = c.in_ok-choice-in-None.ensures.found.1 less in
    let none : is_some c.in_ok-choice-in-None.field-0 ≡ false = ap is_some c.in_default.is in
    cc
