-- Runs of pages are copied from a log into the database file.
use Rattle.std.proofs.Common.{◌≡◌, ⊎_elim, ℕ, ◌+◌, ◌-◌, ◌*◌, ◌<◌, ◌≤◌, List, length, get_or, take, drop, refl, sym, ◌∙◌, ap, subst, arith, length-drop, Result, Ok, Err, get_or-take, get_or-drop, length-take-le}
use Rattle.recovery.proofs.Below.{mul-le-mul_right, part, Database, page, get_or-file_page, FileState, byte, longest, DiskState, IsSoundDisk, ArePresent, Change, write, set_len, sync, HasCalls, Writes, Cuts, Looks, Still, HadRefusal, Later, KeepsLog, InFile, Db, Log, DiskError, present_cut, one_write, one_cut, calls_then, calls_wider, cut_below, had_refusal, refusal_after, page_within, run_apart, run_cases, run_inside, run_outside, mid_inside, present_byte, put_mid, PlanKind, IsWithin, Copies, Skips, MayFill, Begins, IsMade, CopiesPages, Run, Upto, RunAnswer, Filling, CopyAnswer}
use Rattle.recovery.proofs.FilledFile.{filling_still, filling_writes}

-- ---- The room.

place_step : (size k n : ℕ) → k + 1 ≡ n → k * size + size ≡ n * size
place_step size k n e = rw (sym e) (omega arith)

-- a run that was found fits into it
module _ (n most size between long : ℕ) (some : 1 ≤ n) (le : n ≤ most) (fits : most * (2 * size + between) ≤ long + size + between) where
  n_size : (n - 1) * size + size ≡ n * size
  n_size = place_step size (n - 1) n (omega arith)

  wide : n * (2 * size + between) ≤ long + size + between
  wide = let up : n * (2 * size + between) ≤ most * (2 * size + between) = mul-le-mul_right (2 * size + between) le in omega arith

  pub run_room : (n - 1) * size + (n * (size + between) - between) ≤ long
  run_room = let least : 1 * (size + between) ≤ n * (size + between) = mul-le-mul_right (size + between) some in omega (arith, n_size, wide)

  pub run_bytes : n * size ≤ long
  run_bytes =
      let least : 1 * size ≤ n * size = mul-le-mul_right size some in
      let gaps : 1 * between ≤ n * between = mul-le-mul_right between some in omega (arith, n_size, wide)

-- what is read behind its front
module _ (from k e : ℕ) (xs ys : List ℕ) (is : e ≡ k) (fits : from + k ≤ length xs) where
  pub piece_long : length (take e (drop from xs)) ≡ k
  piece_long = length-take-le e (drop from xs) (omega (arith, length-drop from xs)) ∙ is

  pub piece_there : length ys ≡ length (take e (drop from xs)) → (i : ℕ) → i < k → get_or (put_mid from e xs ys) (from + i) 0 ≡ get_or ys i 0
  piece_there long i lt = mid_inside from e xs ys (long ∙ piece_long ∙ sym is) (omega arith) (from + i) (omega arith) (omega arith)
      ∙ ap (λ (n : ℕ). get_or ys n 0) (let b : from + i - from ≡ i = omega arith in b)

-- its front
pub front_long : (k : ℕ) (xs : List ℕ) → k ≤ length xs → length (take k xs) ≡ k
front_long k xs fits = length-take-le k xs fits

-- where the last of k pages ends, from the first on
pub run_long : (size between at k : ℕ) (w : List ℕ) → 1 ≤ k → at + (k - 1) * (size + between) + size ≤ length w → at + (k * (size + between) - between) ≤ length w
run_long size between at k w some last = omega (arith, last, place_step (size + between) (k - 1) k (omega (arith, some)))

-- the pages that were read, once they are brought together
pub run_content : (size between k from at : ℕ) (w read room out : List ℕ) (log : FileState) → 1 ≤ k → at + (k - 1) * (size + between) + size ≤ length w → ArePresent log w
    → ((i : ℕ) → i < k * (size + between) - between → get_or room (from + i) 0 ≡ get_or read i 0)
    → ((i : ℕ) → i < k * (size + between) - between → get_or read i 0 ≡ byte log (at + i))
    → ((j i : ℕ) → j < k → i < size → get_or out (j * size + i) 0 ≡ get_or room (from + j * (size + between) + i) 0)
    → (j i : ℕ) → j < k → i < size → get_or (take (k * size) out) (j * size + i) 0 ≡ get_or (part w (at + j * (size + between)) size) i 0
run_content size between k from at w read room out log some last are there same brought j i lt lt_i =
    let within : j * (size + between) + i < k * (size + between) - between = let up : (j + 1) * (size + between) ≤ k * (size + between) = mul-le-mul_right (size + between) (let b : j + 1 ≤ k = omega arith in b) in omega arith in
    let below : j * size + i < k * size = let up : (j + 1) * size ≤ k * size = mul-le-mul_right size (let b : j + 1 ≤ k = omega arith in b) in omega arith in
    let far : at + (j * (size + between) + i) < length w = omega (arith, run_long size between at k w some last) in
    get_or-take (k * size) out (j * size + i) 0 below ∙ brought j i lt lt_i ∙ ap (λ (n : ℕ). get_or room n 0) (let e : from + j * (size + between) + i ≡ from + (j * (size + between) + i) = omega arith in e)
    ∙ there (j * (size + between) + i) within ∙ same (j * (size + between) + i) within
    ∙ sym (are.each (at + (j * (size + between) + i)) (omega (arith, are.len)))
    ∙ ap (λ (n : ℕ). get_or w n 0) (let e : at + (j * (size + between) + i) ≡ at + j * (size + between) + i = omega arith in e)
    ∙ sym (get_or-take size (drop (at + j * (size + between)) w) i 0 lt_i ∙ get_or-drop (at + j * (size + between)) w i 0)

-- ---- Its place.

run_fits : (most size p k count : ℕ) → p - 1 + k ≤ count → count * size ≤ most → (p - 1) * size + k * size ≤ most
run_fits most size p k count within small =
    let up : (p - 1 + k) * size ≤ count * size = mul-le-mul_right size within in
    let e : (p - 1) * size + k * size ≡ (p - 1 + k) * size = times_more (p - 1) k size in omega arith
  where
    times_more : (a n c : ℕ) → a * c + n * c ≡ (a + n) * c
    times_more a n c = omega arith

-- nothing is asked for by a call that looks
pub still_calls : {May : Change → Type 0} (a b : DiskState) → Still a b → HasCalls May a b
still_calls a b still = calls_wider (λ change none. absurd none) a b still.calls

-- all of it is done to the database file
fill_in_file : (most size : ℕ) (change : Change) → MayFill most size change → InFile Db change
fill_in_file most size (write Db at bytes) is = refl
fill_in_file most size (set_len Db n) is = refl
fill_in_file most size (sync Db) is = refl
fill_in_file most size (write Log at bytes) is = absurd is
fill_in_file most size (set_len Log n) is = absurd is
fill_in_file most size (sync Log) is = absurd is

pub fills_later : {May : Change → Type 0} (a b : DiskState) → KeepsLog a b → HasCalls May a b → Later May a b
fills_later a b keeps calls = record { sector = keeps.sector; tears = keeps.tears; refused = keeps.refused; sound = keeps.sound; calls = calls }

pub copied_keeps : {P T E : Type 0} (device : E) (kind : PlanKind P) (plan : P) (size count : ℕ) (result : Result T E) (a b : DiskState) → CopiesPages device kind plan size count result a b → KeepsLog a b
copied_keeps device kind plan size count result a b copied =
    let later : Later (MayFill (count * size) size) a b = copied.later (count * size) (omega arith) in
    record {
      sector = later.sector;
      tears = later.tears;
      log = copied.log.0;
      kept = copied.log.1;
      handed = copied.log.2;
      refused = later.refused;
      sound = later.sound;
      calls = calls_wider (fill_in_file (count * size) size) a b later.calls;
    }

-- what a run and a length ask for
module _ (size count : ℕ) {T : Type 0} (called : Result T DiskError) where
  pub run_calls : (most limit : ℕ) (run : Run) (bytes : List ℕ) (a b c : DiskState) → IsWithin count limit run → length bytes ≡ run.count * size → count * size ≤ most → Still a b → Writes Db ((run.page - 1) * size) bytes called b c → HasCalls (MayFill most size) a c
  run_calls most limit run bytes a b c is long small still wrote = calls_then a b c (still_calls a b still)
      (one_write Db ((run.page - 1) * size) bytes called b c (run.page - 1, run.count, refl, is.some, long, omega (arith, long, run_fits most size run.page run.count count is.last small)) wrote)

  pub length_calls : (most n : ℕ) (a b : DiskState) → n ≡ count * size → count * size ≤ most → Cuts Db n called a b → HasCalls (MayFill most size) a b
  length_calls most n a b is small cut = one_cut Db n called a b (count, is, omega (arith, is, small)) cut

-- ---- Step after step.

pub upto_none : {P : Type 0} (kind : PlanKind P) (plan : P) (size count : ℕ) (db w : List ℕ) (s : DiskState) → Begins kind plan size db w → ArePresent s.db db → Upto kind plan size count db w 0 s
upto_none kind plan size count db w s begins are p content one le leaves j lt =
    sym (present_byte s.db db are ((p - 1) * size + j)) ∙ sym (get_or-file_page size db p j lt) ∙ ap (λ (c : List ℕ). get_or c j 0) (sym (begins p content one leaves))

module _ {P : Type 0} (kind : PlanKind P) (plan : P) (size count : ℕ) (db w : List ℕ) (done : ℕ) where
  upto_skip : (s : DiskState) → Skips kind plan size count w done → Upto kind plan size count db w done s → Upto kind plan size count db w (done + 1) s
  upto_skip s skips so_far p content one le leaves j lt = so_far p content one le (skips db p content one le leaves) j lt

  -- a run is put
  module _ (run : Run) (most : ℕ) (bytes : List ℕ) (a b c : DiskState) (is : IsWithin count most run) (copies : Copies kind plan size count w done run) (long : length bytes ≡ run.count * size)
      (each : (j i : ℕ) → j < run.count → i < size → get_or bytes (j * size + i) 0 ≡ get_or (part w (run.at + j * (size + kind.between)) size) i 0) (read : Still a b) where
    upto_put : Upto kind plan size count db w done a → Writes Db ((run.page - 1) * size) bytes (Ok (tt {0})) b c → Upto kind plan size count db w (done + run.count) c
    upto_put so_far wrote p content one le leaves j lt = ⊎_elim
        (λ put.
        let here : kind.Leaves plan size db w (done + run.count) (run.page + put.0) content = subst (λ (q : ℕ). kind.Leaves plan size db w (done + run.count) q content) put.2 leaves in
        ap (λ (q : ℕ). byte c.db ((q - 1) * size + j)) put.2 ∙ run_inside size run.page run.count bytes b c is.first long wrote put.0 j put.1 lt
        ∙ each put.0 j put.1 lt ∙ ap (λ (x : List ℕ). get_or x j 0) (sym (copies.put db put.0 content put.1 here)))
        (λ out. run_outside size run.page run.count bytes b c is.first long wrote ((p - 1) * size + j) (run_apart size run.page run.count p j one is.first out lt)
        ∙ ap (λ (s : FileState). byte s ((p - 1) * size + j)) read.db ∙ so_far p content one le (copies.apart db p content one le out leaves) j lt)
        (run_cases run.page run.count p)

    pub run_put : {E : Type 0} (device : E) → Upto kind plan size count db w done a → Writes Db ((run.page - 1) * size) bytes (Ok (tt {0})) b c → RunAnswer device kind plan size count db w done (Ok run.count) a c
    unfolding RunAnswer
    run_put device so_far wrote = upto_put so_far wrote

  module _ {E : Type 0} (device : E) where
    pub run_none : (k : ℕ) (s : DiskState) → k ≡ 1 → Skips kind plan size count w done → Upto kind plan size count db w done s → RunAnswer device kind plan size count db w done (Ok k) s s
    unfolding RunAnswer
    run_none k s one skips so_far = subst (λ (n : ℕ). Upto kind plan size count db w (done + n) s) (sym one) (upto_skip s skips so_far)

    run_device : (r : Result ℕ E) (a b : DiskState) → r ≡ Err device → HadRefusal a b → RunAnswer device kind plan size count db w done r a b
    unfolding RunAnswer
    run_device r a b is had = subst (λ (x : Result ℕ E). RunAnswer device kind plan size count db w done x a b) (sym is) (refl, had)

    pub run_unread : {U : Type 0} (at : ℕ) (called : Result U DiskError) (e : DiskError) (r : Result ℕ E) (a b : DiskState) → IsSoundDisk a → at ≤ length w → ArePresent a.log w
        → called ≡ Err e → r ≡ Err device → Looks at called a b → RunAnswer device kind plan size count db w done r a b
    run_unread at called e r a b sound fits are was is looked = run_device r a b is
        (had_refusal called e at a b sound.refused was looked.within (omega (arith, are.len, sound.log.greatest, sound.log.within)) looked.refused)

    pub run_unwritten : (run : Run) (most : ℕ) (bytes : List ℕ) (called : Result (Unit {0}) DiskError) (e : DiskError) (r : Result ℕ E) (a b c : DiskState) → IsWithin count most run → length bytes ≡ run.count * size → count * size ≤ longest → Still a b
        → called ≡ Err e → r ≡ Err device → Writes Db ((run.page - 1) * size) bytes called b c → RunAnswer device kind plan size count db w done r a c
    run_unwritten run most bytes called e r a b c within long small read was is wrote = run_device r a c is
        (refusal_after a b c read.refused (had_refusal called e ((run.page - 1) * size + length bytes) b c read.count was wrote.within (omega (arith, long, run_fits longest size run.page run.count count within.last small)) wrote.elsewhere.refused))

    -- so many steps were done, or refused
    pub upto_more : (k : ℕ) (r : Result ℕ E) (a b : DiskState) → r ≡ Ok k → RunAnswer device kind plan size count db w done r a b → Upto kind plan size count db w (done + k) b
    unfolding RunAnswer
    upto_more k r a b was answer = let got = subst (λ (x : Result ℕ E). RunAnswer device kind plan size count db w done x a b) was answer in got

    pub run_refused : {U : Type 0} (d : Database) (r : Result ℕ E) (q : Result U E) (e : E) (s0 a b : DiskState) → s0.refused ≤ a.refused → r ≡ Err e → q ≡ Err e → RunAnswer device kind plan size count db w done r a b → CopyAnswer device size d q s0 b
    unfolding RunAnswer CopyAnswer
    run_refused {U = U} d r q e s0 a b le was is answer =
        let got = subst (λ (y : Result ℕ E). RunAnswer device kind plan size count db w done y a b) was answer in
        subst (λ (y : Result U E). CopyAnswer device size d y s0 b) (sym is) (got.0, refusal_after s0 a b le got.1)

-- the pages of a run are those that the log has
module _ {P : Type 0} (kind : PlanKind P) (plan : P) (size count : ℕ) (w : List ℕ) (done : ℕ) (d : Database) where
  pub filling_put : (run : Run) (most : ℕ) (bytes : List ℕ) (called : Result (Unit {0}) DiskError) (a b c : DiskState) → IsWithin count most run → Copies kind plan size count w done run → length bytes ≡ run.count * size → Still a b
      → Writes Db ((run.page - 1) * size) bytes called b c → Filling size d (kind.Lacks plan size w) a → Filling size d (kind.Lacks plan size w) c
  filling_put run most bytes called a b c is copies long read wrote filling = filling_writes size d (kind.Lacks plan size w) run.page run.count bytes called b c (filling_still size d (kind.Lacks plan size w) a b filling read) is.first copies.has long wrote

-- ---- The length is set.

module _ {P T E : Type 0} (device : E) (kind : PlanKind P) (plan : P) (size count : ℕ) (db w : List ℕ) (d : Database) (made : IsMade kind plan size count db w d) where
  pub copied : {u : T} (steps n : ℕ) (s0 a b : DiskState) → kind.Takes plan count steps → n ≡ count * size → Upto kind plan size count db w steps a → Cuts Db n (Ok u) a b → CopyAnswer device size d (Ok u) s0 b
  unfolding CopyAnswer
  copied steps n s0 a b takes e so_far cut = record {
    len = cut.file.1.len ∙ e ∙ ap (λ (x : ℕ). x * size) (sym made.long);
    each = λ p one le j lt.
        let under : p ≤ count = omega (arith, made.long) in
        let below : (p - 1) * size + j < n = omega (arith, page_within size p count j one under lt) in
        present_cut Db n a b cut ((p - 1) * size + j) ∙ cut_below a.db n ((p - 1) * size + j) below ∙ so_far p (page d p) one under (made.each steps p takes one under) j lt;
  }

pub cut_refused : {T U E : Type 0} (device : E) (size count n : ℕ) (d : Database) (called : Result T DiskError) (e : DiskError) (q : Result U E) (s0 a b : DiskState) → KeepsLog s0 a → n ≡ count * size → count * size ≤ longest
    → called ≡ Err e → q ≡ Err device → Cuts Db n called a b → CopyAnswer device size d q s0 b
unfolding CopyAnswer
cut_refused {U = U} {E = E} device size count n d called e q s0 a b keeps same within was is cut =
    subst (λ (x : Result U E). CopyAnswer device size d x s0 b) (sym is)
    (refl, refusal_after s0 a b keeps.refused (had_refusal called e n a b keeps.sound.refused was cut.within (omega arith) cut.elsewhere.refused))
