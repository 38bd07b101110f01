use Rattle.std.proofs.Common.{◌≡◌, ⊎_elim, ◌-◌, ◌+◌, ◌≤◌, ℕ, List, length, get_or, set, refl, sym, ◌∙◌, ap, subst, arith}
use Rattle.std.specs.Prelude.{◌↔◌, IsTrue}
use Rattle.std.proofs.Math.Dec.{leb}
use Rattle.std.proofs.lemmas.Bool.{cases_eq}
use Rattle.std.proofs.lemmas.Bool.Decides.{nat_tests}
use Rattle.std.proofs.lemmas.List.{length-set, get_or-set_same, get_or-set_other}
use Rattle.sqval.specs.Database.{file_pages}
use Rattle.sqval.specs.PageSize.{IsPageSize}
use Rattle.sqpast.specs.internal.Chains.{AreChains, IsUntil, IsTail, IsJudged}
use Rattle.sqpast.proofs.known.JudgedPages.{past_until, tail_at_end}
use Rattle.sqpast.proofs.gone.until.Goals as goal

leb_is : (a b c : ℕ) → b ≡ c → IsTrue (leb a b) ↔ (a ≤ c)
leb_is a b c e = (λ yes. let le : a ≤ b = grind (arith, nat_tests) in omega arith, λ le. let le' : a ≤ b = omega arith in grind (arith, nat_tests))

pub loop-done-init : goal.loop-done-init
loop-done-init g c = record {
  right = λ r. r;
  gives = λ r. r;
  same_db = refl;
  same_log = refl;
  room = omega (arith, ap length c.as_mut_slice-page.ensures.value, c.in_ok-bytes.ensures.len, c.get.ensures.value);
  long = c.in_ok-list.ensures.list.0;
  done = λ r front are is.
      let size = c.args.chains.now.page_size in
      let w = g.F.FileBytes.bytes c.args.log.now in
      let file = g.F.FileBytes.bytes c.args.db.now in
      let least = c.args.chains.now.least in
      let cut = leb_is least c.args.long (file_pages size file) is in (
        λ p past le.
            let list = c.in_ok-list.list.items in
            let long = c.in_ok-list.ensures.list.0 in
            past_until size w front file are.low least are.least (subst IsPageSize c.get.ensures.value c.get.ensures.valid) p (omega arith) (leb least c.args.long) cut (get_or c.args.chains.now.first.items (p - 1) 0) (get_or list (p - 1) 0)
            (are.chains.each p (omega arith) (omega arith)) (c.in_ok-list.ensures.list.1 (p - 1) (omega arith) (omega arith)),
        subst (λ (n : ℕ). IsTail size w front file least n (leb least c.args.long)) (let z : file_pages size file ≡ c.args.long - 0 = omega arith in z)
            (tail_at_end size w front file are.low least are.least (leb least c.args.long) cut),
      );
}

pub loop-done-preserved : goal.loop-done-preserved
loop-done-preserved g c =
    let inv = c.loop-done.invariant in
    record {
      right = λ r. c.judge_page.ensures.still_right (inv.right r);
      gives = λ r. c.judge_page.ensures.still_gives (inv.gives r);
      same_db = c.judge_page.ensures.same_bytes.0 ∙ inv.same_db;
      same_log = c.judge_page.ensures.same_bytes.1 ∙ inv.same_log;
      room = c.judge_page.auto.page ∙ inv.room;
      long = length-set c.loop-done.list.items (c.args.long - c.loop-done.done - 1) c.in_ok-judged.judged.until ∙ inv.long;
      done = λ r front are is.
          let size = c.args.chains.now.page_size in
          let w = g.F.FileBytes.bytes c.args.log.now in
          let file = g.F.FileBytes.bytes c.args.db.now in
          let least = c.args.chains.now.least in
          let list = c.loop-done.list.items in
          let p = c.args.long - c.loop-done.done in
          let was = inv.done r front are is in
          let w' = g.F.FileBytes.bytes c.loop-done.log in
          let file' = g.F.FileBytes.bytes c.loop-done.db in
          let judged' = c.in_ok-judged.ensures.read (inv.right r) front
          (subst (λ (l : List ℕ). AreChains l front (length c.args.chains.now.first.items) c.args.chains.now) (sym inv.same_log) are)
          (subst (λ (f : List ℕ). p ≤ file_pages size f) (sym inv.same_db) (omega arith))
          (subst (λ (f : List ℕ). IsTail size w' front f least p c.loop-done.tail) (sym inv.same_db) (subst (λ (l : List ℕ). IsTail size l front file least p c.loop-done.tail) (sym inv.same_log) was.1)) in
          let judged = subst (λ (f : List ℕ). IsJudged size w front f least p c.in_ok-judged.judged) inv.same_db (subst (λ (l : List ℕ). IsJudged size l front file' least p c.in_ok-judged.judged) inv.same_log judged') in
          let here : p ≡ p = refl in (
            λ q past le. ⊎_elim
                (λ e. subst (λ (n : ℕ). IsUntil size w front file q n)
                (sym (ap (λ k. get_or (set list (p - 1) c.in_ok-judged.judged.until) (k - 1) 0) e ∙ get_or-set_same list (p - 1) c.in_ok-judged.judged.until 0 (omega (arith, inv.long, c.requires.0, c.loop-done-test.true))))
                (subst (λ (k : ℕ). IsUntil size w front file k c.in_ok-judged.judged.until) (sym e) judged.until))
                (λ ne. subst (λ (n : ℕ). IsUntil size w front file q n) (sym (get_or-set_other list (p - 1) (q - 1) c.in_ok-judged.judged.until 0 (omega (arith, c.loop-done-test.true))))
                (was.0 q (omega arith) (omega (arith, length-set list (p - 1) c.in_ok-judged.judged.until))))
                (cases_eq q p),
            subst (λ (n : ℕ). IsTail size w front file least n c.in_ok-judged.judged.tail) (let z : p - 1 ≡ c.args.long - (c.loop-done.done + 1) = omega arith in z) judged.tail,
          );
    }

pub returns-clause-right : goal.returns-clause-right
returns-clause-right g c = λ r front are is.
    let done = (c.loop-done.invariant.done r front are is).0 in
    (c.loop-done.invariant.long, record { each = λ m p before one le. done p (omega (arith, c.loop-done-test.false)) le m before })
