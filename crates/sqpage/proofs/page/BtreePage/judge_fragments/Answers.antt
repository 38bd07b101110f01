use Rattle.std.proofs.Common.{◌≡◌, ◌≢◌, ◌+◌, ◌-◌, ◌≤◌, ◌<◌, ◌⊎◌, ◌∙◌, ℕ, length, inl, inr, sym, subst, ap, arith}
use Rattle.sqpage.specs.Header.{byte}
use Rattle.sqpage.specs.Layout.{fragments_named}
use Rattle.sqpage.specs.Page.{Page, head_at, cell_count, content_start_in, pointer}
use Rattle.sqpage.proofs.btree.LayoutOfPage.{bare_is, laid_out, wrong_fragments}
use Rattle.sqpage.proofs.page.BtreePage.judge_fragments.Goals.{then-bare-fragments-via-then-bare-fragments, then-bare-fragments-via-else-bare-fragments+then-fragments-gt-MOST_FRAGMENTS}
use Rattle.sqpage.proofs.page.BtreePage.judge_fragments.Goals as goal

named_in : (p q : Page) (head fragments : ℕ) → p ≡ q → head ≡ head_at p.number → fragments ≡ byte p.used (head + 7) → fragments ≡ fragments_named q
named_in p q head fragments e h f = f ∙ ap (λ n. byte p.used (n + 7)) h ∙ ap (λ (p : Page). fragments_named p) e

start_in : (p q : Page) → p ≡ q → content_start_in p.used p.number ≤ length p.used → content_start_in q.used q.number ≤ length q.used
start_in p q e le = subst (λ (p : Page). content_start_in p.used p.number ≤ length p.used) e le

above_in : (p q : Page) → p ≡ q → ((i : ℕ) → i < cell_count p → content_start_in p.used p.number ≤ pointer p i) → (i : ℕ) → i < cell_count q → content_start_in q.used q.number ≤ pointer q i
above_in p q e above = subst (λ (p : Page). (i : ℕ) → i < cell_count p → content_start_in p.used p.number ≤ pointer p i) e above

room_in : (p q : Page) (start : ℕ) → p ≡ q → start ≡ content_start_in p.used p.number → length p.used - start ≡ length q.used - content_start_in q.used q.number
room_in p q start e s = ap (λ n. length p.used - n) s ∙ ap (λ (p : Page). length p.used - content_start_in p.used p.number) e

pub overflow_sub-bare-2 : goal.overflow_sub-bare-2
overflow_sub-bare-2 c =
    let q : Page = c.args.self.now in
    omega (arith, bare_is q c.args.taken c.requires (start_in _ q c.self.view_is c.self.invariant.start) (above_in _ q c.self.view_is c.self.invariant.above), room_in _ q c.content_start-start.result c.self.view_is c.content_start-start.ensures)

pub returns-then-bare-fragments-clause-err : goal.returns-then-bare-fragments-clause-err
returns-then-bare-fragments-clause-err c =
    let q : Page = c.args.self.now in
    let named = named_in _ q c.head.result c.from-fragments.result c.self.view_is c.head.ensures.value c.from-fragments.ensures in
    let wrong : (length c.self.inside.used.now - c.content_start-start.result - c.args.taken ≢ fragments_named q) ⊎ (60 < fragments_named q) = elim c.then-bare-fragments.branch [
      | then-bare-fragments-via-then-bare-fragments w ↦ inl (λ e. w.if-bare-fragments.true (e ∙ sym named))
      | then-bare-fragments-via-else-bare-fragments+then-fragments-gt-MOST_FRAGMENTS w ↦ inr (subst (λ n. 60 < n) named w.if-fragments-gt-MOST_FRAGMENTS.true)
    ] in (
      wrong_fragments q c.args.taken c.requires (start_in _ q c.self.view_is c.self.invariant.start) (above_in _ q c.self.view_is c.self.invariant.above) _
          (ap (λ n. n - c.args.taken) (room_in _ q c.content_start-start.result c.self.view_is c.content_start-start.ensures)) wrong,
      λ e. cc,
    )

pub returns-clause-ok : goal.returns-clause-ok
returns-clause-ok c =
    let q : Page = c.args.self.now in
    let named = named_in _ q c.head.result c.from-fragments.result c.self.view_is c.head.ensures.value c.from-fragments.ensures in
    laid_out q c.args.taken c.requires (start_in _ q c.self.view_is c.self.invariant.start) (above_in _ q c.self.view_is c.self.invariant.above) _
    (ap (λ n. n - c.args.taken) (room_in _ q c.content_start-start.result c.self.view_is c.content_start-start.ensures))
    (subst (λ n. n ≤ 60) named c.if-fragments-gt-MOST_FRAGMENTS.false) (c.if-bare-fragments.false ∙ named)
