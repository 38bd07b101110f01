use Rattle.std.proofs.Common.{Bool, sym, subst}
use Rattle.rig_store.specs.Left.{image_of}
use Rattle.rig_store.specs.Stores.{store_of}
use Rattle.sqcrash_store.specs.States.{SaysWhere}
use Rattle.sqcrash_store.proofs.KeptImages.{keeps_none}
use Rattle.sqcrash_store.proofs.states.take_where.Goals as goal

pub returns-clause-says : goal.returns-clause-says
returns-clause-says g c =
    subst (λ (b : Bool). SaysWhere g.J.Judge.says b (store_of c.args.store.now) c.args.states.now.items c.push.new.self.items) (sym c.if-not-is.false) (record {
      image = image_of c.in_ok-image.image;
      present = c.in_ok-image.ensures;
      answer = c.in_ok-answer.answer;
      says = c.in_ok-answer.ensures.says;
      added = c.in_ok-push.ensures.items;
    })

pub returns-then-not-is-clause-kept : goal.returns-then-not-is-clause-kept
returns-then-not-is-clause-kept g c = keeps_none (g.J.Judge.kept c.args.judge.now)
