use Rattle.std.proofs.Common.{true, false, eqb, get_or, take, inl, inr, ap, sym, ◌∙◌, subst}
use Rattle.std.proofs.lemmas.Bool.{false≢true, eqb-true, or_cases}
use Rattle.std.proofs.lemmas.List.{take_all}
use Rattle.std.proofs.lemmas.List.Folds.{list_any_more}
use Rattle.scene_model.specs.Scenes.{lives}
use Rattle.scene_commands.specs.Links.{Holds}
use Rattle.scene_commands.proofs.LinkLemmas.{grows-not, grows-further}
use Rattle.scene_commands.proofs.holders.Holders.push_all.Goals as goal

pub loop-target-init : goal.loop-target-init
loop-target-init c = record { grows = grows-not c.args.self.now c.requires; noted = λ target is. absurd (false≢true is) }

pub push-requires : goal.push-requires
push-requires c = c.loop-target.invariant.grows.chained

pub loop-target-preserved : goal.loop-target-preserved
loop-target-preserved c = record {
  grows = grows-further c.args.self.now c.loop-target.self c.push.new.self c.loop-target.invariant.grows c.in_ok-push.ensures.grows;
  noted = λ target is. elim (or_cases (lives target (take c.loop-target.target-index c.args.targets.now)) (eqb (get_or c.args.targets.now c.loop-target.target-index 0) target)
      (sym (list_any_more (λ other. eqb other target) c.args.targets.now c.loop-target.target-index 0 c.loop-target-test.true) ∙ is)) [
        | inl before ↦ c.in_ok-push.ensures.grows.kept c.args.holder target (c.loop-target.invariant.noted target before)
        | inr here ↦ subst (Holds c.push.new.self.links.items c.args.holder) (eqb-true (get_or c.args.targets.now c.loop-target.target-index 0) target here) c.in_ok-push.ensures.noted
      ];
}

pub returns-clause-grows : goal.returns-clause-grows
returns-clause-grows c = c.loop-target.invariant.grows

pub returns-clause-noted : goal.returns-clause-noted
returns-clause-noted c = λ target is.
    c.loop-target.invariant.noted target (ap (lives target) (take_all c.loop-target.target-index c.args.targets.now c.loop-target-test.false) ∙ is)
