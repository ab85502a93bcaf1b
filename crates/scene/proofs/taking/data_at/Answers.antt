use Rattle.std.proofs.Common.{◌+◌, ℕ, Some, Option, take, sym, ap, subst, ◌∙◌}
use Rattle.std.specs.Prelude.{option_map}
use Rattle.std.specs.Global.{Vec}
use Rattle.std.proofs.lemmas.List.{take_all}
use Rattle.scene_model.specs.Parts.{Part}
use Rattle.scene_world.specs.Places.{kinds_of}
use Rattle.scene_world.specs.Putting.{each_there}
use Rattle.scene_world.proofs.CallerLemmas.{each-more, each-passed}
use Rattle.scene_commands.specs.Acts.{seen_of}
use Rattle.scene.specs.Taken.{AreOfPairs, part_at}
use Rattle.scene.proofs.taking.data_at.Goals as goal
use Rattle.scene.proofs.taking.data_at.Goals.{in-Some+in_ok-push, in_default}

pub loop-pair-preserved : goal.loop-pair-preserved
loop-pair-preserved g c =
    let kinds = kinds_of g.R.Value.SceneValue.places g.R.DocumentRules.part_of g.R.WorldRules.columns in
    let w = seen_of c.args.world.now in
    let part_of = g.R.DocumentRules.part_of in
    let pairs = c.args.pairs.now in
    let place = c.loop-pair.pair-index in
    let read : ℕ → Option Part = λ index. part_at kinds w index c.args.kind.now in
    elim c.match-branch-2.branch [
      | in-Some+in_ok-push v ↦
          subst (λ (list : Vec _). AreOfPairs kinds part_of w c.args.kind.now (take (place + 1) pairs) list.items) (sym v.found-is)
          (ap (each_there (option_map part_of)) v.in_ok-push.ensures.items
          ∙ each-more (option_map part_of) read c.loop-pair.found.items pairs place (0, 0) c.loop-pair-test.true c.loop-pair.invariant (Some v.in-Some.datum) (sym (ap (option_map part_of) v.in-Some.is) ∙ c.in_ok-datum.ensures))
      | in_default v ↦
          subst (λ (list : Vec _). AreOfPairs kinds part_of w c.args.kind.now (take (place + 1) pairs) list.items) (sym v.found-is)
          (each-passed (option_map part_of) read c.loop-pair.found.items pairs place (0, 0) c.loop-pair-test.true c.loop-pair.invariant (sym c.in_ok-datum.ensures ∙ ap (option_map part_of) v.in_default.is))
    ]

pub returns : goal.returns
returns g c =
    let kinds = kinds_of g.R.Value.SceneValue.places g.R.DocumentRules.part_of g.R.WorldRules.columns in
    let w = seen_of c.args.world.now in
    c.loop-pair.invariant ∙ ap (each_there (λ index. part_at kinds w index c.args.kind.now)) (take_all c.loop-pair.pair-index c.args.pairs.now c.loop-pair-test.false)
