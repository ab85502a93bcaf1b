use Rattle.std.proofs.Common.{◌≡◌, ◌∙◌, ap}
use Rattle.std.proofs.lemmas.Result.{IfOk-weaker}
use Rattle.scene_model.specs.Declaring.{texts}
use Rattle.scene_world.specs.Places.{kinds_of}
use Rattle.scene_commands.specs.Acts.{seen_of}
use Rattle.scene_commands.specs.Owning.{pairs_among, ArePairs}
use Rattle.scene_commands.proofs.owning.pairs_in.Goals as goal

pub returns : goal.returns
returns g c =
    let kinds = kinds_of g.R.Value.SceneValue.places g.R.DocumentRules.part_of g.R.WorldRules.columns in
    let w = seen_of c.args.world.now in
    IfOk-weaker c.pairs_among.result (λ pairs. pairs.items ≡ pairs_among kinds w (texts c.args.names.now) c.as_slice.result.now) (λ pairs. ArePairs kinds w (texts c.args.names.now) pairs.items)
    (λ pairs is. record {
      all = c.in_ok-entities.entities.items;
      living = c.in_ok-entities.ensures;
      are = is ∙ ap (pairs_among kinds w (texts c.args.names.now)) c.as_slice.ensures.value;
    })
    c.pairs_among.ensures
