use Rattle.scene_world.specs.Places.{kinds_of}
use Rattle.scene_world.specs.Turns.{placed_as}
use Rattle.scene_world.specs.declared.placed.Placed.{Placed}
use Rattle.scene_dispatch.proofs.LawLemmas.{locals-come}
use Rattle.scene_dispatch.proofs.laws.local_systems_take_their_turns.Goals as goal

pub returns : goal.returns
returns g c locals left before after refused lent ready runs =
    let kinds = kinds_of g.R.Value.SceneValue.places g.R.DocumentRules.part_of g.R.WorldRules.columns in
    let meaning = placed_as {P = Placed g.row.R.Denot g.row.R-Value.Denot g.row.R-Data.Denot g.row.R-Global.Denot g.row.R-System.Denot} (λ placed. placed.position) (λ placed. placed.system) g.R.DocumentRules.kind_of g.R.DocumentRules.config_of g.R.DocumentRules.declared g.R.Rules.sense g.R.Rules.does in
    locals-come kinds meaning (g.R.DocumentRules.book c.args.rules.now) (λ local. local.placed) locals left before after refused lent ready runs
