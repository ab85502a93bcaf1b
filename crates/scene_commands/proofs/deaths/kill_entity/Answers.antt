use Rattle.std.proofs.Common.{refl, sym, ◌∙◌}
use Rattle.scene_world.specs.Places.{kinds_of}
use Rattle.scene_commands.proofs.KillLemmas.{kill-skips}
use Rattle.scene_commands.proofs.BringLemmas.{kill-covers}
use Rattle.scene_commands.proofs.GoingLemmas.{goes-nowhere}
use Rattle.scene_commands.proofs.deaths.kill_entity.Goals as goal

pub kill_with-requires-clause-under : goal.kill_with-requires-clause-under
kill_with-requires-clause-under g c = sym c.entity_under.ensures.value ∙ c.in-Some.is

pub returns-in_default-clause-acts : goal.returns-in_default-clause-acts
returns-in_default-clause-acts g c = (kill-skips (kinds_of g.R.Value.SceneValue.places g.R.DocumentRules.part_of g.R.WorldRules.columns) c.args.world.now c.args.id (sym c.entity_under.ensures.value ∙ c.in_default.is), refl)

pub returns-clause-acts : goal.returns-clause-acts
returns-clause-acts g c = c.in_ok-kill_with.ensures.killed.acts

pub returns-clause-forgotten : goal.returns-clause-forgotten
returns-clause-forgotten g c = λ done. c.in_ok-kill_with.ensures.killed.forgotten

pub returns-clause-may : goal.returns-clause-may
returns-clause-may g c = c.in_ok-kill_with.ensures.killed.may

pub returns-in_default-clause-elsewhere : goal.returns-in_default-clause-elsewhere
returns-in_default-clause-elsewhere g c = λ id e m a p. refl

pub returns-clause-elsewhere : goal.returns-clause-elsewhere
returns-clause-elsewhere g c = c.in_ok-kill_with.ensures.killed.elsewhere

pub returns-in_default-clause-goes_on : goal.returns-in_default-clause-goes_on
returns-in_default-clause-goes_on g c = goes-nowhere (kinds_of g.R.Value.SceneValue.places g.R.DocumentRules.part_of g.R.WorldRules.columns) c.args.world.now

pub returns-clause-goes_on : goal.returns-clause-goes_on
returns-clause-goes_on g c = c.in_ok-kill_with.ensures.killed.goes_on

pub returns-clause-covers : goal.returns-clause-covers
returns-clause-covers g c = kill-covers (kinds_of g.R.Value.SceneValue.places g.R.DocumentRules.part_of g.R.WorldRules.columns) c.args.world.now c.kill_with.new.world c.kill_with.new.holders c.args.id c.in_ok-kill_with.ensures.covered c.in_ok-kill_with.ensures.killed.acts
