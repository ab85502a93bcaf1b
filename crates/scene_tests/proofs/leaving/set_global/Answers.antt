use Rattle.std.proofs.Common.{refl, ap, sym, ◌∙◌}
use Rattle.shred_world.specs.Bundles.{owned, with_slot}
use Rattle.shred_stages.proofs.CallerLemmas.{leaves-one}
use Rattle.scene_basics.specs.declared.values.Value.TheVariants.{GlobalValue}
use Rattle.scene_tests.specs.Leavers.{set_value}
use Rattle.scene_tests.proofs.HeldLemmas.{changed-there}
use Rattle.scene_tests.proofs.leaving.set_global.Goals as goal

pub returns-clause-ok : goal.returns-clause-ok
returns-clause-ok g c =
    let seen = g.W.Holder.slots c.args.view.now in
    changed-there seen (g.W.Holder.slots c.take.new.self) (g.W.Holder.slots c.put.new.self) c.global_id-id.result c.global_id-id.result (GlobalValue set_value) c.in-Some.ensures.ok refl c.put.ensures
    ∙ ap (λ at. with_slot seen at (owned (GlobalValue set_value))) c.global_id-id.ensures

pub returns-clause-leaves : goal.returns-clause-leaves
returns-clause-leaves g c = leaves-one _ _ _ c.global_id-id.result c.in-Some._old (GlobalValue set_value) (sym c.in-Some.ensures.value) c.in-Some.ensures.ok c.put.ensures
