use Rattle.std.proofs.Common.{◌≡◌, Option, None, Some, IfSome, ap, ◌∙◌}
use Rattle.std.specs.FinMap as map
use Rattle.shred_world.specs.declared.resource_id.ResourceId.{ResourceId}
use Rattle.shred_world.specs.Worlds.{Slots}
use Rattle.shred_world.specs.Bundles.{holding_of, with_slot, out}
use Rattle.shred_world.proofs.BundleLemmas.{holding_of-insert}
use Rattle.shred_world.proofs.holder.WorldHolder.take.Goals as goal

taken_out : {V : Type 0} (result : Option V) (old new : Slots V) (id : ResourceId) → IfSome result (λ _. new ≡ map.insert old id None)
    → IfSome result (λ _. holding_of new ≡ with_slot (holding_of old) id out)
taken_out None old new id h = tt
taken_out (Some v) old new id h = ap holding_of h ∙ holding_of-insert old id None

pub returns-clause-ok : goal.returns-clause-ok
returns-clause-ok g c = taken_out c.take_raw.result c.args.self.now c.take_raw.new.self c.args.id c.take_raw.ensures.out
