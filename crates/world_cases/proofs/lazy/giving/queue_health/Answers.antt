use Rattle.std.proofs.Common.{◌≡◌, ◌++◌, ◌∷◌, [], ap, ◌∙◌}
use Rattle.shred_world.specs.ResourceIds.{id_of}
use Rattle.specs_world.proofs.ResourceLemmas.{lent-becomes}
use Rattle.world_cases.specs.declared.lazy.tasks.Task.TheVariants.{PutHealth}
use Rattle.world_cases.proofs.lazy.giving.queue_health.Goals as goal

pub returns-in-Ok : goal.returns-in-Ok
returns-in-Ok c =
    record {
      ok =
          lent-becomes _ _ c.args.world.now _ (id_of 3 0) c.get_mut.result c.in-Some.queue c.insert.new.self c.in-Some.is c.get_mut.ensures.value (c.get_mut.follows.holds c.insert.new.self)
          (λ was now. now ≡ was ++ PutHealth (record { entity = c.args.entity; part = record { 0 = c.args.health } }) ∷ [])
          (let queued = c.in-Ok.ensures.ok in queued.2 ∙ ap (λ job. c.in-Some.queue.now ++ job ∷ []) queued.1);
    }
