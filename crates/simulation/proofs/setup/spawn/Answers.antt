use Rattle.std.proofs.Common.{refl}
use Rattle.simulation.proofs.SetupLemmas.{spawned-all}
use Rattle.simulation.proofs.setup.spawn.Goals as goal

pub returns-in-Ok-clause-stands : goal.returns-in-Ok-clause-stands
returns-in-Ok-clause-stands c =
    (spawned-all _ _ _ _ _ c.in_ok-entity.entity c.args.position c.args.velocity c.args.world.now c.allocate.new.self c.insert_part.new.self c.insert_part-2.new.self c.requires
    c.in_ok-entity.ensures.ok c.in_default.ensures.ok.puts c.in-Ok.ensures.ok.puts (λ _. refl) (λ _. refl) (λ _. refl) (λ _ _ put. put.parts) (λ _ _ put. put.parts)).0

pub returns-in-Ok-clause-parts : goal.returns-in-Ok-clause-parts
returns-in-Ok-clause-parts c =
    (spawned-all _ _ _ _ _ c.in_ok-entity.entity c.args.position c.args.velocity c.args.world.now c.allocate.new.self c.insert_part.new.self c.insert_part-2.new.self c.requires
    c.in_ok-entity.ensures.ok c.in_default.ensures.ok.puts c.in-Ok.ensures.ok.puts (λ _. refl) (λ _. refl) (λ _. refl) (λ _ _ put. put.parts) (λ _ _ put. put.parts)).1
