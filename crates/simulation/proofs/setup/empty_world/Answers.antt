use Rattle.std.proofs.Common.{refl}
use Rattle.simulation.proofs.SetupLemmas.{stands-registered}
use Rattle.simulation.proofs.setup.empty_world.Goals as goal

pub returns : goal.returns
returns c =
    stands-registered _ _ _ c.in_ok-world.world c.register.new.self c.register-2.new.self c.in_ok-world.ensures.ok c.in_ok-register.ensures.ok c.in_ok-register-2.ensures.ok (λ _. refl) (λ _ new. new.parts)
