use Rattle.std.proofs.Common.{false, refl}
use Rattle.std.proofs.lemmas.Result.{on_ok_weaker}
use Rattle.scene_world.proofs.CallerLemmas.{plain-registers}
use Rattle.duel.specs.Values.{all_columns, all_globals}
use Rattle.duel.proofs.columns.DuelWorldRules.register.Goals as goal

pub returns : goal.returns
returns c =
    on_ok_weaker c.register-3.result
    (λ last. plain-registers (λ kind. false) all_columns all_globals c.args.world.now c.register-3.new.world refl
    (c.register.new.world, c.in_ok-register.ensures.ok, (c.register-2.new.world, c.in_ok-register-2.ensures.ok, (c.register-3.new.world, last, refl))))
    c.register-3.ensures.ok
