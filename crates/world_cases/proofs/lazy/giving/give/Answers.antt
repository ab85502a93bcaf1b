use Rattle.std.proofs.Common.{refl}
use Rattle.std.proofs.lemmas.Result.{IfOk-weaker}
use Rattle.world_cases.specs.declared.lazy.tasks.Task.TheVariants.{PutHealth}
use Rattle.specs_world.proofs.CallerLemmas.{one-counted, ran-unrefused}
use Rattle.world_cases.proofs.GivingLemmas.{ran-it, put-there}
use Rattle.world_cases.proofs.lazy.giving.give.Goals as goal

pub returns-clause-one : goal.returns-clause-one
returns-clause-one g c =
    let job = PutHealth (record { entity = c.args.entity; part = record { 0 = c.args.health } }) in
    IfOk-weaker c.maintain.result _ _ (λ counts ran. one-counted ran.one.refused counts ran.one.counts_are)
    (ran-it _ _ _ refl refl _ _ (λ _. refl) _ job c.args.world.now c.queue_health.new.world _ c.maintain.result c.in_ok-queue_health.ensures.ok c.requires.none c.maintain.ensures.maintains)

pub returns-clause-given : goal.returns-clause-given
returns-clause-given g c =
    let job = PutHealth (record { entity = c.args.entity; part = record { 0 = c.args.health } }) in
    IfOk-weaker c.maintain.result _ _
    (λ counts ran none. put-there _ _ 2 (λ _. refl) _ _ _ _ c.args.entity (record { 0 = c.args.health }) _ _ (ran-unrefused _ _ _ ran.merged job _ ran.there counts _ ran.one none).ran)
    (ran-it _ _ _ refl refl _ _ (λ _. refl) _ job c.args.world.now c.queue_health.new.world _ c.maintain.result c.in_ok-queue_health.ensures.ok c.requires.none c.maintain.ensures.maintains)
