use Rattle.std.proofs.Common.{◌≡◌, [], ◌∙◌, ap, sym, subst, arith, rules, min, unsigned_abs, w32}
use Rattle.std.proofs.lemmas.Int.{ints, to_z-of_z}
use Rattle.scene_world.specs.Places.{kinds_of}
use Rattle.std.proofs.lemmas.List.Elements.{All-weaker}
use Rattle.shred_world.specs.Bundles.{readable, slot_of}
use Rattle.scene_world.specs.Standing.{commands_of}
use Rattle.scene_dispatch.specs.Opened.{HasEmptyQueue}
use Rattle.scene.proofs.CommandLemmas.{none-left}
use Rattle.scene_commands.specs.Acts.{seen_of}
use Rattle.scene_commands.specs.Bounds.{IsBounded, unlisted_in}
use Rattle.scene.proofs.WorldLemmas.{roll-stays}
use Rattle.scene_dispatch.proofs.CallerLemmas.{opened-scene, opened-stands, empty-commands}
use Rattle.scene.proofs.load.open_in_world.Goals as goal

pub returns-clause-stands : goal.returns-clause-stands
returns-clause-stands g c =
    let document = c.requires.document in
    let passed = document.passed in
    opened-stands g.R.Value.SceneValue.places g.R.DocumentRules.part_of g.R.WorldRules.columns g.met.R.WorldRules.apart (g.R.DocumentRules.book c.args.rules.now) c.args.places.now c.in_ok-world.world c.open_queues.new.world c.in_ok-open_queues.ensures.others (c.in_ok-world.ensures.stands document.plain document.indices document.says passed).world

pub returns-clause-none : goal.returns-clause-none
returns-clause-none g c =
    none-left (kinds_of g.R.Value.SceneValue.places g.R.DocumentRules.part_of g.R.WorldRules.columns) g.met.R.WorldRules.apart c.args.places.now c.in_ok-world.world c.open_queues.new.world
    (All-weaker (HasEmptyQueue g.R.Value.SceneValue.places c.open_queues.new.world) (λ place. commands_of (kinds_of g.R.Value.SceneValue.places g.R.DocumentRules.part_of g.R.WorldRules.columns) (seen_of c.open_queues.new.world) place ≡ [])
    (λ place has. empty-commands g.R.Value.SceneValue.places g.R.DocumentRules.part_of g.R.WorldRules.columns g.met.R.WorldRules.apart c.open_queues.new.world place has) c.args.places.now c.in_ok-open_queues.ensures.queues)
    (λ id e m a p none. ap (λ slot. readable (slot_of slot)) (c.in_ok-open_queues.ensures.others id none))
    (λ place none. c.in_ok-world.ensures.quiet place)

pub returns-clause-scene : goal.returns-clause-scene
returns-clause-scene g c = λ plain indices says passed.
    opened-scene g.R.Value.SceneValue.places g.R.DocumentRules.part_of g.R.WorldRules.columns g.met.R.WorldRules.apart c.args.places.now c.in_ok-world.world c.open_queues.new.world c.in_ok-open_queues.ensures.others
    ∙ (c.in_ok-world.ensures.stands plain indices says passed).same

pub returns-clause-bounded : goal.returns-clause-bounded
returns-clause-bounded g c = λ plain indices says passed.
    let kinds = kinds_of g.R.Value.SceneValue.places g.R.DocumentRules.part_of g.R.WorldRules.columns in
    let before = c.in_ok-world.ensures.bounded plain indices says passed in
    let rolls = roll-stays kinds g.met.R.WorldRules.apart c.args.places.now c.in_ok-world.world c.open_queues.new.world (λ id none. ap (λ slot. readable (slot_of slot)) (c.in_ok-open_queues.ensures.others id none)) in
    let same : c.unsigned_abs-births.result ≡ unsigned_abs c.args.limits.generation = c.unsigned_abs-births.ensures.value ∙ ap unsigned_abs (to_z-of_z w32 c.args.limits.generation (search rules)) in
    let few-enough : min c.unsigned_abs-births.result 2147483647 ≡ unsigned_abs c.args.limits.generation = grind (arith, ints, same, c.requires.limits.generation) in
    subst (IsBounded c.args.limits.indices (unsigned_abs c.args.limits.generation) (unlisted_in plain)) (sym rolls) (record {
      indices = before.indices ∙ omega (arith, c.requires.limits.indices);
      generations = before.generations ∙ few-enough;
      in_use = before.in_use;
      counts = before.counts;
    })
