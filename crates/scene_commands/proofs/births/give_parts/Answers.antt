use Rattle.std.proofs.Common.{◌≡◌, true, None, map, take, sym, subst}
use Rattle.std.proofs.lemmas.List.{take_all}
use Rattle.scene_model.specs.Parts.{is_among, under}
use Rattle.scene_model.specs.Queues.{plain_entry}
use Rattle.scene_model.proofs.CallerLemmas.{holds_at, front_at}
use Rattle.scene_world.specs.Places.{kinds_of}
use Rattle.scene_world.specs.Standing.{roll_of}
use Rattle.scene_commands.specs.Acts.{seen_of}
use Rattle.scene_commands.specs.Newborns.{GivesParts}
use Rattle.scene_commands.proofs.GiveLemmas.{under-new, gives-none, gives-more}
use Rattle.scene_commands.proofs.births.give_parts.Goals as goal

pub give_part-requires-clause-known : goal.give_part-requires-clause-known
give_part-requires-clause-known g c = holds_at (plain_entry g.R.DocumentRules.part_of) c.args.parts.now c.loop-part.part-index c.part-item.result c.loop-part-test.true c.part-item.is (λ entry. is_among entry.0 g.R.WorldRules.columns.part_names ≡ true) c.requires.known

pub loop-part-init : goal.loop-part-init
loop-part-init g c = gives-none (kinds_of g.R.Value.SceneValue.places g.R.DocumentRules.part_of g.R.WorldRules.columns) c.args.index (seen_of c.args.world.now)

pub loop-part-preserved : goal.loop-part-preserved
loop-part-preserved g c =
    subst (λ given. GivesParts (kinds_of g.R.Value.SceneValue.places g.R.DocumentRules.part_of g.R.WorldRules.columns) (roll_of (kinds_of g.R.Value.SceneValue.places g.R.DocumentRules.part_of g.R.WorldRules.columns) (seen_of c.args.world.now)) c.args.index given (seen_of c.args.world.now) (seen_of c.give_part.new.world))
    (sym (front_at (plain_entry g.R.DocumentRules.part_of) c.args.parts.now c.loop-part.part-index c.part-item.result c.loop-part-test.true c.part-item.is))
    (gives-more (kinds_of g.R.Value.SceneValue.places g.R.DocumentRules.part_of g.R.WorldRules.columns) g.met.R.WorldRules.apart c.args.index (map (plain_entry g.R.DocumentRules.part_of) (take c.loop-part.part-index c.args.parts.now)) (seen_of c.args.world.now) (seen_of c.loop-part.world) (seen_of c.give_part.new.world)
    c.loop-part.invariant c.part-item.result.0.now (g.R.DocumentRules.part_of c.part-item.result.1)
    (holds_at (plain_entry g.R.DocumentRules.part_of) c.args.parts.now c.loop-part.part-index c.part-item.result c.loop-part-test.true c.part-item.is (λ entry. is_among entry.0 g.R.WorldRules.columns.part_names ≡ true) c.requires.known)
    (subst (λ part. under part.0.now (map (plain_entry g.R.DocumentRules.part_of) (take c.loop-part.part-index c.args.parts.now)) ≡ None) (sym c.part-item.is)
    (under-new g.R.DocumentRules.part_of c.args.parts.now c.loop-part.part-index c.part-item.result c.loop-part-test.true c.requires.apart))
    c.in_ok-give_part.ensures)

pub returns : goal.returns
returns g c =
    subst (λ parts. GivesParts (kinds_of g.R.Value.SceneValue.places g.R.DocumentRules.part_of g.R.WorldRules.columns) (roll_of (kinds_of g.R.Value.SceneValue.places g.R.DocumentRules.part_of g.R.WorldRules.columns) (seen_of c.args.world.now)) c.args.index (map (plain_entry g.R.DocumentRules.part_of) parts) (seen_of c.args.world.now) (seen_of c.loop-part.world))
    (take_all c.loop-part.part-index c.args.parts.now c.loop-part-test.false) c.loop-part.invariant
