use Rattle.std.proofs.Common.{◌≡◌, true, map, arith, ap, sym, ◌∙◌, subst}
use Rattle.std.specs.List.{list_all}
use Rattle.std.proofs.Math.ListN.{get_or-map}
use Rattle.std.proofs.lemmas.List.{length-map, take_all}
use Rattle.std.proofs.lemmas.List.Folds.{list_all_at}
use Rattle.scene_model.specs.Commands.{refs_live}
use Rattle.scene_model.specs.Queues.{plain_entry}
use Rattle.scene_world.specs.Places.{kinds_of}
use Rattle.scene_world.specs.Standing.{roll_of}
use Rattle.scene_world.specs.Rolls.{ids_in}
use Rattle.scene_commands.specs.Acts.{seen_of}
use Rattle.scene_commands.proofs.births.all_live.Goals as goal

pub returns-then-not-branch : goal.returns-then-not-branch
returns-then-not-branch g c =
    let size = length-map c.args.parts.now (plain_entry g.R.DocumentRules.part_of) in
    sym (list_all_at (λ entry. refs_live (ids_in (roll_of (kinds_of g.R.Value.SceneValue.places g.R.DocumentRules.part_of g.R.WorldRules.columns) (seen_of c.args.world.now))) entry.1) (map (plain_entry g.R.DocumentRules.part_of) c.args.parts.now) c.loop-part.part-index (plain_entry g.R.DocumentRules.part_of c.part-item.result) (omega (arith, size, c.loop-part-test.true))
    (ap (λ entry. refs_live (ids_in (roll_of (kinds_of g.R.Value.SceneValue.places g.R.DocumentRules.part_of g.R.WorldRules.columns) (seen_of c.args.world.now))) entry.1) (get_or-map (plain_entry g.R.DocumentRules.part_of) c.args.parts.now c.loop-part.part-index c.part-item.result ∙ ap (plain_entry g.R.DocumentRules.part_of) (sym c.part-item.is))
    ∙ sym c.in_ok-are_live.ensures ∙ c.if-not-branch.true))

pub returns : goal.returns
returns g c =
    sym (subst (λ parts. list_all (λ entry. refs_live (ids_in (roll_of (kinds_of g.R.Value.SceneValue.places g.R.DocumentRules.part_of g.R.WorldRules.columns) (seen_of c.args.world.now))) entry.1) (map (plain_entry g.R.DocumentRules.part_of) parts) ≡ true) (take_all c.loop-part.part-index c.args.parts.now c.loop-part-test.false) c.loop-part.invariant)
