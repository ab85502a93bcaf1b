use Rattle.std.proofs.Common.{◌≡◌, true, get_or, sym, subst, arith}
use Rattle.scene_model.specs.Parts.{is_among}
use Rattle.scene_model.specs.Rulebook.{put}
use Rattle.scene_model.specs.Declaring.{texts}
use Rattle.scene_document.specs.DraftViews.{named}
use Rattle.scene_world.specs.Places.{kinds_of}
use Rattle.scene_commands.specs.Acts.{Acts}
use Rattle.scene_commands.proofs.DropLemmas.{no_name, named-there}
use Rattle.scene_commands.specs.Becoming.{Becomes}
use Rattle.scene_commands.specs.Entries.{with_one}
use Rattle.scene_commands.proofs.BecomeLemmas.{puts-one}
use Rattle.scene_commands.proofs.part_lists.put_one.Goals as goal

pub put_at_entity-requires-clause-kind : goal.put_at_entity-requires-clause-kind
put_at_entity-requires-clause-kind g c =
    subst (λ names. is_among (get_or c.args.names.now c.in-Some.place no_name).now names ≡ true) c.requires.names (named-there c.args.names.now c.in-Some.place no_name (omega (arith, c.if-place-names.false)))

pub returns-then-done-clause-becomes : goal.returns-then-done-clause-becomes
returns-then-done-clause-becomes g c =
    subst (λ part. Becomes (kinds_of g.R.Value.SceneValue.places g.R.DocumentRules.part_of g.R.WorldRules.columns) (with_one c.args.known.0 (named g.R.DocumentRules.part_of (texts c.args.names.now) part)) c.args.world.now c.put_at_entity.new.world) (sym c.in-Some.is)
    (puts-one (kinds_of g.R.Value.SceneValue.places g.R.DocumentRules.part_of g.R.WorldRules.columns) g.met.R.WorldRules.apart c.args.world.now c.put_at_entity.new.world c.args.known.0 c.args.names.now c.in-Some.place (g.R.DocumentRules.part_of c.in-Some.datum) c.in_ok-done.ensures.may
    (subst (λ done. Acts (kinds_of g.R.Value.SceneValue.places g.R.DocumentRules.part_of g.R.WorldRules.columns) (put c.args.known.0 (get_or c.args.names.now c.in-Some.place no_name).now (g.R.DocumentRules.part_of c.in-Some.datum)) done c.args.world.now c.put_at_entity.new.world) c.if-done.true c.in_ok-done.ensures.acts)
    c.in_ok-done.ensures.elsewhere c.in_ok-done.ensures.goes_on)
