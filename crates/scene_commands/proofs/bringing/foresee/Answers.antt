use Rattle.std.proofs.Common.{map, ap, sym, ◌∙◌, subst}
use Rattle.scene_model.specs.Rulebook.{spawn}
use Rattle.scene_model.specs.Queues.{plain_command, plain_entry}
use Rattle.scene_world.specs.Places.{kinds_of}
use Rattle.scene_commands.specs.Links.{Foresees}
use Rattle.scene_commands.proofs.LinkLemmas.{grows-not}
use Rattle.scene_commands.proofs.BringLemmas.{on_ok_both, kill-foreseen, take-foreseen, put-foreseen, spawn-foreseen}
use Rattle.scene_commands.proofs.bringing.foresee.Goals as goal

pub returns-in-Some : goal.returns-in-Some
returns-in-Some g c =
    let kinds = kinds_of g.R.Value.SceneValue.places g.R.DocumentRules.part_of g.R.WorldRules.columns in
    on_ok_both c.note_parts.result
    (λ grows noted. subst (λ command. Foresees kinds command c.args.world.now c.note_parts.new.holders)
    (ap (λ entries. spawn (map (plain_entry g.R.DocumentRules.part_of) entries)) c.as_slice.ensures.value ∙ ap (plain_command g.R.DocumentRules.part_of) (sym c.in-Spawn.is))
    (spawn-foreseen kinds c.args.world.now c.args.holders.now c.note_parts.new.holders c.requires.covers grows c.requires.may (map (plain_entry g.R.DocumentRules.part_of) c.as_slice.result.now) c.in-Some.next c.in-Some.ensures noted))
    c.note_parts.ensures.grows c.note_parts.ensures.noted

pub returns-in-Put : goal.returns-in-Put
returns-in-Put g c =
    let kinds = kinds_of g.R.Value.SceneValue.places g.R.DocumentRules.part_of g.R.WorldRules.columns in
    on_ok_both c.note_part.result
    (λ grows noted. subst (λ command. Foresees kinds command c.args.world.now c.note_part.new.holders) (ap (plain_command g.R.DocumentRules.part_of) (sym c.in-Put.is))
    (put-foreseen kinds c.args.world.now c.args.holders.now c.note_part.new.holders c.requires.covers grows c.in-Put.id c.in-Put.kind.now (g.R.DocumentRules.part_of c.in-Put.datum) noted))
    c.note_part.ensures.grows c.note_part.ensures.noted

pub returns-in-Kill : goal.returns-in-Kill
returns-in-Kill g c =
    let kinds = kinds_of g.R.Value.SceneValue.places g.R.DocumentRules.part_of g.R.WorldRules.columns in
    subst (λ command. Foresees kinds command c.args.world.now c.args.holders.now) (ap (plain_command g.R.DocumentRules.part_of) (sym c.in-Kill.is))
    (kill-foreseen kinds c.args.world.now c.args.holders.now c.args.holders.now c.requires.covers (grows-not c.args.holders.now c.requires.covers.chained) c.in-Kill.field-0)

pub returns-in-Take : goal.returns-in-Take
returns-in-Take g c =
    let kinds = kinds_of g.R.Value.SceneValue.places g.R.DocumentRules.part_of g.R.WorldRules.columns in
    subst (λ command. Foresees kinds command c.args.world.now c.args.holders.now) (ap (plain_command g.R.DocumentRules.part_of) (sym c.in-Take.is))
    (take-foreseen kinds c.args.world.now c.args.holders.now c.args.holders.now c.requires.covers (grows-not c.args.holders.now c.requires.covers.chained) c.in-Take.field-0 c.in-Take.field-1.now)
