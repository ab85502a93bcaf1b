use Rattle.std.proofs.Common.{ap, ◌∙◌}
use Rattle.std.proofs.lemmas.Result.{on_ok_weaker}
use Rattle.scene_model.specs.Laws.{refs_to}
use Rattle.scene_commands.proofs.BringLemmas.{told-refs}
use Rattle.scene_commands.proofs.bringing.note_part.Goals as goal

pub returns-clause-noted : goal.returns-clause-noted
returns-clause-noted g c =
    on_ok_weaker c.push_all.result
    (λ noted made owns target refers. noted target (told-refs target c.as_slice.result.now (g.R.DocumentRules.part_of c.args.datum.now) (ap refs_to c.as_slice.ensures.value ∙ c.in_ok-refs.ensures) refers))
    c.push_all.ensures.noted
