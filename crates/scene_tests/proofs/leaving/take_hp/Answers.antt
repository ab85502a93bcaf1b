use Rattle.std.proofs.Common.{ap, ◌∙◌}
use Rattle.std.proofs.lemmas.Result.{on_ok_weaker}
use Rattle.shred_world.specs.Bundles.{owned, takable, with_slot}
use Rattle.shred_stages.proofs.CallerLemmas.{leaves-one}
use Rattle.scene_basics.specs.declared.values.Value.TheVariants.{NumbersValue}
use Rattle.scene_basics.specs.Names.{hp_kind}
use Rattle.scene_basics.specs.Columns.{part_id}
use Rattle.scene_tests.proofs.HeldLemmas.{changed-there}
use Rattle.scene_tests.proofs.leaving.take_hp.Goals as goal

pub returns-clause-ok : goal.returns-clause-ok
returns-clause-ok g c =
    on_ok_weaker c.take_all-outcome.result
    (λ none. record {
      before = c.in-Some.numbers;
      after = c.take_all-outcome.new.numbers;
      writes = record {
        written = c.in-Some.ensures.there;
        others = changed-there (g.W.Holder.slots c.args.view.now) (g.W.Holder.slots c.lift_hp.new.view) (g.W.Holder.slots c.put.new.self) (part_id hp_kind) c.part_id.result (NumbersValue c.take_all-outcome.new.numbers)
            c.in-Some.ensures.taken c.part_id.ensures c.put.ensures;
      };
      none = none;
      shown = c.take_all-outcome.ensures.shown;
    })
    c.take_all-outcome.ensures.none

pub returns-clause-leaves : goal.returns-clause-leaves
returns-clause-leaves g c =
    leaves-one _ _ _ (part_id hp_kind) (NumbersValue c.in-Some.numbers) (NumbersValue c.take_all-outcome.new.numbers) (ap takable c.in-Some.ensures.there) c.in-Some.ensures.taken
    (c.put.ensures ∙ ap (λ at. with_slot (g.W.Holder.slots c.lift_hp.new.view) at (owned (NumbersValue c.take_all-outcome.new.numbers))) c.part_id.ensures)
