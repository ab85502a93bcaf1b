use Rattle.std.proofs.Common.{sym}
use Rattle.std.proofs.lemmas.Result.{on_ok_weaker}
use Rattle.shred_stages.proofs.CallerLemmas.{leaves-one}
use Rattle.scene_world.proofs.HeldLemmas.{taken-read, sets-one}
use Rattle.scene_world.proofs.held.change_held.Goals as goal

pub returns-clause-changed : goal.returns-clause-changed
returns-clause-changed g c =
    on_ok_weaker c.change-outcome.result
    (λ becomes. record {
      before = c.in-Some.value;
      after = c.change-outcome.new.value;
      there = taken-read (g.W.Holder.slots c.args.view.now c.args.id) c.in-Some.value (sym c.in-Some.ensures.value);
      sets = sets-one _ _ _ c.args.id c.change-outcome.new.value c.in-Some.ensures.ok c.put.ensures;
      changed = becomes;
    }) c.change-outcome.ensures

pub returns-clause-leaves : goal.returns-clause-leaves
returns-clause-leaves g c = leaves-one _ _ _ c.args.id c.in-Some.value c.change-outcome.new.value (sym c.in-Some.ensures.value) c.in-Some.ensures.ok c.put.ensures
