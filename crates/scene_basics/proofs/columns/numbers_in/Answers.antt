use Rattle.std.proofs.Common.{◌≡◌, ◌+◌, ℕ, Some, Option, take, option_map, sym, ap, subst, ◌∙◌}
use Rattle.std.specs.Global.{Vec}
use Rattle.scene_world.specs.Putting.{each_there}
use Rattle.scene_world.proofs.CallerLemmas.{each-more, each-passed}
use Rattle.scene_basics.specs.declared.data.Datum.{Datum}
use Rattle.scene_basics.specs.declared.data.Datum.TheVariants.{Whole as DatumWhole}
use Rattle.scene_basics.specs.declared.values.Whole.{Whole}
use Rattle.scene_basics.proofs.columns.numbers_in.Goals as goal
use Rattle.scene_basics.proofs.columns.numbers_in.Goals.{in-Some+in_ok-push, in_default}

pub loop-entity-preserved : goal.loop-entity-preserved
loop-entity-preserved g c =
    let entities = c.args.entities.now in
    let place = c.loop-entity.entity-index in
    let read : ℕ → Option Datum = λ index. option_map (λ (whole : Whole). DatumWhole whole.0) (g.L.UnprotectedStorage.part_at c.args.layout.now index) in
    let given : Option Datum → Option Datum = λ datum. datum in
    elim c.match-number_in.branch [
      | in-Some+in_ok-push v ↦
          subst (λ (list : Vec (ℕ × Option Datum)). each_there given list.items ≡ each_there read (take (place + 1) entities)) (sym v.found-is)
          (ap (each_there given) v.in_ok-push.ensures.items
          ∙ each-more given read c.loop-entity.found.items entities place (0, 0) c.loop-entity-test.true c.loop-entity.invariant (Some v.in-Some.datum) (sym v.in-Some.is ∙ c.number_in.ensures))
      | in_default v ↦
          subst (λ (list : Vec (ℕ × Option Datum)). each_there given list.items ≡ each_there read (take (place + 1) entities)) (sym v.found-is)
          (each-passed given read c.loop-entity.found.items entities place (0, 0) c.loop-entity-test.true c.loop-entity.invariant (sym c.number_in.ensures ∙ v.in_default.is))
    ]
