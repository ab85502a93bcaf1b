use Rattle.std.proofs.Common.{◌≡◌, List, Some, None, map, ap, sym, ◌∙◌, subst}
use Rattle.std.specs.List.{All}
use Rattle.shred_world.specs.declared.resource_id.ResourceId.{ResourceId}
use Rattle.shred_world.specs.Worlds.{Slots}
use Rattle.shred_plan.specs.Plan.{Stage}
use Rattle.shred_stages.specs.declared.turn.Staged.{Staged}
use Rattle.shred_stages.specs.Free.{AreFree}
use Rattle.shred_stages.specs.Seats.{StagesAreSeated}
use Rattle.shred_stages.specs.Away.{systems_in}
use Rattle.shred_stages.specs.Touring.{Touring}
use Rattle.shred_stages.proofs.AwayLemmas.{systems-in-all}
use Rattle.shred_stages.proofs.apart.embark.Goals as goal

pub invariant_of-result : goal.invariant_of-result
invariant_of-result g c =
    let kept : c.replace-3.result.items ≡ c.args.berths.now.items = ap (λ v. v.items) c.replace-3.ensures.value in
    let all : systems_in c.fill_slots.new.slots.items ≡ c.args.staged.now.items = ap systems_in c.fill_slots.ensures ∙ systems-in-all c.replace.result.items ∙ ap (λ v. v.items) c.replace.ensures.value in
    let P : List (Stage ResourceId) → Type 0 = λ stages. All AreFree stages in
    let Q : List (Stage ResourceId) → Type 0 = λ stages. StagesAreSeated stages c.args.staged.now.items in
    let R : List (Staged g.row.V.Denot g.row.S.Denot) → Type 0 = λ list. StagesAreSeated c.replace-3.result.items list in (
      subst P (sym kept) c.requires.free,
      c.fill_slots.ensures ∙ ap (map Some) (sym (systems-in-all c.replace.result.items) ∙ sym (ap systems_in c.fill_slots.ensures)),
      subst R (sym all) (subst Q (sym kept) c.requires.seated),
    )

pub returns-clause-ok : goal.returns-clause-ok
returns-clause-ok g c =
    let kept : c.replace-3.result.items ≡ c.args.berths.now.items = ap (λ v. v.items) c.replace-3.ensures.value in
    let all : systems_in c.fill_slots.new.slots.items ≡ c.args.staged.now.items = ap systems_in c.fill_slots.ensures ∙ systems-in-all c.replace.result.items ∙ ap (λ v. v.items) c.replace.ensures.value in
    let made : List (Stage ResourceId) → List (Staged g.row.V.Denot g.row.S.Denot) → Slots g.row.V.Denot → Touring g.row.V.Denot g.row.S.Denot = λ stages staged world. record { stages = stages; staged = staged; world = world; refused = None } in
    ap (λ stages. made stages (systems_in c.fill_slots.new.slots.items) c.replace-2.result) kept
    ∙ ap (λ staged. made c.args.berths.now.items staged c.replace-2.result) all
    ∙ ap (made c.args.berths.now.items c.args.staged.now.items) c.replace-2.ensures.value
