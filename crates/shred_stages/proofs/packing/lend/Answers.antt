use Rattle.std.proofs.Common.{◌≡◌, List, ap, sym, ◌∙◌, ◌++◌, subst, refl, map, None}
use Rattle.shred_world.specs.Bundles.{holding_of}
use Rattle.shred_plan.specs.Plan.{Group}
use Rattle.shred_stages.specs.declared.turn.Staged.{Staged}
use Rattle.shred_world.specs.declared.resource_id.ResourceId.{ResourceId}
use Rattle.shred_stages.specs.Moves.{IsSeat}
use Rattle.shred_stages.specs.Apart.{group_writes}
use Rattle.shred_stages.specs.Packs.{Packed, ArePlaced}
use Rattle.shred_stages.specs.Away.{standing, vacated, IsLoaded}
use Rattle.shred_stages.proofs.LendingLemmas.{seat-lent, seat-fits, seat-left}
use Rattle.shred_stages.proofs.packing.lend.Goals as goal

pub invariant_of-result : goal.invariant_of-result
invariant_of-result g c =
    let kit = c.kit.inside in
    let was = c.kit.invariant in
    let slots = c.args.slots.now.items in
    let taken : c.take_group.new.taken.items ≡ standing kit.group.items slots = c.take_group.ensures.taken ∙ ap (λ list. list ++ standing c.deref.result.now slots) was.3 ∙ ap (λ group. standing group slots) c.deref.ensures.value in
    let P : Group ResourceId → Type 0 = λ group. ArePlaced group (standing group slots) in
    let Q : List (Staged g.row.V.Denot g.row.S.Denot) → Type 0 = λ list. ArePlaced kit.group.items list in
    let ids : c.deref-2.result.now ≡ kit.writes.items = c.deref-2.ensures.value in
    let I : List ResourceId → Type 0 = λ list. IsSeat list kit.seat in
    let seated : IsSeat c.deref-2.result.now kit.seat = subst I (sym ids) was.2 in (
      was.0,
      was.1,
      seat-fits c.deref-2.result.now kit.writes.items ids (holding_of c.args.world.now) (holding_of c.move_values.new.from) kit.seat c.move_values.new.to seated c.move_values.ensures.to,
      subst Q (sym taken) (subst P (sym c.kit.view_is) c.requires.placed),
    )

pub returns : goal.returns
returns g c =
    let kit = c.kit.inside in
    let was = c.kit.invariant in
    let slots = c.args.slots.now.items in
    let w = holding_of c.args.world.now in
    let w2 = holding_of c.move_values.new.from in
    let taken : c.take_group.new.taken.items ≡ standing kit.group.items slots = c.take_group.ensures.taken ∙ ap (λ list. list ++ standing c.deref.result.now slots) was.3 ∙ ap (λ group. standing group slots) c.deref.ensures.value in
    let ids : c.deref-2.result.now ≡ kit.writes.items = c.deref-2.ensures.value in
    let same : c.deref-2.result.now ≡ group_writes kit.group.items = ids ∙ was.1 in
    let I : List ResourceId → Type 0 = λ list. IsSeat list kit.seat in
    let seated : IsSeat c.deref-2.result.now kit.seat = subst I (sym ids) was.2 in
    let pack : Packed g.row.V.Denot g.row.S.Denot = record { group = kit.group.items; reads = kit.reads.items; writes = kit.writes.items; seat = c.move_values.new.to; systems = map (λ one. one.system) c.take_group.new.taken.items; refused = None } in
    let P : Group ResourceId → Type 0 = λ planned. IsLoaded planned pack slots c.take_group.new.slots.items w w2 in
    subst P c.kit.view_is
    (record {
      group = refl;
      reads = was.0;
      writes = was.1;
      systems = ap (map (λ one. one.system)) taken;
      lent = record {
        seat = seat-lent c.deref-2.result.now (group_writes kit.group.items) same w w2 kit.seat c.move_values.new.to seated c.move_values.ensures.to;
        left = seat-left c.deref-2.result.now (group_writes kit.group.items) same w w2 kit.seat c.move_values.new.to seated c.move_values.ensures.to c.move_values.ensures.from;
      };
      slots = c.take_group.ensures.slots ∙ ap (λ group. vacated group slots) c.deref.ensures.value;
    })
