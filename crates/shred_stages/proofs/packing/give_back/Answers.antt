use Rattle.std.proofs.Common.{◌≡◌, List, length, subst, arith, vec_capacity}
use Rattle.shred_world.specs.declared.resource_id.ResourceId.{ResourceId}
use Rattle.shred_world.specs.Bundles.{holding_of}
use Rattle.shred_stages.specs.Moves.{moved_to}
use Rattle.shred_stages.specs.Packs.{Packed}
use Rattle.shred_stages.proofs.LendingLemmas.{seat-emptied, placed-length}
use Rattle.shred_stages.proofs.packing.give_back.Goals as goal

pub invariant_of-kit : goal.invariant_of-kit
invariant_of-kit g c =
    let pack = c.pack.inside in
    let was = c.pack.invariant in
    let many : length pack.group.items ≡ length pack.staged.items = placed-length pack.group.items pack.staged.items was.3 in
    let room : vec_capacity c.put_group.new.systems ≡ vec_capacity pack.staged = c.put_group.ensures.room in
    let whole = pack.staged.ok in (
      was.0,
      was.1,
      seat-emptied pack.writes.items c.deref.result.now pack.seat c.move_values.new.from c.deref.ensures.value was.2 c.move_values.ensures.from,
      c.put_group.ensures.systems,
      omega (arith, many, room, whole.0, whole.1),
    )

pub returns-clause-home : goal.returns-clause-home
returns-clause-home g c =
    let P : Packed g.row.V.Denot g.row.S.Denot → Type 0 = λ pack. (id : ResourceId) → holding_of c.move_values.new.to id ≡ moved_to pack.writes (holding_of pack.seat) (holding_of c.args.world.now) id in
    let Q : List ResourceId → Type 0 = λ ids. (id : ResourceId) → holding_of c.move_values.new.to id ≡ moved_to ids (holding_of c.pack.inside.seat) (holding_of c.args.world.now) id in
    subst P c.pack.view_is (subst Q c.deref.ensures.value c.move_values.ensures.to)
