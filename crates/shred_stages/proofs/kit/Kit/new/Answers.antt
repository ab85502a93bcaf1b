use Rattle.std.proofs.Common.{◌≡◌, List, length, ap, sym, ◌∙◌, subst, rules, arith, vec_capacity}
use Rattle.shred_world.specs.declared.resource_id.ResourceId.{ResourceId}
use Rattle.shred_stages.specs.Moves.{IsSeat}
use Rattle.shred_stages.specs.Apart.{group_reads, group_writes}
use Rattle.shred_stages.proofs.kit.Kit.new.Goals as goal

pub invariant_of-result : goal.invariant_of-result
invariant_of-result g c =
    let group = c.args.group.now in
    let same : c.in_ok-copy.copy.items ≡ group = c.in_ok-copy.ensures in
    let reads : c.list_group.new.list.items ≡ group_reads group = search rules in
    let writes : c.list_group-2.new.list.items ≡ group_writes group = search rules in
    let I : List ResourceId → Type 0 = λ list. IsSeat list c.in_ok-seat.seat in
    let room : vec_capacity c.in_ok-staged.staged ≡ length group = search rules in
    let long : length c.in_ok-copy.copy.items ≡ length group = ap length same in (
      reads ∙ ap group_reads (sym same),
      writes ∙ ap group_writes (sym same),
      subst I c.deref.ensures.value c.in_ok-seat.ensures,
      search rules,
      omega (arith, room, long),
    )
