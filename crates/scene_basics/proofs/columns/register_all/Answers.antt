use Rattle.scene_basics.proofs.ColumnLemmas.{registers-all, where-done}
use Rattle.scene_basics.proofs.columns.register_all.Goals as goal

pub returns : goal.returns
returns c =
    where-done c.register_numbers-3.result
    (λ four. registers-all c.args.world.now c.register_owners.new.world c.register_numbers.new.world c.register_owners-2.new.world c.register_numbers-2.new.world c.register_numbers-3.new.world
    (c.in_ok-register_owners.ensures) (c.in_ok-register_numbers.ensures) (c.in_ok-register_owners-2.ensures) (c.in_ok-register_numbers-2.ensures) four) c.register_numbers-3.ensures
