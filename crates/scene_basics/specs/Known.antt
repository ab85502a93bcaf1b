-- Who is known in a world by an id, as a system sees it.
use Rattle.shred_world.specs.Bundles.{Holding}
use Rattle.scene_world.specs.Rolls.{Roll}
use Rattle.scene_world.specs.Standing.{seen_in, roll_of}
use Rattle.scene_basics.specs.declared.values.Value.{Value}
use Rattle.scene_basics.specs.Columns.{basic_kinds}

-- who lives in what is held, and under which id each is known
abbrev pub basic_roll : Holding Value → Roll
basic_roll w = roll_of basic_kinds (seen_in w)
