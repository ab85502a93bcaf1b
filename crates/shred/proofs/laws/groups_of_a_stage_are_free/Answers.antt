use Rattle.std.proofs.Common.{sym, subst}
use Rattle.std.specs.List.{All}
use Rattle.shred_stages.specs.Free.{AreFree}
use Rattle.shred_stages.proofs.CallerLemmas.{planned-free}
use Rattle.shred.specs.Building.{Building}
use Rattle.shred.proofs.WaitLemmas.{built-planned}
use Rattle.shred.proofs.laws.groups_of_a_stage_are_free.Goals as goal

pub returns : goal.returns
returns g c list draft is =
    let P : Building g.row.S.Denot → Type 0 = λ building. All AreFree building.staging.planning.stages in
    subst P (sym is) (planned-free _ _ (built-planned _ list))
