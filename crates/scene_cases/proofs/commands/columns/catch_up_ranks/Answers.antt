use Rattle.std.proofs.Common.{refl}
use Rattle.scene_world.proofs.CallerLemmas.{reader-caught}
use Rattle.scene_cases.specs.Owning.{rank_stored, rank_column, rank_events, rank_emits}
use Rattle.scene_cases.specs.declared.commands.values.Value.TheVariants.{RankValue}
use Rattle.scene_cases.proofs.OwnerColumnLemmas.{has-ranks}
use Rattle.scene_cases.proofs.commands.columns.catch_up_ranks.Goals as goal

pub returns : goal.returns
returns c = reader-caught rank_stored rank_column rank_events rank_emits c.args.value.now (RankValue c.catch_up_reader.new.storage) c.in-RankValue.ranks c.catch_up_reader.new.storage (has-ranks _ _ c.in-RankValue.is) (has-ranks _ _ refl) c.args.reader.now c.catch_up_reader.ensures
