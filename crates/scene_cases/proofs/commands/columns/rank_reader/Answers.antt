use Rattle.std.proofs.Common.{refl}
use Rattle.scene_world.proofs.CallerLemmas.{reader-gained}
use Rattle.scene_cases.specs.Owning.{rank_stored, rank_column, rank_events, rank_emits}
use Rattle.scene_cases.specs.declared.commands.values.Value.TheVariants.{RankValue}
use Rattle.scene_cases.proofs.OwnerColumnLemmas.{has-ranks}
use Rattle.scene_cases.proofs.commands.columns.rank_reader.Goals as goal

pub returns-in-Ok-clause-ok : goal.returns-in-Ok-clause-ok
returns-in-Ok-clause-ok c = reader-gained rank_stored rank_column rank_events rank_emits c.args.value.now (RankValue c.gain_reader.new.storage) c.in-RankValue.ranks c.gain_reader.new.storage (has-ranks _ _ c.in-RankValue.is) (has-ranks _ _ refl) c.in-Ok.reader c.in-Ok.ensures.ok
