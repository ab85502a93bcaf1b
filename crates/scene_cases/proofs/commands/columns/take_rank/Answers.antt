use Rattle.std.proofs.Common.{refl}
use Rattle.scene_world.proofs.CallerLemmas.{shown-taken, shown-kept}
use Rattle.scene_cases.specs.Owning.{rank_stored, rank_column, rank_events, rank_emits}
use Rattle.scene_cases.specs.declared.commands.values.Value.TheVariants.{RankValue}
use Rattle.scene_cases.proofs.OwnerColumnLemmas.{has-ranks}
use Rattle.scene_cases.proofs.commands.columns.take_rank.Goals as goal

pub returns-in-Ok-clause-shown : goal.returns-in-Ok-clause-shown
returns-in-Ok-clause-shown c = shown-taken rank_stored rank_column rank_events rank_emits c.args.value.now (RankValue c.drop.new.self) c.in-RankValue.ranks c.drop.new.self (has-ranks _ _ c.in-RankValue.is) (has-ranks _ _ refl) c.args.index c.in-Ok.ensures.ok c.in-Ok.ensures.events c.in-Ok.ensures.emission

pub returns-in-Err-clause-shown : goal.returns-in-Err-clause-shown
returns-in-Err-clause-shown c = shown-kept rank_stored rank_column rank_events rank_emits c.args.value.now (RankValue c.drop.new.self) c.in-RankValue.ranks c.drop.new.self (has-ranks _ _ c.in-RankValue.is) (has-ranks _ _ refl) c.in-Err.ensures.err c.in-Err.ensures.silent c.in-Err.ensures.emission
