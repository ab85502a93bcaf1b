use Rattle.std.proofs.Common.{refl, [], sym, subst}
use Rattle.scene_world.specs.Putting.{PutsIn}
use Rattle.scene_cases.specs.Owning.{ranked, rank_column, rank_stored, rank_events, rank_emits}
use Rattle.scene_cases.specs.declared.commands.values.Value.TheVariants.{RankValue}
use Rattle.scene_cases.proofs.OwnerColumnLemmas.{put-rank, has-ranks}
use Rattle.scene_cases.proofs.commands.columns.put_rank.Goals as goal
use Rattle.scene_world.proofs.CallerLemmas.{shown-put, shown-kept}

pub returns-in-Ok-clause-ok : goal.returns-in-Ok-clause-ok
returns-in-Ok-clause-ok c =
    subst (λ v. PutsIn rank_column c.args.index (ranked c.args.number) [] v (RankValue c.insert.new.self)) (sym c.in-RankValue.is)
    (put-rank c.in-RankValue.ranks c.insert.new.self c.args.index c.args.number c.in-Ok.ensures.ok)

pub returns-in-Ok-clause-shown : goal.returns-in-Ok-clause-shown
returns-in-Ok-clause-shown c = shown-put rank_stored rank_column rank_events rank_emits c.args.value.now (RankValue c.insert.new.self) c.in-RankValue.ranks c.insert.new.self (has-ranks _ _ c.in-RankValue.is) (has-ranks _ _ refl) c.args.index _ c.in-Ok.ensures.ok c.in-Ok.ensures.events c.in-Ok.ensures.emission

pub returns-in-Err-clause-shown : goal.returns-in-Err-clause-shown
returns-in-Err-clause-shown c = shown-kept rank_stored rank_column rank_events rank_emits c.args.value.now (RankValue c.insert.new.self) c.in-RankValue.ranks c.insert.new.self (has-ranks _ _ c.in-RankValue.is) (has-ranks _ _ refl) c.in-Err.ensures.err c.in-Err.ensures.silent c.in-Err.ensures.emission
