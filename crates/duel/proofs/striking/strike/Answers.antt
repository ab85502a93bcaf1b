use Rattle.std.proofs.Common.{◌-◌, ◌∙◌, ℕ, List, subst}
use Rattle.scene_world.specs.Counting.{CountsAndWrites}
use Rattle.scene_world.specs.Numbers.{taken_at}
use Rattle.duel.specs.Names.{hp_kind, turn_name}
use Rattle.duel.specs.Values.{columns}
use Rattle.duel.proofs.StrikeLemmas.{seeing-blows}
use Rattle.duel.proofs.striking.strike.Goals as goal

pub returns-in-Ok-take_amounts-clause-ends : goal.returns-in-Ok-take_amounts-clause-ends
returns-in-Ok-take_amounts-clause-ends g c =
    let seen = g.W.Holder.slots c.args.view.now in
    subst (λ (blows : List (ℕ × ℕ)). CountsAndWrites columns turn_name hp_kind (λ index hp. hp - taken_at index blows) seen (g.W.Holder.slots c.take_amounts.new.view))
    (c.as_slice.ensures.value ∙ c.in-Ok.ensures ∙ seeing-blows seen)
    (record { between = g.W.Holder.slots c.count_one.new.view; counts = c.in_ok-count_one.ensures.counts; writes = c.in-Ok-take_amounts.ensures.taken })
