use Rattle.std.proofs.Common.{◌≡◌, ◌++◌, Some, map, sym, ap, ◌∙◌, append-nil}
use Rattle.shred_world.specs.Worlds.{values_of_kinds}
use Rattle.shred_world.proofs.MetaLemmas.{values-are-held, map-some}
use Rattle.shred_world.proofs.laws.a_table_walks_each_kind_once.Goals as goal

pub returns-clause-values : goal.returns-clause-values
returns-clause-values g c =
    let end = c.in_default.ensures.steps.0 in
    let walked : map (λ v. v.now) c.loop-value.values.items ≡ values_of_kinds c.args.world.now c.args.table.now =
    sym (append-nil _) ∙ ap (λ rest. map (λ v. v.now) c.loop-value.values.items ++ rest) (sym end) ∙ c.loop-value.invariant
    ∙ (λ j. values_of_kinds (c.iter-walk.ensures.world j) (c.iter-walk.ensures.kinds j)) in
    map-some c.loop-value.values.items ∙ ap (map (λ v. Some v)) walked ∙ values-are-held c.args.world.now c.args.table.now
