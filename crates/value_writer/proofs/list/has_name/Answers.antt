use Rattle.std.proofs.Common.{rules, ◌≢◌, get_or, below_more, ap, ◌∙◌}
use Rattle.std.proofs.lemmas.List.{get_or_default}
use Rattle.std.specs.Prelude.{IsTrue}
use Rattle.value_writer.specs.declared.kind.Kind.{Kind}
use Rattle.value_writer.proofs.list.has_name.Goals as goal

pub loop-kind-preserved : goal.loop-kind-preserved
loop-kind-preserved c k d =
    below_more (λ j. (get_or c.args.kinds.now j d).name.now ≢ c.args.name.now) c.loop-kind.kind-index (λ j. c.loop-kind.invariant j d) last k
  where
    last : (get_or c.args.kinds.now c.loop-kind.kind-index d).name.now ≢ c.args.name.now
    last e =
        let named : IsTrue c.is_named.result = c.is_named.ensures.1 (ap (λ (kind : Kind). kind.name.now) (get_or_default c.args.kinds.now c.loop-kind.kind-index _ d (search rules)) ∙ e) in
        search rules
