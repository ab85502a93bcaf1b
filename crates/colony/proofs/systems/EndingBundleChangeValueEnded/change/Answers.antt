use Rattle.std.proofs.Common.{refl, ap, sym, ◌∙◌, subst}
use Rattle.specs.specs.ForStorages.{SetWithRoom, has_member, left_of, walk}
use Rattle.colony.specs.Systems.{goal_at, has_come, position_at}
use Rattle.specs.proofs.CallerLemmas.{Accepting, accepting-end, accepting-next, accepting-start, deletion-asked}
use Rattle.colony.proofs.SystemsLemmas.{come-so-far, come-there}
use Rattle.colony.proofs.systems.EndingBundleChangeValueEnded.change.Goals as goal

pub loop-id-init : goal.loop-id-init
loop-id-init g c =
    subst (Accepting (λ index. has_come (position_at c.get-places.result.now index) (goal_at c.get-goals.result.now index)) c.args.bundle.now.0.value c.args.bundle.now.0.value)
    (sym (ap (left_of (λ s. has_member s.now)) c.into_iter-id-iterator.ensures.into_iter_gives ∙ (c.iter-id-items.ensures.items ∙ ap (λ (m : SetWithRoom). walk (has_member m)) c.mask.ensures.value)))
    (accepting-start _ c.args.bundle.now.0.value (has_member c.get-places.result.now.mask) (λ index is. c.mask.ensures.agrees index ∙ come-there _ _ _ is) c.mask.ensures.range)

pub returns-clause-becomes : goal.returns-clause-becomes
returns-clause-becomes g c =
    (refl, record { positions = c.get-places.result.now; goals = c.get-goals.result.now; read_positions = sym c.get-places.ensures; read_goals = sym c.get-goals.ensures; same = c.loop-id.invariant.same; accepted = accepting-end _ _ _ _ c.in-None.ensures.steps.0 c.loop-id.invariant })

pub loop-id-preserved-then-get : goal.loop-id-preserved-then-get
loop-id-preserved-then-get g c = accepting-next _ _ c.loop-id.bundle.0.value _ c.in-Some.id _ _ c.in-Some.ensures.steps c.loop-id.invariant
    (deletion-asked c.loop-id.bundle.0.value c.delete.new.self c.in-Some.id c.entity.result c.entity.ensures c.delete.result c.delete.ensures.ok c.delete.ensures.succeeds c.delete.ensures.err
    (has_come (position_at c.get-places.result.now c.in-Some.id) (goal_at c.get-goals.result.now c.in-Some.id))
    (come-so-far _ _ c.get.result.now c.get-then-contains-2.result.now c.get.ensures c.get-then-contains-2.ensures c.if-get.true))
