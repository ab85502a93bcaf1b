use Rattle.std.proofs.Common.{false, subst, [], ◌∷◌, ◌++◌}
use Rattle.std.specs.Iterator.{Yields}
use Rattle.std.proofs.iter.Next.{Yields-more}
use Rattle.std.proofs.lemmas.List.Elements.{All-push}
use Rattle.shred_world.specs.Sharing.{TellsByClone}
use Rattle.shred_world.proofs.intersection.check_intersection.Goals as goal

pub returns-in-Ok-true-clause-exact : goal.returns-in-Ok-true-clause-exact
returns-in-Ok-true-clause-exact g c = (
  c.loop-item.yielded,
  c.in-Some.item,
  c.next.new.self,
  subst (λ from. Yields g.I.Iterator.next_gives from (c.loop-item.yielded ++ c.in-Some.item ∷ []) c.next.new.self) c.into_iter-item-iterator.ensures.into_iter_gives
      (Yields-more g.I.Iterator.next_gives _ c.loop-item.yielded c.loop-item.item-iterator c.in-Some.item c.next.new.self c.loop-item.yielded_by c.in-Some.ensures.steps),
  subst (λ found. TellsByClone g.T.PartialEq.eq g.J.Iterator.next_gives g.J.Clone.is_clone c.args.right found c.in-Some.item.now) c.in-Ok-true.field-0-test c.in-Ok-true.ensures,
)

pub loop-item-preserved : goal.loop-item-preserved
loop-item-preserved g c =
    All-push (λ item. TellsByClone g.T.PartialEq.eq g.J.Iterator.next_gives g.J.Clone.is_clone c.args.right false item.now) c.loop-item.yielded c.in-Some.item c.loop-item.invariant
    (subst (λ found. TellsByClone g.T.PartialEq.eq g.J.Iterator.next_gives g.J.Clone.is_clone c.args.right found c.in-Some.item.now) c.in-Ok-false.field-0-test c.in-Ok-false.ensures)
