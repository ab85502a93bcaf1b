use Rattle.std.proofs.Common.{◌≡◌, false, sym, subst, [], ◌∷◌, ◌++◌}
use Rattle.std.specs.Iterator.{Yields}
use Rattle.std.proofs.iter.Next.{Yields-more}
use Rattle.std.proofs.lemmas.List.Elements.{All-nil, All-push}
use Rattle.shred_world.proofs.intersection.is_given.Goals as goal

pub loop-other-init : goal.loop-other-init
loop-other-init g c = All-nil (λ other. g.T.PartialEq.eq c.args.item.now other.now ≡ false)

pub returns-then-eq : goal.returns-then-eq
returns-then-eq g c = (
  c.loop-other.yielded,
  c.in-Some.other,
  c.next.new.self,
  subst (λ from. Yields g.J.Iterator.next_gives from (c.loop-other.yielded ++ c.in-Some.other ∷ []) c.next.new.self) c.into_iter-other-iterator.ensures.into_iter_gives
      (Yields-more g.J.Iterator.next_gives _ c.loop-other.yielded c.loop-other.other-iterator c.in-Some.other c.next.new.self c.loop-other.yielded_by c.in-Some.ensures.steps),
  sym c.if-eq.ensures,
)

pub loop-other-preserved : goal.loop-other-preserved
loop-other-preserved g c =
    All-push (λ other. g.T.PartialEq.eq c.args.item.now other.now ≡ false) c.loop-other.yielded c.in-Some.other c.loop-other.invariant (sym c.if-eq.ensures)

pub returns : goal.returns
returns g c = (
  c.loop-other.yielded,
  (
    c.next.new.self,
    (
      c.loop-other.other-iterator,
      subst (λ from. Yields g.J.Iterator.next_gives from c.loop-other.yielded c.loop-other.other-iterator) c.into_iter-other-iterator.ensures.into_iter_gives c.loop-other.yielded_by,
      c.in-None.ensures.steps,
    ),
  ),
  c.loop-other.invariant,
)
