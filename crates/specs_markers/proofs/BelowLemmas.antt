-- Ids that are noted lie below the one that comes next.
use Rattle.std.proofs.Common.{◌≡◌, ◌⊎◌, ◌+◌, ◌<◌, ◌≤◌, ℕ, max, Bool, true, false, cond, Option, Some, None, is_some, inl, inr, refl, sym, ap, subst, ◌∙◌, arith}
use Rattle.std.proofs.lemmas.Bool.{false≢true}
use Rattle.std.proofs.lemmas.Bool.Decides.{eqb_tells}
use Rattle.std.proofs.lemmas.Cmp.{nat_cmp_total}
use Rattle.std.specs.FinMap as map
use Rattle.std.specs.Ordering.{eq_by_cmp, nat_cmp}
use Rattle.specs_entity.specs.Life.{LifeAt}
use Rattle.specs_markers.specs.Simple.{Gives, IsBelowNext, Noting, allocated, given_id, none_noted, noted_under}

pub none-below : IsBelowNext none_noted
none-below id entity noted = absurd (false≢true (ap is_some (sym (map.get-empty nat_cmp id) ∙ noted)))

module _ (before : Noting) (entity : LifeAt) (asked : Option ℕ) (below : IsBelowNext before) where
  after-below : (id : ℕ) (other : LifeAt) (same : Bool) → eq_by_cmp nat_cmp id (given_id before asked) ≡ same → cond same (Some entity) (noted_under before id) ≡ Some other → id < max before.next (given_id before asked + 1)
  after-below id other true same noted = let is : id ≡ given_id before asked = grind (arith, same) in omega (arith, is)
  after-below id other false same noted = let low = below id other noted in omega (arith, low)

  pub allocated-below : IsBelowNext (allocated before entity asked)
  allocated-below id other noted =
      after-below id other (eq_by_cmp nat_cmp id (given_id before asked)) refl (sym (map.get-insert nat_cmp_total before.noted (given_id before asked) entity id) ∙ noted)

pub gift-below : (before after : Noting) (entity : LifeAt) (asked : Option ℕ) (marker : ℕ) → Gives before entity asked marker after → IsBelowNext before → IsBelowNext after
gift-below before after entity asked marker gives below = subst IsBelowNext (sym gives.allocator) (allocated-below before entity asked below)

pub gift-new : (before after : Noting) (entity : LifeAt) (marker : ℕ) → Gives before entity None marker after → IsBelowNext before → noted_under before marker ≡ None
gift-new before after entity marker gives below = by (noted_under before marker) refl
  where
    by : (o : Option LifeAt) → noted_under before marker ≡ o → noted_under before marker ≡ None
    by None is = is
    by (Some other) is = let low = below marker other is in let next : marker ≡ before.next = gives.id in absurd (omega (arith, low, next))
