use Rattle.std.proofs.Common.{◌≡◌, false, subst, sym, ◌∙◌}
use Rattle.std.specs.FinSet as fin
use Rattle.hibitset_sets.specs.Walk.{walk, is_pending}
use Rattle.std.specs.Prelude.{IfSome}
use Rattle.specs_entity.proofs.DeathLemmas.{emptied-first}
use Rattle.specs_entity.proofs.emptying.Emptying.search.Goals as goal

pub returns : goal.returns
returns c =
    let members = fin.contains c.args.indices.now.members in
    let next = c.next_counted-next.result in
    let made = c.new-walk.ensures.set in
    let after = c.next_counted-next.ensures.set ∙ made in
    let masks = c.into_parts.ensures.masks in
    let prefix = c.into_parts.ensures.prefix in
    emptied-first c.args.indices.now.members next _ _ _
    (c.new-walk.ensures.items ∙ c.requires)
    (λ j. walk (is_pending (fin.contains (after j).now.members) (sym masks j) (sym prefix j)))
    c.next_counted-next.ensures.item
    (subst (λ m. IfSome next (λ i. is_pending members m c.into_parts.result.2 i ≡ false)) (sym masks)
    (subst (λ p. IfSome next (λ i. is_pending members c.next_counted-next.new.self.masks p i ≡ false)) (sym prefix)
    (subst (λ s. IfSome next (λ i. is_pending (fin.contains s.now.members) c.next_counted-next.new.self.masks c.next_counted-next.new.self.prefix i ≡ false)) made
    c.next_counted-next.ensures.gone)))
