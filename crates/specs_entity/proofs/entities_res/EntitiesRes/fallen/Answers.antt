use Rattle.std.proofs.Common.{◌≡◌, ℕ, List, eqb, map, ap, subst, sym, ◌∙◌}
use Rattle.std.specs.Prelude.{IsSome}
use Rattle.std.specs.List.{All, list_any}
use Rattle.std.specs.FinSet as set
use Rattle.hibitset_sets.specs.Walk.{walk}
use Rattle.specs_entity.specs.Births.{CanKill, entity_at, is_named, living}
use Rattle.specs_entity.specs.Closures.{IsClosure, IsLeast}
use Rattle.specs_entity.specs.Holders.{Holds}
use Rattle.specs_entity.proofs.ClosureLemmas.{closure-is, closure-killable, roots-live}
use Rattle.specs_entity.proofs.entities_res.EntitiesRes.fallen.Goals as goal

pub fallen_indices-requires-clause-roots : goal.fallen_indices-requires-clause-roots
fallen_indices-requires-clause-roots c =
    subst (All (λ root. IsSome (living c.args.self.now root))) (sym (c.deref.ensures.value ∙ c.in_ok-root_indices.ensures)) (roots-live c.args.self.now c.args.roots.now c.requires.alive)

pub returns-clause-value : goal.returns-clause-value
returns-clause-value c =
    let births = c.args.self.now in
    let links = c.in_ok-holders.holders.links.items in
    let found = c.in_ok-indices.ensures.least in
    let least : IsLeast (is_named c.args.roots.now) (Holds links) (set.contains found.0) =
    subst (λ (l : List ℕ). IsLeast (λ index. list_any (eqb index) l) (Holds links) (set.contains found.0)) (c.deref.ensures.value ∙ c.in_ok-root_indices.ensures) found.1 in
    let items : c.in_ok-entities.entities.items ≡ map (entity_at births) (walk (set.contains found.0)) =
    c.in_ok-entities.ensures ∙ ap (λ b. map (entity_at b) c.deref-2.result.now) c.fallen_indices.ensures.same ∙ ap (map (entity_at births)) (c.deref-2.ensures.value ∙ found.2) in
    subst (IsClosure births c.args.roots.now c.args.pairs.now) (sym items)
    (closure-is births c.args.roots.now c.args.pairs.now links found.0 c.the_living_are_below_the_limit.ensures c.requires.alive c.in_ok-holders.ensures.paired c.in_ok-holders.ensures.all least)

pub returns-clause-killable : goal.returns-clause-killable
returns-clause-killable c =
    let births = c.args.self.now in
    let links = c.in_ok-holders.holders.links.items in
    let found = c.in_ok-indices.ensures.least in
    let least : IsLeast (is_named c.args.roots.now) (Holds links) (set.contains found.0) =
    subst (λ (l : List ℕ). IsLeast (λ index. list_any (eqb index) l) (Holds links) (set.contains found.0)) (c.deref.ensures.value ∙ c.in_ok-root_indices.ensures) found.1 in
    let items : c.in_ok-entities.entities.items ≡ map (entity_at births) (walk (set.contains found.0)) =
    c.in_ok-entities.ensures ∙ ap (λ b. map (entity_at b) c.deref-2.result.now) c.fallen_indices.ensures.same ∙ ap (map (entity_at births)) (c.deref-2.ensures.value ∙ found.2) in
    subst (CanKill (living births)) (sym items)
    (closure-killable births c.args.roots.now c.args.pairs.now links found.0 c.the_living_are_below_the_limit.ensures c.requires.alive c.in_ok-holders.ensures.paired c.in_ok-holders.ensures.all least)
