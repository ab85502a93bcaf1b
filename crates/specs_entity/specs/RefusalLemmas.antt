-- Refusals that say the same are alike.
use Rattle.std.specs.Cmp.{IsEquivalence, on_equiv, and_equiv, int_eq_equiv, nat_eq_equiv}
use Rattle.std.specs.Cmp.Lexicographic.{nat_list_eq_equiv}
use Rattle.specs_entity.specs.Life.{LifeAt, Refusal, id_of, same_life, same_entity, same_refusal}

life-equiv : IsEquivalence same_life
life-equiv = on_equiv id_of int_eq_equiv

entity-equiv : IsEquivalence same_entity
entity-equiv = and_equiv (on_equiv (λ (e : LifeAt). e.id) nat_eq_equiv) (on_equiv (λ (e : LifeAt). e.generation) life-equiv)

pub refusal-equiv : IsEquivalence same_refusal
refusal-equiv =
    and_equiv (on_equiv (λ (r : Refusal). r.action) nat_list_eq_equiv)
    (and_equiv (on_equiv (λ (r : Refusal). r.actual_gen) life-equiv) (on_equiv (λ (r : Refusal). r.entity) entity-equiv))
