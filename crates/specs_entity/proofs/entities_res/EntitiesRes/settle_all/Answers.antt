use Rattle.std.proofs.Common.{◌≡◌, ◌∷◌, ap, sym, subst, ◌∙◌}
use Rattle.std.specs.FinSet as fin
use Rattle.hibitset_sets.specs.Walk.{walk}
use Rattle.specs_entity.specs.Births.{Births, all_settled}
use Rattle.specs_entity.specs.Emptied.{still_in}
use Rattle.specs_entity.proofs.LawLemmas.{continues-through}
use Rattle.specs_entity.proofs.entities_res.EntitiesRes.settle_all.Goals as goal

pub loop-id-preserved : goal.loop-id-preserved
loop-id-preserved c =
    let id = c.in-Some.id in
    let first = subst (λ (b : Births). walk (fin.contains b.fresh) ≡ id ∷ walk (fin.contains (fin.remove b.fresh id))) c.self-in-loop-id.view_is c.in-Some.ensures.came in
    record {
      value =
          ap (λ (b : Births). all_settled b (walk (fin.contains b.fresh))) c.settle.ensures.value
          ∙ (sym (ap (all_settled c.loop-id.self) first) ∙ c.loop-id.invariant.value);
      left = subst (λ s. still_in s c.first_of.new.self ≡ walk (fin.contains s)) (ap (λ (b : Births). fin.remove b.fresh id) c.self-in-loop-id.view_is ∙ sym (ap (λ (b : Births). b.fresh) c.settle.ensures.value)) c.in-Some.ensures.left;
      lives = λ index. c.settle.ensures.lives index ∙ c.loop-id.invariant.lives index;
      goes = continues-through _ _ _ c.loop-id.invariant.goes c.settle.ensures.continues;
    }
