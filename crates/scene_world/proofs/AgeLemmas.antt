-- Nothing happens, one thing after another, a death, a birth: so time goes on.
use Rattle.std.proofs.Common.{◌≡◌, ◌≤◌, ◌+◌, ℕ, Bool, true, false, cond, eqb, Option, Some, None, is_some, refl, ap, sym, subst, ◌∙◌, arith}
use Rattle.std.specs.FinSet as set
use Rattle.std.proofs.lemmas.Bool.{false≢true, eqb-true}
use Rattle.specs_entity.specs.Births.{Births, IsAlive, living, living_of, persistent_at, count, number_of}
use Rattle.specs_entity.specs.Life.{Life, LifeAt}
use Rattle.scene_world.specs.Rolls.{Roll}
use Rattle.scene_world.specs.Ages.{WasBornIn, Ages}
use Rattle.scene_world.specs.Changes.{but_at}

-- a life that is had is one of those that were counted
counted : (fresh : Bool) (last : Option Life) (life : Life) → living_of fresh last ≡ Some life → life.number ≤ number_of last + cond fresh 1 0
counted true last life is = let number : number_of last + 1 ≡ life.number = ap number_of is in omega (arith, number)
counted false None life is = cc
counted false (Some one) life is = by one.lives is
  where
    by : (b : Bool) → cond b (Some one) None ≡ Some life → life.number ≤ one.number + 0
    by true same = let number : one.number ≡ life.number = ap number_of same in omega (arith, number)
    by false same = cc

-- who is alive was born
pub alive-born : (births : Births) (entity : LifeAt) → IsAlive births entity → WasBornIn births entity
alive-born births entity alive = counted (set.contains births.fresh entity.id) (persistent_at births entity.id) entity.generation alive

pub ages-none : (roll : Roll) → Ages roll roll
ages-none roll = record {
  births = λ index. omega arith;
  none_back = λ entity born alive. alive;
  ids = λ entity was is. refl;
}

pub ages-both : (first second third : Roll) → Ages first second → Ages second third → Ages first third
ages-both first second third one two = record {
  births = λ index. let before = one.births index in let after = two.births index in omega (arith, before, after);
  none_back = λ entity born alive. one.none_back entity born (two.none_back entity (still entity born) alive);
  ids = λ entity was is.
      let between : IsAlive second.births entity = two.none_back entity (still entity (alive-born first.births entity was)) is in
      two.ids entity between is ∙ one.ids entity was between;
}
  where
    still : (entity : LifeAt) → WasBornIn first.births entity → WasBornIn second.births entity
    still entity born = let more = one.births entity.id in omega (arith, born, more)

-- what a list has at one number, and at another
there : {A : Type 0} (index : ℕ) (here : A) (others : ℕ → A) (at : ℕ) → eqb at index ≡ true → but_at index here others at ≡ here
there index here others at same = ap (λ b. cond b here (others at)) same

away : {A : Type 0} (index : ℕ) (here : A) (others : ℕ → A) (at : ℕ) → eqb at index ≡ false → but_at index here others at ≡ others at
away index here others at apart = ap (λ b. cond b here (others at)) apart

module _ (before after : Roll) (index : ℕ) (births : (at : ℕ) → count before.births at ≤ count after.births at)
    (lives : (at : ℕ) → living after.births at ≡ but_at index None (living before.births) at) (marker : (at : ℕ) → after.marker at ≡ but_at index None before.marker at) where
  elsewhere : (entity : LifeAt) → IsAlive after.births entity → eqb entity.id index ≡ false
  elsewhere entity alive = by (eqb entity.id index) refl
    where
      by : (b : Bool) → eqb entity.id index ≡ b → b ≡ false
      by true same = absurd (false≢true (ap is_some (sym (there index None (living before.births) entity.id same) ∙ sym (lives entity.id) ∙ alive)))
      by false _ = refl

  -- of an entity at an index
  pub ages-by-death : Ages before after
  ages-by-death = record {
    births = births;
    none_back = λ entity born alive. sym (lives entity.id ∙ away index None (living before.births) entity.id (elsewhere entity alive)) ∙ alive;
    ids = λ entity was alive. marker entity.id ∙ away index None before.marker entity.id (elsewhere entity alive);
  }

module _ (before after : Roll) (entity : LifeAt) (given : ℕ) (unborn : ¬ (WasBornIn before.births entity)) (births : (at : ℕ) → count before.births at ≤ count after.births at)
    (lives : (at : ℕ) → living after.births at ≡ but_at entity.id (Some entity.generation) (living before.births) at) (marker : (at : ℕ) → after.marker at ≡ but_at entity.id (Some given) before.marker at) where
  another : (one : LifeAt) → WasBornIn before.births one → IsAlive after.births one → eqb one.id entity.id ≡ false
  another one born alive = by (eqb one.id entity.id) refl
    where
      by : (b : Bool) → eqb one.id entity.id ≡ b → b ≡ false
      by true same =
          let here : Some entity.generation ≡ Some one.generation = sym (there entity.id (Some entity.generation) (living before.births) one.id same) ∙ sym (lives one.id) ∙ alive in
          let life : entity.generation ≡ one.generation = cc in
          let place : one.id ≡ entity.id = eqb-true one.id entity.id same in
          absurd (unborn (subst (λ id. entity.generation.number ≤ count before.births id) place (subst (λ (l : Life). l.number ≤ count before.births one.id) (sym life) born)))
      by false _ = refl

  -- of an entity that was not born before
  pub ages-by-birth : Ages before after
  ages-by-birth = record {
    births = births;
    none_back = λ one born alive. sym (lives one.id ∙ away entity.id (Some entity.generation) (living before.births) one.id (another one born alive)) ∙ alive;
    ids = λ one was alive. marker one.id ∙ away entity.id (Some given) before.marker one.id (another one (alive-born before.births one was) alive);
  }
