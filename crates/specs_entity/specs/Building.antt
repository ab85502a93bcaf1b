-- What the entities end as where one of them is built.
use Rattle.std.specs.Prelude.{◌≡◌, Result}
use Rattle.std.specs.Borrow.{Fml, MutBor, RestsIfErr}
use Rattle.specs_entity.specs.Births.{Births}
use Rattle.specs_entity.specs.declared.builder.EntityResBuilder.{EntityResBuilder}
use Rattle.specs_entity.specs.contracts.entities_res.EntitiesRes.{the_row}

-- where no entity is built, the entities are as they were
abbrev pub rests_if_refused : MutBor Births → {E : Type 0} → Result EntityResBuilder E → Fml
rests_if_refused m r = RestsIfErr the_row m (λ builder. builder.entities.ghost_name) r (λ after. after ≡ m.now)
