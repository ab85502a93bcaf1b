-- Which births and lives each step keeps.
use Rattle.std.proofs.Common.{◌≡◌, ◌≢◌, ℕ, ◌≤◌, true, None, inl, inr, refl, sym, ap, ◌∙◌, subst, arith}
use Rattle.std.specs.FinSet as fin
use Rattle.std.proofs.lemmas.Bool.{cases_eq}
use Rattle.std.proofs.lemmas.Option.{none-some}
use Rattle.specs_entity.specs.Life.{LifeAt}
use Rattle.specs_entity.specs.Births.{Births, IsDead, Continues, living, count, deleted, buried, settled}
use Rattle.specs_entity.specs.Layout.{AreBirths}
use Rattle.specs_entity.proofs.BirthLemmas.{living-buried, living-buried_other, count-buried, count-buried_other, used-living, living-settled, count-settled}

pub dead-stays : (entity : LifeAt) (before after : Births) → Continues before after → IsDead before entity → IsDead after entity
dead-stays entity before after goes dead =
    let more = goes.births entity.id in
    let number = dead.0.2 in
    ((dead.0.0, dead.0.1, omega arith), λ alive. elim (goes.lives entity.id entity.generation alive) [ inl lived ↦ dead.1 lived | inr since ↦ absurd (omega arith) ])

pub continues-through : (one two three : Births) → Continues one two → Continues two three → Continues one three
continues-through one two three first second =
    record {
      births = λ index. let a = first.births index in let b = second.births index in omega arith;
      lives = λ index life is. elim (second.lives index life is) [
        | inl lived ↦ first.lives index life lived
        | inr since ↦ inr (let a = first.births index in omega arith)
      ];
    }

same-continues : (before after : Births) → ((index : ℕ) → living after index ≡ living before index) → ((index : ℕ) → count after index ≡ count before index) → Continues before after
same-continues before after lives counts =
    record { births = λ index. let c = counts index in omega arith; lives = λ index life is. inl (sym (lives index) ∙ is) }

pub delete-continues : (births : Births) (index : ℕ) → Continues births (deleted births index)
delete-continues births index = same-continues births (deleted births index) (λ q. refl) (λ q. refl)

pub settle-continues : (births : Births) (index : ℕ) → AreBirths births → fin.contains births.fresh index ≡ true → Continues births (settled births index)
settle-continues births index kept is = same-continues births (settled births index) (living-settled births index kept is) (count-settled births index kept is)

pub bury-continues : (births : Births) (index : ℕ) → AreBirths births → living births index ≢ None → Continues births (buried births index)
bury-continues births index kept lives =
    record {
      births = λ other. elim (cases_eq other index) [
        | inl e ↦ let c = count-buried births index (used-living births kept index lives) in subst (λ q. count births q ≤ count (buried births index) q) (sym e) (omega arith)
        | inr ne ↦ let c = count-buried_other births index other ne in omega arith
      ];
      lives = λ other life is. elim (cases_eq other index) [
        | inl e ↦ absurd (none-some life (sym (ap (living (buried births index)) e ∙ living-buried births index) ∙ is))
        | inr ne ↦ inl (sym (living-buried_other births index other ne) ∙ is)
      ];
    }
