-- What contracts see of a generation: which birth of its index it counts, and whether it is alive.
use Rattle.std.specs.Prelude.{◌≡◌, ℕ, zero, suc, ℤ, pos, negsuc, Bool, true, false, ◌&&◌, nat_eq, refl, List}
use Rattle.std.specs.Ordering.{int_eq}
use Rattle.std.specs.Cmp.Lexicographic.{pointwise}
use Rattle.std.specs.Coded.{Coded, code_by, coded×, coded_ℕ, coded_bool}

-- the number of a birth among those of its index, counted from 1, and whether it is alive
pub record Life : Type 0 where
  pub number : ℕ
  pub lives : Bool

-- an index, and a life that an entity has there
pub record LifeAt : Type 0 where
  pub id : ℕ
  pub generation : Life

-- a refusal: what was tried, the generation that the index has, and the entity that was named
pub record Refusal : Type 0 where
  pub action : List ℕ
  pub actual_gen : Life
  pub entity : LifeAt

-- it is stored as the pair of its fields
abbrev pub life_code : Coded Life
life_code =
    code_by (ℕ × Bool) (coded× coded_ℕ coded_bool) (λ l. (l.number, l.lives)) (λ p. record { number = p.0; lives = p.1 }) (λ _. refl)

-- the signed number of a life: negative where it is dead
abbrev pub signed : ℕ → Bool → ℤ
signed number true = pos number
signed zero false = pos 0
signed (suc before) false = negsuc before

abbrev pub id_of : Life → ℤ
id_of life = signed life.number life.lives

-- the life of a signed number that isn't zero
abbrev pub life_of : ℤ → Life
life_of (pos number) = record { number = number; lives = true }
life_of (negsuc before) = record { number = suc before; lives = false }

pub id-life : (id : ℤ) → id_of (life_of id) ≡ id
id-life (pos number) = refl
id-life (negsuc before) = refl

-- two lives have one number and are both alive or both dead
abbrev pub same_life : Life → Life → Bool
same_life one other = int_eq (id_of one) (id_of other)

-- two entities have one index and one generation
abbrev pub same_entity : LifeAt → LifeAt → Bool
same_entity one other = nat_eq one.id other.id && same_life one.generation other.generation

-- two refusals have one action, one generation and one entity
abbrev pub same_refusal : Refusal → Refusal → Bool
same_refusal one other = pointwise nat_eq one.action other.action && (same_life one.actual_gen other.actual_gen && same_entity one.entity other.entity)

-- the first life of an index
abbrev pub first_life : Life
first_life = record { number = 1; lives = true }
