-- When an entity has come to its goal.
use Rattle.std.proofs.Common.{◌≡◌, ◌≤◌, Bool, true, false, not, ltb, ◌&&◌, Option, None, Some, is_some, refl, ap, ◌∙◌, arith}
use Rattle.std.proofs.lemmas.Bool.{false≢true, ltb-true}
use Rattle.colony.specs.Systems.{has_come}
use Rattle.colony.specs.declared.parts.Goal.{Goal}
use Rattle.colony.specs.declared.parts.Position.{Position}

-- what has come to a goal has a position
pub come-there : (position : Option Position) (goal : Option Goal) (lives : Bool) → (has_come position goal && lives) ≡ true → is_some position ≡ true
come-there None goal lives is = absurd (false≢true is)
come-there (Some position) goal lives is = refl

-- a position at a goal has come there, or one beyond
pub come-so-far : (positions : Option Position) (goals : Option Goal) (position : Position) (goal : Goal) → positions ≡ Some position → goals ≡ Some goal → goal.0 ≤ position.0 → has_come positions goals ≡ true
come-so-far positions goals position goal at to over = ap (λ o. has_come o goals) at ∙ ap (has_come (Some position)) to ∙ by (ltb position.0 goal.0) refl
  where
    by : (b : Bool) → ltb position.0 goal.0 ≡ b → not b ≡ true
    by true is = absurd (omega (arith, over, ltb-true position.0 goal.0 is))
    by false is = refl
