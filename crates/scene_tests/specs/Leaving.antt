-- What the turn of `leave` makes of what it is lent of a world.
use Rattle.std.specs.Prelude.{◌≡◌, ℕ, Bool, true, false, List, IsSome, ◌==◌}
use Rattle.std.specs.List.{list_any}
use Rattle.shred_world.specs.Bundles.{Holding, owned, with_slot}
use Rattle.specs_layouts.specs.Parts.{HasNone}
use Rattle.scene_basics.specs.declared.values.Value.{Value}
use Rattle.scene_basics.specs.declared.values.Value.TheVariants.{GlobalValue}
use Rattle.scene_basics.specs.Names.{hp_kind}
use Rattle.scene_basics.specs.Values.{Numbers, whole_at}
use Rattle.scene_basics.specs.Columns.{global_id}
use Rattle.scene_basics.specs.Adding.{ShowsNumbers, WritesNumbers}
use Rattle.scene_tests.specs.Leavers.{set_value}

-- each index that has a number is one of these
abbrev pub AreThose : Numbers → List ℕ → Type 0
AreThose numbers indices = (index : ℕ) → IsSome (whole_at numbers index) → list_any (λ other. index == other) indices ≡ true

-- the numbers of hp were taken and put back without any, and the events show each that is gone
pub record TakesHp (seen left : Holding Value) : Type 0 where
  pub before : Numbers
  pub after : Numbers
  pub writes : WritesNumbers hp_kind before after seen left
  pub none : HasNone (whole_at after)
  pub shown : ShowsNumbers before after

-- they were if they were to go, and else all is as it was
abbrev pub TakesHpIf : Bool → Holding Value → Holding Value → Type 0
TakesHpIf true seen left = TakesHp seen left
TakesHpIf false seen left = left ≡ seen

-- where the global stands is its new value, and all else is as it was
abbrev pub SetsGlobal : Holding Value → Holding Value → Type 0
SetsGlobal seen left = left ≡ with_slot seen global_id (owned (GlobalValue set_value))

-- hp goes if it is to, and then the global is set
pub record TakesAndSets (hp_goes : Bool) (seen left : Holding Value) : Type 0 where
  pub between : Holding Value
  pub takes : TakesHpIf hp_goes seen between
  pub sets : SetsGlobal between left
