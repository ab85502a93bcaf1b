-- What a value is after the storage in it dropped parts, and what is seen of one.
use Rattle.std.proofs.Common.{◌≡◌, ℕ, List, Option, Some, None, Result, OnOk, refl, sym, ap, ◌∙◌, subst}
use Rattle.std.proofs.lemmas.Result.{on_ok_weaker}
use Rattle.std.specs.Option.{option_and_then, option_map}
use Rattle.shred_world.specs.Bundles.{Holding, readable, with_slot, out}
use Rattle.world_cases.specs.Tiring.{health_id, speed_id}
use Rattle.world_cases.specs.Values.{Healths, Speeds, value_drops}
use Rattle.world_cases.specs.declared.values.Value.{Value}
use Rattle.world_cases.specs.declared.values.Value.TheVariants.{EntitiesValue, TableValue, HealthValue, SpeedValue}

module _ {T E : Type 0} (healths : Healths → List ℕ → Healths → Type 0) (speeds : Speeds → List ℕ → Speeds → Type 0) (indices : List ℕ) (value : Value) (r : Result T E) where
  pub drops-health : (was now : Healths) → value ≡ HealthValue was → OnOk r (healths was indices now) → OnOk r (value_drops healths speeds value indices (HealthValue now))
  drops-health was now is = on_ok_weaker r (λ dropped. subst (λ v. value_drops healths speeds v indices (HealthValue now)) (sym is) (now, refl, dropped))

  pub drops-speed : (was now : Speeds) → value ≡ SpeedValue was → OnOk r (speeds was indices now) → OnOk r (value_drops healths speeds value indices (SpeedValue now))
  drops-speed was now is = on_ok_weaker r (λ dropped. subst (λ v. value_drops healths speeds v indices (SpeedValue now)) (sym is) (now, refl, dropped))

-- the speeds in a value
abbrev pub speed_part : Value → Option Speeds
speed_part (EntitiesValue x) = None
speed_part (TableValue x) = None
speed_part (HealthValue x) = None
speed_part (SpeedValue x) = Some x

seen-speeds : (slot : Option Value) (parts : Speeds) → Some parts ≡ option_and_then speed_part slot → slot ≡ Some (SpeedValue parts)
seen-speeds None parts e = cc
seen-speeds (Some (EntitiesValue x)) parts e = cc
seen-speeds (Some (TableValue x)) parts e = cc
seen-speeds (Some (HealthValue x)) parts e = cc
seen-speeds (Some (SpeedValue x)) parts e = ap (option_map SpeedValue) (sym e)

-- speeds that are seen where the healths were taken out are those that were there
pub speeds-are-there : (seen fetched : Holding Value) (parts : Speeds) → fetched ≡ with_slot seen health_id out → Some parts ≡ option_and_then speed_part (readable (fetched speed_id)) → readable (seen speed_id) ≡ Some (SpeedValue parts)
speeds-are-there seen fetched parts taken e = seen-speeds (readable (seen speed_id)) parts (e ∙ ap (λ w. option_and_then speed_part (readable (w speed_id))) taken)
