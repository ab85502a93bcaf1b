-- What a system sees of the fragment that it is lent, as tools/values writes it from values.list.
use Rattle.std.proofs.Common.{◌≡◌, true, ℕ, Some, None, refl}
use Rattle.std.specs.Prelude.{option_and_then}
use Rattle.shred_world.specs.Bundles.{Holding, readable}
use Rattle.shred_world.specs.ResourceIds.{id_of}
use Rattle.specs_entity.specs.Life.{LifeAt}
use Rattle.scene_model.specs.Rulebook.{Fragment, declares}
use Rattle.scene_world.specs.Numbers.{number_of, reference_of, AreNumbers, AreReferences}
use Rattle.scene_world.specs.Rolls.{index_of}
use Rattle.scene_world.specs.Standing.{column_of, fragment_of, seen_in}
use Rattle.scene_world.specs.Turns.{IsLentFit}
use Rattle.scene_world.proofs.CallerLemmas.{plain-numbers, plain-references, number-seen, no-reference, reference-seen, Reaches}
use Rattle.duel.specs.declared.data.Attack.{Attack}
use Rattle.duel.specs.declared.data.Hp.{Hp}
use Rattle.duel.specs.declared.data.Target.{Target}
use Rattle.duel.specs.declared.documents.DuelSystem.{DuelSystem}
use Rattle.duel.specs.declared.values.Value.{Value}
use Rattle.duel.specs.Names.{attack_kind, hp_kind, target_kind}
use Rattle.duel.specs.Documents.{access_of, meant}
use Rattle.duel.specs.Values.{attack_in, hp_in, target_in, kinds}
use Rattle.duel.specs.Sights.{roll_seen, attack_at, hp_at, target_at}

-- what a system sees of what is held
abbrev pub seen_by : DuelSystem → Holding Value → Fragment
seen_by system w = fragment_of kinds (access_of system) w

-- the parts of a kind are numbers, and so is what is seen of an id under it
pub attack-numbers : (w : Holding Value) → AreNumbers (column_of kinds (seen_in w) attack_kind)
attack-numbers w = plain-numbers attack_in (λ (part : Attack). part.0) (readable (w (id_of 4 0)))

pub attack-seen : (w : Holding Value) (system : DuelSystem) → declares (access_of system) attack_kind ≡ true → (id : ℕ)
    → number_of (seen_by system w) attack_kind id ≡ option_and_then (attack_at w) (index_of (roll_seen w) id)
attack-seen w system declared = number-seen kinds (access_of system) w attack_kind refl declared (attack-numbers w)

-- the parts of a kind are numbers, and so is what is seen of an id under it
pub hp-numbers : (w : Holding Value) → AreNumbers (column_of kinds (seen_in w) hp_kind)
hp-numbers w = plain-numbers hp_in (λ (part : Hp). part.0) (readable (w (id_of 5 0)))

pub hp-seen : (w : Holding Value) (system : DuelSystem) → declares (access_of system) hp_kind ≡ true → (id : ℕ)
    → number_of (seen_by system w) hp_kind id ≡ option_and_then (hp_at w) (index_of (roll_seen w) id)
hp-seen w system declared = number-seen kinds (access_of system) w hp_kind refl declared (hp-numbers w)

-- the parts of a kind are references, and so is what is seen of an id under it
pub target-references : (w : Holding Value) → AreReferences (column_of kinds (seen_in w) target_kind)
target-references w = plain-references target_in (λ (part : Target). part.0) (readable (w (id_of 6 0)))

pub no-target : (w : Holding Value) (system : DuelSystem) → declares (access_of system) target_kind ≡ true → (id : ℕ)
    → option_and_then (target_at w) (index_of (roll_seen w) id) ≡ None → reference_of (seen_by system w) target_kind id ≡ None
no-target w system declared = no-reference kinds (access_of system) w target_kind refl declared (target-references w)

pub target-seen : (w : Holding Value) (system : DuelSystem) → declares (access_of system) target_kind ≡ true → IsLentFit kinds meant system w → (id index : ℕ) (entity : LifeAt)
    → index_of (roll_seen w) id ≡ Some index → target_at w index ≡ Some entity
    → (to : Reaches (roll_seen w) entity) × (reference_of (seen_by system w) target_kind id ≡ Some to.id)
target-seen w system declared lent = reference-seen kinds (access_of system) w target_kind refl declared (target-references w) lent.roll lent.fit.living
