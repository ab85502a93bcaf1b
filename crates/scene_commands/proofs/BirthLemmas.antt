-- An entity comes to life, gets its id, and is marked.
use Rattle.std.proofs.Common.{◌≡◌, ◌<◌, ◌≤◌, ℕ, false, cond, eqb, Option, Some, refl, ap, sym, ◌∙◌, subst}
use Rattle.std.specs.Prelude.{IsSome, option_and_then}
use Rattle.shred_world.specs.declared.resource_id.ResourceId.{ResourceId}
use Rattle.shred_world.specs.ResourceIds.{same_id}
use Rattle.shred_world.specs.Worlds.{Slots}
use Rattle.specs_entity.specs.Births.{Births, count, living, IsBorn, IsAlive, LivesOn, BringsToLife, Continues, newborn, allocated as allocated_births}
use Rattle.specs_entity.specs.Life.{LifeAt}
use Rattle.specs_markers.specs.Simple.{Noting, Gives, allocated, given_id}
use Rattle.scene_world.specs.Standing.{Kinds, roll_of}
use Rattle.scene_commands.specs.Acts.{seen_of}
use Rattle.scene_commands.specs.Elsewhere.{Notes}
use Rattle.scene_commands.specs.Newborns.{ComesToLife}
use Rattle.scene_commands.specs.Bounds.{Grows}
use Rattle.scene_commands.proofs.BoundLemmas.{grows-by-birth}
use Rattle.scene_commands.proofs.DeathLemmas.{births-read, noting-read}

module _ {V : Type 0} (kinds : Kinds V) (w later : Slots V) where
  -- entities with one more
  pub comes-to-life : (before after : Births) → option_and_then kinds.births (seen_of w kinds.entities_id) ≡ Some before → option_and_then kinds.births (seen_of later kinds.entities_id) ≡ Some after
      → ((other : ResourceId) → same_id other kinds.entities_id ≡ false → seen_of later other ≡ seen_of w other) → (entity : LifeAt) → 0 < entity.generation.number → ¬ (IsBorn before entity) → IsAlive after entity → BringsToLife before entity after → LivesOn before after → Continues before after
      → entity ≡ newborn before → after ≡ allocated_births before
      → ComesToLife kinds entity (seen_of w) (seen_of later)
  comes-to-life before after old new others entity counts unborn alive brings live_on continues next made = record {
    unborn = subst (λ b. ¬ (IsBorn b entity)) (sym was-is) unborn;
    counts = counts;
    alive = subst (λ b. living b entity.id ≡ Some entity.generation) (sym now-is) alive;
    lives = λ at. ap (λ b. living b at) now-is ∙ brings at ∙ ap (λ b. cond (eqb at entity.id) (Some entity.generation) (living b at)) (sym was-is);
    live_on = λ one lived. subst (λ b. living b one.id ≡ Some one.generation) (sym now-is) (live_on one (subst (λ b. living b one.id ≡ Some one.generation) was-is lived));
    births = λ at. subst (λ b. count b at ≤ count (roll_of kinds (seen_of later)).births at) (sym was-is) (subst (λ b. count before at ≤ count b at) (sym now-is) (continues.births at));
    there = subst (λ o. IsSome o) (sym new) refl;
    others = others;
    grows = subst (λ b. Grows b (roll_of kinds (seen_of later)).births 0 1) (sym was-is) (subst (λ b. Grows before b 0 1) (sym now-is)
        (grows-by-birth before after made (subst (λ one. BringsToLife before one after) next brings)));
  }
    where
      was-is : (roll_of kinds (seen_of w)).births ≡ before
      was-is = births-read kinds w before old

      now-is : (roll_of kinds (seen_of later)).births ≡ after
      now-is = births-read kinds later after new

  -- an allocator that gave an id, one that was asked for or the next
  pub notes : (before after : Noting) → option_and_then kinds.noting (seen_of w kinds.allocator_id) ≡ Some before → option_and_then kinds.noting (seen_of later kinds.allocator_id) ≡ Some after
      → ((other : ResourceId) → same_id other kinds.allocator_id ≡ false → seen_of later other ≡ seen_of w other) → (entity : LifeAt) (asked : Option ℕ) (given : ℕ) → Gives before entity asked given after
      → Notes kinds entity asked given (seen_of w) (seen_of later)
  notes before after old new others entity asked given gives = record {
    id = gives.id ∙ ap (λ n. given_id n asked) (sym was-is);
    noting = now-is ∙ gives.allocator ∙ ap (λ n. allocated n entity asked) (sym was-is);
    there = subst (λ o. IsSome o) (sym new) refl;
    others = others;
  }
    where
      was-is : (roll_of kinds (seen_of w)).noting ≡ before
      was-is = noting-read kinds w before old

      now-is : (roll_of kinds (seen_of later)).noting ≡ after
      now-is = noting-read kinds later after new
