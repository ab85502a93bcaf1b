-- Entities that die one after another, as a kill takes them.
use Rattle.std.proofs.Common.{◌≡◌, ℕ, true, false, eqb, List, [], ◌∷◌, ◌++◌, inl, inr, refl, ap, sym, ◌∙◌}
use Rattle.std.proofs.lemmas.Bool.{false≢true, or_cases, or_left}
use Rattle.shred_world.specs.Worlds.{Slots}
use Rattle.scene_model.specs.Scenes.{PlainScene, lives}
use Rattle.scene_model.specs.Deaths.{IsLeast, holds_on, without, without_each}
use Rattle.scene_model.specs.Commands.{changed}
use Rattle.scene_model.proofs.CallerLemmas.{lives-behind, each-killed}
use Rattle.scene_world.specs.Standing.{Kinds, owning_in, plain_of}
use Rattle.scene_world.specs.Lent.{StandApart}
use Rattle.scene_commands.specs.Acts.{seen_of, MayAct}
use Rattle.scene_commands.specs.Owning.{KeepsEntities, HaveDied, IsKilled}
use Rattle.scene_commands.proofs.GoingLemmas.{goes-nowhere, goes-both}
use Rattle.scene_commands.proofs.KeepLemmas.{scene-kept, goes-kept, elsewhere-kept}

-- one more dies behind others
each-more : (ids : List ℕ) (id : ℕ) (scene : PlainScene) → without_each (ids ++ id ∷ []) scene ≡ without (λ one. eqb one id) (without_each ids scene)
each-more [] id scene = refl
each-more (first ∷ ids) id scene = each-more ids id (without (λ one. eqb one first) scene)

module _ {V : Type 0} (kinds : Kinds V) where
  -- nobody has died yet
  pub died-none : (w : Slots V) → MayAct kinds w → HaveDied kinds [] w w
  died-none w may = record {
    scene = refl;
    forgotten = λ id is_in. absurd (false≢true is_in);
    unnoted = λ id none. none;
    may = may;
    elsewhere = λ id e m a p. refl;
    goes_on = goes-nowhere kinds w;
  }

  -- one more has died
  pub died-more : (ids : List ℕ) (id : ℕ) (w mid later : Slots V) → HaveDied kinds ids w mid → HaveDied kinds (id ∷ []) mid later → HaveDied kinds (ids ++ id ∷ []) w later
  died-more ids id w mid later first then = record {
    scene = then.scene ∙ ap (without (λ one. eqb one id)) first.scene ∙ sym (each-more ids id (plain_of kinds (seen_of w)));
    forgotten = λ one is_in. elim (or_cases (lives one ids) (eqb id one) (sym (lives-behind one id ids) ∙ is_in)) [
      | inl before ↦ then.unnoted one (first.forgotten one before)
      | inr here ↦ then.forgotten one (or_left (eqb id one) false here)
    ];
    unnoted = λ one none. then.unnoted one (first.unnoted one none);
    may = then.may;
    elsewhere = λ place e m a p. then.elsewhere place e m a p ∙ first.elsewhere place e m a p;
    goes_on = goes-both kinds w mid later first.goes_on then.goes_on;
  }

  -- the least set has died, and so the id was killed
  module _ (apart : StandApart kinds) (w later : Slots V) (id : ℕ) (ids : List ℕ) (least : IsLeast id (holds_on (owning_in kinds) (plain_of kinds (seen_of w))) (λ one. lives one ids))
      (alive : lives id (plain_of kinds (seen_of w)).ids ≡ true) where
    pub killed-at-once : HaveDied kinds ids w later → IsKilled kinds id w later
    killed-at-once died = record {
      acts = each-killed (owning_in kinds) (plain_of kinds (seen_of w)) id ids least alive ∙ ap changed (sym died.scene);
      forgotten = died.forgotten id least.closed.first;
      may = died.may;
      elsewhere = died.elsewhere;
      goes_on = died.goes_on;
    }

    -- the same, where the entities were taken out and put back before
    pub killed-then : (mid : Slots V) → KeepsEntities kinds (seen_of w) (seen_of mid) → HaveDied kinds ids mid later → IsKilled kinds id w later
    killed-then mid keeps died = record {
      acts = each-killed (owning_in kinds) (plain_of kinds (seen_of w)) id ids least alive ∙ ap changed (sym (died.scene ∙ ap (without_each ids) (scene-kept kinds apart w mid keeps)));
      forgotten = died.forgotten id least.closed.first;
      may = died.may;
      elsewhere = λ place e m a p. died.elsewhere place e m a p ∙ elsewhere-kept kinds apart w mid keeps place e m a p;
      goes_on = goes-both kinds w mid later (goes-kept kinds apart w mid keeps) died.goes_on;
    }
