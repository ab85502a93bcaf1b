-- What a builder of a scene's systems holds, as one more is added.
use Rattle.std.proofs.Common.{◌≡◌, ℕ, List, [], ◌∷◌, ◌++◌, Bool, length, map, Option, Some, None, inl, inr, ap, sym, ◌∙◌, subst}
use Rattle.std.specs.Prelude.{nat_lt, is_some, slice_get, if◌then◌else◌}
use Rattle.std.specs.Option.{MatchOption}
use Rattle.std.proofs.lemmas.List.{map-append, length-map}
use Rattle.shred_world.specs.declared.resource_id.ResourceId.{ResourceId}
use Rattle.shred_plan.specs.Plan.{Placing, added, placing}
use Rattle.shred.specs.declared.work.Work.{Work}
use Rattle.shred.specs.declared.work.Work.TheVariants.{System}
use Rattle.shred.specs.declared.error.AddError.{AddError}
use Rattle.shred.specs.declared.error.AddError.TheVariants.{NoSuchSystem, NameTaken, SystemsFull}
use Rattle.shred.specs.Names.{number_under, numbers_under, lacks_one, with_name}
use Rattle.shred.specs.Building.{Building, Declared, refusal, Refuses, staged_with, built_with}
use Rattle.shred_stages.specs.Staging.{Staging}
use Rattle.scene_model.specs.Scenes.{PlainSystem}
use Rattle.scene_world.specs.Standing.{Kinds}
use Rattle.scene_world.specs.Lent.{StandApart, AreKnown, IsLent}
use Rattle.scene_world.proofs.CallerLemmas.{lent-ids}
use Rattle.scene_dispatch.specs.Works.{systems_in, HasNoBatch, building_in}
use Rattle.scene_dispatch.specs.Orders.{positions_of}
use Rattle.scene_dispatch.specs.Lent.{IsLentThere, PlanIsThere, reads_of, writes_of, EachIsLent}
use Rattle.scene_dispatch.specs.Held.{AreHeld}
use Rattle.scene_dispatch.specs.Building.{RefusesOrWants}
use Rattle.scene_dispatch.proofs.PlaceLemmas.{get-seam}
use Rattle.scene_dispatch.proofs.WorkLemmas.{length-systems, more-systems}
use Rattle.scene_dispatch.proofs.PlacingLemmas.{plan-more, plan-added}

-- what stands against a name is told of the systems as of the works
pub same-refusal : {P B : Type 0} (building : Building (Work P B)) (name : List ℕ) (after : List (List ℕ)) → HasNoBatch building.staging.systems → refusal (building_in building) name after ≡ refusal building name after
same-refusal building name after none =
    ap (λ k. if lacks_one building.names after then Some NoSuchSystem else (if is_some (number_under building.names name) then Some NameTaken else (if nat_lt k 65536 then None else Some SystemsFull)))
    (length-systems building.staging.systems none)

-- an error that tells why tells so
pub refuses-or-wants : (why : Option AddError) (error : AddError) → Refuses why error → RefusesOrWants why error
refuses-or-wants None error is = inl is
refuses-or-wants (Some reason) error is = inr (ap Some (sym is))

-- a builder of works with one more system is one of systems with it
pub built-systems : {P B : Type 0} (same : ResourceId → ResourceId → Bool) (building : Building (Work P B)) (system : P) (declared : Declared) (name : List ℕ) (after : List (List ℕ)) → HasNoBatch building.staging.systems
    → building_in (built_with same building (System system) declared name after) ≡ built_with same (building_in building) system declared name after
built-systems {P} same building system declared name after none =
    ap (built (length building.staging.systems)) (more-systems building.staging.systems system none).1
    ∙ ap (λ k. built k (systems_in building.staging.systems ++ system ∷ [])) (sym (length-systems building.staging.systems none))
  where
    built : ℕ → List P → Building P
    built count systems = record {
      staging = record {
        planning = added same building.staging.planning (placing (record { number = count; reads = declared.reads; writes = declared.writes; after = numbers_under building.names after; time = declared.time }));
        systems = systems;
      };
      names = with_name building.names name count;
    }

-- each of a list is lent what it declares, and one more
pub lent-more : {V : Type 0} (kinds : Kinds V) (systems : List PlainSystem) (system : PlainSystem) → EachIsLent kinds systems → IsLent kinds system.access system.position (reads_of kinds system) (writes_of kinds system)
    → EachIsLent kinds (systems ++ system ∷ [])
lent-more kinds [] system lent one = (one, tt)
lent-more kinds (first ∷ systems) system lent one = (lent.0, lent-more kinds systems system lent.1 one)

-- the positions of a list and one more
positions-more : (systems : List PlainSystem) (system : PlainSystem) → positions_of (systems ++ system ∷ []) ≡ positions_of systems ++ system.position ∷ []
positions-more systems system = map-append (λ (s : PlainSystem). s.position) systems (system ∷ [])

module _ {V P B : Type 0} (kinds : Kinds V) (apart : StandApart kinds) (plain : P → PlainSystem) (staged : Staging (Work P B)) (locals : List P) (positions local_positions : List ℕ) (held : AreHeld kinds plain staged locals positions local_positions)
    (system : P) (known : AreKnown kinds (plain system).access) where
  -- one more staged system is held
  pub held-added : (same : ResourceId → ResourceId → Bool) (time : ℕ) (numbers : List ℕ)
      → AreHeld kinds plain (staged_with same staged (System system) (record { reads = reads_of kinds (plain system); writes = writes_of kinds (plain system); time = time }) numbers) locals (positions ++ (plain system).position ∷ []) local_positions
  held-added same time numbers = record {
    no_batch = more.0;
    lent = subst (λ l. PlanIsThere kinds l (added same staged.planning (placing one)).stages) (sym plains)
        (plan-added kinds (map plain (systems_in staged.systems) ++ plain system ∷ []) one lent_one same staged.planning (plan-more kinds (map plain (systems_in staged.systems)) (plain system ∷ []) staged.planning.stages held.lent));
    local_lent = held.local_lent;
    positions = ap (λ l. l ++ (plain system).position ∷ []) held.positions ∙ sym (positions-more (map plain (systems_in staged.systems)) (plain system)) ∙ ap positions_of (sym plains);
    local_positions = held.local_positions;
  }
    where
      more : HasNoBatch (staged.systems ++ System system ∷ []) × (systems_in (staged.systems ++ System system ∷ []) ≡ systems_in staged.systems ++ system ∷ [])
      more = more-systems staged.systems system held.no_batch

      plains : map plain (systems_in (staged.systems ++ System system ∷ [])) ≡ map plain (systems_in staged.systems) ++ plain system ∷ []
      plains = ap (map plain) more.1 ∙ map-append plain (systems_in staged.systems) (system ∷ [])

      one : Placing ResourceId
      one = record { number = length staged.systems; reads = reads_of kinds (plain system); writes = writes_of kinds (plain system); after = numbers; time = time }

      counted : length staged.systems ≡ length (map plain (systems_in staged.systems))
      counted = sym (length-map (systems_in staged.systems) plain ∙ length-systems staged.systems held.no_batch)

      lent_one : IsLentThere kinds (map plain (systems_in staged.systems) ++ plain system ∷ []) one
      lent_one = subst (λ o. MatchOption o ⊥ (λ s. IsLent kinds s.access s.position (reads_of kinds (plain system)) (writes_of kinds (plain system))))
          (sym (ap (slice_get (map plain (systems_in staged.systems) ++ plain system ∷ [])) counted ∙ get-seam (map plain (systems_in staged.systems)) [] (plain system)))
          (lent-ids kinds apart (plain system).access (plain system).position known)

  -- one more local system is held
  pub held-local : AreHeld kinds plain staged (locals ++ system ∷ []) positions (local_positions ++ (plain system).position ∷ [])
  held-local = record {
    no_batch = held.no_batch;
    lent = held.lent;
    local_lent = subst (EachIsLent kinds) (sym plains) (lent-more kinds (map plain locals) (plain system) held.local_lent (lent-ids kinds apart (plain system).access (plain system).position known));
    positions = held.positions;
    local_positions = ap (λ l. l ++ (plain system).position ∷ []) held.local_positions ∙ sym (positions-more (map plain locals) (plain system)) ∙ ap positions_of (sym plains);
  }
    where
      plains : map plain (locals ++ system ∷ []) ≡ map plain locals ++ plain system ∷ []
      plains = map-append plain locals (system ∷ [])
