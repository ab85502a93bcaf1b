-- An entity whose parts, marker, note and life were taken, one after the other, was killed.
use Rattle.std.proofs.Common.{◌≡◌, ◌<◌, ◌≤◌, ℕ, Bool, true, false, cond, eqb, not, [], ◌∷◌, inl, inr, Option, Some, None, filter, is_some, refl, ap, sym, ◌∙◌, subst, arith, All}
use Rattle.std.specs.Prelude.{IsSome, option_and_then}
use Rattle.std.specs.Option.{unwrap_or}
use Rattle.std.proofs.lemmas.Bool.{false≢true, eqb-true, eq-eqb, or_cases}
use Rattle.std.proofs.lemmas.List.Elements.{All-filter, All-weaker}
use Rattle.shred_world.specs.Worlds.{Slots}
use Rattle.specs_entity.specs.Births.{count, living, none_born}
use Rattle.specs_entity.specs.Life.{LifeAt}
use Rattle.specs_markers.specs.Simple.{noted_under}
use Rattle.scene_model.specs.Parts.{Name, is_among}
use Rattle.scene_model.specs.Rulebook.{kill}
use Rattle.scene_model.specs.Scenes.{lives}
use Rattle.scene_model.specs.Deaths.{dies_with, without}
use Rattle.scene_model.specs.Commands.{apply, changed, skipped}
use Rattle.scene_world.specs.Stored.{Stored}
use Rattle.scene_world.specs.Rolls.{id_at, ids_in}
use Rattle.scene_world.specs.Standing.{Kinds, roll_of, column_of, column_in, owning_in, plain_of}
use Rattle.scene_world.specs.Lent.{StandApart, entities, markers, allocator, parts, value}
use Rattle.scene_world.specs.Changes.{but_at, Buries}
use Rattle.scene_world.proofs.CallerLemmas.{buried-roll, buried-scene, buried-within}
use Rattle.scene_commands.specs.Acts.{seen_of, entity_under, WasBorn, MayAct}
use Rattle.scene_commands.specs.Deaths.{DropsParts, Unmarks, Forgets, LetsDie}
use Rattle.scene_commands.specs.Owning.{HaveDied}
use Rattle.scene_commands.proofs.LookLemmas.{under-at, lives-under}
use Rattle.scene_commands.proofs.ElsewhereLemmas.{death-elsewhere}
use Rattle.scene_commands.proofs.GoingLemmas.{goes-by-death}

module _ {V : Type 0} (kinds : Kinds V) (apart : StandApart kinds) (w w1 w2 w3 w4 : Slots V) (id index : ℕ)
    (drops : DropsParts kinds index kinds.part_names (seen_of w) (seen_of w1)) (unmarks : Unmarks kinds index (seen_of w1) (seen_of w2))
    (forgets : Forgets kinds id (seen_of w2) (seen_of w3)) (dies : LetsDie kinds index (seen_of w3) (seen_of w4)) where
  -- what each step leaves as it was
  entities-before : seen_of w3 kinds.entities_id ≡ seen_of w kinds.entities_id
  entities-before =
      forgets.others kinds.entities_id (apart entities allocator refl refl) ∙ unmarks.others kinds.entities_id (apart entities markers refl refl)
      ∙ drops.others kinds.entities_id (λ kind known. apart entities (parts kind) refl known)

  markers-after : seen_of w4 kinds.markers_id ≡ seen_of w2 kinds.markers_id
  markers-after = dies.others kinds.markers_id (apart markers entities refl refl) ∙ forgets.others kinds.markers_id (apart markers allocator refl refl)

  markers-before : seen_of w1 kinds.markers_id ≡ seen_of w kinds.markers_id
  markers-before = drops.others kinds.markers_id (λ kind known. apart markers (parts kind) refl known)

  allocator-before : seen_of w2 kinds.allocator_id ≡ seen_of w kinds.allocator_id
  allocator-before =
      unmarks.others kinds.allocator_id (apart allocator markers refl refl)
      ∙ drops.others kinds.allocator_id (λ kind known. apart allocator (parts kind) refl known)

  allocator-after : seen_of w4 kinds.allocator_id ≡ seen_of w3 kinds.allocator_id
  allocator-after = dies.others kinds.allocator_id (apart allocator entities refl refl)

  births-before : (roll_of kinds (seen_of w3)).births ≡ (roll_of kinds (seen_of w)).births
  births-before = ap (λ held. unwrap_or (option_and_then kinds.births held) (none_born 0 0)) entities-before

  noting-before : (roll_of kinds (seen_of w2)).noting ≡ (roll_of kinds (seen_of w)).noting
  noting-before = ap (λ held. (roll_of kinds (λ place. held)).noting) allocator-before

  noting-after : (roll_of kinds (seen_of w4)).noting ≡ (roll_of kinds (seen_of w3)).noting
  noting-after = ap (λ held. (roll_of kinds (λ place. held)).noting) allocator-after

  next-stays : (roll_of kinds (seen_of w4)).noting.next ≡ (roll_of kinds (seen_of w)).noting.next
  next-stays = ap (λ n. n.next) noting-after ∙ forgets.next ∙ ap (λ n. n.next) noting-before

  column-after : (kind : Name) → is_among kind kinds.part_names ≡ true → (at : ℕ) → column_of kinds (seen_of w4) kind at ≡ column_of kinds (seen_of w1) kind at
  column-after kind known at = ap (λ held. column_in kinds kind held at)
      (dies.others (kinds.part_id kind) (apart (parts kind) entities known refl) ∙ forgets.others (kinds.part_id kind) (apart (parts kind) allocator known refl)
      ∙ unmarks.others (kinds.part_id kind) (apart (parts kind) markers known refl))

  -- together they bury the entity
  pub buries : Buries kinds id index (seen_of w) (seen_of w4)
  buries = record {
    lives = λ at. subst (λ b. living (roll_of kinds (seen_of w4)).births at ≡ but_at index None (living b) at) births-before (dies.lives at);
    marker = λ at.
        ap (λ held. option_and_then (λ v. kinds.marker v at) held) markers-after ∙ unmarks.marker at
        ∙ ap (λ held. but_at index None (λ i. option_and_then (λ v. kinds.marker v i) held) at) markers-before;
    next = next-stays;
    noted = λ other.
        ap (λ n. noted_under n other) noting-after ∙ forgets.noted other
        ∙ ap (λ n. but_at id None (noted_under n) other) noting-before;
    parts = λ kind known at. column-after kind known at ∙ drops.gone kind known known at;
    values = λ name is. ap (λ held. option_and_then (kinds.value name) held)
        (dies.others (kinds.global_id name) (apart (value name) entities is refl) ∙ forgets.others (kinds.global_id name) (apart (value name) allocator is refl)
        ∙ unmarks.others (kinds.global_id name) (apart (value name) markers is refl)
        ∙ drops.others (kinds.global_id name) (λ kind known. apart (value name) (parts kind) is known));
  }

  module _ (may : MayAct kinds w) (entity : LifeAt) (under : entity_under (roll_of kinds (seen_of w)) id ≡ Some entity) (at_index : entity.id ≡ index) where
    there : id_at (roll_of kinds (seen_of w)) index ≡ Some id
    there = subst (λ i. id_at (roll_of kinds (seen_of w)) i ≡ Some id) at_index (under-at (roll_of kinds (seen_of w)) id entity under)

    scene-now : plain_of kinds (seen_of w4) ≡ without (λ one. eqb one id) (plain_of kinds (seen_of w))
    scene-now = buried-scene kinds (seen_of w) (seen_of w4) may.roll id index there buries

    ids-now : ids_in (roll_of kinds (seen_of w4)) ≡ filter (λ other. not (eqb other id)) (ids_in (roll_of kinds (seen_of w)))
    ids-now = ap (λ scene. scene.ids) scene-now

    kill-may : MayAct kinds w4
    kill-may = record {
      entities = dies.there;
      markers = subst (λ held. IsSome held) (sym markers-after) unmarks.there;
      allocator = subst (λ held. IsSome (option_and_then kinds.noting held)) (sym allocator-after) forgets.there;
      roll = buried-roll kinds (seen_of w) (seen_of w4) may.roll id index there buries;
      below = subst (λ ids. All (λ one. one < (roll_of kinds (seen_of w4)).noting.next) ids) (sym ids-now)
          (subst (λ next. All (λ one. one < next) (filter (λ other. not (eqb other id)) (ids_in (roll_of kinds (seen_of w))))) (sym next-stays)
          (All-filter (λ other. not (eqb other id)) (λ one. one < (roll_of kinds (seen_of w)).noting.next) (ids_in (roll_of kinds (seen_of w))) may.below));
      within = λ kind known. buried-within kinds (seen_of w) (seen_of w4) may.roll id index there buries kind known (may.within kind known);
      born = λ kind known at one e. still kind known at one (eqb at index) (sym (buries.parts kind known at) ∙ e);
    }
      where
        more : (at : ℕ) → count (roll_of kinds (seen_of w)).births at ≤ count (roll_of kinds (seen_of w4)).births at
        more at = subst (λ b. count b at ≤ count (roll_of kinds (seen_of w4)).births at) births-before (dies.births at)

        still : (kind : Name) → is_among kind kinds.part_names ≡ true → (at : ℕ) (one : Stored) (b : Bool) → cond b None (column_of kinds (seen_of w) kind at) ≡ Some one → All (WasBorn (roll_of kinds (seen_of w4)).births) one.named
        still kind known at one true e = cc
        still kind known at one false e =
            All-weaker (WasBorn (roll_of kinds (seen_of w)).births) (WasBorn (roll_of kinds (seen_of w4)).births) (λ named born. omega (arith, born, more named.id)) one.named (may.born kind known at one e)

    -- so it has died
    pub one-died : HaveDied kinds (id ∷ []) w w4
    one-died = record {
      scene = scene-now;
      forgotten = λ other is_in. elim (or_cases (eqb id other) false is_in) [
        | inl same ↦ buries.noted other ∙ ap (λ b. cond b None (noted_under (roll_of kinds (seen_of w)).noting other)) (eq-eqb other id (sym (eqb-true id other same)))
        | inr never ↦ absurd (false≢true never)
      ];
      unnoted = λ other none. buries.noted other ∙ stays (eqb other id) none;
      may = kill-may;
      elsewhere = death-elsewhere kinds id index w w1 w2 w3 w4 drops unmarks forgets dies;
      goes_on = goes-by-death kinds apart w w1 w2 w3 w4 id index drops unmarks forgets dies;
    }
      where
        stays : {X : Type 0} {o : Option X} (b : Bool) → o ≡ None → cond b None o ≡ None
        stays true none = refl
        stays false none = none

-- an id under which an entity is known lives
pub under-lives : {V : Type 0} (kinds : Kinds V) (w : Slots V) (id : ℕ) (entity : LifeAt) → entity_under (roll_of kinds (seen_of w)) id ≡ Some entity → lives id (plain_of kinds (seen_of w)).ids ≡ true
under-lives kinds w id entity under = lives-under (roll_of kinds (seen_of w)) id ∙ ap is_some under

-- it is skipped where nobody lives under the id
pub kill-skips : {V : Type 0} (kinds : Kinds V) (w : Slots V) (id : ℕ) → entity_under (roll_of kinds (seen_of w)) id ≡ None → apply (owning_in kinds) (kill id) (plain_of kinds (seen_of w)) ≡ skipped
kill-skips kinds w id none =
    ap (λ b. cond b (changed (without (dies_with (owning_in kinds) (plain_of kinds (seen_of w)) id) (plain_of kinds (seen_of w)))) skipped)
    (lives-under (roll_of kinds (seen_of w)) id ∙ ap is_some none)
