-- Worlds that become others, one after another.
use Rattle.std.proofs.Common.{◌≡◌, ◌<◌, ◌≤◌, ◌+◌, ◌-◌, ℕ, true, List, [], ◌∷◌, length, drop, get_or, Some, refl, ap, sym, ◌∙◌, subst, arith}
use Rattle.std.proofs.lemmas.List.{drop_more}
use denote.Ref.{Bor}
use Rattle.std.specs.Option.{option_map_or}
use Rattle.shred_world.specs.Worlds.{Slots}
use Rattle.scene_model.specs.Declaring.{texts}
use Rattle.scene_model.specs.Parts.{Part, name_at}
use Rattle.scene_model.specs.Rulebook.{put}
use Rattle.scene_model.specs.Scenes.{PlainScene}
use Rattle.scene_model.specs.Commands.{with_part}
use Rattle.scene_world.specs.Standing.{Kinds, roll_of, owning_in, plain_of}
use Rattle.scene_world.specs.Lent.{StandApart, entities, markers, allocator, parts, queue}
use Rattle.scene_commands.specs.Acts.{seen_of, MayAct, StaysElsewhere, Acts, GoesOn}
use Rattle.scene_commands.proofs.DropLemmas.{no_name}
use Rattle.scene_world.specs.Rolls.{ids_in}
use Rattle.scene_commands.proofs.BoundLemmas.{grows-living, grows-as}
use Rattle.scene_commands.specs.Becoming.{Becomes}
use Rattle.scene_commands.specs.Entries.{with_one}
use Rattle.scene_commands.proofs.SceneLemmas.{put-done}
use Rattle.scene_commands.proofs.NameLemmas.{name-there}

-- one item more from the back of a list
pub back-step : {X : Type 0} (xs : List X) (n : ℕ) (x : X) → 0 < n → n ≤ length xs → x ≡ get_or xs (n - 1) x → drop (n - 1) xs ≡ x ∷ drop n xs
back-step xs n x some within is =
    let back : n - 1 + 1 ≡ n = omega (arith, some) in
    drop_more xs (n - 1) x (omega (arith, some, within)) ∙ ap (λ one. one ∷ drop (n - 1 + 1) xs) (sym is) ∙ ap (λ k. x ∷ drop k xs) back

module _ {V : Type 0} (kinds : Kinds V) where
  -- one step after another
  pub then : (first second : PlainScene → PlainScene) (w between later : Slots V) → Becomes kinds first w between → Becomes kinds second between later → Becomes kinds (λ scene. second (first scene)) w later
  then first second w between later one two = record { may = two.may; scene = two.scene ∙ ap second one.scene; queues = λ position. two.queues position ∙ one.queues position; grows = grows-living (roll_of kinds (seen_of w)) (roll_of kinds (seen_of between)) (roll_of kinds (seen_of later)) one.grows two.grows }

  -- a part was put in, under the name at a place
  pub puts-one : StandApart kinds → (w later : Slots V) (id : ℕ) (names : List (Bor (List ℕ))) (place : ℕ) (part : Part) → MayAct kinds later → Acts kinds (put id (get_or names place no_name).now part) true w later → StaysElsewhere kinds w later → GoesOn kinds w later
      → Becomes kinds (with_one id (Some (name_at (texts names) place, part))) w later
  puts-one apart w later id names place part may acts stays goes = subst (λ name. Becomes kinds (with_one id (Some (name, part))) w later) (name-there names place) (record {
    may = may;
    scene = put-done (owning_in kinds) (plain_of kinds (seen_of w)) (plain_of kinds (seen_of later)) id (get_or names place no_name).now part acts;
    queues = λ position. ap (λ held. option_map_or kinds.queued held [])
        (stays (kinds.queue_id position) (apart (queue position) entities refl refl) (apart (queue position) markers refl refl) (apart (queue position) allocator refl refl)
        (λ name known. apart (queue position) (parts name) refl known));
    grows = grows-as (roll_of kinds (seen_of w)).births (roll_of kinds (seen_of later)).births (roll_of kinds (seen_of w)).noting.next (roll_of kinds (seen_of later)).noting.next
        (length (ids_in (roll_of kinds (seen_of w)))) (length (ids_in (roll_of kinds (seen_of later)))) (omega (arith, next, ids)) goes.grows;
  })
    where
      done : plain_of kinds (seen_of later) ≡ record (plain_of kinds (seen_of w)) { part = with_part id (get_or names place no_name).now (Some part) (plain_of kinds (seen_of w)).part }
      done = put-done (owning_in kinds) (plain_of kinds (seen_of w)) (plain_of kinds (seen_of later)) id (get_or names place no_name).now part acts

      next : (roll_of kinds (seen_of later)).noting.next ≡ (roll_of kinds (seen_of w)).noting.next
      next = ap (λ scene. scene.next) done

      ids : length (ids_in (roll_of kinds (seen_of later))) ≡ length (ids_in (roll_of kinds (seen_of w)))
      ids = ap (λ scene. length scene.ids) done
