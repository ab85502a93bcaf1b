-- What stands elsewhere stays while commands are carried out.
use Rattle.std.proofs.Common.{◌≡◌, ◌+◌, true, false, cond, eqb, ℕ, List, [], ◌∷◌, ◌++◌, Option, ap, ◌∙◌}
use Rattle.std.specs.List.{list_all}
use Rattle.shred_world.specs.Worlds.{Slots}
use Rattle.specs_entity.specs.Life.{LifeAt}
use Rattle.scene_model.specs.declared.refusals.FrameRefusal.{FrameRefusal}
use Rattle.scene_model.specs.declared.refusals.FrameRefusal.TheVariants.{System, GoneReference, IdsSpent, IndicesSpent, GenerationsSpent, TooManyCommands, Memory, Threads}
use Rattle.scene_model.specs.Parts.{Name, Part, is_among, under}
use Rattle.scene_model.specs.Scenes.{PlainScene}
use Rattle.scene_model.specs.Commands.{changed, skipped, ids_spent, last_next, refs_live}
use Rattle.scene_world.specs.Rolls.{ids_in}
use Rattle.scene_world.specs.Stored.{Stored}
use Rattle.scene_world.specs.Standing.{Kinds, roll_of, plain_of}
use Rattle.scene_commands.specs.Acts.{seen_of, SetsColumn, StaysElsewhere}
use Rattle.scene_commands.specs.Deaths.{DropsParts, Unmarks, Forgets, LetsDie}
use Rattle.scene_commands.specs.Newborns.{ComesToLife, Settles, IsToBeDone, RefusesLife, RefusesSpawn}

module _ {V : Type 0} (kinds : Kinds V) where
  -- where the parts of one kind of the rules were set
  pub column-elsewhere : (kind : Name) (index : ℕ) (part : Option Stored) (w later : Slots V) → SetsColumn kinds kind index part (seen_of w) (seen_of later) → is_among kind kinds.part_names ≡ true → StaysElsewhere kinds w later
  column-elsewhere kind index part w later sets known id e m a p = sets.others id (p kind known)

  -- where an entity died
  pub death-elsewhere : (under index : ℕ) (w dropped unmarked forgotten later : Slots V) → DropsParts kinds index kinds.part_names (seen_of w) (seen_of dropped) → Unmarks kinds index (seen_of dropped) (seen_of unmarked)
      → Forgets kinds under (seen_of unmarked) (seen_of forgotten) → LetsDie kinds index (seen_of forgotten) (seen_of later)
      → StaysElsewhere kinds w later
  death-elsewhere under index w dropped unmarked forgotten later drops unmarks forgets dies id e m a p = dies.others id e ∙ forgets.others id a ∙ unmarks.others id m ∙ drops.others id p

  -- where one was born
  pub birth-elsewhere : (w alive later : Slots V) (entity : LifeAt) (given : List (Name × Part)) → ComesToLife kinds entity (seen_of w) (seen_of alive) → Settles kinds entity given (seen_of alive) (seen_of later) → StaysElsewhere kinds w later
  birth-elsewhere w alive later entity given comes settles id e m a p = settles.gives.others id p ∙ settles.marks.others id m ∙ settles.gets.others id a ∙ comes.others id e

  -- a spawn whose references live is to be done, where an id is left
  pub to-be-done : (parts : List (Name × Part)) (w : Slots V) → list_all (λ entry. refs_live (ids_in (roll_of kinds (seen_of w))) entry.1) parts ≡ true → eqb (roll_of kinds (seen_of w)).noting.next last_next ≡ false → IsToBeDone kinds parts w
  to-be-done parts w live left =
      let made : PlainScene = record {
        next = (roll_of kinds (seen_of w)).noting.next + 1;
        ids = ids_in (roll_of kinds (seen_of w)) ++ (roll_of kinds (seen_of w)).noting.next ∷ [];
        part = λ id kind. cond (eqb id (roll_of kinds (seen_of w)).noting.next) (under kind parts) ((plain_of kinds (seen_of w)).part id kind);
        global = (plain_of kinds (seen_of w)).global;
      } in
      record {
        after = made;
        is = ap (λ b. cond b (cond (eqb (roll_of kinds (seen_of w)).noting.next last_next) ids_spent (changed made)) skipped) live ∙ ap (λ b. cond b ids_spent (changed made)) left;
      }

  -- a birth that is refused refuses the spawn that was to be done
  pub life-refused : (parts : List (Name × Part)) (w : Slots V) → IsToBeDone kinds parts w → (cause : FrameRefusal) → RefusesLife (roll_of kinds (seen_of w)).births cause → RefusesSpawn kinds parts w cause
  life-refused parts w done (System position text) why = why
  life-refused parts w done (GoneReference id) why = why
  life-refused parts w done IdsSpent why = absurd why
  life-refused parts w done IndicesSpent why = (why, done)
  life-refused parts w done GenerationsSpent why = (why, done)
  life-refused parts w done TooManyCommands why = why
  life-refused parts w done Memory why = why
  life-refused parts w done Threads why = why
