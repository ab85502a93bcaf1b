-- What a command that is carried out makes of a scene, and what goes on over commands.
use Rattle.std.proofs.Common.{◌≡◌, ◌+◌, ℕ, Bool, true, false, ◌||◌, cond, eqb, List, [], ◌∷◌, ◌++◌, refl, sym, ◌∙◌, ap, subst}
use Rattle.std.specs.List.{All, list_all, filter}
use Rattle.std.proofs.lemmas.Bool.{false≢true}
use Rattle.std.proofs.lemmas.Bool.Decides.{Decides-eqb}
use Rattle.std.proofs.lemmas.List.Elements.{All-head, All-tail}
use Rattle.std.proofs.lemmas.List.Folds.{list_any-append}
use Rattle.scene_model.specs.Parts.{Name, Part, under}
use Rattle.scene_model.specs.Rulebook.{Command, spawn}
use Rattle.scene_model.specs.Scenes.{PlainScene, lives}
use Rattle.scene_model.specs.Commands.{Applied, changed, skipped, ids_spent, apply, refs_live, last_next, Played, played, spent, behind, go_on, play}

-- the scene that a command made, or another where it made none
abbrev pub made : PlainScene → Applied → PlainScene
made other (changed scene) = scene
made other skipped = other
made other ids_spent = other

-- whether a command changed the scene
abbrev pub is_changed : Applied → Bool
is_changed (changed scene) = true
is_changed skipped = false
is_changed ids_spent = false

-- the scene where commands led, or another where they led nowhere
abbrev pub led_to : PlainScene → Played → PlainScene
led_to other (played scene places) = scene
led_to other spent = other

-- whether commands led to a scene
abbrev pub is_played : Played → Bool
is_played (played scene places) = true
is_played spent = false

-- the last id lives
pub lives-last : (ids : List ℕ) (next : ℕ) → lives next (ids ++ next ∷ []) ≡ true
lives-last ids next = list_any-append (λ other. eqb other next) ids (next ∷ []) ∙ here (lives next ids) (eqb next next) ((Decides-eqb next next).1 refl)
  where
    here : (a b : Bool) → b ≡ true → (a || (b || false)) ≡ true
    here true b is = refl
    here false true is = refl
    here false false is = absurd (false≢true is)

-- what lives in a list lives in it with one more
pub lives-longer : (ids : List ℕ) (next id : ℕ) → lives id ids ≡ true → lives id (ids ++ next ∷ []) ≡ true
lives-longer ids next id alive = list_any-append (λ other. eqb other id) ids (next ∷ []) ∙ ap (λ b. b || (eqb next id || false)) alive

-- an id that passes a test lives where others were taken out
pub lives-passed : (test : ℕ → Bool) (id : ℕ) (ids : List ℕ) → test id ≡ true → lives id ids ≡ true → lives id (filter test ids) ≡ true
lives-passed test id [] passes alive = absurd (false≢true alive)
lives-passed test id (x ∷ ids) passes alive = here (lives-passed test id ids passes) (eqb x id) refl (test x) refl alive
  where
    here : (lives id ids ≡ true → lives id (filter test ids) ≡ true) → (b : Bool) → eqb x id ≡ b → (c : Bool) → test x ≡ c → (b || lives id ids) ≡ true → lives id (cond c (x ∷ filter test ids) (filter test ids)) ≡ true
    here later true same true is e = ap (λ b. b || lives id (filter test ids)) same
    here later true same false is e = absurd (false≢true (sym is ∙ (ap test ((Decides-eqb x id).0 same) ∙ passes)))
    here later false same true is e = ap (λ b. b || lives id (filter test ids)) same ∙ later e
    here later false same false is e = later e

-- the scene after a spawn
abbrev pub spawned : List (Name × Part) → PlainScene → PlainScene
spawned parts scene = record {
  next = scene.next + 1;
  ids = scene.ids ++ scene.next ∷ [];
  part = λ id kind. cond (eqb id scene.next) (under kind parts) (scene.part id kind);
  global = scene.global;
}

-- what a spawn that is carried out makes of a scene
pub spawn-makes : (owning : List Name) (parts : List (Name × Part)) (scene after : PlainScene) → apply owning (spawn parts) scene ≡ changed after → (list_all (λ entry. refs_live scene.ids entry.1) parts ≡ true) × (spawned parts scene ≡ after)
spawn-makes owning parts scene after made_it = here (list_all (λ entry. refs_live scene.ids entry.1) parts) (eqb scene.next last_next) made_it
  where
    here : (b c : Bool) → cond b (cond c ids_spent (changed (spawned parts scene))) skipped ≡ changed after → (b ≡ true) × (spawned parts scene ≡ after)
    here true true e = absurd (false≢true (ap is_changed e))
    here true false e = (refl, ap (made scene) e)
    here false c e = absurd (false≢true (ap is_changed e))

-- what a command that is carried out under a test makes of a scene
pub tested-makes : (b : Bool) (scene made_one after : PlainScene) → cond b (changed made_one) skipped ≡ changed after → (b ≡ true) × (made_one ≡ after)
tested-makes true scene made_one after e = (refl, ap (made scene) e)
tested-makes false scene made_one after e = absurd (false≢true (ap is_changed e))

-- what holds of a scene and goes on over each command of a kind goes on over all
pub play-keeps : (owning : List Name) (R : PlainScene → PlainScene → Type 0) → ((scene : PlainScene) → R scene scene) → ((scene mid after : PlainScene) → R scene mid → R mid after → R scene after) → (Kind : Command → Type 0) (Good : PlainScene → Type 0) → ((command : Command) (scene after : PlainScene) → Kind command → Good scene → apply owning command scene ≡ changed after → R scene after × Good after) → (place : ℕ) (commands : List Command) (scene after : PlainScene) (places : List ℕ) → All Kind commands → Good scene → play owning place commands scene ≡ played after places → R scene after × Good after
play-keeps owning R same then Kind Good step place [] scene after places kinds good e = subst (λ s. R scene s × Good s) (ap (led_to scene) e) (same scene, good)
play-keeps owning R same then Kind Good step place (command ∷ commands) scene after places kinds good e = here (λ mid some. play-keeps owning R same then Kind Good step (place + 1) commands mid after some (All-tail Kind command commands kinds)) (apply owning command scene) refl e
  where
    behind-one : ((mid : PlainScene) (some : List ℕ) → Good mid → play owning (place + 1) commands mid ≡ played after some → R mid after × Good after) → (p : Played) → play owning (place + 1) commands scene ≡ p → behind place p ≡ played after places → R scene after × Good after
    behind-one later (played s some) is e = later scene some good (is ∙ ap (λ end. played end some) (ap (led_to scene) e))
    behind-one later spent is e = absurd (false≢true (ap is_played e))

    here : ((mid : PlainScene) (some : List ℕ) → Good mid → play owning (place + 1) commands mid ≡ played after some → R mid after × Good after) → (a : Applied) → apply owning command scene ≡ a → go_on place (play owning (place + 1) commands) scene a ≡ played after places → R scene after × Good after
    here later (changed mid) is e = let one = step command scene mid (All-head Kind command commands kinds) good is in let rest = later mid places one.1 e in (then scene mid after one.0 rest.0, rest.1)
    here later skipped is e = behind-one later (play owning (place + 1) commands scene) refl e
    here later ids_spent is e = absurd (false≢true (ap is_played e))
