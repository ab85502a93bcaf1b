-- Lemmas on lists of commands that are run one after another.
use Rattle.std.proofs.Common.{◌≡◌, ℕ, ◌+◌, List, [], ◌∷◌, ◌++◌, length, refl, sym, ◌∙◌, ap, append_assoc, length-append, arith, subst}
use Rattle.scene_model.specs.Parts.{Name}
use Rattle.scene_model.specs.Rulebook.{Command}
use Rattle.scene_model.specs.Scenes.{PlainScene}
use Rattle.scene_model.specs.Commands.{changed, skipped, ids_spent, apply, Played, played, spent, behind, play}
use Rattle.std.proofs.lemmas.List.{map-append, append-nil}
use Rattle.scene_model.specs.Commands.{skips_of}
use Rattle.scene_model.specs.declared.refusals.Skip.{Skip}
use Rattle.scene_model.specs.declared.refusals.FrameRefusal.{FrameRefusal}
use Rattle.scene_model.specs.declared.refusals.FrameRefusal.TheVariants.{System, GoneReference, IdsSpent, IndicesSpent, GenerationsSpent, TooManyCommands, Memory, Threads}
use Rattle.scene_model.specs.Leads.{behind_all, CommandsLead, FindsNoId, RunsTo, RunRefused}

-- places behind places behind others
pub behind_all-append : (one other : List ℕ) (rest : Played) → behind_all (one ++ other) rest ≡ behind_all one (behind_all other rest)
behind_all-append [] other rest = refl
behind_all-append (place ∷ one) other rest = ap (λ p. behind place p) (behind_all-append one other rest)

-- what runs out of ids does so whatever was skipped before
pub behind_all-spent : (places : List ℕ) → behind_all places spent ≡ spent
behind_all-spent [] = refl
behind_all-spent (place ∷ places) = rw (behind_all-spent places) refl

-- what was played before the places skipped are told
pub behind_all-played : (places more : List ℕ) (scene : PlainScene) → behind_all places (played scene more) ≡ played scene (places ++ more)
behind_all-played [] more scene = refl
behind_all-played (place ∷ places) more scene = rw (behind_all-played places more scene) refl

module _ (owning : List Name) where
  -- no command leads nowhere
  pub lead-none : (place : ℕ) (scene : PlainScene) → CommandsLead owning place [] scene scene []
  lead-none place scene later = let same : place + 0 ≡ place = omega arith in rw same refl

  -- a command that changes a scene
  pub lead-changed : (place : ℕ) (command : Command) (scene after : PlainScene) → apply owning command scene ≡ changed after → CommandsLead owning place (command ∷ []) scene after []
  lead-changed place command scene after e later = rw e refl

  -- a command that is skipped
  pub lead-skipped : (place : ℕ) (command : Command) (scene : PlainScene) → apply owning command scene ≡ skipped → CommandsLead owning place (command ∷ []) scene scene (place ∷ [])
  lead-skipped place command scene e later = rw e refl

  -- a command that finds no id
  pub finds_no_id : (place : ℕ) (command : Command) (scene : PlainScene) → apply owning command scene ≡ ids_spent → FindsNoId owning place (command ∷ []) scene
  finds_no_id place command scene e later = rw e refl

  -- commands and then others
  pub lead-join : (place : ℕ) (one other : List Command) (a b c : PlainScene) (places more : List ℕ) → CommandsLead owning place one a b places → CommandsLead owning (place + length one) other b c more → CommandsLead owning place (one ++ other) a c (places ++ more)
  lead-join place one other a b c places more first next later =
      let count : place + length one + length other ≡ place + length (one ++ other) = omega (arith, length-append one other) in
      rw append_assoc (first (other ++ later) ∙ ap (λ p. behind_all places p) (next later) ∙ sym (behind_all-append places more (play owning (place + length one + length other) later c)) ∙ ap (λ n. behind_all (places ++ more) (play owning n later c)) count)

  -- commands and then others that find no id
  pub no_id-join : (place : ℕ) (one other : List Command) (a b : PlainScene) (places : List ℕ) → CommandsLead owning place one a b places → FindsNoId owning (place + length one) other b → FindsNoId owning place (one ++ other) a
  no_id-join place one other a b places first out later = rw append_assoc (first (other ++ later) ∙ ap (λ p. behind_all places p) (out later) ∙ behind_all-spent places)

  -- no command skips nothing
  pub none-to : (frame place : ℕ) (scene : PlainScene) (skips : List Skip) → RunsTo owning frame place [] scene scene skips skips
  none-to frame place scene skips = ([], lead-none place scene, sym (append-nil skips))

  -- a command that is skipped is noted
  pub skipped-to : (frame place : ℕ) (command : Command) (scene after : PlainScene) (old new : List Skip) → apply owning command scene ≡ skipped → after ≡ scene → new ≡ old ++ record { frame = frame; place = place } ∷ [] → RunsTo owning frame place (command ∷ []) scene after old new
  skipped-to frame place command scene after old new e same noted = (place ∷ [], subst (λ s. CommandsLead owning place (command ∷ []) scene s (place ∷ [])) (sym same) (lead-skipped place command scene e), noted)

  -- commands and then others skip what both skip
  pub joined-to : (frame place next : ℕ) (one other : List Command) (a b c : PlainScene) (first second third : List Skip) → next ≡ place + length one → RunsTo owning frame place one a b first second → RunsTo owning frame next other b c second third → RunsTo owning frame place (one ++ other) a c first third
  joined-to frame place next one other a b c first second third at before after = (before.0 ++ after.0, lead-join place one other a b c before.0 after.0 before.1 (subst (λ n. CommandsLead owning n other b c after.0) at after.1), after.2 ∙ ap (λ skips. skips ++ skips_of frame after.0) before.2 ∙ append_assoc first (skips_of frame before.0) (skips_of frame after.0) ∙ ap (λ skips. first ++ skips) (sym (map-append (λ place. record { frame = frame; place = place }) before.0 after.0)))

  -- commands and then others that are refused
  pub refused-join : (frame place next : ℕ) (one other : List Command) (a b : PlainScene) (first second : List Skip) (cause : FrameRefusal) → next ≡ place + length one → RunsTo owning frame place one a b first second → RunRefused owning next other b cause → RunRefused owning place (one ++ other) a cause
  refused-join frame place next one other a b first second (System position text) at before h = h
  refused-join frame place next one other a b first second (GoneReference id) at before h = h
  refused-join frame place next one other a b first second IdsSpent at before h = no_id-join place one other a b before.0 before.1 (subst (λ n. FindsNoId owning n other b) at h)
  refused-join frame place next one other a b first second IndicesSpent at before h = h
  refused-join frame place next one other a b first second GenerationsSpent at before h = h
  refused-join frame place next one other a b first second TooManyCommands at before h = h
  refused-join frame place next one other a b first second Memory at before h = h
  refused-join frame place next one other a b first second Threads at before h = h
