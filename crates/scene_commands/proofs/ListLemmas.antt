-- Commands that are carried out one after another lead where the definition says.
use Rattle.std.proofs.Common.{◌≡◌, ◌+◌, ℕ, Bool, true, false, Result, Ok, IfOk, append_assoc, List, [], ◌∷◌, ◌++◌, length, refl, ap, sym, ◌∙◌, subst}
use Rattle.std.proofs.lemmas.List.{append-nil}
use Rattle.std.proofs.lemmas.Result.{IfOk-weaker}
use Rattle.shred_world.specs.Worlds.{Slots}
use Rattle.scene_model.specs.declared.refusals.FrameRefusal.{FrameRefusal}
use Rattle.scene_model.specs.declared.refusals.FrameRefusal.TheVariants.{Memory}
use Rattle.scene_model.specs.declared.refusals.Skip.{Skip}
use Rattle.scene_model.specs.Rulebook.{Command, spawn, kill, put, take}
use Rattle.scene_model.specs.Leads.{RunsTo}
use Rattle.scene_model.proofs.CallerLemmas.{lead-changed, skipped-to, joined-to}
use Rattle.scene_world.specs.Standing.{Kinds, owning_in, plain_of}
use Rattle.scene_commands.specs.Acts.{seen_of, MayAct, GoesOn, Acts}
use Rattle.scene_commands.specs.Lists.{Notes, RefusesAct, RefusesActs}

-- what was noted stays
pub kept-more : (frame place : ℕ) (done : Bool) (before now noted : List Skip) → (more : List Skip) × (now ≡ before ++ more) → Notes frame place done now noted → (more : List Skip) × (noted ≡ before ++ more)
kept-more frame place true before now noted (more, is) notes = (more, notes ∙ is)
kept-more frame place false before now noted (more, is) notes =
    (more ++ record { frame = frame; place = place } ∷ [], notes ∙ ap (λ l. l ++ record { frame = frame; place = place } ∷ []) is ∙ append_assoc before more (record { frame = frame; place = place } ∷ []))

-- what holds of an answer holds of it as it is told
pub told-so : {X E F : Type 0} (told : Result X E) (outcome : Result X F) (P : X → Type 0) → IfOk told (λ answer. outcome ≡ Ok answer) → IfOk outcome P → IfOk told P
told-so told outcome P is holds = IfOk-weaker told (λ answer. outcome ≡ Ok answer) P (λ answer same. subst (λ one. IfOk one P) same holds) is

-- want of memory may stand against each command
pub memory-says : {V : Type 0} (kinds : Kinds V) (command : Command) (w : Slots V) → RefusesAct kinds command w Memory
memory-says kinds (spawn parts) w = tt
memory-says kinds (kill id) w = refl
memory-says kinds (put id kind part) w = refl
memory-says kinds (take id kind) w = refl

module _ {V : Type 0} (kinds : Kinds V) (frame place : ℕ) (commands : List Command) (w between : Slots V) (before now : List Skip)
    (ran : RunsTo (owning_in kinds) frame place commands (plain_of kinds (seen_of w)) (plain_of kinds (seen_of between)) before now) (command : Command) where
  -- one command more is done
  ran-done : (later : Slots V) → Acts kinds command true between later → RunsTo (owning_in kinds) frame place (commands ++ command ∷ []) (plain_of kinds (seen_of w)) (plain_of kinds (seen_of later)) before now
  ran-done later acts = joined-to (owning_in kinds) frame place (place + length commands) commands (command ∷ []) (plain_of kinds (seen_of w)) (plain_of kinds (seen_of between)) (plain_of kinds (seen_of later)) before now now refl ran
      ([], lead-changed (owning_in kinds) (place + length commands) command (plain_of kinds (seen_of between)) (plain_of kinds (seen_of later)) acts, sym (append-nil now))

  -- or one more is skipped, and noted
  ran-skipped : (later : Slots V) (noted : List Skip) (at : ℕ) → at ≡ place + length commands → Acts kinds command false between later → noted ≡ now ++ record { frame = frame; place = at } ∷ []
      → RunsTo (owning_in kinds) frame place (commands ++ command ∷ []) (plain_of kinds (seen_of w)) (plain_of kinds (seen_of later)) before noted
  ran-skipped later noted at at_place acts notes = joined-to (owning_in kinds) frame place at commands (command ∷ []) (plain_of kinds (seen_of w)) (plain_of kinds (seen_of between)) (plain_of kinds (seen_of later)) before now noted at_place ran
      (skipped-to (owning_in kinds) frame at command (plain_of kinds (seen_of between)) (plain_of kinds (seen_of later)) now noted acts.0 (ap (λ m. plain_of kinds (seen_of m)) acts.1) notes)

  pub ran-more : (done : Bool) (later : Slots V) (noted : List Skip) (at : ℕ) → at ≡ place + length commands → Acts kinds command done between later → Notes frame at done now noted
      → RunsTo (owning_in kinds) frame place (commands ++ command ∷ []) (plain_of kinds (seen_of w)) (plain_of kinds (seen_of later)) before noted
  ran-more true later noted at at_place acts notes = subst (λ skips. RunsTo (owning_in kinds) frame place (commands ++ command ∷ []) (plain_of kinds (seen_of w)) (plain_of kinds (seen_of later)) before skips) (sym notes) (ran-done later acts)
  ran-more false later noted at at_place acts notes = ran-skipped later noted at at_place acts notes

  -- or it is refused, where others wait behind it
  pub acts-refused : MayAct kinds between → GoesOn kinds w between → (all after : List Command) → all ≡ commands ++ command ∷ after → (cause : FrameRefusal) → RefusesAct kinds command between cause → RefusesActs kinds place all w cause
  acts-refused may goes all after are cause refuses = record { before = commands; command = command; after = after; between = between; places = ran.0; are = are; lead = ran.1; refuses = refuses; may = may; goes_on = goes }

  pub acts-wanting : MayAct kinds between → GoesOn kinds w between → (all after : List Command) → all ≡ commands ++ command ∷ after → RefusesActs kinds place all w Memory
  acts-wanting may goes all after are = acts-refused may goes all after are Memory (memory-says kinds command between)
