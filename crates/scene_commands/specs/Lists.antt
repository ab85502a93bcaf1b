-- Commands that are carried out in a world, one after another.
use Rattle.std.specs.Prelude.{◌≡◌, ℕ, Bool, true, false, List, [], ◌∷◌, ◌++◌}
use Rattle.shred_world.specs.Worlds.{Slots}
use Rattle.scene_model.specs.declared.refusals.FrameRefusal.{FrameRefusal}
use Rattle.scene_model.specs.declared.refusals.FrameRefusal.TheVariants.{Memory}
use Rattle.scene_model.specs.declared.refusals.Skip.{Skip}
use Rattle.scene_model.specs.Rulebook.{Command, spawn, kill, put, take}
use Rattle.scene_model.specs.Leads.{CommandsLead}
use Rattle.scene_world.specs.Standing.{Kinds, owning_in, plain_of}
use Rattle.scene_commands.specs.Acts.{seen_of, MayAct, GoesOn}
use Rattle.scene_commands.specs.Newborns.{RefusesSpawn}

-- a command that was skipped is noted by its frame and place, and one that was done isn't
abbrev pub Notes : ℕ → ℕ → Bool → (old new : List Skip) → Type 0
Notes frame place true old new = new ≡ old
Notes frame place false old new = new ≡ old ++ record { frame = frame; place = place } ∷ []

module _ {V : Type 0} (kinds : Kinds V) where
  -- why a command is refused in a world: a spawn for what its refusal says, and each other for want of memory alone
  abbrev pub RefusesAct : Command → Slots V → FrameRefusal → Type 0
  RefusesAct (spawn parts) w cause = RefusesSpawn kinds parts w cause
  RefusesAct (kill id) w cause = cause ≡ Memory
  RefusesAct (put id kind part) w cause = cause ≡ Memory
  RefusesAct (take id kind) w cause = cause ≡ Memory

  -- why commands are refused, of which the first has a place: those before one of them lead to a scene that stands in what became of the
  -- world, where that one is refused
  pub record RefusesActs (place : ℕ) (commands : List Command) (w : Slots V) (cause : FrameRefusal) : Type 0 where
    pub before : List Command
    pub command : Command
    pub after : List Command
    pub between : Slots V
    pub places : List ℕ
    pub are : commands ≡ before ++ command ∷ after
    pub lead : CommandsLead (owning_in kinds) place before (plain_of kinds (seen_of w)) (plain_of kinds (seen_of between)) places
    pub refuses : RefusesAct command between cause
    pub may : MayAct kinds between
    pub goes_on : GoesOn kinds w between
