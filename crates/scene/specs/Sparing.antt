-- Commands after which no reference is gone that wasn't before: nobody is killed.
use Rattle.std.specs.Prelude.{◌≡◌, ℕ, false}
use Rattle.scene_model.specs.declared.command.Command.{Command as CodeCommand}
use Rattle.scene_model.specs.declared.command.Command.TheVariants as code
use Rattle.scene_model.specs.Parts.{Name}
use Rattle.scene_model.specs.Rulebook.{Command, spawn, kill, put, take}
use Rattle.scene_model.specs.Scenes.{PlainScene}
use Rattle.scene_model.specs.Commands.{holds_gone}

-- a command kills nobody
abbrev pub Spares : Command → Type 0
Spares (spawn parts) = Unit {0}
Spares (kill id) = ⊥
Spares (put id kind part) = Unit {0}
Spares (take id kind) = Unit {0}

-- so it is for a command of the code
abbrev pub AsksNoDeath : {D : Type 0} → CodeCommand D → Type 0
AsksNoDeath (code.Spawn parts) = Unit {0}
AsksNoDeath (code.Kill id) = ⊥
AsksNoDeath (code.Put id kind datum) = Unit {0}
AsksNoDeath (code.Take id kind) = Unit {0}

-- no part of a scene holds a reference that is gone
abbrev pub NoneGone : PlainScene → Type 0
NoneGone scene = (id : ℕ) (kind : Name) → holds_gone (scene.part id kind) ≡ false
