use Rattle.std.proofs.Common.{◌≡◌, ℕ, true, take}
use Rattle.scene_model.specs.Scenes.{lives}
use Rattle.scene_commands.specs.Links.{Grows, Holds}
use Rattle.scene_commands.proofs.holders.Holders.push_all.Given as goal

abbrev pub invariant-loop-target : goal.invariant-loop-target
invariant-loop-target l = record {
  grows : Grows l.initial.self l.self;
  noted : (target : ℕ) → lives target (take l.target-index l.targets) ≡ true → Holds l.self.links.items l.holder target;
}
