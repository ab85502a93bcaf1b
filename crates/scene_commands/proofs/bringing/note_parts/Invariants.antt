use Rattle.std.proofs.Common.{◌≡◌, ℕ, true, map, take}
use Rattle.scene_model.specs.Parts.{Name, under}
use Rattle.scene_model.specs.Deaths.{refers_to}
use Rattle.scene_model.specs.Queues.{plain_entry}
use Rattle.scene_commands.specs.Links.{Grows, Holds}
use Rattle.scene_commands.proofs.bringing.note_parts.Given as goal

abbrev pub invariant-loop-part : goal.invariant-loop-part
invariant-loop-part g l = record {
  grows : Grows l.initial.holders l.holders;
  noted : l.initial.holders.made ≡ true → (kind : Name) → g.R.WorldRules.columns.owning kind ≡ true → (target : ℕ)
      → refers_to target (under kind (map (plain_entry g.R.DocumentRules.part_of) (take l.part-index l.parts))) ≡ true → Holds l.holders.links.items l.id target;
}
