use Rattle.std.proofs.Common.{drop}
use denote.Ref.{Bor}
use Rattle.serde_json.specs.Find.{as_str}
use Rattle.scene_model.specs.Parts.{Name}
use Rattle.scene_document.specs.ShapeWords.{Anything}
use Rattle.scene_document.specs.ShapeWords.{items_seen, IsReadUpTo}
use Rattle.scene_document.proofs.shape.fields.read_each_name.Given as goal

abbrev pub invariant-loop-value : goal.invariant-loop-value
invariant-loop-value l = IsReadUpTo (as_str) (λ (name : Bor Name). name.now) (Anything) (items_seen l.values) (items_seen (drop l.value-index l.values)) l.names.items
