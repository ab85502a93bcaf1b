use Rattle.std.proofs.Common.{[], ◌∷◌, take}
use Rattle.json.specs.Token.{begin_object}
use Rattle.scene_model.specs.Declaring.{texts}
use Rattle.scene_document.proofs.CallerLemmas.{pairs_of}
use Rattle.scene.specs.KeptScenes.{part_kept}
use Rattle.scene.specs.Printing.{AddsMembers}
use Rattle.scene.proofs.snapshot.text.put_parts.Given as goal

-- the parts under the names so far
abbrev pub invariant-loop-place : goal.invariant-loop-place
invariant-loop-place g l =
    AddsMembers (begin_object ∷ []) (pairs_of (λ one. one.json) (part_kept g.R.DocumentRules.part_of (g.R.DocumentRules.book l.rules) l.kept l.index) (take l.place (texts l.names))) l.fn.out l.out
