use Rattle.std.proofs.Common.{[], ◌∷◌, take}
use Rattle.json.specs.Token.{begin_object}
use Rattle.scene_model.specs.Declaring.{texts}
use Rattle.scene_document.proofs.CallerLemmas.{pairs_of}
use Rattle.scene.specs.KeptScenes.{kept_scene}
use Rattle.scene.specs.Printing.{AddsMembers}
use Rattle.scene.proofs.snapshot.text.put_globals.Given as goal

-- the globals under the names so far
abbrev pub invariant-loop-place : goal.invariant-loop-place
invariant-loop-place g l =
    AddsMembers (begin_object ∷ []) (pairs_of (λ json. json) (kept_scene g.R.DocumentRules.part_of g.R.DocumentRules.global_of g.V.ByPlace.at_place (g.R.DocumentRules.book l.rules) l.kept).global (take l.place (texts l.names))) l.fn.out l.out
