use Rattle.std.proofs.Common.{◌≡◌, [], ◌∷◌, take, Bor, option_map, option_copied, subst, ap, sym, ◌∙◌, arith}
use Rattle.std.proofs.lemmas.List.{take_all, length-map}
use Rattle.json.specs.Token.{begin_object, end_object}
use Rattle.scene_model.specs.Declaring.{texts}
use Rattle.scene_model.specs.Parts.{Name}
use Rattle.scene_document.proofs.CallerLemmas.{pairs_of, members-pairs, ordered-pairs}
use Rattle.scene.specs.KeptScenes.{kept_scene}
use Rattle.scene.specs.Printing.{AddsMembers}
use Rattle.scene.proofs.KeptTextLemmas.{found-more}
use Rattle.scene.proofs.PrintLemmas.{wrote, on-wrote, members-none, members-then, object-added}
use Rattle.scene.proofs.snapshot.text.put_globals.Goals as goal

pub loop-place-init : goal.loop-place-init
loop-place-init g c = members-none (begin_object ∷ []) c.args.out.now c.begin_object.new.self (wrote _ c.args.out.now c.begin_object.new.self begin_object c.in_ok-begin_object.ensures)

pub loop-place-preserved : goal.loop-place-preserved
loop-place-preserved g c =
    let rules = c.args.rules.now in
    let book = g.R.DocumentRules.book rules in
    let scene = kept_scene g.R.DocumentRules.part_of g.R.DocumentRules.global_of g.V.ByPlace.at_place book c.args.kept.now in
    let more =
    found-more (λ name one. option_map (λ json. (name, json)) (option_map g.R.DocumentRules.global_of one)) (g.V.ByPlace.at_place c.args.kept.now.globals) book.global_names c.global_names-names.result.now c.loop-place.place _
    (option_copied c.at.result) c.global_names-names.ensures (g.met.R.DocumentRules.globals_ascend rules) (omega arith)
    (c.at.ensures ∙ ap (λ globals. g.V.ByPlace.at_place globals c.loop-place.place) c.globals.ensures) in
    subst (λ pairs. AddsMembers (begin_object ∷ []) pairs c.args.out.now c.put_global.new.out) (sym more)
    (members-then (begin_object ∷ []) (pairs_of (λ json. json) scene.global (take c.loop-place.place (texts c.global_names-names.result.now))) _ c.args.out.now c.loop-place.out c.put_global.new.out c.loop-place.invariant c.in_ok-put_global.ensures)

pub returns : goal.returns
returns g c =
    let book = g.R.DocumentRules.book c.args.rules.now in
    let scene = kept_scene g.R.DocumentRules.part_of g.R.DocumentRules.global_of g.V.ByPlace.at_place book c.args.kept.now in
    let pairs = pairs_of (λ json. json) scene.global book.global_names in
    let all : take c.loop-place.place (texts c.global_names-names.result.now) ≡ book.global_names =
    take_all c.loop-place.place (texts c.global_names-names.result.now) (omega (arith, length-map c.global_names-names.result.now (λ (name : Bor Name). name.now))) ∙ c.global_names-names.ensures in
    on-wrote c.end_object.result c.loop-place.out c.end_object.new.self end_object _ c.end_object.ensures
    (λ closed. object-added pairs c.args.out.now c.loop-place.out c.end_object.new.self (members-pairs pairs (ordered-pairs (λ json. json) scene.global book.global_names (g.met.R.DocumentRules.globals_ascend c.args.rules.now)))
    (subst (λ names. AddsMembers (begin_object ∷ []) (pairs_of (λ json. json) scene.global names) c.args.out.now c.loop-place.out) all c.loop-place.invariant) closed)
