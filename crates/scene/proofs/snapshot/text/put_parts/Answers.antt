use Rattle.std.proofs.Common.{◌≡◌, [], ◌∷◌, take, Bor, option_map, option_copied, subst, sym, ◌∙◌, arith}
use Rattle.std.proofs.lemmas.List.{take_all, length-map}
use Rattle.json.specs.Token.{begin_object, end_object}
use Rattle.scene_model.specs.Declaring.{texts}
use Rattle.scene_model.specs.Parts.{Name}
use Rattle.scene_document.proofs.CallerLemmas.{pairs_of, members-pairs, ordered-pairs}
use Rattle.scene.specs.Rows.{datum_at}
use Rattle.scene.specs.KeptScenes.{part_kept}
use Rattle.scene.specs.Printing.{AddsMembers}
use Rattle.scene.proofs.KeptTextLemmas.{found-more}
use Rattle.scene.proofs.PrintLemmas.{wrote, on-wrote, members-none, members-then, object-added}
use Rattle.scene.proofs.snapshot.text.put_parts.Goals as goal

pub loop-place-init : goal.loop-place-init
loop-place-init g c = members-none (begin_object ∷ []) c.args.out.now c.begin_object.new.self (wrote _ c.args.out.now c.begin_object.new.self begin_object c.in_ok-begin_object.ensures)

pub loop-place-preserved : goal.loop-place-preserved
loop-place-preserved g c =
    let rules = c.args.rules.now in
    let book = g.R.DocumentRules.book rules in
    let part = part_kept g.R.DocumentRules.part_of book c.args.kept.now c.args.index in
    let more =
    found-more (λ kind one. option_map (λ part. (kind, part.json)) (option_map g.R.DocumentRules.part_of one)) (λ place. datum_at c.args.kept.now place c.args.index) book.part_names c.part_names-names.result.now c.loop-place.place _
    (option_copied c.datum.result) c.part_names-names.ensures (g.met.R.DocumentRules.kinds_ascend rules) (omega arith) c.datum.ensures in
    subst (λ pairs. AddsMembers (begin_object ∷ []) pairs c.args.out.now c.put_part.new.out) (sym more)
    (members-then (begin_object ∷ []) (pairs_of (λ one. one.json) part (take c.loop-place.place (texts c.part_names-names.result.now))) _ c.args.out.now c.loop-place.out c.put_part.new.out c.loop-place.invariant c.in_ok-put_part.ensures)

pub returns : goal.returns
returns g c =
    let book = g.R.DocumentRules.book c.args.rules.now in
    let part = part_kept g.R.DocumentRules.part_of book c.args.kept.now c.args.index in
    let pairs = pairs_of (λ one. one.json) part book.part_names in
    let all : take c.loop-place.place (texts c.part_names-names.result.now) ≡ book.part_names =
    take_all c.loop-place.place (texts c.part_names-names.result.now) (omega (arith, length-map c.part_names-names.result.now (λ (name : Bor Name). name.now))) ∙ c.part_names-names.ensures in
    on-wrote c.end_object.result c.loop-place.out c.end_object.new.self end_object _ c.end_object.ensures
    (λ closed. object-added pairs c.args.out.now c.loop-place.out c.end_object.new.self (members-pairs pairs (ordered-pairs (λ one. one.json) part book.part_names (g.met.R.DocumentRules.kinds_ascend c.args.rules.now)))
    (subst (λ names. AddsMembers (begin_object ∷ []) (pairs_of (λ one. one.json) part names) c.args.out.now c.loop-place.out) all c.loop-place.invariant) closed)
