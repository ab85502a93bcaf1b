use Rattle.std.proofs.Common.{◌≡◌, ℕ, Bool, true, false, eqb, List, [], None, All, vec_len, ap, sym, ◌∙◌, subst, cond, arith}
use Rattle.std.specs.Prelude.{option_map}
use Rattle.std.specs.List.{list_any, find}
use Rattle.std.proofs.lemmas.Bool.{eqb-true}
use Rattle.std.proofs.lemmas.List.{take_all}
use Rattle.scene_model.proofs.CallerLemmas.{no_items}
use Rattle.scene_model.specs.Parts.{Name, is_among}
use Rattle.scene_model.specs.Commands.{holds_gone}
use Rattle.scene_model.specs.Declaring.{texts}
use Rattle.scene_world.specs.Places.{kinds_of}
use Rattle.scene_world.specs.Rolls.{Roll, ids_in, part_in, ref_to}
use Rattle.scene_world.specs.Standing.{column_of, roll_of}
use Rattle.scene_world.specs.Stored.{part_under}
use Rattle.scene_commands.specs.Acts.{seen_of}
use Rattle.specs_entity.specs.Births.{IsAlive}
use Rattle.scene_commands.specs.Gone.{any_gone}
use Rattle.scene_commands.proofs.GoneLemmas.{IsLeast, living-at, least-next, least-found, refers-gone, test-at, none-gone}
use Rattle.scene_commands.proofs.gone.find_gone.Goals as goal

pub loop-entity-preserved : goal.loop-entity-preserved
loop-entity-preserved g c =
    let roll : Roll = roll_of (kinds_of g.R.Value.SceneValue.places g.R.DocumentRules.part_of g.R.WorldRules.columns) (seen_of c.args.world.now) in
    let holds : ℕ → List Name → Bool = λ index. list_any (λ kind. holds_gone (option_map (part_under (ref_to roll)) (column_of (kinds_of g.R.Value.SceneValue.places g.R.DocumentRules.part_of g.R.WorldRules.columns) (seen_of c.args.world.now) kind index))) in
    let known : (index : ℕ) → holds index (texts c.in_ok-names.names.items) ≡ holds index (texts c.part_names.result.now) = c.in_ok-names.ensures in
    least-next roll (λ index. holds index (g.R.DocumentRules.book c.args.rules.now).part_names)
    c.as_slice-entity-items.result.now c.loop-entity.entity-index c.entity-item.result c.loop-entity-test.true c.entity-item.is c.requires.may.roll c.in_ok-gone.gone c.loop-entity.least c.lesser-least.result c.in-Some.id
    (living-at roll c.as_slice-entity-items.result.now c.loop-entity.entity-index c.entity-item.result c.loop-entity-test.true c.entity-item.is (subst (All (IsAlive roll.births)) (sym c.as_slice-entity-items.ensures.value) c.in_ok-entities.ensures.alive))
    (sym (ap roll.marker c.id.ensures) ∙ sym c.id_marked.ensures ∙ c.in-Some.is)
    (c.in_ok-gone.ensures ∙ ap (λ list. holds c.id-in-loop-entity.result (texts list)) c.as_slice-kinds.ensures.value ∙ known c.id-in-loop-entity.result
    ∙ ap (λ index. holds index (texts c.part_names.result.now)) c.id-in-loop-entity.ensures ∙ ap (holds c.entity-item.result.id) c.part_names.ensures)
    c.lesser-least.ensures c.loop-entity.invariant

pub returns : goal.returns
returns g c =
    let kinds = kinds_of g.R.Value.SceneValue.places g.R.DocumentRules.part_of g.R.WorldRules.columns in
    let w = seen_of c.args.world.now in
    let roll : Roll = roll_of kinds w in
    let names : List Name = (g.R.DocumentRules.book c.args.rules.now).part_names in
    let holds : ℕ → Bool = λ index. list_any (λ kind. holds_gone (option_map (part_under (ref_to roll)) (column_of (kinds_of g.R.Value.SceneValue.places g.R.DocumentRules.part_of g.R.WorldRules.columns) (seen_of c.args.world.now) kind index))) names in
    let test : List Name → ℕ → Bool = λ known id. list_any (λ kind. holds_gone (cond (is_among kind known) (part_in roll (column_of (kinds_of g.R.Value.SceneValue.places g.R.DocumentRules.part_of g.R.WorldRules.columns) (seen_of c.args.world.now) kind) id) None)) names in
    least-found roll holds (test g.R.WorldRules.columns.part_names)
    (λ id index at. ap (λ known. test known id) (g.met.R.WorldRules.named_so c.args.rules.now).parts ∙ test-at roll names (column_of (kinds_of g.R.Value.SceneValue.places g.R.DocumentRules.part_of g.R.WorldRules.columns) (seen_of c.args.world.now)) id index at)
    c.as_slice-entity-items.result.now c.loop-entity.least
    (λ entity alive held. subst (λ items. list_any (λ one. eqb one.id entity.id) items ≡ true) (sym c.as_slice-entity-items.ensures.value)
    (c.in_ok-entities.ensures.all entity alive (refers-gone kinds w (texts c.as_slice-kinds.result.now) entity.id
    (ap (λ list. any_gone kinds w (texts list) entity.id) c.as_slice-kinds.ensures.value ∙ c.in_ok-names.ensures entity.id ∙ ap (λ list. any_gone kinds w list entity.id) c.part_names.ensures ∙ held))))
    (subst (λ front. IsLeast roll holds front c.loop-entity.least) (take_all c.loop-entity.entity-index c.as_slice-entity-items.result.now c.loop-entity-test.false) c.loop-entity.invariant)

-- where there is no kind whose parts may refer to somebody, nobody who is gone is referred to
pub returns-then-is_empty : goal.returns-then-is_empty
returns-then-is_empty g c =
    let kinds = kinds_of g.R.Value.SceneValue.places g.R.DocumentRules.part_of g.R.WorldRules.columns in
    let w = seen_of c.args.world.now in
    let roll : Roll = roll_of kinds w in
    let names : List Name = (g.R.DocumentRules.book c.args.rules.now).part_names in
    let holds : ℕ → List Name → Bool = λ index. list_any (λ kind. holds_gone (option_map (part_under (ref_to roll)) (column_of kinds w kind index))) in
    let known : (index : ℕ) → holds index (texts c.in_ok-names.names.items) ≡ holds index (texts c.part_names.result.now) = c.in_ok-names.ensures in
    let none_listed : vec_len c.in_ok-names.names ≡ 0 = eqb-true (vec_len c.in_ok-names.names) 0 (sym c.is_empty.ensures ∙ c.if-is_empty.true) in
    let empty : c.in_ok-names.names.items ≡ [] = no_items c.in_ok-names.names.items (omega (arith, none_listed, c.in_ok-names.names.ok.0)) in
    let none : (index : ℕ) → holds index names ≡ false = λ index. ap (holds index) (sym c.part_names.ensures) ∙ sym (known index) ∙ ap (λ list. holds index (texts list)) empty in
    sym (ap (λ listed. find (λ id. list_any (λ kind. holds_gone (cond (is_among kind listed) (part_in roll (column_of kinds w kind) id) None)) names) (ids_in roll)) (g.met.R.WorldRules.named_so c.args.rules.now).parts
    ∙ none-gone roll names (column_of kinds w) none)
