use Rattle.std.proofs.Common.{[], ◌∷◌, codes, map, refl, subst, arith}
use Rattle.std.specs.FinMap as finite
use Rattle.json.specs.Token.{begin_object, end_object, key}
use Rattle.serde_json.specs.Data.{array, number, unsigned}
use Rattle.serde_json.specs.View.{items_of}
use Rattle.scene_model.specs.Parts.{Json, Name}
use Rattle.scene_document.specs.Texts.{entity_json, globals_json}
use Rattle.scene.specs.Rows.{seats_kept}
use Rattle.scene.specs.KeptScenes.{bearers, kept_scene}
use Rattle.scene.specs.Printing.{AddsJson}
use Rattle.scene.proofs.PrintLemmas.{wrote, on-wrote, members-none, members-one, members-then, object-added, whole-added}
use Rattle.scene.proofs.snapshot.text.put_scene.Goals as goal

pub returns : goal.returns
returns g c =
    let book = g.R.DocumentRules.book c.args.rules.now in
    let scene = kept_scene g.R.DocumentRules.part_of g.R.DocumentRules.global_of g.V.ByPlace.at_place book c.args.kept.now in
    let entities : Name × Json = (codes "entities", array (items_of (map (entity_json book scene) (finite.keys (bearers (seats_kept c.args.kept.now)))))) in
    let globals : Name × Json = (codes "globals", globals_json book scene) in
    let next : Name × Json = (codes "next", number (unsigned c.args.kept.now.next)) in
    let old = c.args.out.now in
    let opened = members-none (begin_object ∷ []) old c.begin_object.new.self (wrote _ old c.begin_object.new.self begin_object c.in_ok-begin_object.ensures) in
    let first = members-one entities.0 entities.1 c.begin_object.new.self c.key.new.self c.put_entities.new.out (wrote _ c.begin_object.new.self c.key.new.self (key entities.0) c.in_ok-key.ensures) c.in_ok-put_entities.ensures in
    let second = members-one globals.0 globals.1 c.put_entities.new.out c.key-2.new.self c.put_globals.new.out (wrote _ c.put_entities.new.out c.key-2.new.self (key globals.0) c.in_ok-key-2.ensures) c.in_ok-put_globals.ensures in
    let third = members-one next.0 next.1 c.put_globals.new.out c.key-3.new.self c.u64.new.self (wrote _ c.put_globals.new.out c.key-3.new.self (key next.0) c.in_ok-key-3.ensures)
    (subst (λ n. AddsJson (number (unsigned n)) c.key-3.new.self c.u64.new.self) c.next.ensures (whole-added c.next.result c.key-3.new.self c.u64.new.self (omega arith) (wrote _ c.key-3.new.self c.u64.new.self _ c.in_ok-u64.ensures))) in
    let one = members-then (begin_object ∷ []) [] (entities ∷ []) old c.begin_object.new.self c.put_entities.new.out opened first in
    let two = members-then (begin_object ∷ []) (entities ∷ []) (globals ∷ []) old c.put_entities.new.out c.put_globals.new.out one second in
    let all = members-then (begin_object ∷ []) (entities ∷ globals ∷ []) (next ∷ []) old c.put_globals.new.out c.u64.new.self two third in
    on-wrote c.end_object.result c.u64.new.self c.end_object.new.self end_object _ c.end_object.ensures (object-added (entities ∷ globals ∷ next ∷ []) old c.u64.new.self c.end_object.new.self refl all)
