use Rattle.std.proofs.Common.{[], ◌∷◌, codes, refl}
use Rattle.json.specs.Token.{begin_object, end_object, key}
use Rattle.serde_json.specs.Data.{number, unsigned}
use Rattle.scene_model.specs.Parts.{Json, Name}
use Rattle.scene.specs.KeptScenes.{part_kept, parts_with}
use Rattle.scene.proofs.PrintLemmas.{wrote, on-wrote, members-none, members-one, members-then, object-added, whole-added}
use Rattle.scene.proofs.snapshot.text.put_entity.Goals as goal

pub returns : goal.returns
returns g c =
    let book = g.R.DocumentRules.book c.args.rules.now in
    let id : Name × Json = (codes "id", number (unsigned c.args.id)) in
    let parts : Name × Json = (codes "parts", parts_with book (part_kept g.R.DocumentRules.part_of book c.args.kept.now c.args.index)) in
    let old = c.args.out.now in
    let opened = members-none (begin_object ∷ []) old c.begin_object.new.self (wrote _ old c.begin_object.new.self begin_object c.in_ok-begin_object.ensures) in
    let first = members-one id.0 id.1 c.begin_object.new.self c.key.new.self c.u64.new.self (wrote _ c.begin_object.new.self c.key.new.self (key id.0) c.in_ok-key.ensures)
    (whole-added c.args.id c.key.new.self c.u64.new.self c.ranges.id.fits (wrote _ c.key.new.self c.u64.new.self _ c.in_ok-u64.ensures)) in
    let second = members-one parts.0 parts.1 c.u64.new.self c.key-2.new.self c.put_parts.new.out (wrote _ c.u64.new.self c.key-2.new.self (key parts.0) c.in_ok-key-2.ensures) c.in_ok-put_parts.ensures in
    let one = members-then (begin_object ∷ []) [] (id ∷ []) old c.begin_object.new.self c.u64.new.self opened first in
    let both = members-then (begin_object ∷ []) (id ∷ []) (parts ∷ []) old c.u64.new.self c.put_parts.new.out one second in
    on-wrote c.end_object.result c.put_parts.new.out c.end_object.new.self end_object _ c.end_object.ensures (object-added (id ∷ parts ∷ []) old c.put_parts.new.out c.end_object.new.self refl both)
