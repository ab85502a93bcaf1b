use Rattle.std.proofs.Common.{◌-◌, map, length, drop, get_or, arith}
use Rattle.scene_document.proofs.IdLemmas.{drop_last, IsSetOf-insert}
use Rattle.scene_document.proofs.ids.set_of_ids.Goals as goal

pub loop-index-preserved : goal.loop-index-preserved
loop-index-preserved g c =
    let entities = c.args.entities.now in
    let item = get_or entities (c.loop-index.index - 1) c.index-entities-index.result in
    let rest = drop c.loop-index.index entities in
    rw (drop_last entities c.loop-index.index c.index-entities-index.result (omega arith) (omega arith))
    (IsSetOf-insert item.id (map (λ entity. entity.id) rest) c.loop-index.ids.keys c.insert.new.self.keys (length rest) c.in_ok-insert.field-0 c.loop-index.invariant
    c.in_ok-insert.ensures.added c.in_ok-insert.ensures.keys c.in_ok-insert.ensures.len)
