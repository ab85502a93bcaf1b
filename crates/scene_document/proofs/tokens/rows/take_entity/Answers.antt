use Rattle.std.proofs.Common.{◌≡◌, ◌∷◌, map, Some, None, arith}
use Rattle.json.specs.Token.{Token}
use Rattle.json.specs.Json.{read_key}
use Rattle.scene_document.specs.DraftViews.{named}
use Rattle.scene_document.proofs.RowLemmas.{entity_with, entity-read, entity-is, entity-whole}
use Rattle.scene_document.proofs.tokens.rows.take_entity.Goals as goal

pub returns-in-Ok-None-clause-value : goal.returns-in-Ok-None-clause-value
returns-in-Ok-None-clause-value g c =
    let book = g.R.DocumentRules.book c.args.rules.now in
    let id = c.in_ok-id.id in
    let parts = c.in_ok-parts.ensures.value in
    let list = map (named g.R.DocumentRules.part_of book.part_names) c.in_ok-parts.parts.items in
    let opens : c.args.reader.now ≡ Token.begin_object ∷ c.next.new.self = grind arith in
    let opens_again : c.take_key-2.new.reader ≡ Token.begin_object ∷ c.next-2.new.self = grind arith in
    let ends : read_key c.take_parts.new.reader ≡ Some (None, c.next_key.new.self) = grind arith in (
      entity_with id parts.0,
      entity-read c.args.reader.now c.next.new.self c.take_key.new.reader c.take_id.new.reader c.take_key-2.new.reader c.next-2.new.self c.take_parts.new.reader c.next_key.new.self id parts.0
          opens c.in_ok-take_key.ensures c.in_ok-id.ensures.value c.in_ok-id.ensures.shorter c.in_ok-take_key-2.ensures opens_again parts.1 c.in_ok-parts.ensures.shorter ends,
      entity-is book id parts.0 list parts.2,
      parts.3,
      entity-whole id parts.0 parts.4,
    )
