use Rattle.std.proofs.Common.{◌≡◌, ◌<◌, [], ◌∷◌, ◌++◌, length, map, All, Some, None, sym, ap, subst, ◌∙◌, arith}
use Rattle.std.proofs.lemmas.List.Elements.{All-nil}
use Rattle.json.specs.Json.{after_end_array}
use Rattle.serde_json.specs.Data.{no_items}
use Rattle.scene_document.specs.Drafts.{each, entity_from}
use Rattle.scene_document.specs.DraftViews.{plain_entity, IsEntity}
use Rattle.scene_document.specs.TokenWords.{ReadsAs}
use Rattle.scene_document.proofs.TokenLemmas.{before, items_list-before, items-begin, items-turn, items-done, items-shorter, items-whole, no-floats-more}
use Rattle.scene_document.proofs.RowLemmas.{each-pushed, all-pushed}
use Rattle.scene_document.proofs.tokens.rows.take_entities.Goals as goal

pub entities-init : goal.entities-init
entities-init g c =
    let book = g.R.DocumentRules.book c.args.rules.now in
    let none = c.new-entities.ensures.items in (
      [],
      items-begin 125 c.args.reader.now,
      ap (λ entities. Some (map (plain_entity g.R.DocumentRules.part_of book.part_names) entities)) (sym none),
      subst (λ entities. All (IsEntity g.R.DocumentRules.part_of book) entities) (sym none) (All-nil (IsEntity g.R.DocumentRules.part_of book)),
      tt,
    )

pub entities-preserved : goal.entities-preserved
entities-preserved g c =
    let book = g.R.DocumentRules.book c.args.rules.now in
    let plain = plain_entity g.R.DocumentRules.part_of book.part_names in
    let l = c.entities in
    let done = l.invariant.0 in
    let going : (after_end_array l.reader ≡ None) × (c.take_end_array.new.self ≡ l.reader) = grind arith in
    let e = c.in_ok-entity.entity in
    let read = c.in_ok-entity.ensures.value in
    let r = c.take_entity.new.reader in
    let less : length r < length l.reader = rw (← going.1) c.in_ok-entity.ensures.shorter in
    let is : ReadsAs 125 l.reader read.0 r = rw (← going.1) read.1 in
    let pushed = c.in_ok-push.ensures.items in (
      done ++ read.0 ∷ [],
      items-turn 125 _ l.reader r done read.0 l.invariant.1 going.0 is less,
      each-pushed (entity_from book) plain done read.0 l.entities.items c.push.new.self.items e pushed l.invariant.2 read.2,
      all-pushed (IsEntity g.R.DocumentRules.part_of book) l.entities.items c.push.new.self.items e pushed l.invariant.3 read.3,
      no-floats-more done read.0 l.invariant.4 read.4,
    )

pub returns-clause-value : goal.returns-clause-value
returns-clause-value g c =
    let book = g.R.DocumentRules.book c.args.rules.now in
    let l = c.entities in
    let done = l.invariant.0 in
    let ends : after_end_array l.reader ≡ Some c.take_end_array.new.self = grind arith in (
      before done no_items,
      items-done 125 _ l.reader c.take_end_array.new.self done l.invariant.1 ends,
      ap (each (entity_from book)) (items_list-before done) ∙ l.invariant.2,
      l.invariant.3,
      items-whole done l.invariant.4,
    )

pub returns-clause-shorter : goal.returns-clause-shorter
returns-clause-shorter g c =
    let l = c.entities in
    let ends : after_end_array l.reader ≡ Some c.take_end_array.new.self = grind arith in
    items-shorter 125 _ l.reader c.take_end_array.new.self l.invariant.0 l.invariant.1 ends
