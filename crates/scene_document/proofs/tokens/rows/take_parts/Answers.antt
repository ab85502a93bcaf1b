use Rattle.std.proofs.Common.{◌≡◌, map, All, Some, None, refl, sym, ap, subst, ◌∙◌, arith}
use Rattle.std.proofs.lemmas.List.Elements.{All-nil}
use Rattle.json.specs.Json.{read_key}
use Rattle.serde_json.specs.Data.{no_members, put}
use Rattle.scene_model.specs.Laws.{Ascend}
use Rattle.scene_document.specs.Drafts.{each, part_under, members_list}
use Rattle.scene_document.specs.DraftViews.{named, IsPart}
use Rattle.scene_document.specs.TokenWords.{IsKnownFrom}
use Rattle.scene_document.proofs.PairLemmas.{Past, put-last}
use Rattle.scene_document.proofs.TokenLemmas.{members-begin, members-turn, members-done, members-shorter, members-whole-put}
use Rattle.scene_document.proofs.RowLemmas.{among-at, past-below, keys-put, each-pushed, all-pushed}
use Rattle.scene_document.proofs.tokens.rows.take_parts.Goals as goal

pub take_part-requires : goal.take_part-requires
take_part-requires g c =
    let names = (g.R.DocumentRules.book c.args.rules.now).part_names in
    let k = c.in-Ok-Some.kind.now in
    let at : IsKnownFrom k names c.parts.from c.in-Some.place = subst (λ names. IsKnownFrom k names c.parts.from c.in-Some.place) c.part_names-names.ensures c.in-Some.ensures in
    among-at k names c.in-Some.place at.within at.is_name

pub parts-init : goal.parts-init
parts-init g c =
    let book = g.R.DocumentRules.book c.args.rules.now in
    let none = c.new-parts.ensures.items in (
      no_members,
      members-begin 123 c.args.reader.now,
      ap (λ parts. Some (map (named g.R.DocumentRules.part_of book.part_names) parts)) (sym none),
      subst (λ parts. All (IsPart g.R.DocumentRules.part_of book) parts) (sym none) (All-nil (IsPart g.R.DocumentRules.part_of book)),
      refl,
      tt,
    )

pub parts-preserved : goal.parts-preserved
parts-preserved g c =
    let book = g.R.DocumentRules.book c.args.rules.now in
    let names = book.part_names in
    let meaning = named g.R.DocumentRules.part_of names in
    let l = c.parts in
    let done = l.invariant.0 in
    let k = c.in-Ok-Some.kind.now in
    let s = c.next_key.new.self in
    let r = c.take_part.new.reader in
    let taken = c.in_ok-datum-in-Ok-Some.ensures.value in
    let v = taken.0 in
    let place = c.in-Some.place in
    let datum = c.in_ok-datum-in-Ok-Some.datum in
    let key : read_key l.reader ≡ Some (Some k, s) = grind arith in
    let at : IsKnownFrom k names l.from place = subst (λ names. IsKnownFrom k names l.from place) c.part_names-names.ensures c.in-Some.ensures in
    let known = among-at k names place at.within at.is_name in
    let ascend : Ascend names = g.met.R.DocumentRules.kinds_ascend c.args.rules.now in
    let past : Past k done = subst (λ name. Past name done) at.is_name (past-below names l.from place done ascend at.no_lower at.within l.invariant.5) in
    let read : book.read_part k v ≡ Some (g.R.DocumentRules.part_of datum) = taken.2 in
    let one : part_under book (k, v) ≡ Some (meaning (Some (place, datum))) = rw (known, read, at.is_name) in
    let good : IsPart g.R.DocumentRules.part_of book (Some (place, datum)) = record {
      placed = at.within;
      admitted = rw at.is_name (g.met.R.DocumentRules.reads_admitted c.args.rules.now k v (g.R.DocumentRules.part_of datum) read);
    } in
    let pushed = c.in_ok-push-in-Ok-Some.ensures.items in (
      put k v done,
      members-turn 123 _ l.reader s r done k v l.invariant.1 key taken.1 c.in_ok-datum-in-Ok-Some.ensures.shorter,
      ap (each (part_under book)) (put-last k v done past) ∙ each-pushed (part_under book) meaning (members_list done) (k, v) l.parts.items c.push.new.self.items (Some (place, datum)) pushed l.invariant.2 one,
      all-pushed (IsPart g.R.DocumentRules.part_of book) l.parts.items c.push.new.self.items (Some (place, datum)) pushed l.invariant.3 good,
      members-whole-put k v done l.invariant.4 taken.3,
      keys-put names l.from place k v done at.no_lower at.is_name past l.invariant.5,
    )

pub returns-in-Ok-None-clause-value : goal.returns-in-Ok-None-clause-value
returns-in-Ok-None-clause-value g c =
    let l = c.parts in
    let ends : read_key l.reader ≡ Some (None, c.next_key.new.self) = grind arith in (
      l.invariant.0,
      members-done 123 _ l.reader c.next_key.new.self l.invariant.0 l.invariant.1 ends,
      l.invariant.2,
      l.invariant.3,
      l.invariant.4,
    )

pub returns-in-Ok-None-clause-shorter : goal.returns-in-Ok-None-clause-shorter
returns-in-Ok-None-clause-shorter g c =
    let l = c.parts in
    let ends : read_key l.reader ≡ Some (None, c.next_key.new.self) = grind arith in
    members-shorter 123 _ l.reader c.next_key.new.self l.invariant.0 l.invariant.1 ends
