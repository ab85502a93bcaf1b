use Rattle.std.proofs.Common.{rules, ◌≡◌, ◌<◌, true, false, codes, length, suc, ◌∷◌, Some, None, string_bytes, refl, sym, ap, subst, ◌∙◌, arith}
use Rattle.std.proofs.lemmas.Slice.Eq.{bytes_eq-Decides}
use Rattle.std.specs.Str.{bytes_eq}
use Rattle.json.specs.Token.{Token}
use Rattle.json.specs.Json.{read_key}
use Rattle.serde_json.specs.Data.{null, array, object, put}
use Rattle.serde_json.specs.Find.{get_member}
use Rattle.serde_json.specs.View.{view, members_view}
use Rattle.serde_json.specs.Written.{members_have_float}
use Rattle.serde_json.specs.declared.value.Value.{Null, the_lemmas}
use Rattle.serde_json.proofs.Views.{members_view-insert_entry, view-Object, get_member-put, get_member-put_other}
use Rattle.scene_model.specs.Parts.{Json}
use Rattle.scene_document.specs.Apart.{with_other, IsApart}
use Rattle.scene_document.specs.TokenWords.{ReadsAs}
use Rattle.scene_document.proofs.TokenLemmas.{MembersSoFar, members-begin, members-turn, members-done, members-whole-put, array-read}
use Rattle.scene_document.proofs.ApartLemmas.{HasNot, with_other-put, with_other-here, with_other-whole, has-not-put, names-apart}
use Rattle.scene_document.proofs.tokens.take_members.Goals as goal

pub first-init : goal.first-init
first-init g c =
    let none = sym c.new-found.ensures.empty in (
      subst (λ entries. MembersSoFar 126 c.args.reader.now c.args.reader.now (members_view entries)) none (members-begin 126 c.args.reader.now),
      subst (λ entries. HasNot (codes "entities") (members_view entries)) none tt,
      subst (λ entries. members_have_float (members_view entries) ≡ false) none refl,
    )

pub first-preserved : goal.first-preserved
first-preserved g c =
    let l = c.first in
    let old = members_view l.found.entries in
    let k = c.in-Ok-Some.name.now in
    let s = c.next_key.new.self in
    let r = c.take_member.new.reader in
    let one = c.in_ok-take_member.ensures in
    let json = one.value.0 in
    let named : read_key l.reader ≡ Some (Some k, s) = grind arith in
    let other : bytes_eq k (codes "entities") ≡ false = grind arith in
    let inserted : put k json old ≡ members_view c.take_member.new.found.entries = sym one.value.3 in (
      subst (MembersSoFar 126 _ r) inserted (members-turn 126 _ l.reader s r old k json l.invariant.0 named one.value.1 one.shorter),
      subst (HasNot (codes "entities")) inserted (has-not-put (codes "entities") k json old other l.invariant.1),
      subst (λ all. members_have_float all ≡ false) inserted (members-whole-put k json old l.invariant.2 one.value.2),
    )

pub rest-init : goal.rest-init
rest-init g c =
    let l = c.first in
    let old = members_view l.found.entries in
    let k = c.in-Ok-Some.name.now in
    let s = c.next_key.new.self in
    let t = c.next.new.self in
    let r = c.take_entities.new.reader in
    let found = c.in_ok-entities.ensures.value in
    let items = found.0 in
    let same : bytes_eq k (codes "entities") ≡ true = grind arith in
    let is : k ≡ codes "entities" = (bytes_eq-Decides k (codes "entities")).0 same in
    let key : read_key l.reader ≡ Some (Some k, s) = grind arith in
    let named : read_key l.reader ≡ Some (Some (codes "entities"), s) = key ∙ ap (λ name. Some (Some name, s)) is in
    let opens : s ≡ Token.begin_array ∷ t = grind arith in
    let longer : length s ≡ suc (length t) = ap length opens in
    let less : length r < length s = omega (arith, c.in_ok-entities.ensures.shorter, longer) in
    let inner : ReadsAs 126 s (array items) r = array-read 126 s t r items (omega arith) opens found.1 in
    let seen : view Null ≡ null = search (rules, the_lemmas) in
    let copied : string_bytes c.in_ok-here.here ≡ codes "entities" = search rules in
    let inserted : put (codes "entities") null old ≡ members_view c.insert.new.self.entries =
    sym (ap members_view c.in_ok-insert.ensures.entries ∙ members_view-insert_entry l.found.entries c.in_ok-here.here Null ∙ ap (λ name. put name (view Null) old) copied ∙ ap (λ json. put (codes "entities") json old) seen) in (
      items,
      subst (MembersSoFar 126 _ r) (with_other-here (codes "entities") (array items) old l.invariant.1 ∙ ap (with_other (codes "entities") (array items)) inserted)
          (members-turn 126 _ l.reader s r old (codes "entities") (array items) l.invariant.0 named inner less),
      subst (λ all. get_member (codes "entities") all ≡ Some null) inserted (get_member-put (codes "entities") null old),
      found.2,
      found.3,
      found.4,
      subst (λ all. members_have_float all ≡ false) inserted (members-whole-put (codes "entities") null old l.invariant.2 refl),
    )

pub rest-preserved : goal.rest-preserved
rest-preserved g c =
    let l = c.rest in
    let items = l.invariant.0 in
    let old = members_view l.found.entries in
    let apart = with_other (codes "entities") (array items) in
    let k = c.in-Ok-Some-next_key.name.now in
    let s = c.next_key-in-rest.new.self in
    let r = c.take_member-in-Ok-Some-next_key.new.reader in
    let one = c.in_ok-take_member-in-Ok-Some-next_key.ensures in
    let json = one.value.0 in
    let named : read_key l.reader ≡ Some (Some k, s) = grind arith in
    let other : bytes_eq k (codes "entities") ≡ false = grind arith in
    let inserted : put k json old ≡ members_view c.take_member-in-Ok-Some-next_key.new.found.entries = sym one.value.3 in (
      items,
      subst (MembersSoFar 126 _ r) (with_other-put (codes "entities") k (array items) json old other ∙ ap apart inserted) (members-turn 126 _ l.reader s r (apart old) k json l.invariant.1 named one.value.1 one.shorter),
      subst (λ all. get_member (codes "entities") all ≡ Some null) inserted (get_member-put_other (codes "entities") k json old (names-apart (codes "entities") k other) ∙ l.invariant.2),
      l.invariant.3,
      l.invariant.4,
      l.invariant.5,
      subst (λ all. members_have_float all ≡ false) inserted (members-whole-put k json old l.invariant.6 one.value.2),
    )

pub returns-in-Ok-None : goal.returns-in-Ok-None
returns-in-Ok-None g c =
    let l = c.rest in
    let book = g.R.DocumentRules.book c.args.rules.now in
    let items = l.invariant.0 in
    let old = members_view l.found.entries in
    let members = with_other (codes "entities") (array items) old in
    let ends : read_key l.reader ≡ Some (None, c.next_key-in-rest.new.self) = grind arith in (
      members,
      members-done 126 _ l.reader c.next_key-in-rest.new.self members l.invariant.1 ends,
      subst (λ (rest : Json). IsApart g.R.DocumentRules.part_of book (object members) rest c.in_ok-entities.entities.items) (sym (view-Object l.found)) (record {
        items = items;
        same = refl;
        stands = l.invariant.2;
        read = l.invariant.3;
        known = l.invariant.4;
        whole = with_other-whole (codes "entities") (array items) old l.invariant.5 l.invariant.6;
      }),
    )
