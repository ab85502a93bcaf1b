use Rattle.std.proofs.Common.{◌≡◌, ◌<◌, false, [], ◌∷◌, ◌++◌, length, map, Some, None, string_bytes, refl, sym, ap, subst, ◌∙◌, arith, rules}
use Rattle.std.proofs.lemmas.List.{map-append}
use Rattle.json.specs.Token.{Token}
use Rattle.json.specs.Json.{after_end_array, read_key}
use Rattle.json.specs.Reads.{token_of}
use Rattle.serde_json.specs.Data.{null, boolean, string, put}
use Rattle.serde_json.specs.View.{view, items_view, members_view}
use Rattle.serde_json.specs.Written.{has_float, items_have_float, members_have_float}
use Rattle.serde_json.specs.declared.value.Value.{String, Bool, Null, the_lemmas}
use Rattle.serde_json.proofs.Views.{view-Array, view-Object, members_view-insert_entry}
use Rattle.scene_document.specs.TokenWords.{ReadsAs, ReadsItems}
use Rattle.scene_document.proofs.TokenLemmas.{ItemsSoFar, MembersSoFar, NoFloats, before-values, null-read, boolean-read, string-read, number-read, array-read, object-read, items-begin, items-turn, items-done, items-shorter, items-whole, no-floats-more, members-begin, members-turn, members-done, members-shorter, members-whole-put}
use Rattle.scene_document.proofs.tokens.values.+plain.Goals as goal

pub take_value-returns-in_ok-from_str-in-String-clause-value : goal.take_value-returns-in_ok-from_str-in-String-clause-value
take_value-returns-in_ok-from_str-in-String-clause-value t c =
    let first : c.args.reader.now ≡ token_of c.in-Some.token ∷ c.next.new.self = grind arith in
    let is : c.args.reader.now ≡ Token.string c.in-String.text.now ∷ c.next.new.self = grind (arith, first) in
    let seen : view (String c.in_ok-from_str-in-String.field-0) ≡ string c.in-String.text.now = search (rules, the_lemmas) in
    subst (λ json. ReadsAs c.args.depth c.args.reader.now json c.next.new.self) (sym seen) (string-read c.args.depth c.args.reader.now c.next.new.self c.in-String.text.now is)

pub take_value-returns-in_ok-from_str-in-String-clause-whole : goal.take_value-returns-in_ok-from_str-in-String-clause-whole
take_value-returns-in_ok-from_str-in-String-clause-whole t c =
    let seen : view (String c.in_ok-from_str-in-String.field-0) ≡ string c.in-String.text.now = search (rules, the_lemmas) in
    ap has_float seen

pub take_value-returns-in-Bool-clause-value : goal.take_value-returns-in-Bool-clause-value
take_value-returns-in-Bool-clause-value t c =
    let first : c.args.reader.now ≡ token_of c.in-Some.token ∷ c.next.new.self = grind arith in
    let is : c.args.reader.now ≡ Token.boolean c.in-Bool.truth ∷ c.next.new.self = grind (arith, first) in
    let seen : view (Bool c.in-Bool.truth) ≡ boolean c.in-Bool.truth = search (rules, the_lemmas) in
    subst (λ json. ReadsAs c.args.depth c.args.reader.now json c.next.new.self) (sym seen) (boolean-read c.args.depth c.args.reader.now c.next.new.self c.in-Bool.truth is)

pub take_value-returns-in-Bool-clause-whole : goal.take_value-returns-in-Bool-clause-whole
take_value-returns-in-Bool-clause-whole t c =
    let seen : view (Bool c.in-Bool.truth) ≡ boolean c.in-Bool.truth = search (rules, the_lemmas) in
    ap has_float seen

pub take_value-returns-in-Null-clause-value : goal.take_value-returns-in-Null-clause-value
take_value-returns-in-Null-clause-value t c =
    let first : c.args.reader.now ≡ token_of c.in-Some.token ∷ c.next.new.self = grind arith in
    let is : c.args.reader.now ≡ Token.null ∷ c.next.new.self = grind (arith, first) in
    let seen : view Null ≡ null = search (rules, the_lemmas) in
    subst (λ json. ReadsAs c.args.depth c.args.reader.now json c.next.new.self) (sym seen) (null-read c.args.depth c.args.reader.now c.next.new.self is)

pub take_value-returns-in-Null-clause-whole : goal.take_value-returns-in-Null-clause-whole
take_value-returns-in-Null-clause-whole t c =
    let seen : view Null ≡ null = search (rules, the_lemmas) in
    ap has_float seen

pub take_value-returns-in-Some-whole_number-clause-value : goal.take_value-returns-in-Some-whole_number-clause-value
take_value-returns-in-Some-whole_number-clause-value t c =
    let first : c.args.reader.now ≡ token_of c.in-Some.token ∷ c.next.new.self = grind arith in
    let is : c.args.reader.now ≡ Token.number c.in-Number.text.now ∷ c.next.new.self = grind (arith, first) in
    number-read c.args.depth c.args.reader.now c.next.new.self c.in-Number.text.now (view c.in-Some-whole_number.value) is c.in-Some-whole_number.ensures.value

pub take_value-returns-in_ok-take_items-in-BeginArray-clause-value : goal.take_value-returns-in_ok-take_items-in-BeginArray-clause-value
take_value-returns-in_ok-take_items-in-BeginArray-clause-value t c =
    let first : c.args.reader.now ≡ token_of c.in-Some.token ∷ c.next.new.self = grind arith in
    let is : c.args.reader.now ≡ Token.begin_array ∷ c.next.new.self = grind (arith, first) in
    let found = c.in_ok-take_items-in-BeginArray in
    subst (λ json. ReadsAs c.args.depth c.args.reader.now json c.take_items.new.reader) (sym (view-Array found.field-0))
    (array-read c.args.depth c.args.reader.now c.next.new.self c.take_items.new.reader (items_view found.field-0.items) (omega arith) is found.ensures.value)

pub take_value-returns-in_ok-take_items-in-BeginArray-clause-whole : goal.take_value-returns-in_ok-take_items-in-BeginArray-clause-whole
take_value-returns-in_ok-take_items-in-BeginArray-clause-whole t c =
    ap has_float (view-Array c.in_ok-take_items-in-BeginArray.field-0) ∙ c.in_ok-take_items-in-BeginArray.ensures.whole

pub take_value-returns-in_ok-take_object-in-BeginObject-clause-value : goal.take_value-returns-in_ok-take_object-in-BeginObject-clause-value
take_value-returns-in_ok-take_object-in-BeginObject-clause-value t c =
    let first : c.args.reader.now ≡ token_of c.in-Some.token ∷ c.next.new.self = grind arith in
    let is : c.args.reader.now ≡ Token.begin_object ∷ c.next.new.self = grind (arith, first) in
    let found = c.in_ok-take_object-in-BeginObject in
    subst (λ json. ReadsAs c.args.depth c.args.reader.now json c.take_object.new.reader) (sym (view-Object found.field-0))
    (object-read c.args.depth c.args.reader.now c.next.new.self c.take_object.new.reader (members_view found.field-0.entries) (omega arith) is found.ensures.value)

pub take_value-returns-in_ok-take_object-in-BeginObject-clause-whole : goal.take_value-returns-in_ok-take_object-in-BeginObject-clause-whole
take_value-returns-in_ok-take_object-in-BeginObject-clause-whole t c =
    ap has_float (view-Object c.in_ok-take_object-in-BeginObject.field-0) ∙ c.in_ok-take_object-in-BeginObject.ensures.whole

pub take_items-items-init : goal.take_items-items-init
take_items-items-init t c =
    let none = sym c.new-values.ensures.items in (
      subst (λ values. ItemsSoFar c.args.depth c.args.reader.now c.args.reader.now (map view values)) none (items-begin c.args.depth c.args.reader.now),
      subst (λ values. NoFloats (map view values)) none tt,
    )

pub take_items-items-preserved : goal.take_items-items-preserved
take_items-items-preserved t c =
    let l = c.items in
    let going : (after_end_array l.reader ≡ None) × (c.take_end_array.new.self ≡ l.reader) = grind arith in
    let one = c.in_ok-value in
    let r = c.take_value.new.reader in
    let is : ReadsAs c.args.depth l.reader (view one.value) r = rw (← going.1) one.ensures.value in
    let less : length r < length l.reader = rw (← going.1) one.ensures.shorter in
    let pushed : map view l.values.items ++ view one.value ∷ [] ≡ map view c.push.new.self.items = sym (ap (map view) c.in_ok-push.ensures.items ∙ map-append view l.values.items (one.value ∷ [])) in (
      subst (ItemsSoFar c.args.depth _ r) pushed (items-turn c.args.depth _ l.reader r (map view l.values.items) (view one.value) l.invariant.0 going.0 is less),
      subst NoFloats pushed (no-floats-more (map view l.values.items) (view one.value) l.invariant.1 one.ensures.whole),
    )

pub take_items-returns-clause-value : goal.take_items-returns-clause-value
take_items-returns-clause-value t c =
    let l = c.items in
    let ends : after_end_array l.reader ≡ Some c.take_end_array.new.self = grind arith in
    subst (λ found. ReadsItems c.args.depth c.args.reader.now found c.take_end_array.new.self) (before-values l.values.items) (items-done c.args.depth _ l.reader c.take_end_array.new.self (map view l.values.items) l.invariant.0 ends)

pub take_items-returns-clause-whole : goal.take_items-returns-clause-whole
take_items-returns-clause-whole t c =
    let l = c.items in
    subst (λ found. items_have_float found ≡ false) (before-values l.values.items) (items-whole (map view l.values.items) l.invariant.1)

pub take_items-returns-clause-shorter : goal.take_items-returns-clause-shorter
take_items-returns-clause-shorter t c =
    let l = c.items in
    let ends : after_end_array l.reader ≡ Some c.take_end_array.new.self = grind arith in
    items-shorter c.args.depth _ l.reader c.take_end_array.new.self (map view l.values.items) l.invariant.0 ends

pub take_object-members-init : goal.take_object-members-init
take_object-members-init t c =
    let none = sym c.new-found.ensures.empty in (
      subst (λ entries. MembersSoFar c.args.depth c.args.reader.now c.args.reader.now (members_view entries)) none (members-begin c.args.depth c.args.reader.now),
      subst (λ entries. members_have_float (members_view entries) ≡ false) none refl,
    )

pub take_object-members-preserved : goal.take_object-members-preserved
take_object-members-preserved t c =
    let l = c.members in
    let old = members_view l.found.entries in
    let k = c.in-Ok-Some.name.now in
    let s = c.next_key.new.self in
    let r = c.take_member.new.reader in
    let named : read_key l.reader ≡ Some (Some k, s) = grind arith in
    let one = c.in_ok-take_member-in-Ok-Some.ensures in
    let json = one.value.0 in
    let inserted : put k json old ≡ members_view c.take_member.new.found.entries = sym one.value.3 in (
      subst (MembersSoFar c.args.depth _ r) inserted (members-turn c.args.depth _ l.reader s r old k json l.invariant.0 named one.value.1 one.shorter),
      subst (λ found. members_have_float found ≡ false) inserted (members-whole-put k json old l.invariant.1 one.value.2),
    )

pub take_object-returns-in-Ok-None-clause-value : goal.take_object-returns-in-Ok-None-clause-value
take_object-returns-in-Ok-None-clause-value t c =
    let l = c.members in
    let ends : read_key l.reader ≡ Some (None, c.next_key.new.self) = grind arith in
    members-done c.args.depth _ l.reader c.next_key.new.self (members_view l.found.entries) l.invariant.0 ends

pub take_object-returns-in-Ok-None-clause-shorter : goal.take_object-returns-in-Ok-None-clause-shorter
take_object-returns-in-Ok-None-clause-shorter t c =
    let l = c.members in
    let ends : read_key l.reader ≡ Some (None, c.next_key.new.self) = grind arith in
    members-shorter c.args.depth _ l.reader c.next_key.new.self (members_view l.found.entries) l.invariant.0 ends

pub take_member-returns-clause-value : goal.take_member-returns-clause-value
take_member-returns-clause-value t c =
    let k = c.args.name.now in
    let old = c.args.found.now.entries in
    let one = c.in_ok-value in
    let copied : string_bytes c.in_ok-key.key ≡ k = search rules in (
      view one.value,
      one.ensures.value,
      one.ensures.whole,
      ap members_view c.in_ok-insert.ensures.entries ∙ members_view-insert_entry old c.in_ok-key.key one.value ∙ ap (λ name. put name (view one.value) (members_view old)) copied,
    )
