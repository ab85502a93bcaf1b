-- Columns: what a part that is taken out shows, where nobody is named, and kinds whose columns are registered one after the other.
use Rattle.std.proofs.Common.{◌≡◌, ◌<◌, ◌+◌, ◌++◌, append_assoc, take, drop, take-append-drop, get_or, length, zero, suc, arith, ℕ, Bool, true, false, cond, not, eqb, ◌&&◌, ◌||◌, inl, inr, List, [], ◌∷◌, map, Option, Some, None, Result, Ok, Err, is_some, refl, ap, sym, ◌∙◌, subst, All}
use Rattle.std.specs.Prelude.{IsSome, OnOk, OnErr, option_map, option_and_then}
use Rattle.std.specs.Option.{option_flatten, option_map_or, option_to_list}
use Rattle.std.specs.List.{list_any, filter, filter_map, cons_option}
use Rattle.std.specs.FinMap as slots
use Rattle.std.specs.FinSet as set
use Rattle.std.specs.Ordering.{nat_cmp}
use Rattle.std.specs.Str.{bytes_eq}
use Rattle.std.proofs.lemmas.Bool.{true≢false, false≢true, and_parts, or_right, eqb-true, eq-eqb}
use Rattle.std.proofs.lemmas.List.Elements.{All-head, All-tail, filter_map-append}
use Rattle.std.proofs.lemmas.List.Kept.{AllPairs-filter}
use Rattle.hibitset_sets.specs.BitSet.{SetWithRoom, has_member}
use Rattle.hibitset_sets.specs.BitSetEq.{both_ways}
use Rattle.hibitset_sets.specs.Walk.{walk}
use Rattle.hibitset_sets.proofs.CallerLemmas.{any-walk, members-walked}
use Rattle.shred_world.specs.declared.resource_id.ResourceId.{ResourceId}
use Rattle.shred_world.specs.ResourceIds.{id_of, same_id}
use Rattle.shred_world.specs.Worlds.{Slots, value_at}
use Rattle.shred_world.proofs.CallerLemmas.{ids_total, same_id-itself}
use Rattle.specs_layouts.specs.Channels.{Log, no_log}
use Rattle.specs_layouts.specs.Masked.{Masked, Agrees}
use Rattle.specs_layouts.specs.MaskedChanges.{told_taken}
use Rattle.specs_layouts.specs.Parts.{Puts, SameParts}
use Rattle.specs_layouts.specs.Shows.{Shows}
use Rattle.specs_layouts.specs.declared.track.ComponentEvent.{ComponentEvent}
use Rattle.specs_layouts.proofs.CallerLemmas.{shows-same, shows-taken}
use Rattle.scene_model.specs.Parts.{Name}
use Rattle.scene_model.specs.Scenes.{lives}
use Rattle.scene_model.proofs.CallerLemmas.{lives-ascending, in_order-ascends, same-ids, lives-kept}
use Rattle.scene_world.specs.Stored.{Stored}
use Rattle.scene_world.specs.Rolls.{Roll, index_of, ids_in}
use Rattle.scene_world.specs.Known.{known_at, ids_known_at}
use Rattle.scene_world.specs.Putting.{named_in, Registers}
use Rattle.scene_world.specs.Columns.{PlainKind, PlainGlobal, of_name, plain_columns, AreRegistered, ids_having}
use Rattle.scene_world.specs.ColumnLaws.{all_differ, are_plain, IsEntry, not-true, any-entry, numbers-turned, HasEntry, has-entry, own-entry, read-entry, numbered, apart-ids, PlainSo, plain-so}
use Rattle.scene_world.proofs.ShownLemmas.{shows-seen}
use Rattle.scene_world.proofs.RollLemmas.{lives-index, ids-ascend}
use Rattle.scene_world.proofs.KnownLemmas.{known-index, index-known, lives-found}

-- ---- a masked storage as a column

module _ {L A : Type 0} (part_at : L → ℕ → Option A) (events : L → Log ComponentEvent) (emits : L → Bool) (stored : A → Stored) where
  abbrev stored_at : Masked L → ℕ → Option Stored
  stored_at parts index = option_map stored (part_at parts.inner index)

  abbrev log : Masked L → Log ComponentEvent
  log parts = events parts.inner

  abbrev telling : Masked L → Bool
  telling parts = emits parts.inner

  -- what is shown of a part that was to be taken out
  pub taking-shown : {T E : Type 0} (before after : Masked L) (index : ℕ) (outcome : Result T E) → OnOk outcome (Puts (part_at before.inner) index None (part_at after.inner)) → OnErr outcome (SameParts (part_at before.inner) (part_at after.inner))
      → OnOk outcome (events after.inner ≡ told_taken part_at emits events before index) → OnErr outcome (events after.inner ≡ events before.inner) → emits after.inner ≡ emits before.inner → Shows stored_at log telling before after
  taking-shown {T} {E} before after index outcome puts same told silent emission =
      shows-seen part_at events emits stored_at log telling before.inner after.inner before after (λ at is. ap (option_map stored) is) refl refl refl refl (by outcome puts same told silent)
    where
      by : (outcome : Result T E) → OnOk outcome (Puts (part_at before.inner) index None (part_at after.inner)) → OnErr outcome (SameParts (part_at before.inner) (part_at after.inner))
          → OnOk outcome (events after.inner ≡ told_taken part_at emits events before index) → OnErr outcome (events after.inner ≡ events before.inner) → Shows part_at events emits before.inner after.inner
      by (Ok value) puts same told silent = shows-taken part_at events emits before.inner after.inner index (is_some (part_at before.inner index)) refl puts told emission
      by (Err error) puts same told silent = shows-same part_at events emits before.inner after.inner same silent emission

  -- under an empty mask nobody is named
  pub nobody-there : (parts : Masked L) → Agrees parts.mask (part_at parts.inner) → parts.mask.members ≡ set.empty → (index : ℕ) → named_in (stored_at parts index) ≡ []
  nobody-there parts agree none index = by (part_at parts.inner index) (sym (agree index) ∙ ap (λ members. set.contains members index) none ∙ set.contains-empty nat_cmp index)
    where
      by : (o : Option A) → is_some o ≡ false → named_in (option_map stored o) ≡ []
      by None e = refl
      by (Some part) e = absurd (true≢false e)

  -- where no part names anybody, nobody is named
  pub nobody-ever : ((part : A) → (stored part).named ≡ []) → (parts : Masked L) (index : ℕ) → named_in (stored_at parts index) ≡ []
  nobody-ever never parts index = by (part_at parts.inner index)
    where
      by : (o : Option A) → named_in (option_map stored o) ≡ []
      by None = refl
      by (Some part) = never part

-- ---- what is read under a name

module _ {V : Type 0} (Holds : (V → ℕ → Option Stored) → (V → Log ComponentEvent) → (V → Bool) → Type 0) (name : Name) where
  -- what holds of what is read under a name
  abbrev stored_of : List (PlainKind V) → V → ℕ → Option Stored
  stored_of kinds = of_name (λ kind. kind.name) (λ kind. kind.stored) (λ v index. None) kinds name

  abbrev events_of : List (PlainKind V) → V → Log ComponentEvent
  events_of kinds = of_name (λ kind. kind.name) (λ kind. kind.events) (λ v. no_log) kinds name

  abbrev emits_of : List (PlainKind V) → V → Bool
  emits_of kinds = of_name (λ kind. kind.name) (λ kind. kind.emits) (λ v. false) kinds name

  abbrev Reads : List (PlainKind V) → Type 0
  Reads kinds = Holds (stored_of kinds) (events_of kinds) (emits_of kinds)

  -- it is read of the first kind, where that has the name, and else of the others
  abbrev ReadsEither : PlainKind V → List (PlainKind V) → Bool → Type 0
  ReadsEither first others is = Holds (cond is first.stored (stored_of others)) (cond is first.events (events_of others)) (cond is first.emits (emits_of others))

  pub first-kind : (first next : PlainKind V) (more : List (PlainKind V)) → bytes_eq name first.name ≡ true → Holds first.stored first.events first.emits → Reads (first ∷ next ∷ more)
  first-kind first next more is holds = subst (ReadsEither first (next ∷ more)) (sym is) holds

  pub next-kind : (first next : PlainKind V) (more : List (PlainKind V)) → bytes_eq name first.name ≡ false → Reads (next ∷ more) → Reads (first ∷ next ∷ more)
  next-kind first next more is holds = subst (ReadsEither first (next ∷ more)) (sym is) holds

-- ---- columns that are registered

module _ {V : Type 0} where
  abbrev name_of : PlainKind V → Name
  name_of kind = kind.name

  abbrev number_of : PlainKind V → ℕ
  number_of kind = kind.number

  -- elsewhere stands what stood there
  elsewhere : (kinds : List (PlainKind V)) (w later : Slots V) → AreRegistered kinds w later → (id : ResourceId) → ((kind : PlainKind V) → IsEntry kind kinds → same_id id (id_of kind.number 0) ≡ false) → slots.get later id ≡ slots.get w id
  elsewhere [] w later are id apart = ap (λ m. slots.get m id) are
  elsewhere (kind ∷ kinds) w later (middle, stands, rest) id apart =
      elsewhere kinds middle later rest id (λ other is. apart other (inr is))
      ∙ ap (λ m. slots.get m id) stands.put ∙ slots.get-insert ids_total w (id_of kind.number 0) (Some stands.value) id ∙ ap (λ b. cond b (Some (Some stands.value)) (slots.get w id)) (apart kind (inl refl))

  -- under a kind's number a value stands that stores nothing
  record IsBare (kind : PlainKind V) (later : Slots V) : Type 0 where
    value : V
    none : (index : ℕ) → kind.stored value index ≡ None
    there : slots.get later (id_of kind.number 0) ≡ Some (Some value)

  bare : (kinds : List (PlainKind V)) (w later : Slots V) → all_differ eqb (map number_of kinds) ≡ true → AreRegistered kinds w later → (kind : PlainKind V) → IsEntry kind kinds → IsBare kind later
  bare [] w later differ are kind is = absurd is
  bare (first ∷ kinds) w later differ (middle, stands, rest) kind (inl here) = subst (λ one. IsBare one later) here (record {
    value = stands.value;
    none = stands.none;
    there = elsewhere kinds middle later rest (id_of first.number 0) (λ other is. apart-ids first.number 0 other.number 0 (off other is (eqb first.number other.number) refl))
        ∙ ap (λ m. slots.get m (id_of first.number 0)) stands.put ∙ slots.get-insert ids_total w (id_of first.number 0) (Some stands.value) (id_of first.number 0)
        ∙ ap (λ b. cond b (Some (Some stands.value)) (slots.get w (id_of first.number 0))) (same_id-itself (id_of first.number 0));
  })
    where
      off : (other : PlainKind V) → IsEntry other kinds → (b : Bool) → eqb first.number other.number ≡ b → eqb first.number other.number ≡ false
      off other is true e = absurd (not-true (list_any (eqb first.number) (map number_of kinds)) (and_parts (not (list_any (eqb first.number) (map number_of kinds))) (all_differ eqb (map number_of kinds)) differ).0
          (any-entry eqb numbers-turned number_of first.number other kinds is e))
      off other is false e = e
  bare (first ∷ kinds) w later differ (middle, stands, rest) kind (inr there) =
      bare kinds middle later (and_parts (not (list_any (eqb first.number) (map number_of kinds))) (all_differ eqb (map number_of kinds)) differ).1 rest kind there

  -- so all of them are registered
  pub plain-registers : (owning : Name → Bool) (kinds : List (PlainKind V)) (globals : List (PlainGlobal V)) (w later : Slots V) → are_plain kinds globals ≡ true → AreRegistered kinds w later → Registers (plain_columns owning kinds globals) w later
  plain-registers owning kinds globals w later plain are = record {
    there = λ kind known.
        let e = has-entry name_of kinds kind known in
        let one = at e in
        subst (λ n. IsSome (value_at later (id_of n 0))) (sym (numbered name_of number_of kinds kind e)) (subst (λ o. IsSome (option_flatten o)) (sym one.there) refl);
    empty = λ kind v known there index.
        let e = has-entry name_of kinds kind known in
        let one = at e in
        let found : value_at later (id_of e.entry.number 0) ≡ Some v = ap (λ n. value_at later (id_of n 0)) (sym (numbered name_of number_of kinds kind e)) ∙ there in
        let both : Some one.value ≡ Some v = sym (ap option_flatten one.there) ∙ found in
        let same : one.value ≡ v = cc in
        ap (λ stored. stored v index) (read-entry name_of (λ (k : PlainKind V). k.stored) (λ v index. None) kinds kind ∙ ap (λ o. option_map_or (λ (k : PlainKind V). k.stored) o (λ v index. None)) e.found)
        ∙ subst (λ x. e.entry.stored x index ≡ None) same (one.none index);
    others = λ id apart. elsewhere kinds w later are id (λ kind is.
        let own = own-entry name_of kind kinds all_plain.names is in
        subst (λ n. same_id id (id_of n 0) ≡ false) (read-entry name_of number_of 0 kinds kind.name ∙ ap (λ o. option_map_or number_of o 0) own.1) (apart kind.name own.0));
  }
    where
      all_plain : PlainSo kinds globals
      all_plain = plain-so kinds globals plain

      at : {name : Name} → (e : HasEntry name_of kinds name) → IsBare e.entry later
      at e = bare kinds w later all_plain.kind_numbers are e.entry e.is

-- ---- who has a part

-- what is among numbers all of which pass passes
among-passes : (test : ℕ → Bool) (index : ℕ) (xs : List ℕ) → All (λ one. test one ≡ true) xs → list_any (eqb index) xs ≡ true → test index ≡ true
among-passes test index [] all e = absurd (false≢true e)
among-passes test index (first ∷ xs) all e = by (eqb index first) refl e (among-passes test index xs (All-tail (λ one. test one ≡ true) first xs all))
  where
    by : (b : Bool) → eqb index first ≡ b → (b || list_any (eqb index) xs) ≡ true → (list_any (eqb index) xs ≡ true → test index ≡ true) → test index ≡ true
    by true same f later = ap test (eqb-true index first same) ∙ All-head (λ one. test one ≡ true) first xs all
    by false differ f later = later f

-- the members of a mask are the indices with a part
pub members-with : {A : Type 0} (stored : A → Stored) (mask : SetWithRoom) (parts : ℕ → Option A) → Agrees mask parts → ((index : ℕ) → set.contains mask.members index ≡ true → index < 16777216)
    → (index : ℕ) → list_any (eqb index) (walk (has_member mask)) ≡ is_some (option_map stored (parts index))
members-with {A} stored mask parts agree range index = by (parts index) (agree index) (among-passes (has_member mask) index (walk (has_member mask)) (members-walked (has_member mask)))
  where
    off : (b : Bool) → list_any (eqb index) (walk (has_member mask)) ≡ b → has_member mask index ≡ false → (list_any (eqb index) (walk (has_member mask)) ≡ true → has_member mask index ≡ true) → list_any (eqb index) (walk (has_member mask)) ≡ false
    off true e out member = absurd (true≢false (sym (member e) ∙ out))
    off false e out member = e

    by : (o : Option A) → set.contains mask.members index ≡ is_some o → (list_any (eqb index) (walk (has_member mask)) ≡ true → has_member mask index ≡ true) → list_any (eqb index) (walk (has_member mask)) ≡ is_some (option_map stored o)
    by (Some part) member passes = any-walk (has_member mask) index (range index member) member
    by None out passes = off (list_any (eqb index) (walk (has_member mask))) refl out passes

module _ (roll : Roll) where
  -- an id that is known at one of some indices has one of them
  found-at : (id : ℕ) (indices : List ℕ) → lives id (filter_map (known_at roll) indices) ≡ true → (index : ℕ) × (index_of roll id ≡ Some index) × (list_any (eqb index) indices ≡ true)
  found-at id [] e = absurd (false≢true e)
  found-at id (first ∷ indices) e = by (known_at roll first) refl e (found-at id indices)
    where
      behind : (index : ℕ) × (index_of roll id ≡ Some index) × (list_any (eqb index) indices ≡ true) → (index : ℕ) × (index_of roll id ≡ Some index) × (list_any (eqb index) (first ∷ indices) ≡ true)
      behind (index, is, there) = (index, is, or_right (eqb index first) (list_any (eqb index) indices) there)

      at : (m : ℕ) → known_at roll first ≡ Some m → (b : Bool) → eqb m id ≡ b → (b || lives id (filter_map (known_at roll) indices)) ≡ true
          → (lives id (filter_map (known_at roll) indices) ≡ true → (index : ℕ) × (index_of roll id ≡ Some index) × (list_any (eqb index) indices ≡ true))
          → (index : ℕ) × (index_of roll id ≡ Some index) × (list_any (eqb index) (first ∷ indices) ≡ true)
      at m known true same f later = (first, known-index roll first id (known ∙ ap Some (eqb-true m id same)), ap (λ b. b || list_any (eqb first) indices) (eq-eqb first first refl))
      at m known false differ f later = behind (later f)

      by : (o : Option ℕ) → known_at roll first ≡ o → lives id (cons_option o (filter_map (known_at roll) indices)) ≡ true
          → (lives id (filter_map (known_at roll) indices) ≡ true → (index : ℕ) × (index_of roll id ≡ Some index) × (list_any (eqb index) indices ≡ true))
          → (index : ℕ) × (index_of roll id ≡ Some index) × (list_any (eqb index) (first ∷ indices) ≡ true)
      by None known f later = behind (later f)
      by (Some m) known f later = at m known (eqb m id) refl f later

  -- the ids that are known at the indices of a column's parts are those that have one
  pub having-found : (column : ℕ → Option Stored) (indices : List ℕ) → ((index : ℕ) → list_any (eqb index) indices ≡ is_some (column index)) → ids_known_at roll indices ≡ ids_having roll column
  having-found column indices are =
      same-ids (ids_known_at roll indices) (ids_having roll column) (in_order-ascends (filter_map (known_at roll) indices)) (AllPairs-filter (λ one other. one < other) (λ id. is_some (option_and_then column (index_of roll id))) (ids_in roll) (ids-ascend roll))
      (λ id. lives-ascending id (filter_map (known_at roll) indices)
      ∙ both_ways (lives id (filter_map (known_at roll) indices)) (lives id (ids_having roll column))
      (λ e. let one = found-at id indices e in
      lives-kept (λ id. is_some (option_and_then column (index_of roll id))) id (ids_in roll)
      ∙ ap (λ b. b && is_some (option_and_then column (index_of roll id))) (lives-index roll id ∙ ap is_some one.1)
      ∙ ap (λ o. is_some (option_and_then column o)) one.1 ∙ sym (are one.0) ∙ one.2)
      (λ e. let both = and_parts (lives id (ids_in roll)) (is_some (option_and_then column (index_of roll id))) (sym (lives-kept (λ id. is_some (option_and_then column (index_of roll id))) id (ids_in roll)) ∙ e) in
      there id (index_of roll id) refl both.1))
    where
      there : (id : ℕ) (o : Option ℕ) → index_of roll id ≡ o → is_some (option_and_then column o) ≡ true → lives id (filter_map (known_at roll) indices) ≡ true
      there id None is e = absurd (false≢true e)
      there id (Some index) is e = lives-found roll id index (index-known roll index id is) indices (are index ∙ e)

  -- where nothing is stored nobody has a part
  pub having-none : (column : ℕ → Option Stored) → ((index : ℕ) → column index ≡ None) → ids_having roll column ≡ []
  having-none column none = all (ids_in roll)
    where
      off : (o : Option ℕ) → is_some (option_and_then column o) ≡ false
      off None = refl
      off (Some index) = ap is_some (none index)

      all : (ids : List ℕ) → filter (λ id. is_some (option_and_then column (index_of roll id))) ids ≡ []
      all [] = refl
      all (id ∷ ids) = ap (λ b. cond b (id ∷ filter (λ id. is_some (option_and_then column (index_of roll id))) ids) (filter (λ id. is_some (option_and_then column (index_of roll id))) ids)) (off (index_of roll id)) ∙ all ids

-- where each id that gives something passes, those that pass give what all give
pub given-kept : {X : Type 0} (f : ℕ → Option X) (test : ℕ → Bool) (ids : List ℕ) → ((id : ℕ) → IsSome (f id) → test id ≡ true) → filter_map f (filter test ids) ≡ filter_map f ids
given-kept f test [] passes = refl
given-kept {X} f test (id ∷ ids) passes = by (test id) refl (f id) refl (given-kept f test ids passes)
  where
    by : (b : Bool) → test id ≡ b → (o : Option X) → f id ≡ o → filter_map f (filter test ids) ≡ filter_map f ids → filter_map f (cond b (id ∷ filter test ids) (filter test ids)) ≡ cons_option (f id) (filter_map f ids)
    by true is o at later = ap (cons_option (f id)) later
    by false is None at later = later ∙ ap (λ o. cons_option o (filter_map f ids)) (sym at)
    by false is (Some x) at later = absurd (false≢true (sym is ∙ passes id (ap is_some at)))

-- ---- what is given by one id after the other

module _ {X : Type 0} (f : ℕ → Option X) where
  cons-append : (o : Option X) (xs ys : List X) → cons_option o (xs ++ ys) ≡ cons_option o xs ++ ys
  cons-append None xs ys = refl
  cons-append (Some x) xs ys = refl

  cons-alone : (o : Option X) → cons_option o [] ≡ option_to_list o
  cons-alone None = refl
  cons-alone (Some x) = refl

  next : (ids : List ℕ) (place : ℕ) → place < length ids → filter_map f (take (suc place) ids) ≡ filter_map f (take place ids) ++ option_to_list (f (get_or ids place 0))
  next [] place within = absurd (omega arith)
  next (id ∷ ids) zero within = cons-alone (f id)
  next (id ∷ ids) (suc place) within = ap (cons_option (f id)) (next ids place (omega arith)) ∙ cons-append (f id) (filter_map f (take place ids)) (option_to_list (f (get_or ids place 0)))

  -- one id more: what it gives stands behind what those before it gave
  pub given-next : (ids : List ℕ) (place : ℕ) → place < length ids → filter_map f (take (place + 1) ids) ≡ filter_map f (take place ids) ++ option_to_list (f (get_or ids place 0))
  given-next ids place within = let more : place + 1 ≡ suc place = omega arith in ap (λ n. filter_map f (take n ids)) more ∙ next ids place within

  -- where an id gives something, all is what those before it gave, that, and the rest
  pub given-all : (ids : List ℕ) (place : ℕ) (one : X) → place < length ids → f (get_or ids place 0) ≡ Some one → filter_map f ids ≡ filter_map f (take place ids) ++ one ∷ filter_map f (drop (suc place) ids)
  given-all ids place one within gives =
      ap (filter_map f) (sym (take-append-drop (suc place) ids)) ∙ filter_map-append f (take (suc place) ids) (drop (suc place) ids)
      ∙ ap (λ front. front ++ filter_map f (drop (suc place) ids)) (next ids place within ∙ ap (λ o. filter_map f (take place ids) ++ option_to_list o) gives)
      ∙ append_assoc (filter_map f (take place ids)) (one ∷ []) (filter_map f (drop (suc place) ids))
