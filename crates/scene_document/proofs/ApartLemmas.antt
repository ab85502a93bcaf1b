-- Lemmas on members in which the value under one key is another.
use Rattle.std.proofs.Common.{◌≡◌, ◌||◌, ◌&&◌, Bool, true, false, cond, List, Some, Ordering, Less, Equal, Greater, refl, sym, ap, ◌∙◌, codes, Option, None, subst}
use Rattle.std.proofs.lemmas.Map.Text.{is_eq-slice_cmp}
use Rattle.std.proofs.lemmas.Slice.Eq.{bytes_eq-Decides}
use Rattle.std.specs.Ordering.{nat_cmp, match_ordering, is_eq}
use Rattle.std.specs.Cmp.Lexicographic.{slice_cmp}
use Rattle.std.specs.Str.{bytes_eq}
use Rattle.serde_json.specs.Data.{null, boolean, number, string, array, object, Items, Members, no_members, member, put}
use Rattle.serde_json.specs.Find.{get, get_member, as_object}
use Rattle.serde_json.specs.Written.{has_float, members_have_float}
use Rattle.scene_model.specs.Parts.{Json, Name, Part, is_among}
use Rattle.scene_model.specs.Rulebook.{Book}
use Rattle.scene_document.specs.declared.draft.EntityDraft.{EntityDraft}
use Rattle.scene_document.specs.Drafts.{members_list, keys_within, document_keys, draft_from}
use Rattle.scene_document.specs.Apart.{with_other, with_entities, IsApart}
use Rattle.scene_document.specs.ShapeWords.{draft_around, AreRead}
use Rattle.scene_document.proofs.ShapeLemmas.{draft_from-in}

-- no key is this one
abbrev pub HasNot : Name → Members → Type 0
HasNot name no_members = Unit {0}
HasNot name (member key held members) = (bytes_eq key name ≡ false) × HasNot name members

-- nothing is another where nothing stands under the key
with_other-none : (name : Name) (json : Json) (members : Members) → HasNot name members → with_other name json members ≡ members
with_other-none name json no_members none = refl
with_other-none name json (member key held members) none = rw none.0 (ap (member key held) (with_other-none name json members none.1))

-- a member under another key goes in alike
pub with_other-put : (name key : Name) (json one : Json) (members : Members) → bytes_eq key name ≡ false → put key one (with_other name json members) ≡ with_other name json (put key one members)
with_other-put name key json one no_members other = rw other
with_other-put name key json one (member first held members) other = step (with_other-put name key json one members other) (slice_cmp nat_cmp key first) refl
  where
    step : put key one (with_other name json members) ≡ with_other name json (put key one members) → (o : Ordering) → slice_cmp nat_cmp key first ≡ o
        → match_ordering o (member key one (with_other name json (member first held members))) (member first one (with_other name json members)) (member first (cond (bytes_eq first name) json held) (put key one (with_other name json members)))
        ≡ with_other name json (match_ordering o (member key one (member first held members)) (member first one members) (member first held (put key one members)))
    step later Less e = rw other
    step later Equal e =
        let same : key ≡ first = (bytes_eq-Decides key first).0 (sym (is_eq-slice_cmp key first) ∙ ap is_eq e) in
        let apart : bytes_eq first name ≡ false = ap (λ k. bytes_eq k name) (sym same) ∙ other in
        rw apart
    step later Greater e = ap (member first (cond (bytes_eq first name) json held)) later

-- the value goes in as the other in place of null
pub with_other-here : (name : Name) (json : Json) (members : Members) → HasNot name members → put name json members ≡ with_other name json (put name null members)
with_other-here name json no_members none = rw ((bytes_eq-Decides name name).1 refl)
with_other-here name json (member first held members) none = step (with_other-here name json members none.1) (slice_cmp nat_cmp name first) refl
  where
    step : put name json members ≡ with_other name json (put name null members) → (o : Ordering) → slice_cmp nat_cmp name first ≡ o
        → match_ordering o (member name json (member first held members)) (member first json members) (member first held (put name json members))
        ≡ with_other name json (match_ordering o (member name null (member first held members)) (member first null members) (member first held (put name null members)))
    step later Less e = rw ((bytes_eq-Decides name name).1 refl, none.0) (ap (λ all. member name json (member first held all)) (sym (with_other-none name json members none.1)))
    step later Equal e =
        let same : name ≡ first = (bytes_eq-Decides name first).0 (sym (is_eq-slice_cmp name first) ∙ ap is_eq e) in
        let apart : bytes_eq first name ≡ true = (bytes_eq-Decides first name).1 (sym same) in
        rw apart (ap (member first json) (sym (with_other-none name json members none.1)))
    step later Greater e = rw none.0 (ap (member first held) later)

-- the key stays away where a member under another key goes in
pub has-not-put : (name key : Name) (one : Json) (members : Members) → bytes_eq key name ≡ false → HasNot name members → HasNot name (put key one members)
has-not-put name key one no_members other none = (other, tt)
has-not-put name key one (member first held members) other none = step (has-not-put name key one members other none.1) (slice_cmp nat_cmp key first)
  where
    step : HasNot name (put key one members) → (o : Ordering) → HasNot name (match_ordering o (member key one (member first held members)) (member first one members) (member first held (put key one members)))
    step later Less = (other, none)
    step later Equal = none
    step later Greater = (none.0, later)

-- no float comes in with another that has none
pub with_other-whole : (name : Name) (json : Json) (members : Members) → has_float json ≡ false → members_have_float members ≡ false → members_have_float (with_other name json members) ≡ false
with_other-whole name json no_members one all = refl
with_other-whole name json (member key held members) one all = step (λ rest. with_other-whole name json members one rest) (bytes_eq key name) (has_float held) refl all
  where
    step : (members_have_float members ≡ false → members_have_float (with_other name json members) ≡ false) → (b f : Bool) → has_float held ≡ f → f || members_have_float members ≡ false → has_float (cond b json held) || members_have_float (with_other name json members) ≡ false
    step go true true e h = absurd cc
    step go true false e h = rw one (go h)
    step go false true e h = absurd cc
    step go false false e h = rw e (go h)

-- what stands under another key is what stood there
pub get-with_other : (name key : Name) (json : Json) (members : Members) → bytes_eq key name ≡ false → get_member key (with_other name json members) ≡ get_member key members
get-with_other name key json no_members other = refl
get-with_other name key json (member first held members) other = step (get-with_other name key json members other) (slice_cmp nat_cmp key first) refl
  where
    step : get_member key (with_other name json members) ≡ get_member key members → (o : Ordering) → slice_cmp nat_cmp key first ≡ o
        → match_ordering o (get_member key (with_other name json members)) (Some (cond (bytes_eq first name) json held)) (get_member key (with_other name json members)) ≡ match_ordering o (get_member key members) (Some held) (get_member key members)
    step later Less e = later
    step later Equal e =
        let same : key ≡ first = (bytes_eq-Decides key first).0 (sym (is_eq-slice_cmp key first) ∙ ap is_eq e) in
        let apart : bytes_eq first name ≡ false = ap (λ k. bytes_eq k name) (sym same) ∙ other in
        rw apart
    step later Greater e = later

-- under the key stands the other, where something stood
pub get-here : (name : Name) (json held : Json) (members : Members) → get_member name members ≡ Some held → get_member name (with_other name json members) ≡ Some json
get-here name json held no_members there = absurd (cc)
get-here name json held (member first one members) there = step (λ rest. get-here name json held members rest) (slice_cmp nat_cmp name first) refl there
  where
    step : (get_member name members ≡ Some held → get_member name (with_other name json members) ≡ Some json) → (o : Ordering) → slice_cmp nat_cmp name first ≡ o → match_ordering o (get_member name members) (Some one) (get_member name members) ≡ Some held
        → match_ordering o (get_member name (with_other name json members)) (Some (cond (bytes_eq first name) json one)) (get_member name (with_other name json members)) ≡ Some json
    step go Less e is = go is
    step go Equal e is =
        let same : name ≡ first = (bytes_eq-Decides name first).0 (sym (is_eq-slice_cmp name first) ∙ ap is_eq e) in
        let apart : bytes_eq first name ≡ true = (bytes_eq-Decides first name).1 (sym same) in
        rw apart
    step go Greater e is = go is

-- the keys are the same
pub keys-with_other : (keys : List Name) (name : Name) (json : Json) (members : Members) → keys_within keys (members_list (with_other name json members)) ≡ keys_within keys (members_list members)
keys-with_other keys name json no_members = refl
keys-with_other keys name json (member key held members) = ap (λ rest. is_among key keys && rest) (keys-with_other keys name json members)

-- names that compare as two are two
pub names-apart : (name key : Name) → bytes_eq key name ≡ false → name ≡ key → ⊥
names-apart name key other same = let never : true ≡ false = sym ((bytes_eq-Decides key name).1 (sym same)) ∙ other in cc

-- ---- a document whose entities stand apart

-- it is one of what stands under the other keys, and of its entities
draft-apart : (book : Book) (items : Items) (members : Members) → keys_within document_keys (members_list members) ≡ true → get_member (codes "entities") members ≡ Some null
    → draft_from book (with_entities items (object members)) ≡ draft_around book (object members) (Some (array items))
draft-apart book items members keys stands =
    let name = codes "entities" in
    let json = array items in
    let all = with_other name json members in
    let same_keys : keys_within document_keys (members_list all) ≡ true = keys-with_other document_keys name json members ∙ keys in
    draft_from-in book (object all) all refl same_keys
    ∙ rw (
      get-with_other name (codes "next") json members refl,
      get-here name json null members stands,
      get-with_other name (codes "globals") json members refl,
      get-with_other name (codes "systems") json members refl,
      get-with_other name (codes "frames") json members refl,
      get-with_other name (codes "commands") json members refl,
      get-with_other name (codes "workers") json members refl,
      get-with_other name (codes "store") json members refl,
    )

module _ {D : Type 0} (part_of : D → Part) (book : Book) (json rest : Json) (entities : List (EntityDraft D)) (apart : IsApart part_of book json rest entities) where
  no_object : (other : Json) → get (codes "entities") other ≡ Some null → None ≡ as_object other → ⊥
  no_object null stands is = cc
  no_object (boolean truth) stands is = cc
  no_object (number one) stands is = cc
  no_object (string text) stands is = cc
  no_object (array items) stands is = cc
  no_object (object _) stands is = cc

  -- what is left is an object
  pub apart-object : None ≡ as_object rest → ⊥
  apart-object is = no_object rest apart.stands is

  pub apart-read : AreRead part_of book (Some (array apart.items)) entities
  apart-read = record { read = apart.read; known = apart.known }

  same_draft : (other : Json) (held : Members) → get (codes "entities") other ≡ Some null → Some held ≡ as_object other → keys_within document_keys (members_list held) ≡ true
      → draft_from book (with_entities apart.items other) ≡ draft_around book other (Some (array apart.items))
  same_draft null held stands is keys = absurd cc
  same_draft (boolean truth) held stands is keys = absurd cc
  same_draft (number one) held stands is keys = absurd cc
  same_draft (string text) held stands is keys = absurd cc
  same_draft (array items) held stands is keys = absurd cc
  same_draft (object members) held stands is keys =
      let same : held ≡ members = cc in
      draft-apart book apart.items members (subst (λ these. keys_within document_keys (members_list these) ≡ true) same keys) stands

  -- the document is that of what is left and of its entities, where its keys are known
  pub apart-draft : (held : Members) → Some held ≡ as_object rest → keys_within document_keys (members_list held) ≡ true → draft_from book json ≡ draft_around book rest (Some (array apart.items))
  apart-draft held is keys = ap (draft_from book) apart.same ∙ same_draft rest held apart.stands is keys

  no_keys : (other : Json) (held : Members) → Some held ≡ as_object other → keys_within document_keys (members_list held) ≡ false → draft_from book (with_entities apart.items other) ≡ None
  no_keys null held is keys = absurd cc
  no_keys (boolean truth) held is keys = absurd cc
  no_keys (number one) held is keys = absurd cc
  no_keys (string text) held is keys = absurd cc
  no_keys (array items) held is keys = absurd cc
  no_keys (object members) held is keys =
      let same : held ≡ members = cc in
      rw (keys-with_other document_keys (codes "entities") (array apart.items) members, subst (λ these. keys_within document_keys (members_list these) ≡ false) same keys)

  -- and there is none where one of its keys is not
  pub apart-no-draft : (held : Members) → Some held ≡ as_object rest → keys_within document_keys (members_list held) ≡ false → draft_from book json ≡ None
  apart-no-draft held is keys = ap (draft_from book) apart.same ∙ no_keys rest held is keys
