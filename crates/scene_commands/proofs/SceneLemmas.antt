-- What was put into a scene, one after another, beside the scene that a document gives.
use Rattle.std.proofs.Common.{◌≡◌, ◌<◌, ◌+◌, ℕ, Bool, true, false, not, cond, eqb, ltb, ◌||◌, ◌&&◌, max, List, [], ◌∷◌, map, Option, Some, None, refl, ap, sym, ◌∙◌, arith}
use Rattle.std.specs.List.{list_any}
use Rattle.std.specs.Str.{bytes_eq}
use Rattle.std.proofs.lemmas.Bool.{eqb-true, eq-eqb, not-false, or_parts, ltb-true}
use Rattle.scene_model.specs.Ids.{ascending}
use Rattle.scene_model.specs.Parts.{Json, Name, Part}
use Rattle.scene_model.specs.Rulebook.{put}
use Rattle.scene_model.specs.Scenes.{PlainScene, lives}
use Rattle.scene_model.specs.Commands.{apply, changed, skipped, with_part, refs_live}
use Rattle.scene_model.proofs.CallerLemmas.{lives-ascending, in_order-ascends, same-ids}
use Rattle.scene_document.specs.Drafts.{DraftPart, DraftEntity}
use Rattle.scene_document.specs.Documents.{has_double}
use Rattle.scene_document.specs.Openings.{part_in, part_among, global_among}
use Rattle.scene_commands.specs.Entries.{Parts, ids_with, next_above, list_put, parts_put, values_put}
use Rattle.scene_commands.proofs.RollLemmas.{apart-turned}

-- a put that was done left the scene with that part
pub put-done : (owning : List Name) (scene after : PlainScene) (id : ℕ) (kind : Name) (part : Part) → apply owning (put id kind part) scene ≡ changed after → after ≡ record scene { part = with_part id kind (Some part) scene.part }
put-done owning scene after id kind part = by (lives id scene.ids && refs_live scene.ids part)
  where
    made : PlainScene
    made = record scene { part = with_part id kind (Some part) scene.part }

    by : (b : Bool) → cond b (changed made) skipped ≡ changed after → after ≡ made
    by true e = let same : made ≡ after = cc in sym same
    by false e = cc

-- ids put in one after another are those ids in order
pub ids-tie : (ids : List ℕ) → ids_with ids [] ≡ ascending ids
ids-tie [] = refl
ids-tie (id ∷ ids) =
    ap (λ others. ascending (id ∷ others)) (ids-tie ids)
    ∙ same-ids (ascending (id ∷ ascending ids)) (ascending (id ∷ ids)) (in_order-ascends (id ∷ ascending ids)) (in_order-ascends (id ∷ ids))
    (λ other. lives-ascending other (id ∷ ascending ids) ∙ ap (λ b. eqb id other || b) (lives-ascending other ids) ∙ sym (lives-ascending other (id ∷ ids)))

-- the next id stays where all ids are below it
pub next-tie : {X : Type 0} (id_of : X → ℕ) (next : ℕ) (xs : List X) → list_any (λ x. not (ltb (id_of x) next)) xs ≡ false → next_above (map id_of xs) next ≡ next
next-tie id_of next [] none = refl
next-tie id_of next (x ∷ xs) none =
    let both = or_parts (not (ltb (id_of x) next)) (list_any (λ one. not (ltb (id_of one) next)) xs) none in
    let below : id_of x < next = ltb-true (id_of x) next (not-false (ltb (id_of x) next) both.0) in
    ap (λ n. max n (id_of x + 1)) (next-tie id_of next xs both.1) ∙ omega (arith, below)

-- the parts of an id are as they were once those of another were put in
list-away : (id other : ℕ) (parts : List DraftPart) (base : Parts) (kind : Name) → eqb other id ≡ false → list_put id parts base other kind ≡ base other kind
list-away id other [] base kind differ = refl
list-away id other (None ∷ parts) base kind differ = list-away id other parts base kind differ
list-away id other (Some one ∷ parts) base kind differ =
    ap (λ b. cond (b && bytes_eq kind one.0) (Some one.1) (list_put id parts base other kind)) differ ∙ list-away id other parts base kind differ

-- an id that had none has those that were put in
list-here : (id : ℕ) (parts : List DraftPart) (base : Parts) (kind : Name) → base id kind ≡ None → list_put id parts base id kind ≡ part_in parts kind
list-here id [] base kind none = none
list-here id (None ∷ parts) base kind none = list-here id parts base kind none
list-here id (Some one ∷ parts) base kind none =
    ap (λ b. cond (b && bytes_eq kind one.0) (Some one.1) (list_put id parts base id kind)) (eq-eqb id id refl)
    ∙ ap (λ later. cond (bytes_eq kind one.0) (Some one.1) later) (list-here id parts base kind none)

-- an id that isn't listed has no part
unlisted : (entities : List DraftEntity) (id : ℕ) (kind : Name) → lives id (map (λ entity. entity.id) entities) ≡ false → part_among entities id kind ≡ None
unlisted [] id kind absent = refl
unlisted (entity ∷ entities) id kind absent =
    let both = or_parts (eqb entity.id id) (lives id (map (λ one. one.id) entities)) absent in
    ap (λ b. cond b (part_in entity.parts kind) (part_among entities id kind)) both.0 ∙ unlisted entities id kind both.1

-- parts put in where there were none are those of the document, where no id stands twice
pub parts-tie : (entities : List DraftEntity) → has_double (map (λ entity. entity.id) entities) ≡ false → (id : ℕ) (kind : Name) → parts_put entities (λ one name. None) id kind ≡ part_among entities id kind
parts-tie [] distinct id kind = refl
parts-tie (entity ∷ entities) distinct id kind =
    let both = or_parts (lives entity.id (map (λ one. one.id) entities)) (has_double (map (λ one. one.id) entities)) distinct in
    by (eqb entity.id id) refl both.0 (λ one. parts-tie entities both.1 one kind)
  where
    by : (b : Bool) → eqb entity.id id ≡ b → lives entity.id (map (λ one. one.id) entities) ≡ false → ((one : ℕ) → parts_put entities (λ other name. None) one kind ≡ part_among entities one kind)
        → list_put entity.id entity.parts (parts_put entities (λ one name. None)) id kind ≡ cond b (part_in entity.parts kind) (part_among entities id kind)
    by true same absent later =
        ap (λ i. list_put entity.id entity.parts (parts_put entities (λ one name. None)) i kind) (sym (eqb-true entity.id id same))
        ∙ list-here entity.id entity.parts (parts_put entities (λ one name. None)) kind (later entity.id ∙ unlisted entities entity.id kind absent)
    by false differ absent later =
        list-away entity.id id entity.parts (parts_put entities (λ one name. None)) kind (apart-turned entity.id id differ) ∙ later id

-- values put in where there were none are those of the document
pub values-tie : (globals : List (Option (Name × Json))) (name : Name) → values_put globals (λ one. None) name ≡ global_among globals name
values-tie [] name = refl
values-tie (None ∷ globals) name = values-tie globals name
values-tie (Some global ∷ globals) name = ap (λ later. cond (bytes_eq name global.0) (Some global.1) later) (values-tie globals name)
