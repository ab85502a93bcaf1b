-- No two of what a world of the test's rules holds stand under one id.
use Rattle.std.proofs.Common.{◌≡◌, ℕ, Bool, true, false, cond, [], ◌∷◌, ◌||◌, refl, sym, ap, ◌∙◌}
use Rattle.std.specs.Str.{bytes_eq}
use Rattle.std.specs.Cmp.{unsigned_tied}
use Rattle.std.proofs.lemmas.Slice.Eq.{bytes_eq-Decides}
use Rattle.shred_world.specs.declared.resource_id.ResourceId.{ResourceId}
use Rattle.shred_world.specs.ResourceIds.{id_of, same_id}
use Rattle.scene_model.specs.Parts.{Name, is_among}
use Rattle.scene_world.specs.Lent.{Place, entities, markers, allocator, parts, value, queue, id_of_place, is_known, same_place, StandApart}
use Rattle.scene_cases.specs.Holdings.{owner_id, rank_id, era_id}
use Rattle.scene_cases.specs.Owning.{owner_name, rank_name, era_name, owning_kinds}

or-right : (b : Bool) → (b || false) ≡ true → b ≡ true
or-right true e = refl
or-right false e = e

-- a name among one name is that
only : (name one : Name) → is_among name (one ∷ []) ≡ true → name ≡ one
only name one known = (bytes_eq-Decides name one).0 (or-right (bytes_eq name one) known)

-- a kind of the two that isn't the first is the second
second : (kind : Name) → is_among kind (owner_name ∷ rank_name ∷ []) ≡ true → bytes_eq kind owner_name ≡ false → kind ≡ rank_name
second kind one_of apart = only kind rank_name (sym (ap (λ b. b || is_among kind (rank_name ∷ [])) apart) ∙ one_of)

-- where each stands
stand : Place → ResourceId
stand entities = id_of 0 0
stand markers = id_of 1 0
stand allocator = id_of 2 0
stand (queue position) = id_of 3 position
stand (parts kind) = cond (bytes_eq kind owner_name) owner_id rank_id
stand (value name) = era_id

-- a kind stands at 4 or 5
kind-apart : (n d : ℕ) → same_id owner_id (id_of n d) ≡ false → same_id rank_id (id_of n d) ≡ false → (b : Bool) → same_id (cond b owner_id rank_id) (id_of n d) ≡ false
kind-apart n d four five true = four
kind-apart n d four five false = five

apart-kind : (n d : ℕ) → same_id (id_of n d) owner_id ≡ false → same_id (id_of n d) rank_id ≡ false → (b : Bool) → same_id (id_of n d) (cond b owner_id rank_id) ≡ false
apart-kind n d four five true = four
apart-kind n d four five false = five

-- and the two stand apart
kinds-apart : (kind other : Name) → is_among kind (owner_name ∷ rank_name ∷ []) ≡ true → is_among other (owner_name ∷ rank_name ∷ []) ≡ true
    → (b : Bool) → bytes_eq kind owner_name ≡ b → (c : Bool) → bytes_eq other owner_name ≡ c → same_id (cond b owner_id rank_id) (cond c owner_id rank_id) ≡ bytes_eq kind other
kinds-apart kind other one two true is true also = sym ((bytes_eq-Decides kind other).1 ((bytes_eq-Decides kind owner_name).0 is ∙ sym ((bytes_eq-Decides other owner_name).0 also)))
kinds-apart kind other one two true is false differ =
    sym (ap (λ k. bytes_eq k other) ((bytes_eq-Decides kind owner_name).0 is) ∙ ap (bytes_eq owner_name) (second other two differ))
kinds-apart kind other one two false differ true is =
    sym (ap (bytes_eq kind) ((bytes_eq-Decides other owner_name).0 is) ∙ differ)
kinds-apart kind other one two false differ false also = sym ((bytes_eq-Decides kind other).1 (second kind one differ ∙ sym (second other two also)))

-- there is one global
eras-same : (name other : Name) → is_among name (era_name ∷ []) ≡ true → is_among other (era_name ∷ []) ≡ true → true ≡ bytes_eq name other
eras-same name other one two = sym ((bytes_eq-Decides name other).1 (only name era_name one ∙ sym (only other era_name two)))

-- no two of what a world of these rules holds stand under one id
pub owning-apart : StandApart owning_kinds
unfolding stand
owning-apart one other known_one known_other =
    ap (λ id. same_id id (id_of_place owning_kinds other)) (stands one) ∙ ap (same_id (stand one)) (stands other) ∙ by one other known_one known_other
  where
    stands : (place : Place) → id_of_place owning_kinds place ≡ stand place
    stands entities = refl
    stands markers = refl
    stands allocator = refl
    stands (queue position) = refl
    stands (parts kind) = refl
    stands (value name) = refl

    by : (one other : Place) → is_known owning_kinds one ≡ true → is_known owning_kinds other ≡ true → same_id (stand one) (stand other) ≡ same_place one other
    by entities entities k l = refl
    by entities markers k l = refl
    by entities allocator k l = refl
    by entities (queue q) k l = refl
    by entities (parts kind) k l = apart-kind 0 0 refl refl (bytes_eq kind owner_name)
    by entities (value name) k l = refl
    by markers entities k l = refl
    by markers markers k l = refl
    by markers allocator k l = refl
    by markers (queue q) k l = refl
    by markers (parts kind) k l = apart-kind 1 0 refl refl (bytes_eq kind owner_name)
    by markers (value name) k l = refl
    by allocator entities k l = refl
    by allocator markers k l = refl
    by allocator allocator k l = refl
    by allocator (queue q) k l = refl
    by allocator (parts kind) k l = apart-kind 2 0 refl refl (bytes_eq kind owner_name)
    by allocator (value name) k l = refl
    by (queue p) entities k l = refl
    by (queue p) markers k l = refl
    by (queue p) allocator k l = refl
    by (queue p) (queue q) k l = unsigned_tied p q
    by (queue p) (parts kind) k l = apart-kind 3 p refl refl (bytes_eq kind owner_name)
    by (queue p) (value name) k l = refl
    by (parts kind) entities k l = kind-apart 0 0 refl refl (bytes_eq kind owner_name)
    by (parts kind) markers k l = kind-apart 1 0 refl refl (bytes_eq kind owner_name)
    by (parts kind) allocator k l = kind-apart 2 0 refl refl (bytes_eq kind owner_name)
    by (parts kind) (queue q) k l = kind-apart 3 q refl refl (bytes_eq kind owner_name)
    by (parts kind) (parts other) k l = kinds-apart kind other k l (bytes_eq kind owner_name) refl (bytes_eq other owner_name) refl
    by (parts kind) (value name) k l = kind-apart 6 0 refl refl (bytes_eq kind owner_name)
    by (value name) entities k l = refl
    by (value name) markers k l = refl
    by (value name) allocator k l = refl
    by (value name) (queue q) k l = refl
    by (value name) (parts kind) k l = apart-kind 6 0 refl refl (bytes_eq kind owner_name)
    by (value name) (value other) k l = eras-same name other k l
