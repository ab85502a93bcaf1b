-- No two of what a world of the program's scenes holds stand under one id.
use Rattle.std.proofs.Common.{◌≡◌, ℕ, Bool, true, false, [], ◌∷◌, ◌||◌, refl, sym, ap, ◌∙◌, subst}
use Rattle.std.specs.Str.{bytes_eq}
use Rattle.std.specs.Cmp.{unsigned_tied}
use Rattle.std.proofs.lemmas.Bool.{false≢true}
use Rattle.std.proofs.lemmas.Slice.Eq.{bytes_eq-Decides}
use Rattle.shred_world.specs.declared.resource_id.ResourceId.{ResourceId}
use Rattle.shred_world.specs.ResourceIds.{id_of, same_id}
use Rattle.scene_model.specs.Parts.{Name, is_among}
use Rattle.scene_world.specs.Lent.{Place, entities, markers, allocator, parts, value, queue, id_of_place, is_known, same_place, StandApart}
use Rattle.scene_basics.specs.Names.{bond_kind, hp_kind, owner_kind, pos_kind, vel_kind, g_name, part_kinds}
use Rattle.scene_basics.specs.Columns.{part_id, global_id, basic_kinds}

-- what holds of each of the five kinds holds of a kind of the rules
pub each-kind : (P : Name → Type 0) → P bond_kind → P hp_kind → P owner_kind → P pos_kind → P vel_kind → (kind : Name) → is_among kind part_kinds ≡ true → P kind
each-kind P of_bond of_hp of_owner of_pos of_vel kind known =
    by (bytes_eq kind bond_kind) (bytes_eq kind hp_kind) (bytes_eq kind owner_kind) (bytes_eq kind pos_kind) (bytes_eq kind vel_kind)
    ((bytes_eq-Decides kind bond_kind).0) ((bytes_eq-Decides kind hp_kind).0) ((bytes_eq-Decides kind owner_kind).0) ((bytes_eq-Decides kind pos_kind).0) ((bytes_eq-Decides kind vel_kind).0) known
  where
    by : (z a b c d : Bool) → (z ≡ true → kind ≡ bond_kind) → (a ≡ true → kind ≡ hp_kind) → (b ≡ true → kind ≡ owner_kind) → (c ≡ true → kind ≡ pos_kind) → (d ≡ true → kind ≡ vel_kind) → (z || (a || (b || (c || (d || false))))) ≡ true → P kind
    by true a b c d zero one two three four e = subst P (sym (zero refl)) of_bond
    by false true b c d zero one two three four e = subst P (sym (one refl)) of_hp
    by false false true c d zero one two three four e = subst P (sym (two refl)) of_owner
    by false false false true d zero one two three four e = subst P (sym (three refl)) of_pos
    by false false false false true zero one two three four e = subst P (sym (four refl)) of_vel
    by false false false false false zero one two three four e = absurd (false≢true e)

-- the parts of no kind stand where something else does
kind-apart : (n d : ℕ) → same_id (part_id bond_kind) (id_of n d) ≡ false → same_id (part_id hp_kind) (id_of n d) ≡ false → same_id (part_id owner_kind) (id_of n d) ≡ false → same_id (part_id pos_kind) (id_of n d) ≡ false → same_id (part_id vel_kind) (id_of n d) ≡ false
    → (kind : Name) → is_among kind part_kinds ≡ true → same_id (part_id kind) (id_of n d) ≡ false
kind-apart n d of_bond of_hp of_owner of_pos of_vel = each-kind (λ kind. same_id (part_id kind) (id_of n d) ≡ false) of_bond of_hp of_owner of_pos of_vel

apart-kind : (n d : ℕ) → same_id (id_of n d) (part_id bond_kind) ≡ false → same_id (id_of n d) (part_id hp_kind) ≡ false → same_id (id_of n d) (part_id owner_kind) ≡ false → same_id (id_of n d) (part_id pos_kind) ≡ false → same_id (id_of n d) (part_id vel_kind) ≡ false
    → (kind : Name) → is_among kind part_kinds ≡ true → same_id (id_of n d) (part_id kind) ≡ false
apart-kind n d of_bond of_hp of_owner of_pos of_vel = each-kind (λ kind. same_id (id_of n d) (part_id kind) ≡ false) of_bond of_hp of_owner of_pos of_vel

-- the parts of two kinds stand apart
pub kinds-apart : (kind other : Name) → is_among kind part_kinds ≡ true → is_among other part_kinds ≡ true → same_id (part_id kind) (part_id other) ≡ bytes_eq kind other
kinds-apart kind other one two =
    each-kind (λ k. (other : Name) → is_among other part_kinds ≡ true → same_id (part_id k) (part_id other) ≡ bytes_eq k other)
    (each-kind (λ o. same_id (part_id bond_kind) (part_id o) ≡ bytes_eq bond_kind o) refl refl refl refl refl)
    (each-kind (λ o. same_id (part_id hp_kind) (part_id o) ≡ bytes_eq hp_kind o) refl refl refl refl refl)
    (each-kind (λ o. same_id (part_id owner_kind) (part_id o) ≡ bytes_eq owner_kind o) refl refl refl refl refl)
    (each-kind (λ o. same_id (part_id pos_kind) (part_id o) ≡ bytes_eq pos_kind o) refl refl refl refl refl)
    (each-kind (λ o. same_id (part_id vel_kind) (part_id o) ≡ bytes_eq vel_kind o) refl refl refl refl refl)
    kind one other two

or-right : (b : Bool) → (b || false) ≡ true → b ≡ true
or-right true e = refl
or-right false e = e

-- there is one global
globals-same : (name other : Name) → is_among name (g_name ∷ []) ≡ true → is_among other (g_name ∷ []) ≡ true → true ≡ bytes_eq name other
globals-same name other one two =
    sym ((bytes_eq-Decides name other).1 ((bytes_eq-Decides name g_name).0 (or-right (bytes_eq name g_name) one) ∙ sym ((bytes_eq-Decides other g_name).0 (or-right (bytes_eq other g_name) two))))

-- where each stands
stand : Place → ResourceId
stand entities = id_of 0 0
stand markers = id_of 1 0
stand allocator = id_of 2 0
stand (queue position) = id_of 3 position
stand (parts kind) = part_id kind
stand (value name) = global_id

-- no two of what a world of these rules holds stand under one id
pub basic-apart : StandApart basic_kinds
unfolding stand
basic-apart one other known_one known_other =
    ap (λ id. same_id id (id_of_place basic_kinds other)) (stands one) ∙ ap (same_id (stand one)) (stands other) ∙ by one other known_one known_other
  where
    stands : (place : Place) → id_of_place basic_kinds place ≡ stand place
    stands entities = refl
    stands markers = refl
    stands allocator = refl
    stands (queue position) = refl
    stands (parts kind) = refl
    stands (value name) = refl

    by : (one other : Place) → is_known basic_kinds one ≡ true → is_known basic_kinds other ≡ true → same_id (stand one) (stand other) ≡ same_place one other
    by entities entities k l = refl
    by entities markers k l = refl
    by entities allocator k l = refl
    by entities (queue q) k l = refl
    by entities (parts kind) k l = apart-kind 0 0 refl refl refl refl refl kind l
    by entities (value name) k l = refl
    by markers entities k l = refl
    by markers markers k l = refl
    by markers allocator k l = refl
    by markers (queue q) k l = refl
    by markers (parts kind) k l = apart-kind 1 0 refl refl refl refl refl kind l
    by markers (value name) k l = refl
    by allocator entities k l = refl
    by allocator markers k l = refl
    by allocator allocator k l = refl
    by allocator (queue q) k l = refl
    by allocator (parts kind) k l = apart-kind 2 0 refl refl refl refl refl kind l
    by allocator (value name) k l = refl
    by (queue p) entities k l = refl
    by (queue p) markers k l = refl
    by (queue p) allocator k l = refl
    by (queue p) (queue q) k l = unsigned_tied p q
    by (queue p) (parts kind) k l = apart-kind 3 p refl refl refl refl refl kind l
    by (queue p) (value name) k l = refl
    by (parts kind) entities k l = kind-apart 0 0 refl refl refl refl refl kind k
    by (parts kind) markers k l = kind-apart 1 0 refl refl refl refl refl kind k
    by (parts kind) allocator k l = kind-apart 2 0 refl refl refl refl refl kind k
    by (parts kind) (queue q) k l = kind-apart 3 q refl refl refl refl refl kind k
    by (parts kind) (parts other) k l = kinds-apart kind other k l
    by (parts kind) (value name) k l = kind-apart 8 0 refl refl refl refl refl kind k
    by (value name) entities k l = refl
    by (value name) markers k l = refl
    by (value name) allocator k l = refl
    by (value name) (queue q) k l = refl
    by (value name) (parts kind) k l = apart-kind 8 0 refl refl refl refl refl kind l
    by (value name) (value other) k l = globals-same name other k l
