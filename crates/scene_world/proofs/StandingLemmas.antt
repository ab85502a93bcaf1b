-- Lemmas on what a system is lent of a world in which a scene stands, and on the scene once that came back.
use Rattle.std.proofs.Common.{◌≡◌, ℕ, Bool, true, false, ◌||◌, List, Option, None, cond, refl, ap, sym, ◌∙◌, subst}
use Rattle.std.specs.Prelude.{option_and_then}
use Rattle.std.proofs.lemmas.Bool.{false≢true}
use Rattle.std.proofs.Math.Path.{fun_ext}
use Rattle.shred_world.specs.declared.resource_id.ResourceId.{ResourceId}
use Rattle.shred_world.specs.Bundles.{Slot, absent, out, shared, owned, Holding, readable, takable, is_listed}
use Rattle.shred_stages.specs.Views.{cut, shared_of, owned_of, reading, IsLeft, Leaves, merged}
use Rattle.scene_model.specs.Parts.{Name, is_among}
use Rattle.scene_model.specs.Rulebook.{Access, declares, declares_global, Fragment}
use Rattle.scene_model.specs.Scenes.{fragment, with_left}
use Rattle.scene_model.proofs.CallerLemmas.{same_scene}
use Rattle.scene_world.specs.Rolls.{Roll, ids_in, part_in}
use Rattle.scene_world.specs.Standing.{Sight, seen_in, IsWhole, Kinds, roll_in, roll_of, column_in, column_of, plain_of, fragment_of, IsWithin}
use Rattle.scene_world.specs.Lent.{IsLent}

-- what is lent of a slot is read as it is held
lent-reads : {V : Type 0} (writes reads : Bool) (slot : Slot V) → takable slot ≡ readable slot → (reads || writes) ≡ true → readable (cond writes (owned_of (takable slot)) (cond reads (shared_of (readable slot)) absent)) ≡ readable slot
lent-reads true reads absent whole is = refl
lent-reads true reads out whole is = refl
lent-reads true reads (shared v) whole is = cc
lent-reads true reads (owned v) whole is = refl
lent-reads false true absent whole is = refl
lent-reads false true out whole is = refl
lent-reads false true (shared v) whole is = refl
lent-reads false true (owned v) whole is = refl
lent-reads false false slot whole is = absurd (false≢true is)

-- what is not written comes back as it was
unwritten : {V : Type 0} (reads : Bool) (slot after : Slot V) → IsLeft (cond reads (shared_of (readable slot)) absent) after → merged after slot ≡ slot
unwritten false slot after left = ap (λ s. merged s slot) left
unwritten true absent after left = ap (λ s. merged s absent) left
unwritten true out after left = ap (λ s. merged s out) left
unwritten true (shared v) after left = ap (λ s. merged s (shared v)) left
unwritten true (owned v) after left = ap (λ s. merged s (owned v)) left

-- what is read is seen at the end as it was at the start
still-read : {V : Type 0} (slot after : Slot V) → IsLeft (shared_of (readable slot)) after → readable after ≡ readable slot
still-read absent after left = ap readable left
still-read out after left = ap readable left
still-read (shared v) after left = ap readable left
still-read (owned v) after left = ap readable left

-- what is written is held at the end as it was left
written : {V : Type 0} (slot after : Slot V) → takable slot ≡ readable slot → IsLeft (owned_of (takable slot)) after → (readable (merged after slot) ≡ readable after) × (takable (merged after slot) ≡ readable (merged after slot))
written absent after whole left = subst (λ s. (readable (merged s absent) ≡ readable s) × (takable (merged s absent) ≡ readable (merged s absent))) (sym left) (refl, refl)
written out after whole left = subst (λ s. (readable (merged s out) ≡ readable s) × (takable (merged s out) ≡ readable (merged s out))) (sym left) (refl, refl)
written (shared v) after whole left = cc
written (owned v) after whole (x, e) = subst (λ s. (readable (merged s (owned v)) ≡ readable s) × (takable (merged s (owned v)) ≡ readable (merged s (owned v)))) (sym e) (refl, refl)

module _ {V : Type 0} (reads writes : List ResourceId) (w : Holding V) (whole : IsWhole w) where
  -- what is declared is seen as it is held
  pub cut-shows : (id : ResourceId) → (is_listed reads id || is_listed writes id) ≡ true → readable (cut reads writes w id) ≡ readable (w id)
  cut-shows id is = lent-reads (is_listed writes id) (is_listed reads id) (w id) (whole id) is

  module _ (after w2 : Holding V) (left : Leaves (cut reads writes w) after) (back : (id : ResourceId) → w2 id ≡ merged (after id) (w id)) where
    -- what came back at an id that is not written, what is read there at the end, and what came back at one that is written
    pub back-unwritten : (id : ResourceId) → is_listed writes id ≡ false → w2 id ≡ w id
    back-unwritten id is =
        back id ∙ unwritten (is_listed reads id) (w id) (after id)
        (subst (λ b. IsLeft (cond b (owned_of (takable (w id))) (reading reads w id)) (after id)) is (left id))

    pub read-after : (id : ResourceId) → is_listed reads id ≡ true → is_listed writes id ≡ false → readable (after id) ≡ readable (w id)
    read-after id is apart =
        still-read (w id) (after id)
        (subst (λ b. IsLeft (cond b (shared_of (readable (w id))) absent) (after id)) is
        (subst (λ b. IsLeft (cond b (owned_of (takable (w id))) (reading reads w id)) (after id)) apart (left id)))

    at-written : (id : ResourceId) → is_listed writes id ≡ true → (readable (merged (after id) (w id)) ≡ readable (after id)) × (takable (merged (after id) (w id)) ≡ readable (merged (after id) (w id)))
    at-written id is =
        written (w id) (after id) (whole id)
        (subst (λ b. IsLeft (cond b (owned_of (takable (w id))) (reading reads w id)) (after id)) is (left id))

    pub back-written : (id : ResourceId) → is_listed writes id ≡ true → readable (w2 id) ≡ readable (after id)
    back-written id is = ap readable (back id) ∙ (at-written id is).0

    pub back-whole : IsWhole w2
    back-whole id = by (is_listed writes id) refl
      where
        by : (b : Bool) → is_listed writes id ≡ b → takable (w2 id) ≡ readable (w2 id)
        by true is = subst (λ s. takable s ≡ readable s) (sym (back id)) (at-written id is).1
        by false is = subst (λ s. takable s ≡ readable s) (sym (back-unwritten id is)) (whole id)

-- two fragments that show the same
same-fragment : (one other : Fragment) → one.ids ≡ other.ids → ((id : ℕ) (kind : Name) → one.part id kind ≡ other.part id kind) → ((name : Name) → one.global name ≡ other.global name) → one ≡ other
same-fragment one other ids part global =
    ap (λ i. let x : Fragment = record { ids = i; part = one.part; global = one.global } in x) ids
    ∙ ap (λ p. let x : Fragment = record { ids = other.ids; part = p; global = one.global } in x) (fun_ext (λ id. fun_ext (λ kind. part id kind)))
    ∙ ap (λ g. let x : Fragment = record { ids = other.ids; part = other.part; global = g } in x) (fun_ext global)

-- what is declared of something known, and what was left put in the place of what was
show : {X : Type 0} (known declared : Bool) (one other : Option X) → (known ≡ true → declared ≡ true → one ≡ other) → cond declared (cond known one None) None ≡ cond declared (cond known other None) None
show true true one other e = e refl refl
show false true one other e = refl
show known false one other e = refl

put-in : {X : Type 0} (known reads writes : Bool) (now left was : Option X) → (known ≡ true → writes ≡ true → now ≡ left) → (known ≡ true → writes ≡ false → now ≡ was)
    → cond known now None ≡ cond writes (cond (reads || writes) (cond known left None) None) (cond known was None)
put-in true true true now left was here others = here refl refl
put-in true false true now left was here others = here refl refl
put-in true reads false now left was here others = others refl refl
put-in false true true now left was here others = refl
put-in false false true now left was here others = refl
put-in false reads false now left was here others = refl

module _ {V : Type 0} (kinds : Kinds V) where
  -- two sights that show the same of what is declared
  pub record SeesAlike (access : Access) (one other : Sight V) : Type 0 where
    pub entities : one kinds.entities_id ≡ other kinds.entities_id
    pub markers : one kinds.markers_id ≡ other kinds.markers_id
    pub allocator : one kinds.allocator_id ≡ other kinds.allocator_id
    pub parts : (kind : Name) → is_among kind kinds.part_names ≡ true → declares access kind ≡ true → one (kinds.part_id kind) ≡ other (kinds.part_id kind)
    pub globals : (name : Name) → is_among name kinds.global_names ≡ true → declares_global access name ≡ true → one (kinds.global_id name) ≡ other (kinds.global_id name)

  pub same-roll : (one other : Sight V) → one kinds.entities_id ≡ other kinds.entities_id → one kinds.markers_id ≡ other kinds.markers_id → one kinds.allocator_id ≡ other kinds.allocator_id → roll_of kinds one ≡ roll_of kinds other
  same-roll one other entities markers allocator =
      ap (λ e. roll_in kinds e (one kinds.markers_id) (one kinds.allocator_id)) entities
      ∙ ap (λ m. roll_in kinds (other kinds.entities_id) m (one kinds.allocator_id)) markers
      ∙ ap (roll_in kinds (other kinds.entities_id) (other kinds.markers_id)) allocator

  part-alike : (one other : Roll) (kind : Name) (held lent : Option V) (id : ℕ) → one ≡ other → held ≡ lent → part_in one (column_in kinds kind held) id ≡ part_in other (column_in kinds kind lent) id
  part-alike one other kind held lent id roll same =
      ap (λ r. part_in r (column_in kinds kind held) id) roll ∙ ap (λ h. part_in other (column_in kinds kind h) id) same

  pub fragment-alike : (access : Access) (one other : Sight V) → SeesAlike access one other → fragment access (plain_of kinds one) ≡ fragment access (plain_of kinds other)
  fragment-alike access one other alike =
      let roll : roll_of kinds one ≡ roll_of kinds other = same-roll one other alike.entities alike.markers alike.allocator in
      same-fragment _ _
      (ap ids_in roll)
      (λ id kind. show (is_among kind kinds.part_names) (declares access kind) _ _ (λ known declared. part-alike _ _ kind _ _ id roll (alike.parts kind known declared)))
      (λ name. show (is_among name kinds.global_names) (declares_global access name) _ _ (λ known declared. ap (λ h. option_and_then (kinds.value name) h) (alike.globals name known declared)))

  -- and where parts stand
  pub within-alike : (access : Access) (one other : Sight V) → SeesAlike access one other → (kind : Name) → is_among kind kinds.part_names ≡ true → declares access kind ≡ true
      → IsWithin kinds (roll_of kinds other) (column_of kinds other kind) → IsWithin kinds (roll_of kinds one) (column_of kinds one kind)
  within-alike access one other alike kind known declared within =
      subst (λ r. IsWithin kinds r (column_of kinds one kind)) (sym (same-roll one other alike.entities alike.markers alike.allocator))
      (subst (λ h. IsWithin kinds (roll_of kinds other) (column_in kinds kind h)) (sym (alike.parts kind known declared)) within)

  module _ (access : Access) (position : ℕ) (reads writes : List ResourceId) (lent : IsLent kinds access position reads writes) (w : Holding V) (whole : IsWhole w) where
    -- what a system is lent shows what is held, and so the fragment of the scene
    pub lent-alike : SeesAlike access (seen_in (cut reads writes w)) (seen_in w)
    lent-alike = record {
      entities = cut-shows reads writes w whole kinds.entities_id (ap (λ b. b || is_listed writes kinds.entities_id) lent.entities);
      markers = cut-shows reads writes w whole kinds.markers_id (ap (λ b. b || is_listed writes kinds.markers_id) lent.markers);
      allocator = cut-shows reads writes w whole kinds.allocator_id (ap (λ b. b || is_listed writes kinds.allocator_id) lent.allocator);
      parts = λ kind known declared. cut-shows reads writes w whole (kinds.part_id kind)
          (ap (λ b. b || is_listed writes (kinds.part_id kind)) (lent.reads_parts kind known)
          ∙ ap (λ b. is_among kind access.reads || b) (lent.writes_parts kind known) ∙ declared);
      globals = λ name known declared. cut-shows reads writes w whole (kinds.global_id name)
          (ap (λ b. b || is_listed writes (kinds.global_id name)) (lent.reads_globals name known)
          ∙ ap (λ b. is_among name access.read_globals || b) (lent.writes_globals name known) ∙ declared);
    }

    pub lent-fragment : fragment_of kinds access (cut reads writes w) ≡ fragment access (plain_of kinds (seen_in w))
    lent-fragment = fragment-alike access (seen_in (cut reads writes w)) (seen_in w) lent-alike

    module _ (after w2 : Holding V) (left : Leaves (cut reads writes w) after) (back : (id : ResourceId) → w2 id ≡ merged (after id) (w id)) where
      pub same-sight : (id : ResourceId) → is_listed writes id ≡ false → seen_in w2 id ≡ seen_in w id
      same-sight id is = ap readable (back-unwritten reads writes w whole after w2 left back id is)

      -- who lives, to the system at its end and in the world after it
      pub after-roll : roll_of kinds (seen_in after) ≡ roll_of kinds (seen_in w)
      after-roll = same-roll (seen_in after) (seen_in w)
          (read-after reads writes w whole after w2 left back kinds.entities_id lent.entities lent.same_entities)
          (read-after reads writes w whole after w2 left back kinds.markers_id lent.markers lent.same_markers)
          (read-after reads writes w whole after w2 left back kinds.allocator_id lent.allocator lent.same_allocator)

      pub back-roll : roll_of kinds (seen_in w2) ≡ roll_of kinds (seen_in w)
      back-roll = same-roll (seen_in w2) (seen_in w) (same-sight kinds.entities_id lent.same_entities) (same-sight kinds.markers_id lent.same_markers) (same-sight kinds.allocator_id lent.same_allocator)

      -- the scene after is the one before with what was left put in
      pub left-scene : plain_of kinds (seen_in w2) ≡ with_left access (fragment_of kinds access after) (plain_of kinds (seen_in w))
      left-scene = same_scene _ _
          (ap (λ r. r.noting.next) back-roll)
          (ap ids_in back-roll)
          (λ id kind. put-in (is_among kind kinds.part_names) (is_among kind access.reads) (is_among kind access.writes) _ _ _
          (λ known writes_it. part-alike _ _ kind _ _ id (back-roll ∙ sym after-roll) (back-written reads writes w whole after w2 left back (kinds.part_id kind) (lent.writes_parts kind known ∙ writes_it)))
          (λ known leaves_it. part-alike _ _ kind _ _ id back-roll (same-sight (kinds.part_id kind) (lent.writes_parts kind known ∙ leaves_it))))
          (λ name. put-in (is_among name kinds.global_names) (is_among name access.read_globals) (is_among name access.written_globals) _ _ _
          (λ known writes_it. ap (λ h. option_and_then (kinds.value name) h) (back-written reads writes w whole after w2 left back (kinds.global_id name) (lent.writes_globals name known ∙ writes_it)))
          (λ known leaves_it. ap (λ h. option_and_then (kinds.value name) h) (same-sight (kinds.global_id name) (lent.writes_globals name known ∙ leaves_it))))
