-- Lemmas for the author of a system that writes the parts of one kind, or a global.
use Rattle.std.proofs.Common.{◌≡◌, ℕ, Bool, true, false, cond, List, [], Option, Some, None, is_some, refl, ap, sym, ◌∙◌, subst}
use Rattle.std.specs.Prelude.{option_and_then, option_map, All, IsSome}
use Rattle.std.specs.Str.{bytes_eq}
use Rattle.std.proofs.lemmas.List.Elements.{All-nil}
use Rattle.std.proofs.lemmas.Slice.Eq.{bytes_eq-Decides}
use Rattle.shred_world.specs.Bundles.{Holding, readable}
use Rattle.specs_layouts.specs.Shows.{Shows}
use Rattle.scene_model.specs.Parts.{Json, Name, Part, is_among}
use Rattle.scene_model.specs.Rulebook.{Access, Book, Fragment, declares, declares_global, Command}
use Rattle.scene_model.specs.Scenes.{RefLives, IdsAscend, KeepsValues, lives, IsLawfullyLeft}
use Rattle.scene_model.specs.Lawful.{IsLawful}
use Rattle.scene_world.specs.Stored.{Stored, part_under}
use Rattle.scene_world.specs.Rolls.{ids_in, index_of, ref_to, part_in}
use Rattle.scene_world.specs.Standing.{seen_in, Kinds, roll_of, column_in, column_of, events_in, emits_in, value_of, plain_of, fragment_of, IsWithin}
use Rattle.scene_world.specs.Lent.{Place, entities, markers, allocator, parts, value, StandApart, id_of_place, is_known, same_place}
use Rattle.scene_world.proofs.StandingLemmas.{same-roll}
use Rattle.scene_world.specs.Turns.{Sense, rules_by, IsFit, ShowsChanges}
use Rattle.scene_world.specs.Writes.{WritesOne, WritesGlobal, MayStand}
use Rattle.scene_world.specs.Held.{Changes, NumbersBecome}
use Rattle.scene_world.specs.Numbers.{number_in, counting, number_at, AreNumbers}
use Rattle.scene_world.proofs.StepLemmas.{owned-plain, owned-fragment}
use Rattle.scene_world.proofs.SeenLemmas.{number-stands, counting-seen}

module _ {V : Type 0} (kinds : Kinds V) (apart : StandApart kinds) (kind : Name) (known : is_among kind kinds.part_names ≡ true) (v : V) (seen left : Holding V) (writes : WritesOne kinds kind v seen left) where
  -- elsewhere the same is seen
  elsewhere : (place : Place) → is_known kinds place ≡ true → same_place place (parts kind) ≡ false → seen_in left (id_of_place kinds place) ≡ seen_in seen (id_of_place kinds place)
  elsewhere place is other = ap readable (writes.others (id_of_place kinds place) (apart place (parts kind) is known ∙ other))

  -- so who lives stays, the columns of other kinds and the globals
  pub written-roll : roll_of kinds (seen_in left) ≡ roll_of kinds (seen_in seen)
  written-roll = same-roll kinds (seen_in left) (seen_in seen) (elsewhere entities refl refl) (elsewhere markers refl refl) (elsewhere allocator refl refl)

  pub written-here : (index : ℕ) → column_of kinds (seen_in left) kind index ≡ kinds.stored kind v index
  written-here index = ap (λ h. column_in kinds kind h index) writes.here

  pub written-others : (other : Name) → is_among other kinds.part_names ≡ true → bytes_eq other kind ≡ false → (index : ℕ) → column_of kinds (seen_in left) other index ≡ column_of kinds (seen_in seen) other index
  written-others other is differ index = ap (λ h. column_in kinds other h index) (elsewhere (parts other) is differ)

  pub written-values : (name : Name) → is_among name kinds.global_names ≡ true → value_of kinds (seen_in left) name ≡ value_of kinds (seen_in seen) name
  written-values name is = ap (λ h. option_and_then (kinds.value name) h) (elsewhere (value name) is refl)

  module _ (access : Access) where
    -- the fragment that is left: the ids, parts of other kinds and globals are those that were seen
    pub left-ids : (fragment_of kinds access left).ids ≡ (fragment_of kinds access seen).ids
    left-ids = ap ids_in written-roll

    pub left-others : (id : ℕ) (other : Name) → bytes_eq other kind ≡ false → (fragment_of kinds access left).part id other ≡ (fragment_of kinds access seen).part id other
    left-others id other differ = by (declares access other) (is_among other kinds.part_names) refl
      where
        column : is_among other kinds.part_names ≡ true → (o : Option ℕ)
            → option_and_then (λ index. option_map (part_under (ref_to (roll_of kinds (seen_in seen)))) (column_of kinds (seen_in left) other index)) o
            ≡ option_and_then (λ index. option_map (part_under (ref_to (roll_of kinds (seen_in seen)))) (column_of kinds (seen_in seen) other index)) o
        column is None = refl
        column is (Some index) = ap (option_map (part_under (ref_to (roll_of kinds (seen_in seen))))) (written-others other is differ index)

        by : (declared known_it : Bool) → is_among other kinds.part_names ≡ known_it
            → cond declared (cond known_it (part_in (roll_of kinds (seen_in left)) (column_of kinds (seen_in left) other) id) None) None
            ≡ cond declared (cond known_it (part_in (roll_of kinds (seen_in seen)) (column_of kinds (seen_in seen) other) id) None) None
        by false known_it is = refl
        by true false is = refl
        by true true is = ap (λ r. part_in r (column_of kinds (seen_in left) other) id) written-roll ∙ column is (index_of (roll_of kinds (seen_in seen)) id)

    pub left-globals : (name : Name) → (fragment_of kinds access left).global name ≡ (fragment_of kinds access seen).global name
    left-globals name = by (declares_global access name) (is_among name kinds.global_names) refl
      where
        by : (declared known_it : Bool) → is_among name kinds.global_names ≡ known_it → cond declared (cond known_it (value_of kinds (seen_in left) name) None) None ≡ cond declared (cond known_it (value_of kinds (seen_in seen) name) None) None
        by false known_it is = refl
        by true false is = refl
        by true true is = written-values name is

    -- a part of the kind is what is stored at the index of its id
    pub left-parts : declares access kind ≡ true → (id : ℕ) → (fragment_of kinds access left).part id kind ≡ option_and_then (λ index. option_map (part_under (ref_to (roll_of kinds (seen_in seen)))) (kinds.stored kind v index)) (index_of (roll_of kinds (seen_in seen)) id)
    left-parts declared id =
        ap (λ b. cond b (cond (is_among kind kinds.part_names) (part_in (roll_of kinds (seen_in left)) (column_of kinds (seen_in left) kind) id) None) None) declared
        ∙ ap (λ b. cond b (part_in (roll_of kinds (seen_in left)) (column_of kinds (seen_in left) kind) id) None) known
        ∙ ap (λ r. part_in r (column_of kinds (seen_in left) kind) id) written-roll ∙ by (index_of (roll_of kinds (seen_in seen)) id)
      where
        by : (o : Option ℕ) → option_and_then (λ index. option_map (part_under (ref_to (roll_of kinds (seen_in seen)))) (column_of kinds (seen_in left) kind index)) o
            ≡ option_and_then (λ index. option_map (part_under (ref_to (roll_of kinds (seen_in seen)))) (kinds.stored kind v index)) o
        by None = refl
        by (Some index) = ap (option_map (part_under (ref_to (roll_of kinds (seen_in seen))))) (written-here index)

    -- what is left is lawful, where each part that is stored may stand under the kind
    pub left-lawful : (sense : Sense) → declares access kind ≡ true → IsFit sense (fragment_of kinds access seen)
        → ((index : ℕ) (stored : Stored) → kinds.stored kind v index ≡ Some stored → MayStand sense (roll_of kinds (seen_in seen)) kind stored)
        → (commands : List Command) → All (IsLawful (rules_by sense)) commands → IsLawfullyLeft (rules_by sense) (fragment_of kinds access seen) (fragment_of kinds access left) commands
    left-lawful sense declared fit stands commands lawful = record {
      ids = left-ids;
      owned = owned-fragment access (plain_of kinds (seen_in left)) (owned-plain kinds (seen_in left));
      living = λ id other held alive is. living id other held (subst (λ ids. lives id ids ≡ true) left-ids alive) (bytes_eq other kind) refl is;
      admitted = λ id other held is. admitted id other held (bytes_eq other kind) refl is;
      valued = λ name some. subst (λ g. IsSome g) (sym (left-globals name)) some;
      readable = λ name one is. fit.readable name one (sym (left-globals name) ∙ is);
      known = lawful;
    }
      where
        stored-part : (id : ℕ) (held : Part) → (fragment_of kinds access left).part id kind ≡ Some held
            → (stored : Stored) × MayStand sense (roll_of kinds (seen_in seen)) kind stored × (part_under (ref_to (roll_of kinds (seen_in seen))) stored ≡ held)
        stored-part id held is = at (index_of (roll_of kinds (seen_in seen)) id) (sym (left-parts declared id) ∙ is)
          where
            inside : (index : ℕ) (k : Option Stored) → kinds.stored kind v index ≡ k → option_map (part_under (ref_to (roll_of kinds (seen_in seen)))) k ≡ Some held
                → (stored : Stored) × MayStand sense (roll_of kinds (seen_in seen)) kind stored × (part_under (ref_to (roll_of kinds (seen_in seen))) stored ≡ held)
            inside index None e f = cc
            inside index (Some stored) e f = (stored, stands index stored e, cc)

            at : (o : Option ℕ) → option_and_then (λ index. option_map (part_under (ref_to (roll_of kinds (seen_in seen)))) (kinds.stored kind v index)) o ≡ Some held
                → (stored : Stored) × MayStand sense (roll_of kinds (seen_in seen)) kind stored × (part_under (ref_to (roll_of kinds (seen_in seen))) stored ≡ held)
            at None e = cc
            at (Some index) e = inside index (kinds.stored kind v index) refl e

        admitted : (id : ℕ) (other : Name) (held : Part) (b : Bool) → bytes_eq other kind ≡ b → (fragment_of kinds access left).part id other ≡ Some held → sense.admits other held ≡ true
        admitted id other held false differ is = fit.admitted id other held (sym (left-others id other differ) ∙ is)
        admitted id other held true same is =
            let at_kind : other ≡ kind = (bytes_eq-Decides other kind).0 same in
            let found = stored-part id held (subst (λ name. (fragment_of kinds access left).part id name ≡ Some held) at_kind is) in
            ap (λ name. sense.admits name held) at_kind ∙ ap (sense.admits kind) (sym found.2) ∙ found.1.admitted

        living : (id : ℕ) (other : Name) (held : Part) → lives id (fragment_of kinds access seen).ids ≡ true → (b : Bool) → bytes_eq other kind ≡ b → (fragment_of kinds access left).part id other ≡ Some held
            → All (RefLives (fragment_of kinds access left).ids) held.refs
        living id other held alive false differ is = subst (λ ids. All (RefLives ids) held.refs) (sym left-ids) (fit.living id other held alive (sym (left-others id other differ) ∙ is))
        living id other held alive true same is =
            let at_kind : other ≡ kind = (bytes_eq-Decides other kind).0 same in
            let found = stored-part id held (subst (λ name. (fragment_of kinds access left).part id name ≡ Some held) at_kind is) in
            subst (λ ids. All (RefLives ids) held.refs) (sym left-ids) (subst (λ part. All (RefLives (ids_in (roll_of kinds (seen_in seen)))) part.refs) found.2 found.1.living)

module _ {V : Type 0} (kinds : Kinds V) (apart : StandApart kinds) (name : Name) (known : is_among name kinds.global_names ≡ true) (v : V) (seen left : Holding V) (writes : WritesGlobal kinds name v seen left) where
  -- elsewhere than at the global the same is seen
  pub set-elsewhere : (place : Place) → is_known kinds place ≡ true → same_place place (value name) ≡ false → seen_in left (id_of_place kinds place) ≡ seen_in seen (id_of_place kinds place)
  set-elsewhere place is other = ap readable (writes.others (id_of_place kinds place) (apart place (value name) is known ∙ other))

  -- so who lives stays, the columns and the other globals
  pub set-roll : roll_of kinds (seen_in left) ≡ roll_of kinds (seen_in seen)
  set-roll = same-roll kinds (seen_in left) (seen_in seen) (set-elsewhere entities refl refl) (set-elsewhere markers refl refl) (set-elsewhere allocator refl refl)

  pub set-columns : (kind : Name) → is_among kind kinds.part_names ≡ true → (index : ℕ) → column_of kinds (seen_in left) kind index ≡ column_of kinds (seen_in seen) kind index
  set-columns kind is index = ap (λ h. column_in kinds kind h index) (set-elsewhere (parts kind) is refl)

  set-here : value_of kinds (seen_in left) name ≡ kinds.value name v
  set-here = ap (λ h. option_and_then (kinds.value name) h) writes.here

  set-others : (other : Name) → is_among other kinds.global_names ≡ true → bytes_eq other name ≡ false → value_of kinds (seen_in left) other ≡ value_of kinds (seen_in seen) other
  set-others other is differ = ap (λ h. option_and_then (kinds.value other) h) (set-elsewhere (value other) is differ)

  module _ (access : Access) where
    -- the fragment that is left: the ids, parts and other globals are those that were seen
    pub set-ids : (fragment_of kinds access left).ids ≡ (fragment_of kinds access seen).ids
    set-ids = ap ids_in set-roll

    pub set-parts : (id : ℕ) (kind : Name) → (fragment_of kinds access left).part id kind ≡ (fragment_of kinds access seen).part id kind
    set-parts id kind = by (declares access kind) (is_among kind kinds.part_names) refl
      where
        column : is_among kind kinds.part_names ≡ true → (o : Option ℕ)
            → option_and_then (λ index. option_map (part_under (ref_to (roll_of kinds (seen_in seen)))) (column_of kinds (seen_in left) kind index)) o
            ≡ option_and_then (λ index. option_map (part_under (ref_to (roll_of kinds (seen_in seen)))) (column_of kinds (seen_in seen) kind index)) o
        column is None = refl
        column is (Some index) = ap (option_map (part_under (ref_to (roll_of kinds (seen_in seen))))) (set-columns kind is index)

        by : (declared known_it : Bool) → is_among kind kinds.part_names ≡ known_it
            → cond declared (cond known_it (part_in (roll_of kinds (seen_in left)) (column_of kinds (seen_in left) kind) id) None) None
            ≡ cond declared (cond known_it (part_in (roll_of kinds (seen_in seen)) (column_of kinds (seen_in seen) kind) id) None) None
        by false known_it is = refl
        by true false is = refl
        by true true is = ap (λ r. part_in r (column_of kinds (seen_in left) kind) id) set-roll ∙ column is (index_of (roll_of kinds (seen_in seen)) id)

    pub set-globals : (other : Name) → bytes_eq other name ≡ false → (fragment_of kinds access left).global other ≡ (fragment_of kinds access seen).global other
    set-globals other differ = by (declares_global access other) (is_among other kinds.global_names) refl
      where
        by : (declared known_it : Bool) → is_among other kinds.global_names ≡ known_it → cond declared (cond known_it (value_of kinds (seen_in left) other) None) None ≡ cond declared (cond known_it (value_of kinds (seen_in seen) other) None) None
        by false known_it is = refl
        by true false is = refl
        by true true is = set-others other is differ

    -- the global has the value that was put there
    pub set-global : declares_global access name ≡ true → (fragment_of kinds access left).global name ≡ kinds.value name v
    set-global declared =
        ap (λ b. cond b (cond (is_among name kinds.global_names) (value_of kinds (seen_in left) name) None) None) declared
        ∙ ap (λ b. cond b (value_of kinds (seen_in left) name) None) known ∙ set-here

    -- what is left is fit, where the rules read the value that was put there
    pub set-fit : (sense : Sense) → declares_global access name ≡ true → ((one : Json) → kinds.value name v ≡ Some one → sense.read_global name one ≡ Some one)
        → IsFit sense (fragment_of kinds access seen) → IsFit sense (fragment_of kinds access left)
    set-fit sense declared reads fit = record {
      ascend = subst IdsAscend (sym set-ids) fit.ascend;
      owned = λ id kind held is. subst (λ ids. lives id ids ≡ true) (sym set-ids) (fit.owned id kind held (sym (set-parts id kind) ∙ is));
      admitted = λ id kind held is. fit.admitted id kind held (sym (set-parts id kind) ∙ is);
      living = λ id kind held alive is. subst (λ ids. All (RefLives ids) held.refs) (sym set-ids)
          (fit.living id kind held (subst (λ ids. lives id ids ≡ true) set-ids alive) (sym (set-parts id kind) ∙ is));
      readable = λ other one is. by other one (bytes_eq other name) refl is;
    }
      where
        by : (other : Name) (one : Json) (b : Bool) → bytes_eq other name ≡ b → (fragment_of kinds access left).global other ≡ Some one → sense.read_global other one ≡ Some one
        by other one false differ is = fit.readable other one (sym (set-globals other differ) ∙ is)
        by other one true same is =
            let at : other ≡ name = (bytes_eq-Decides other name).0 same in
            ap (λ n. sense.read_global n one) at ∙ reads one (sym (set-global declared) ∙ subst (λ n. (fragment_of kinds access left).global n ≡ Some one) at is)

    -- and each global that had a value has one, where one was put there
    pub set-valued : declares_global access name ≡ true → IsSome (kinds.value name v) → KeepsValues (fragment_of kinds access seen) (fragment_of kinds access left)
    set-valued declared some other was = by (bytes_eq other name) refl
      where
        by : (b : Bool) → bytes_eq other name ≡ b → IsSome ((fragment_of kinds access left).global other)
        by false differ = subst (λ o. IsSome o) (sym (set-globals other differ)) was
        by true same = subst (λ n. IsSome ((fragment_of kinds access left).global n)) (sym ((bytes_eq-Decides other name).0 same)) (subst (λ o. IsSome o) (sym (set-global declared)) some)

-- what is left lawfully after a change that keeps ids and values is so from before it
pub lawful-after : (book : Book) (seen middle left : Fragment) (commands : List Command) → middle.ids ≡ seen.ids → KeepsValues seen middle → IsLawfullyLeft book middle left commands
    → IsLawfullyLeft book seen left commands
lawful-after book seen middle left commands same keeps is = record {
  ids = is.ids ∙ same;
  owned = is.owned;
  living = is.living;
  admitted = is.admitted;
  valued = λ name some. is.valued name (keeps name some);
  readable = is.readable;
  known = is.known;
}

-- ---- numbers of one kind that are others after

module _ {V : Type 0} (kinds : Kinds V) (apart : StandApart kinds) (kind : Name) (known : is_among kind kinds.part_names ≡ true) (made : ℕ → ℕ → ℕ) (seen left : Holding V)
    (changes : Changes (kinds.part_id kind) (NumbersBecome (kinds.stored kind) (kinds.events kind) (kinds.emits kind) made) seen left) where
  -- the parts of the kind are written, and nothing else
  pub numbers-write : WritesOne kinds kind changes.after seen left
  numbers-write = record { here = changes.sets.here; others = changes.sets.others }

  became : (index : ℕ) → number_at (column_of kinds (seen_in left) kind) index ≡ option_map (made index) (number_at (column_of kinds (seen_in seen) kind) index)
  became index =
      ap (λ held. number_at (column_in kinds kind held) index) changes.sets.here ∙ changes.changed.numbers index
      ∙ sym (ap (λ held. option_map (made index) (number_at (column_in kinds kind held) index)) changes.there)

  -- the events show what became of them
  pub numbers-shown : ShowsChanges kinds kind seen left
  numbers-shown =
      subst (λ one. Shows (column_in kinds kind) (events_in kinds kind) (emits_in kinds kind) one (readable (left (kinds.part_id kind)))) (sym changes.there)
      (subst (λ two. Shows (column_in kinds kind) (events_in kinds kind) (emits_in kinds kind) (Some changes.before) two) (sym changes.sets.here) (record {
        more = changes.changed.shown.more;
        told = changes.changed.shown.told;
        emission = changes.changed.shown.emission;
        all = changes.changed.shown.all;
      }))

  module _ (numbers : AreNumbers (column_of kinds (seen_in left) kind)) where
    -- a number stands only where one stood
    pub numbers-within : IsWithin kinds (roll_of kinds (seen_in seen)) (column_of kinds (seen_in seen) kind) → IsWithin kinds (roll_of kinds (seen_in left)) (column_of kinds (seen_in left) kind)
    numbers-within within = subst (λ roll. IsWithin kinds roll (column_of kinds (seen_in left) kind)) (sym (written-roll kinds apart kind known changes.after seen left numbers-write))
        (λ index some. within index (back index (was index (number_at (column_of kinds (seen_in seen) kind) index) (sym (ap is_some (became index)) ∙ number-stands (column_of kinds (seen_in left) kind) numbers index ∙ some))))
      where
        was : (index : ℕ) (o : Option ℕ) → is_some (option_map (made index) o) ≡ true → is_some o ≡ true
        was index None e = e
        was index (Some n) e = refl

        back : (index : ℕ) → is_some (number_at (column_of kinds (seen_in seen) kind) index) ≡ true → IsSome (column_of kinds (seen_in seen) kind index)
        back index = by (column_of kinds (seen_in seen) kind index)
          where
            by : (o : Option Stored) → is_some (option_and_then (λ (stored : Stored). number_in (stored.written [])) o) ≡ true → IsSome o
            by None e = e
            by (Some stored) e = refl

    module _ (access : Access) (declared : declares access kind ≡ true) where
      -- the part of an id is the number that was made of the one at its index
      pub numbers-left : (id : ℕ) → (fragment_of kinds access left).part id kind
          ≡ option_and_then (λ index. option_map (λ n. counting (made index n)) (number_at (column_of kinds (seen_in seen) kind) index)) (index_of (roll_of kinds (seen_in seen)) id)
      numbers-left id =
          counting-seen kinds access left kind known declared numbers id
          ∙ ap (λ roll. option_and_then (λ index. option_map counting (number_at (column_of kinds (seen_in left) kind) index)) (index_of roll id))
          (written-roll kinds apart kind known changes.after seen left numbers-write)
          ∙ by (index_of (roll_of kinds (seen_in seen)) id)
        where
          inside : (index : ℕ) (o : Option ℕ) → option_map counting (option_map (made index) o) ≡ option_map (λ n. counting (made index n)) o
          inside index None = refl
          inside index (Some n) = refl

          by : (o : Option ℕ) → option_and_then (λ index. option_map counting (number_at (column_of kinds (seen_in left) kind) index)) o
              ≡ option_and_then (λ index. option_map (λ n. counting (made index n)) (number_at (column_of kinds (seen_in seen) kind) index)) o
          by None = refl
          by (Some index) = ap (option_map counting) (became index) ∙ inside index (number_at (column_of kinds (seen_in seen) kind) index)

      -- what is left is lawful, where each number may stand under the kind
      pub numbers-lawful : (sense : Sense) → ((n : ℕ) → sense.admits kind (counting n) ≡ true) → IsFit sense (fragment_of kinds access seen)
          → (commands : List Command) → All (IsLawful (rules_by sense)) commands → IsLawfullyLeft (rules_by sense) (fragment_of kinds access seen) (fragment_of kinds access left) commands
      numbers-lawful sense admits fit = left-lawful kinds apart kind known changes.after seen left numbers-write access sense declared fit stands
        where
          stands : (index : ℕ) (stored : Stored) → kinds.stored kind changes.after index ≡ Some stored → MayStand sense (roll_of kinds (seen_in seen)) kind stored
          stands index stored is =
              let one = numbers index stored (ap (λ held. column_in kinds kind held index) changes.sets.here ∙ is) in
              subst (λ s. MayStand sense (roll_of kinds (seen_in seen)) kind s) one.1 (record { admitted = admits one.0; living = All-nil (RefLives (ids_in (roll_of kinds (seen_in seen)))) })
