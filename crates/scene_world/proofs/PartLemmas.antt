-- One part that is another at one index is another at one id.
use Rattle.std.proofs.Common.{◌≡◌, ℕ, Bool, true, false, cond, eqb, ◌&&◌, Option, Some, None, refl, ap, sym, ◌∙◌, subst}
use Rattle.std.specs.Prelude.{option_and_then, option_map}
use Rattle.std.specs.Str.{bytes_eq}
use Rattle.std.proofs.lemmas.Slice.Eq.{bytes_eq-Decides}
use Rattle.std.proofs.lemmas.Bool.{true≢false, eqb-true, eq-eqb}
use Rattle.scene_model.specs.Parts.{Name, Part, is_among}
use Rattle.scene_model.specs.Commands.{with_part}
use Rattle.scene_model.proofs.CallerLemmas.{same_scene}
use Rattle.scene_world.specs.Stored.{Stored, part_under}
use Rattle.scene_world.specs.Rolls.{Roll, id_at, ids_in, index_of, ref_to, part_in, IsRoll}
use Rattle.scene_world.specs.Standing.{Sight, Kinds, roll_of, column_of, value_of, plain_of}
use Rattle.scene_world.specs.Changes.{but_at, SetsPart}
use Rattle.scene_world.proofs.RollLemmas.{id-at-index, index-of-id}

-- what stands at a number, and at another
pub at-one : {A : Type 0} (index at : ℕ) (here : A) (others : ℕ → A) → at ≡ index → but_at index here others at ≡ here
at-one index at here others e = ap (λ b. cond b here (others at)) (eq-eqb at index e)

pub at-other : {A : Type 0} (index at : ℕ) (here : A) (others : ℕ → A) → (at ≡ index → ⊥) → but_at index here others at ≡ others at
at-other index at here others differ = by (eqb at index) refl
  where
    by : (b : Bool) → eqb at index ≡ b → cond (eqb at index) here (others at) ≡ others at
    by true e = absurd (differ (eqb-true at index e))
    by false e = ap (λ b. cond b here (others at)) e

-- two ids at one index are one
pub one-id : (roll : Roll) (one other at index : ℕ) → id_at roll at ≡ Some one → id_at roll index ≡ Some other → at ≡ index → one ≡ other
one-id roll one other at index e f same = let both : Some one ≡ Some other = sym e ∙ ap (id_at roll) same ∙ f in cc

module _ (roll : Roll) (is : IsRoll roll) (id index : ℕ) (there : id_at roll index ≡ Some id)
    (part : Option Stored) (column now : ℕ → Option Stored) (changes : (at : ℕ) → now at ≡ but_at index part column at) where
  -- in a column with something else at an index, the part of its id is that, and the others stay
  pub part-changes : (other : ℕ) → part_in roll now other ≡ but_at id (option_map (part_under (ref_to roll)) part) (part_in roll column) other
  part-changes other = by (eqb other id) refl
    where
      away : (eqb other id ≡ false) → (o : Option ℕ) → index_of roll other ≡ o
          → option_and_then (λ i. option_map (part_under (ref_to roll)) (now i)) o ≡ option_and_then (λ i. option_map (part_under (ref_to roll)) (column i)) o
      away differ None e = refl
      away differ (Some i) e = ap (option_map (part_under (ref_to roll)))
          (changes i ∙ at-other index i part column (λ same. true≢false (sym (eq-eqb other id (one-id roll other id i index (id-at-index roll other i e) there same)) ∙ differ)))

      by : (b : Bool) → eqb other id ≡ b → part_in roll now other ≡ but_at id (option_map (part_under (ref_to roll)) part) (part_in roll column) other
      by true same =
          ap (λ o. option_and_then (λ i. option_map (part_under (ref_to roll)) (now i)) o) (ap (index_of roll) (eqb-true other id same) ∙ index-of-id roll is id index there)
          ∙ ap (option_map (part_under (ref_to roll))) (changes index ∙ at-one index index part column refl)
          ∙ sym (at-one id other (option_map (part_under (ref_to roll)) part) (part_in roll column) (eqb-true other id same))
      by false differ = away differ (index_of roll other) refl ∙ ap (λ b. cond b (option_map (part_under (ref_to roll)) part) (part_in roll column other)) (sym differ)

module _ {V : Type 0} (kinds : Kinds V) (w w2 : Sight V) (is : IsRoll (roll_of kinds w)) (kind : Name) (known : is_among kind kinds.part_names ≡ true)
    (id index : ℕ) (there : id_at (roll_of kinds w) index ≡ Some id) (part : Option Stored) (sets : SetsPart kinds kind index part w w2) where
  abbrev given : Option Part
  given = option_map (part_under (ref_to (roll_of kinds w))) part

  -- the part of that id under that kind, and no other, is another
  part-set : (other : ℕ) (name : Name) → (plain_of kinds w2).part other name ≡ with_part id kind given (plain_of kinds w).part other name
  part-set other name = ap (λ r. cond (is_among name kinds.part_names) (part_in r (column_of kinds w2 name) other) None) sets.roll ∙ by (bytes_eq name kind) refl
    where
      -- where the column is this one's
      at-kind : cond (is_among kind kinds.part_names) (part_in (roll_of kinds w) (column_of kinds w2 kind) other) None
          ≡ cond (eqb other id && true) given (cond (is_among kind kinds.part_names) (part_in (roll_of kinds w) (column_of kinds w kind) other) None)
      at-kind =
          ap (λ b. cond b (part_in (roll_of kinds w) (column_of kinds w2 kind) other) None) known
          ∙ part-changes (roll_of kinds w) is id index there part (column_of kinds w kind) (column_of kinds w2 kind) sets.here other
          ∙ both (eqb other id) ∙ ap (λ b. cond (eqb other id && true) given (cond b (part_in (roll_of kinds w) (column_of kinds w kind) other) None)) (sym known)
        where
          both : (b : Bool) → cond b given (part_in (roll_of kinds w) (column_of kinds w kind) other) ≡ cond (b && true) given (part_in (roll_of kinds w) (column_of kinds w kind) other)
          both true = refl
          both false = refl

      apart : (b : Bool) → is_among name kinds.part_names ≡ b → bytes_eq name kind ≡ false
          → cond b (part_in (roll_of kinds w) (column_of kinds w2 name) other) None ≡ cond b (part_in (roll_of kinds w) (column_of kinds w name) other) None
      apart true is differ = by-index (index_of (roll_of kinds w) other)
        where
          by-index : (o : Option ℕ) → option_and_then (λ i. option_map (part_under (ref_to (roll_of kinds w))) (column_of kinds w2 name i)) o
              ≡ option_and_then (λ i. option_map (part_under (ref_to (roll_of kinds w))) (column_of kinds w name i)) o
          by-index None = refl
          by-index (Some i) = ap (option_map (part_under (ref_to (roll_of kinds w)))) (sets.others name is differ i)
      apart false is differ = refl

      never : (b : Bool) (one two : Option Part) → cond (b && false) one two ≡ two
      never true one two = refl
      never false one two = refl

      by : (b : Bool) → bytes_eq name kind ≡ b → cond (is_among name kinds.part_names) (part_in (roll_of kinds w) (column_of kinds w2 name) other) None
          ≡ cond (eqb other id && bytes_eq name kind) given (cond (is_among name kinds.part_names) (part_in (roll_of kinds w) (column_of kinds w name) other) None)
      by true same =
          subst (λ n. cond (is_among n kinds.part_names) (part_in (roll_of kinds w) (column_of kinds w2 n) other) None
          ≡ cond (eqb other id && true) given (cond (is_among n kinds.part_names) (part_in (roll_of kinds w) (column_of kinds w n) other) None)) (sym ((bytes_eq-Decides name kind).0 same)) at-kind
          ∙ ap (λ b. cond (eqb other id && b) given (cond (is_among name kinds.part_names) (part_in (roll_of kinds w) (column_of kinds w name) other) None)) (sym same)
      by false differ = apart (is_among name kinds.part_names) refl differ
          ∙ sym (never (eqb other id) given _)
          ∙ ap (λ b. cond (eqb other id && b) given (cond (is_among name kinds.part_names) (part_in (roll_of kinds w) (column_of kinds w name) other) None)) (sym differ)

  -- the scene is the one before with that part in its place
  pub scene-set : plain_of kinds w2 ≡ record (plain_of kinds w) { part = with_part id kind given (plain_of kinds w).part }
  scene-set = same_scene _ _ (ap (λ r. r.noting.next) sets.roll) (ap ids_in sets.roll) part-set (λ name. value name (is_among name kinds.global_names) refl)
    where
      value : (name : Name) (b : Bool) → is_among name kinds.global_names ≡ b → cond b (value_of kinds w2 name) None ≡ cond b (value_of kinds w name) None
      value name true is = sets.values name is
      value name false is = refl
