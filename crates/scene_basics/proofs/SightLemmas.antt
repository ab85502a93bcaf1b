-- What the fragment that a system is lent says of numbers in a world.
use Rattle.std.proofs.Common.{◌≡◌, ℕ, ℤ, true, false, cond, Option, Some, None, refl, ap, sym, ◌∙◌}
use Rattle.std.specs.Prelude.{option_and_then, option_map}
use Rattle.shred_world.specs.Bundles.{Holding, readable}
use Rattle.specs_entity.specs.Life.{LifeAt}
use Rattle.scene_model.specs.Parts.{Name, Ref, is_among}
use Rattle.scene_model.specs.Rulebook.{Access, declares}
use Rattle.scene_world.specs.Stored.{part_under}
use Rattle.scene_world.specs.Rolls.{index_of, ref_to, part_in}
use Rattle.scene_world.specs.Standing.{seen_in, column_of, fragment_of}
use Rattle.scene_basics.specs.declared.data.Ask.TheVariants.{Deaths, Births}
use Rattle.scene_basics.specs.declared.data.BasicSystem.TheVariants.{Reap, Bud}
use Rattle.scene_basics.specs.declared.values.Whole.{Whole}
use Rattle.scene_basics.specs.declared.values.Value.{Value}
use Rattle.scene_basics.specs.Names.{hp_kind, pos_kind, part_kinds, reference_kinds}
use Rattle.scene_basics.specs.Numbers.{counting, number_of}
use Rattle.scene_basics.specs.RuleLaws.{whole_in-json_of}
use Rattle.scene_basics.specs.Systems.{declared_access}
use Rattle.scene_basics.specs.Gains.{number_at}
use Rattle.scene_basics.specs.Asks.{death_by, birth_by, asked_for}
use Rattle.scene_basics.specs.Columns.{part_id, whole_stored, number_column, owner_column, basic_kinds}
use Rattle.scene_basics.specs.Known.{basic_roll}
use Rattle.scene_basics.specs.Adding.{numbers_of}
use Rattle.scene_basics.specs.Asked.{number_seen, number_under, lent_for}

-- a number that is stored is that part
pub part-whole : (ref : LifeAt → Ref) (o : Option Whole) → option_map (part_under ref) (option_map whole_stored o) ≡ option_map counting (option_map (λ (whole : Whole). whole.0) o)
part-whole ref None = refl
part-whole ref (Some whole) = refl

-- the number that is counted is that
pub counted : (o : Option ℤ) → option_and_then number_of (option_map counting o) ≡ o
counted None = refl
counted (Some z) = whole_in-json_of z

module _ (kind : Name) (numeric : is_among kind reference_kinds ≡ false) where
  -- what a column of numbers stores
  pub column-numbers : (w : Holding Value) (index : ℕ) → column_of basic_kinds (seen_in w) kind index ≡ option_map whole_stored (numbers_of (readable (w (part_id kind))) index)
  column-numbers w index = by (readable (w (part_id kind)))
    where
      by : (held : Option Value) → option_and_then (λ v. basic_kinds.stored kind v index) held ≡ option_map whole_stored (numbers_of held index)
      by None = refl
      by (Some v) = ap (λ b. cond b (owner_column v index) (number_column v index)) numeric

  module _ (known : is_among kind part_kinds ≡ true) (access : Access) (declared : declares access kind ≡ true) where
    -- the part of an id is its number
    pub part-of-id : (w : Holding Value) (id : ℕ) → (fragment_of basic_kinds access w).part id kind ≡ option_map counting (number_under w kind id)
    part-of-id w id =
        ap (λ b. cond b (cond (is_among kind part_kinds) (part_in (basic_roll w) (column_of basic_kinds (seen_in w) kind) id) None) None) declared
        ∙ ap (λ b. cond b (part_in (basic_roll w) (column_of basic_kinds (seen_in w) kind) id) None) known
        ∙ by (index_of (basic_roll w) id)
      where
        by : (o : Option ℕ) → option_and_then (λ index. option_map (part_under (ref_to (basic_roll w))) (column_of basic_kinds (seen_in w) kind index)) o ≡ option_map counting (option_and_then (number_seen w kind) o)
        by None = refl
        by (Some index) = ap (option_map (part_under (ref_to (basic_roll w)))) (column-numbers w index) ∙ part-whole (ref_to (basic_roll w)) (numbers_of (readable (w (part_id kind))) index)

    pub number-of-id : (w : Holding Value) (id : ℕ) → number_at (fragment_of basic_kinds access w) kind id ≡ number_under w kind id
    number-of-id w id = ap (option_and_then number_of) (part-of-id w id) ∙ counted (number_under w kind id)

-- what is asked for an id, by its numbers
pub asked-deaths : (w : Holding Value) (id : ℕ) → death_by id (number_under w hp_kind id) ≡ asked_for Deaths (lent_for Deaths w) id
asked-deaths w id = ap (death_by id) (sym (number-of-id hp_kind refl refl (declared_access Reap) refl w id))

pub asked-births : (w : Holding Value) (id : ℕ) → birth_by (number_under w hp_kind id) (option_map counting (number_under w pos_kind id)) ≡ asked_for Births (lent_for Births w) id
asked-births w id =
    ap (λ hp. birth_by hp (option_map counting (number_under w pos_kind id))) (sym (number-of-id hp_kind refl refl (declared_access Bud) refl w id))
    ∙ ap (birth_by (number_at (lent_for Births w) hp_kind id)) (sym (part-of-id pos_kind refl refl (declared_access Bud) refl w id))
