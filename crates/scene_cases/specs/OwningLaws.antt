-- The laws of the rules of the test.
use Rattle.std.proofs.Common.{◌≡◌, ℕ, Bool, true, false, cond, eqb, [], ◌∷◌, Option, Some, None, refl, subst}
use Rattle.std.specs.Prelude.{option_map}
use Rattle.std.specs.Str.{bytes_eq}
use Rattle.std.proofs.lemmas.Option.{none-some, same_Some}
use Rattle.std.proofs.lemmas.Bool.{false≢true, eq-eqb}
use Rattle.serde_json.specs.Written.{has_float}
use Rattle.scene_model.specs.Parts.{Json, Name, Part}
use Rattle.scene_model.specs.Laws.{Ascend}
use Rattle.scene_world.specs.RuleLemmas.{ascending-names}
use Rattle.scene_cases.specs.Owning.{owner_name, rank_name, era_name, counted, owned_by, ranked, part_of, part_for, number_in, is_owner, is_rank, owning_book}
use Rattle.scene_cases.specs.declared.commands.datum.Datum.{Datum}
use Rattle.scene_cases.specs.declared.commands.datum.Datum.TheVariants.{OwnedBy, Ranked}

-- the kinds ascend
pub law-kinds_ascend : Ascend (owner_name ∷ rank_name ∷ [])
law-kinds_ascend = ascending-names (owner_name ∷ rank_name ∷ []) refl

-- and so does the name of the global
pub law-globals_ascend : Ascend (era_name ∷ [])
law-globals_ascend = ascending-names (era_name ∷ []) refl

-- whether a part for a number is of its kind, by whether that is the first
admitted-as : (owns : Bool) (n : ℕ) → (λ (part : Part). cond owns (is_owner (number_in part.json) part.refs) (is_rank (number_in part.json) part.refs)) (cond owns (owned_by n) (ranked n)) ≡ true
admitted-as true n = eq-eqb n n refl
admitted-as false n = refl

-- what is read under a kind is of that kind
pub law-reads_admitted : (kind : Name) (json : Json) (part : Part) → owning_book.read_part kind json ≡ Some part → owning_book.admits kind part ≡ true
law-reads_admitted kind json part read = by (number_in json) read
  where
    by : (o : Option ℕ) → option_map (part_for kind) o ≡ Some part → owning_book.admits kind part ≡ true
    by None e = absurd (none-some part e)
    by (Some n) e = subst (λ (p : Part). owning_book.admits kind p ≡ true) (same_Some (part_for kind n) part e) (admitted-as (bytes_eq kind owner_name) n)

-- a datum is read back under a kind that admits it
pub law-reads_back : (kind : Name) (datum : Datum) → owning_book.admits kind (part_of datum) ≡ true → owning_book.read_part kind (part_of datum).json ≡ Some (part_of datum)
law-reads_back kind (OwnedBy id) = by (bytes_eq kind owner_name)
  where
    by : (owns : Bool) → cond owns (eqb id id) false ≡ true → Some (cond owns (owned_by id) (ranked id)) ≡ Some (owned_by id)
    by true admitted = refl
    by false admitted = absurd (false≢true admitted)
law-reads_back kind (Ranked n) = by (bytes_eq kind owner_name)
  where
    by : (owns : Bool) → cond owns false true ≡ true → Some (cond owns (owned_by n) (ranked n)) ≡ Some (ranked n)
    by true admitted = absurd (false≢true admitted)
    by false admitted = refl

-- a global's value is read back
pub law-global_reads_back : (name : Name) (json global : Json) → owning_book.read_global name json ≡ Some global → owning_book.read_global name global ≡ Some global
law-global_reads_back name json global read = by (number_in json) read
  where
    by : (o : Option ℕ) → option_map counted o ≡ Some global → owning_book.read_global name global ≡ Some global
    by None e = absurd (none-some global e)
    by (Some n) e = subst (λ (v : Json). owning_book.read_global name v ≡ Some v) (same_Some (counted n) global e) refl

-- no float is written for a datum
pub law-no_float : (datum : Datum) → has_float (part_of datum).json ≡ false
law-no_float (OwnedBy id) = refl
law-no_float (Ranked n) = refl
