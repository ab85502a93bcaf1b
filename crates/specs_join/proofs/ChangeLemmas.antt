-- What a write of a change leaves.
use Rattle.std.proofs.Common.{◌≡◌, ℕ, List, [], ◌∷◌, ◌++◌, Option, refl, subst, Some, IsSome, is_some, inl, inr, sym, ap, ◌∙◌, Result, Ok, Err, OnErr}
use Rattle.std.specs.Prelude.{option_map, MatchResult, IsErr}
use Rattle.std.specs.Result.{IsErrAnd}
use Rattle.std.proofs.lemmas.Bool.{cases_eq}
use Rattle.specs_layouts.specs.Parts.{Puts, SameParts}
use Rattle.specs_layouts.specs.Dense.{Dense, dense_part, with_dense_part}
use Rattle.specs_layouts.specs.DenseLemmas.{with_dense_part-puts}
use Rattle.specs_join.specs.declared.changeset.Change.{Change}
use Rattle.specs_entity.specs.declared.ids.Entity.{Entity}
use Rattle.specs_join.specs.declared.changeset.ChangeError.{ChangeError}
use Rattle.specs_join.specs.Changes.{changes_in, with_change, FitsChange, Adds, AddsAll, RefusesChange}

-- a part that is put where it is leaves all as it was
same-again : {T : Type 0} (before after : ℕ → Option T) (index : ℕ) (part : Option T) → Puts before index part after → before index ≡ part → SameParts before after
same-again before after index part puts there other =
    elim (cases_eq other index) [
      | inl here ↦ ap after here ∙ puts.here ∙ sym there ∙ ap before (sym here)
      | inr apart ↦ puts.others other apart
    ]

-- a change that is written where one is
pub written-change : {T : Type 0} (inner : Dense (Change T)) (index : ℕ) (change : Change T) → IsSome (dense_part inner index) → Puts (changes_in inner) index (Some change.0) (changes_in (with_dense_part inner index change))
written-change inner index change there =
    let puts = with_dense_part-puts inner index change there in
    record {
      here = ap (option_map (λ c. c.0)) puts.here;
      others = λ other apart. ap (option_map (λ c. c.0)) (puts.others other apart);
    }

-- a change that is written again leaves all as it was
pub rewritten : {T : Type 0} (inner : Dense (Change T)) (index : ℕ) (change : Change T) → dense_part inner index ≡ Some change → (value : T) → value ≡ change.0 → SameParts (changes_in inner) (changes_in (with_dense_part inner index (record { 0 = value })))
rewritten inner index change is value same =
    same-again (changes_in inner) (changes_in (with_dense_part inner index (record { 0 = value }))) index (Some value)
    (written-change inner index (record { 0 = value }) (ap is_some is))
    (ap (option_map (λ c. c.0)) is ∙ ap Some (sym same))

-- what follows where a call is refused
pub on-err : {A E : Type 0} {P Q : Type 0} (result : Result A E) → OnErr result P → (P → Q) → OnErr result Q
on-err (Ok value) refused follows = tt
on-err (Err error) refused follows = follows refused

-- a change that is added to the state before a call is added to an equal one
adds-from : {T : Type 0} (sum : T → T → T) (fits : T → T → Type 0) (before between after : ℕ → Option T) (index : ℕ) (value : T) → SameParts before between → Adds sum fits between index value after → Adds sum fits before index value after
adds-from sum fits before between after index value same adds =
    record {
      range = adds.range;
      fit = subst (λ change. FitsChange fits change value) (same index) adds.fit;
      puts = record {
        here = adds.puts.here ∙ ap (λ change. Some (with_change sum change value)) (same index);
        others = λ other apart. adds.puts.others other apart ∙ same other;
      };
    }

same-parts : {T : Type 0} (parts : ℕ → Option T) → SameParts parts parts
same-parts parts index = refl

-- the same changes are added to an equal state
pub all-from : {T : Type 0} (sum : T → T → T) (fits : T → T → Type 0) (before between after : ℕ → Option T) (pairs : List (Entity × T)) → SameParts before between → AddsAll sum fits between pairs after → AddsAll sum fits before pairs after
all-from sum fits before between after [] same all = λ index. all index ∙ same index
all-from sum fits before between after (pair ∷ pairs) same all = (all.0, adds-from sum fits before between all.0 pair.0.id pair.1 same all.1, all.2)

-- one change more comes last
pub all-last : {T : Type 0} (sum : T → T → T) (fits : T → T → Type 0) (before between after : ℕ → Option T) (pairs : List (Entity × T)) (pair : Entity × T) → AddsAll sum fits before pairs between → Adds sum fits between pair.0.id pair.1 after → AddsAll sum fits before (pairs ++ pair ∷ []) after
all-last sum fits before between after [] pair all adds = (after, adds-from sum fits before between after pair.0.id pair.1 all adds, same-parts after)
all-last sum fits before between after (first ∷ pairs) pair all adds = (all.0, all.1, all-last sum fits all.0 between after pairs pair all.2 adds)

-- what changed nothing comes last
pub all-same : {T : Type 0} (sum : T → T → T) (fits : T → T → Type 0) (before between after : ℕ → Option T) (pairs : List (Entity × T)) → AddsAll sum fits before pairs between → SameParts between after → AddsAll sum fits before pairs after
all-same sum fits before between after [] all same = λ index. same index ∙ all index
all-same sum fits before between after (first ∷ pairs) all same = (all.0, all.1, all-same sum fits all.0 between after pairs all.2 same)

-- a refusal of a change is one from an equal state
pub refuses-from : {T : Type 0} (fits : T → T → Type 0) (before after : ℕ → Option T) (index : ℕ) (value : T) (error : ChangeError) → SameParts before after → RefusesChange fits before index value error → RefusesChange fits after index value error
refuses-from fits before after index value error same refuses =
    elim refuses [
      | inl overflow ↦ inl (overflow.0, λ fit. overflow.1 (subst (λ change. FitsChange fits change value) (same index) fit))
      | inr (inl range) ↦ inr (inl range)
      | inr (inr memory) ↦ inr (inr (memory.0, same index ∙ memory.1))
    ]

-- what is refused as another call was is refused with its error
pub refused-with : {A E : Type 0} (P : A → Type 0) (Q : E → Type 0) (result : Result A E) (error : E) → IsErr result × IsErrAnd result (λ told. told ≡ error) → Q error → MatchResult result P Q
refused-with P Q (Ok value) error refused holds = absurd refused.1
refused-with P Q (Err told) error refused holds = subst Q (sym refused.1) holds
