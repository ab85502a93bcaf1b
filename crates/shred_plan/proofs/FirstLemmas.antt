-- The first stage that admits a system, from what is known of ranges of stages.
use Rattle.std.proofs.Common.{◌≡◌, ℕ, ◌-◌, ◌^◌, ◌<◌, ◌≤◌, zero, suc, min, max, Bool, true, false, not, ◌&&◌, eqb, List, [], ◌∷◌, ◌++◌, length, take, drop, refl, ap, sym, ◌∙◌, arith, Option, Some, None, ◌⊎◌, inl, inr, eq-eqb, ne_eqb, append-nil}
use Rattle.std.specs.Prelude.{◌==◌, nat_le, if◌then◌else◌}
use Rattle.std.specs.List.{list_all, filter, position, IsDistinct}
use Rattle.std.specs.Option.{option_map, option_map_or}
use Rattle.std.specs.declared.cmp.Ordering.{Ordering}
use Rattle.std.proofs.Math.ListN.{set}
use Rattle.std.proofs.Math.Seq.{take-suc}
use Rattle.std.proofs.lemmas.Bool.{cases_lt, eqb-true, lt-leb, leb-false}
use Rattle.std.proofs.lemmas.Grind.{flat_map-append}
use Rattle.std.proofs.lemmas.List.{nil_from_length, take_all, drop_all}
use Rattle.std.proofs.lemmas.List.Sums.{fold-append}
use Rattle.shred_plan.specs.declared.stage.Way.{Way}
use Rattle.shred_plan.specs.declared.stage.Way.TheVariants.{Alone, Behind}
use Rattle.shred_plan.specs.declared.stage_set.StageSet.{StageSet}
use Rattle.shred_plan.specs.declared.planner.Place.{Place}
use Rattle.shred_plan.specs.declared.index.Index.{Index}
use Rattle.shred_plan.specs.Plan.{Placing, Stage, joins, completes, admitted, placed, without, rest_after, systems_of, plan_order}
use Rattle.shred_plan.specs.Places.{IsPlace, placed_at}
use Rattle.shred_plan.specs.Index.{has_stage, stood_before, stage_at, stands_before, is_loose, rest_at, is_blocked, way_at, NoneAdmits}
use Rattle.shred_plan.specs.Kept.{Keeps, Readies, Blocks, IsFirst}
use Rattle.shred_plan.proofs.PlaceLemmas.{placed-found, placed-passed, open-room}
use Rattle.shred_plan.proofs.WayLemmas.{rest-distinct, rest-stays-distinct, filter-none, blocked-waits, blocked-tight, waits-tight, free-alone, free-wanted, incomplete}

module _ {Id : Type 0} (one : Placing Id) (stages : List (Stage Id)) where
  -- what is left after one stage more
  rest-suc : (place : ℕ) → place < length stages → rest_after (rest_at one stages place) (systems_of (stage_at stages place)) ≡ rest_at one stages (suc place)
  rest-suc place h =
      sym (ap (λ list. rest_after one.after (plan_order list)) (take-suc stages place [] h)
      ∙ ap (rest_after one.after) (flat_map-append systems_of (take place stages) (stage_at stages place ∷ []) ∙ ap (λ list. plan_order (take place stages) ++ list) (append-nil (systems_of (stage_at stages place))))
      ∙ fold-append (λ (rest : List ℕ) (system : Placing Id). without rest system.number) one.after (plan_order (take place stages)) (systems_of (stage_at stages place)))

  -- what is left, of numbers that differ
  pub rest-is : IsDistinct eqb one.after → (place : ℕ) → rest_at one stages place ≡ filter (λ n. not (stands_before stages n place)) one.after
  rest-is apart place = rest-distinct (plan_order (take place stages)) one.after apart

  -- the stage before which all stand, by what an index keeps
  pub readies : (cmp : Id → Id → Ordering) (same : Id → Id → Bool) (index : Index Id) → Keeps cmp same index stages → IsDistinct eqb one.after → (ready : Option ℕ)
      → ((place : ℕ) → place < 2 ^ 63 → list_all (λ number. stood_before index.firsts.stages number place) one.after ≡ option_map_or (λ stage. nat_le stage place) ready false)
      → Readies one stages ready
  readies cmp same index keeps apart ready is place small =
      ap (λ list. length list == 0) (rest-is apart place)
      ∙ filter-none (λ n. stands_before stages n place) one.after
      ∙ sym (λ i. list_all (λ number. keeps.firsts number place i) one.after)
      ∙ is place small

  -- the same of those that are left
  pub rest-kept : (cmp : Id → Id → Ordering) (same : Id → Id → Bool) (index : Index Id) → Keeps cmp same index stages → IsDistinct eqb one.after → (place : ℕ)
      → filter (λ number. not (stood_before index.firsts.stages number place)) one.after ≡ rest_at one stages place
  rest-kept cmp same index keeps apart place = (λ i. filter (λ number. not (keeps.firsts number place i)) one.after) ∙ sym (rest-is apart place)

module _ {Id : Type 0} (same : Id → Id → Bool) (first : ℕ) (one : Placing Id) (stages : List (Stage Id)) where
  -- stages that a barrier has closed admit nothing
  pub way-closed : (place : ℕ) → place < first → way_at same first one stages place ≡ None
  way-closed place h = ap (λ b. if b then admitted same one (rest_at one stages place) (stage_at stages place) else None) (ne_eqb (first - place) 0 (λ e. omega arith))

  pub way-open : (place : ℕ) → first ≤ place → way_at same first one stages place ≡ admitted same one (rest_at one stages place) (stage_at stages place)
  way-open place h = ap (λ b. if b then admitted same one (rest_at one stages place) (stage_at stages place) else None) (eq-eqb (first - place) 0 (omega arith))

  -- what is known of an open stage is known of any
  open-or-closed : (place : ℕ) → (first ≤ place → admitted same one (rest_at one stages place) (stage_at stages place) ≡ None) → way_at same first one stages place ≡ None
  open-or-closed place none = by (cases_lt place first)
    where
      by : (place < first) ⊎ (first ≤ place) → way_at same first one stages place ≡ None
      by (inl h) = way-closed place h
      by (inr h) = way-open place h ∙ none h

  -- stages that don't admit a system are passed over
  passed-over : (place : ℕ) → place ≤ length stages → NoneAdmits same first one stages 0 place
      → placed same first one one.after stages ≡ take place stages ++ placed same (first - place) one (rest_at one stages place) (drop place stages)
  passed-over zero h none = ap (λ n. placed same n one one.after stages) (omega arith)
  passed-over (suc place) h none =
      let fewer : (first - place) - 1 ≡ first - suc place = omega arith in
      passed-over place (omega arith) (λ k from before. none k from (omega arith))
      ∙ placed-passed same one stages (first - place) (rest_at one stages place) place (omega arith) (none place (omega arith) (omega arith))
      ∙ ap (λ list. take (suc place) stages ++ placed same ((first - place) - 1) one list (drop (suc place) stages)) (rest-suc one stages place (omega arith))
      ∙ ap (λ n. take (suc place) stages ++ placed same n one (rest_at one stages (suc place)) (drop (suc place) stages)) fewer

  -- the first stage of all that admits a system is its place
  pub first-placed : (found : Option Place) → IsFirst same first one stages 0 (length stages) found → placed same first one one.after stages ≡ placed_at one stages found
  first-placed None none =
      passed-over (length stages) (omega arith) none
      ∙ ap (λ list. list ++ placed same (first - length stages) one (rest_at one stages (length stages)) (drop (length stages) stages)) (take_all (length stages) stages (omega arith))
      ∙ ap (λ list. stages ++ placed same (first - length stages) one (rest_at one stages (length stages)) list) (drop_all (length stages) stages (omega arith))
  first-placed (Some found) is =
      passed-over found.stage (omega (arith, is.1)) is.3
      ∙ placed-found same one stages (first - found.stage) (rest_at one stages found.stage) found.stage found.way is.1 is.2

  pub first-fits : (found : Option Place) → IsFirst same first one stages 0 (length stages) found → IsPlace stages found
  first-fits None none = tt
  first-fits (Some found) is = (is.1, open-room same one (first - found.stage) (rest_at one stages found.stage) (stage_at stages found.stage) found.way is.2)

  -- a place that is the first of some stages is the first of more, where those before them admit nothing
  pub first-after : (from middle end last : ℕ) (found : Option Place) → end ≤ last
      → ((place : ℕ) → from ≤ place → place < middle → way_at same first one stages place ≡ None)
      → ((place : ℕ) → end ≤ place → place < last → way_at same first one stages place ≡ None)
      → from ≤ middle → IsFirst same first one stages middle end found → IsFirst same first one stages from last found
  first-after from middle end last None more before behind up none = λ place low high. by place low high (cases_lt place middle) (cases_lt place end)
    where
      by : (place : ℕ) → from ≤ place → place < last → (place < middle) ⊎ (middle ≤ place) → (place < end) ⊎ (end ≤ place) → way_at same first one stages place ≡ None
      by place low high (inl h) k = before place low h
      by place low high (inr h) (inl k) = none place h k
      by place low high (inr h) (inr k) = behind place k high
  first-after from middle end last (Some found) more before behind up is = (omega (arith, is.0), omega (arith, is.1), is.2, λ place low high. by place low high (cases_lt place middle))
    where
      by : (place : ℕ) → from ≤ place → place < found.stage → (place < middle) ⊎ (middle ≤ place) → way_at same first one stages place ≡ None
      by place low high (inl h) = before place low h
      by place low high (inr h) = is.3 place h high

  -- before the stage after which nothing is left
  pub waits : (ready : Option ℕ) → Readies one stages ready → IsDistinct eqb one.after → (place : ℕ) → place < length stages → length stages < 2 ^ 63
      → option_map_or (λ stage. nat_le stage (suc place)) ready false ≡ false → way_at same first one stages place ≡ None
  waits ready is apart place h small later =
      open-or-closed place (λ reached. incomplete same one (rest_at one stages place) (stage_at stages place)
      (rest-stays-distinct (plan_order (take place stages)) one.after apart)
      (ap (λ list. length list == 0) (rest-suc one stages place h) ∙ is (suc place) (omega arith) ∙ later)
      (is place (omega arith) ∙ by ready later))
    where
      by : (r : Option ℕ) → option_map_or (λ stage. nat_le stage (suc place)) r false ≡ false → option_map_or (λ stage. nat_le stage place) r false ≡ false
      by None e = refl
      by (Some stage) e = lt-leb stage place (omega (arith, leb-false stage (suc place) e))

  pub never : Readies one stages None → IsDistinct eqb one.after → length stages < 2 ^ 63 → NoneAdmits same first one stages 0 (length stages)
  never is apart small = λ place low high. waits None is apart place high small refl

  pub waits-until : (ready end : ℕ) → Readies one stages (Some ready) → IsDistinct eqb one.after → length stages < 2 ^ 63 → end < ready → end ≤ length stages → NoneAdmits same first one stages 0 end
  waits-until ready end is apart small before within = λ place low high. waits (Some ready) is apart place (omega arith) small (lt-leb ready (suc place) (omega arith))

  -- the stage in which the last of those stand that a system comes after
  more-left : (ready last : ℕ) → Readies one stages (Some ready) → length stages < 2 ^ 63 → last < length stages → last < ready → (length (rest_at one stages last) == 0) ≡ false
  more-left ready last is small h before = is last (omega arith) ∙ lt-leb ready last before

  pub last-blocked : (ready last : ℕ) (set : StageSet) → Readies one stages (Some ready) → length stages < 2 ^ 63 → last < length stages → last < ready → Blocks same one stages set → has_stage set last ≡ true → way_at same first one stages last ≡ None
  last-blocked ready last set is small h before blocks in-set =
      open-or-closed last (λ reached. blocked-waits same one (rest_at one stages last) (stage_at stages last) (sym (blocks last) ∙ in-set) (more-left ready last is small h before))

  pub last-tight : (ready last : ℕ) (cmp : Id → Id → Ordering) (index : Index Id) → Readies one stages (Some ready) → length stages < 2 ^ 63 → last < length stages → last < ready → Keeps cmp same index stages → has_stage index.loose last ≡ false → way_at same first one stages last ≡ None
  last-tight ready last cmp index is small h before keeps tight =
      open-or-closed last (λ reached. waits-tight same one (rest_at one stages last) (stage_at stages last) (more-left ready last is small h before) (keeps.loose last tight))

  pub last-wanted : (ready last : ℕ) (set : StageSet) (rest : List ℕ) (group : Option ℕ) → Readies one stages (Some ready) → length stages < 2 ^ 63 → last < length stages → last < ready → first ≤ last → Blocks same one stages set → has_stage set last ≡ false
      → rest ≡ rest_at one stages last → group ≡ position (λ g. completes rest g && joins one (stage_at stages last) g) (stage_at stages last)
      → way_at same first one stages last ≡ option_map Behind group
  last-wanted ready last set rest group is small h before reached blocks out rests found =
      way-open last reached
      ∙ free-wanted same one (rest_at one stages last) (stage_at stages last) (sym (blocks last) ∙ out) (more-left ready last is small h before)
      ∙ ap (λ list. option_map Behind (position (λ g. completes list g && joins one (stage_at stages last) g) (stage_at stages last))) (sym rests)
      ∙ ap (option_map Behind) (sym found)

  -- a stage at which nothing is left
  pub free-first : (place : ℕ) → first ≤ place → (length (rest_at one stages place) == 0) ≡ true → is_blocked same one (stage_at stages place) ≡ false → way_at same first one stages place ≡ Some Alone
  free-first place reached nothing free = way-open place reached ∙ free-alone same one (rest_at one stages place) (stage_at stages place) free nothing

  pub tight-passed : (place : ℕ) → is_blocked same one (stage_at stages place) ≡ true → is_loose (stage_at stages place) ≡ false → way_at same first one stages place ≡ None
  tight-passed place blocked tight = open-or-closed place (λ reached. blocked-tight same one (rest_at one stages place) (stage_at stages place) blocked tight)

  pub loose-way : (place : ℕ) (stage : Stage Id) (way : Option Way) → first ≤ place → (length (rest_at one stages place) == 0) ≡ true → stage ≡ stage_at stages place → way ≡ admitted same one [] stage → way_at same first one stages place ≡ way
  loose-way place stage way reached nothing read is =
      way-open place reached
      ∙ ap (λ list. admitted same one list (stage_at stages place)) (nil_from_length (rest_at one stages place) (eqb-true _ _ nothing))
      ∙ ap (admitted same one []) (sym read)
      ∙ sym is

  -- one stage more that admits nothing
  pub one-more : (from last end : ℕ) → end ≤ suc last → NoneAdmits same first one stages from last → way_at same first one stages last ≡ None → NoneAdmits same first one stages from end
  one-more from last end within before none place low high = by (cases_lt place last)
    where
      by : (place < last) ⊎ (last ≤ place) → way_at same first one stages place ≡ None
      by (inl h) = before place low h
      by (inr h) =
          let same_place : last ≡ place = omega arith in
          ap (way_at same first one stages) (sym same_place) ∙ none

  -- one stage more that admits nothing, and those after it
  pub one-then : (from last end : ℕ) → NoneAdmits same first one stages from last → way_at same first one stages last ≡ None
      → ((place : ℕ) → suc last ≤ place → place < end → way_at same first one stages place ≡ None) → NoneAdmits same first one stages from end
  one-then from last end before none behind place low high = by (cases_lt place (suc last))
    where
      by : (place < suc last) ⊎ (suc last ≤ place) → way_at same first one stages place ≡ None
      by (inl h) = one-more from last (suc last) (omega arith) before none place low h
      by (inr h) = behind place h high

  -- a place that is the first of some stages is the first of more behind them
  pub first-wider : (from end last : ℕ) (place : Place) → end ≤ last → IsFirst same first one stages from end (Some place) → IsFirst same first one stages from last (Some place)
  first-wider from end last place within is = (is.0, omega (arith, is.1), is.2, is.3)

  -- before all are there that it comes after, or behind a barrier, nothing admits a system
  pub before-start : (ready start : ℕ) → start ≡ max ready first → NoneAdmits same first one stages 0 (min ready (length stages)) → (place : ℕ) → place < start → place < length stages → way_at same first one stages place ≡ None
  before-start ready start is none place before within = by (cases_lt place ready)
    where
      by : (place < ready) ⊎ (ready ≤ place) → way_at same first one stages place ≡ None
      by (inl h) = none place (omega arith) (omega arith)
      by (inr h) = way-closed place (omega arith)
