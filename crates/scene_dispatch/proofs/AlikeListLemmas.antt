-- A system goes to the place to which its partner goes.
use Rattle.std.proofs.Common.{◌≡◌, ℕ, ◌-◌, ◌*◌, Bool, true, false, List, [], ◌∷◌, length, get_or, Option, Some, None, refl, ap, sym, ◌∙◌}
use Rattle.std.specs.Prelude.{◌==◌, ◌&&◌, nat_lt, max, count_by, if◌then◌else◌}
use Rattle.std.specs.List.{AllZip, position}
use Rattle.std.specs.Option.{option_map, option_map_or}
use Rattle.shred_plan.specs.declared.stage.Way.{Way}
use Rattle.shred_plan.specs.declared.stage.Way.TheVariants.{Alone, Behind}
use Rattle.shred_plan.specs.Plan.{Placing, Group, Stage, conflict, hits, time_of, longest, joins, completes, without, rest_after, systems_of, admitted, taken, placed}
use Rattle.scene_dispatch.specs.Alike.{AreNumberedAlike}
use Rattle.scene_dispatch.proofs.ZipLemmas.{zip-append, zip-get, zip-set, zip-length, zip-fold, zip-sum, zip-count, zip-any, zip-position}

-- two groups, and two stages, of which something holds system by system
abbrev pub ByGroup : {I J : Type 0} → (Placing I → Placing J → Type 0) → Stage I → Stage J → Type 0
ByGroup R stage others = AllZip (AllZip R) stage others

abbrev pub ByStage : {I J : Type 0} → (Placing I → Placing J → Type 0) → List (Stage I) → List (Stage J) → Type 0
ByStage R stages others = AllZip (ByGroup R) stages others

-- then it holds of the systems of two stages, one after the other
pub zip-systems : {I J : Type 0} (R : Placing I → Placing J → Type 0) (stage : Stage I) (others : Stage J) → ByGroup R stage others → AllZip R (systems_of stage) (systems_of others)
zip-systems R [] [] zipped = tt
zip-systems R [] (partners ∷ others) zipped = absurd zipped
zip-systems R (group ∷ stage) [] zipped = absurd zipped
zip-systems R (group ∷ stage) (partners ∷ others) zipped = zip-append R group (systems_of stage) partners (systems_of others) zipped.0 (zip-systems R stage others zipped.1)

module _ {I J : Type 0} (S : Placing I → Placing J → Type 0) (one : Placing I) (other : Placing J) (new : S one other) where
  -- of two stages with partners taken in the same way
  pub taken-zip : (stage : Stage I) (others : Stage J) (way : Way) → ByGroup S stage others → ByGroup S (taken one stage way) (taken other others way)
  taken-zip stage others Alone zipped = zip-append (AllZip S) stage ((one ∷ []) ∷ []) others ((other ∷ []) ∷ []) zipped ((new, tt), tt)
  taken-zip stage others (Behind place) zipped =
      zip-set (AllZip S) stage others place _ _
      (zip-append S (get_or stage place []) (one ∷ []) (get_or others place []) (other ∷ []) (zip-get (AllZip S) stage others place [] [] tt zipped) (new, tt))
      zipped

-- what is known of a system in a stage, and of its partner, where a system and its partner are placed: they are numbered alike, and
-- hit alike
pub record IsKnown {I J : Type 0} (same_one : I → I → Bool) (same_other : J → J → Bool) (one : Placing I) (other : Placing J) (system : Placing I) (partner : Placing J) : Type 0 where
  pub numbered : AreNumberedAlike (system, partner)
  pub conflicts : conflict same_one one system ≡ conflict same_other other partner

module _ {I J : Type 0} (same_one : I → I → Bool) (same_other : J → J → Bool) (one : Placing I) (other : Placing J) (time : other.time ≡ one.time) where
  -- that of one system and its partner, for this pair
  abbrev Known : Placing I → Placing J → Type 0
  Known system partner = IsKnown same_one same_other one other system partner

  -- a system conflicts with a group just where its partner does
  hits-same : (group : Group I) (partners : Group J) → AllZip Known group partners → hits same_one one group ≡ hits same_other other partners
  hits-same = zip-any Known (conflict same_one one) (conflict same_other other) (λ system partner known. known.conflicts)

  -- two groups take the same time
  time-same : (group : Group I) (partners : Group J) → AllZip Known group partners → time_of group ≡ time_of partners
  time-same = zip-sum Known (λ system. system.time) (λ system. system.time) (λ system partner known. sym known.numbered.time)

  -- and so do the longest groups of two stages
  longest-same : (stage : Stage I) (others : Stage J) → ByGroup Known stage others → longest stage ≡ longest others
  longest-same stage others zipped =
      zip-fold (AllZip Known) (λ a b. a ≡ b) (λ most group. max most (time_of group)) (λ most group. max most (time_of group))
      (λ a b group partners e known. ap (λ n. max n (time_of group)) e ∙ ap (λ n. max b n) (time-same group partners known)) stage others 0 0 refl zipped

  -- a system may go to the end of a group just where its partner may
  joins-same : (stage : Stage I) (others : Stage J) (group : Group I) (partners : Group J) → ByGroup Known stage others → AllZip Known group partners → joins one stage group ≡ joins other others partners
  joins-same stage others group partners zipped known =
      ap (λ n. nat_lt n 4 && nat_lt one.time (2 * (longest stage - time_of group))) (zip-length Known group partners known)
      ∙ ap (λ n. nat_lt (length partners) 4 && nat_lt n (2 * (longest stage - time_of group))) (sym time)
      ∙ ap (λ n. nat_lt (length partners) 4 && nat_lt other.time (2 * (n - time_of group))) (longest-same stage others zipped)
      ∙ ap (λ n. nat_lt (length partners) 4 && nat_lt other.time (2 * (longest others - n))) (time-same group partners known)

  -- what is left after a group
  pub left-further : (systems : List (Placing I)) (partners : List (Placing J)) (rest others : List ℕ) → rest ≡ others → AllZip Known systems partners → rest_after rest systems ≡ rest_after others partners
  left-further =
      zip-fold Known (λ a b. a ≡ b) (λ rest system. without rest system.number) (λ rest system. without rest system.number)
      (λ rest others system partner left known. ap (λ list. without list system.number) left ∙ ap (λ number. without others number) (sym known.numbered.number))

  -- a group has all that is left just where the other has
  completes-same : (rest others : List ℕ) → rest ≡ others → (group : Group I) (partners : Group J) → AllZip Known group partners → completes rest group ≡ completes others partners
  completes-same rest others left group partners known =
      let after : length (rest_after rest group) ≡ length (rest_after others partners) = ap length (left-further group partners rest others left known) in
      ap (λ n. (n == 0) && nat_lt n (length rest)) after ∙ ap (λ n. (length (rest_after others partners) == 0) && nat_lt (length (rest_after others partners)) n) (ap length left)

  -- a stage admits a system in the way in which the other admits its partner
  pub admitted-same : (rest left : List ℕ) → rest ≡ left → (stage : Stage I) (others : Stage J) → ByGroup Known stage others
      → admitted same_one one rest stage ≡ admitted same_other other left others
  admitted-same rest left is stage others zipped =
      ap (λ n. by n (length rest) (position (λ group. completes rest group && joins one stage group) stage) (position (λ group. hits same_one one group && joins one stage group) stage))
      (zip-count (AllZip Known) (hits same_one one) (hits same_other other) hits-same stage others zipped)
      ∙ ap (λ n. by (count_by (hits same_other other) others) n (position (λ group. completes rest group && joins one stage group) stage) (position (λ group. hits same_one one group && joins one stage group) stage))
      (ap length is)
      ∙ ap (λ found. by (count_by (hits same_other other) others) (length left) found (position (λ group. hits same_one one group && joins one stage group) stage))
      (zip-position (AllZip Known) (λ group. completes rest group && joins one stage group) (λ group. completes left group && joins other others group)
      (λ group partners known. ap (λ b. b && joins one stage group) (completes-same rest left is group partners known) ∙ ap (λ b. completes left partners && b) (joins-same stage others group partners zipped known)) stage others zipped)
      ∙ ap (λ found. by (count_by (hits same_other other) others) (length left) (position (λ group. completes left group && joins other others group) others) found)
      (zip-position (AllZip Known) (λ group. hits same_one one group && joins one stage group) (λ group. hits same_other other group && joins other others group)
      (λ group partners known. ap (λ b. b && joins one stage group) (hits-same group partners known) ∙ ap (λ b. hits same_other other partners && b) (joins-same stage others group partners zipped known)) stage others zipped)
    where
      by : ℕ → ℕ → Option ℕ → Option ℕ → Option Way
      by conflicts left completing hit =
          if conflicts == 0
          then (if left == 0 then Some Alone else option_map Behind completing)
          else (if (conflicts == 1) && (left == 0) then option_map Behind hit else None)

module _ {I J : Type 0} (same_one : I → I → Bool) (same_other : J → J → Bool) (S : Placing I → Placing J → Type 0) (one : Placing I) (other : Placing J) (time : other.time ≡ one.time) (new : S one other) where
  -- what holds of all systems of two plans, and of the partners that are placed, holds of the plans after
  pub placed-zip : (stages : List (Stage I)) (others : List (Stage J)) (closed : ℕ) (rest left : List ℕ) → rest ≡ left
      → ByStage (IsKnown same_one same_other one other) stages others → ByStage S stages others
      → ByStage S (placed same_one closed one rest stages) (placed same_other closed other left others)
  placed-zip [] [] closed rest left is known zipped = (((new, tt), tt), tt)
  placed-zip [] (partners ∷ others) closed rest left is known zipped = absurd zipped
  placed-zip (stage ∷ stages) [] closed rest left is known zipped = absurd zipped
  placed-zip (stage ∷ stages) (partners ∷ others) closed rest left is known zipped =
      by (closed == 0) (admitted same_one one rest stage) (admitted same_other other left partners)
      (admitted-same same_one same_other one other time rest left is stage partners known.0)
      (placed-zip stages others (closed - 1) (rest_after rest (systems_of stage)) (rest_after left (systems_of partners))
      (left-further same_one same_other one other time (systems_of stage) (systems_of partners) rest left is
      (zip-systems (IsKnown same_one same_other one other) stage partners known.0)) known.1 zipped.1)
    where
      by : (b : Bool) (way found : Option Way) → way ≡ found
          → ByStage S (placed same_one (closed - 1) one (rest_after rest (systems_of stage)) stages) (placed same_other (closed - 1) other (rest_after left (systems_of partners)) others)
          → ByStage S
          (option_map_or (λ w. taken one stage w ∷ stages) (if b then way else None) (stage ∷ placed same_one (closed - 1) one (rest_after rest (systems_of stage)) stages))
          (option_map_or (λ w. taken other partners w ∷ others) (if b then found else None) (partners ∷ placed same_other (closed - 1) other (rest_after left (systems_of partners)) others))
      by true (Some way) (Some found) e later = let same : way ≡ found = cc in rw same (taken-zip S one other new stage partners found zipped.0, zipped.1)
      by true (Some way) None e later = cc
      by true None (Some found) e later = cc
      by true None None e later = (zipped.0, later)
      by false way found e later = (zipped.0, later)
