-- Facts on the place that a system gets among the stages.
use Rattle.std.proofs.Common.{◌≡◌, ℕ, ◌<◌, ◌+◌, ◌-◌, Bool, true, false, ◌&&◌, zero, suc, List, [], ◌∷◌, ◌++◌, length, get_or, take, drop, refl, ap, sym, ◌∙◌, arith, Option, Some, None, subst}
use Rattle.std.specs.Prelude.{◌==◌, if◌then◌else◌, count_by}
use Rattle.std.specs.List.{position}
use Rattle.std.specs.Option.{option_map}
use Rattle.std.proofs.lemmas.Bool.{and_parts, ltb-true}
use Rattle.std.proofs.lemmas.List.{get_or_default}
use Rattle.std.proofs.lemmas.List.Quantifiers.{position-Some}
use Rattle.std.proofs.Math.ListN.{set}
use Rattle.shred_plan.specs.declared.stage.Way.{Way}
use Rattle.shred_plan.specs.declared.stage.Way.TheVariants.{Alone, Behind}
use Rattle.shred_plan.specs.Plan.{Placing, Group, Stage, hits, joins, completes, admitted, placed, taken, rest_after, systems_of}
use Rattle.shred_plan.specs.Places.{HasRoom}

-- a group at the first place at which a test passes has room, where the test passes at groups with room alone
room-by-test : {Id : Type 0} (test : Group Id → Bool) (stage : Stage Id) (way : Way) → ((group : Group Id) → test group ≡ true → length group < 4) → option_map Behind (position test stage) ≡ Some way → HasRoom stage way
room-by-test {Id} test stage way room e = by (position test stage) refl e
  where
    at : (i : ℕ) (w : Way) → position test stage ≡ Some i → Behind i ≡ w → HasRoom stage w
    at i Alone found q = cc
    at i (Behind j) found q =
        let f = position-Some test stage i [] found in
        let same : i ≡ j = cc in
        let P : ℕ → Type 0 = λ k. (k < length stage) × (length (get_or stage k []) < 4) in
        subst P same (f.0, room _ f.1)

    by : (o : Option ℕ) → position test stage ≡ o → option_map Behind o ≡ Some way → HasRoom stage way
    by None found q = cc
    by (Some i) found q = at i way found (cc)

-- what may be joined has room
joined-room : {Id : Type 0} (b : Bool) (one : Placing Id) (stage : Stage Id) (group : Group Id) → (b && joins one stage group) ≡ true → length group < 4
joined-room b one stage group e = ltb-true _ _ ((and_parts _ _ ((and_parts b (joins one stage group) e).1)).0)

module _ {Id : Type 0} (same : Id → Id → Bool) (one : Placing Id) where
  -- the way in which a stage admits a system has room for it
  pub admitted-room : (rest : List ℕ) (stage : Stage Id) (way : Way) → admitted same one rest stage ≡ Some way → HasRoom stage way
  admitted-room rest stage way e = by (count_by (hits same one) stage == 0) (length rest == 0) (count_by (hits same one) stage == 1) e
    where
      alone : (w : Way) → Alone ≡ w → HasRoom stage w
      alone Alone q = tt
      alone (Behind j) q = cc

      by : (none nothing single : Bool)
          → (if none
          then (if nothing then Some Alone else option_map Behind (position (λ group. completes rest group && joins one stage group) stage))
          else (if single && nothing then option_map Behind (position (λ group. hits same one group && joins one stage group) stage) else None)) ≡ Some way
          → HasRoom stage way
      by true true single q = alone way (cc)
      by true false single q = room-by-test _ stage way (λ group. joined-room (completes rest group) one stage group) q
      by false true true q = room-by-test _ stage way (λ group. joined-room (hits same one group) one stage group) q
      by false true false q = cc
      by false false true q = cc
      by false false false q = cc

  -- the way of a stage, if it isn't closed
  abbrev pub open_way : ℕ → List ℕ → Stage Id → Option Way
  open_way closed rest stage = if closed == 0 then admitted same one rest stage else None

  pub open-room : (closed : ℕ) (rest : List ℕ) (stage : Stage Id) (way : Way) → open_way closed rest stage ≡ Some way → HasRoom stage way
  open-room closed rest stage way e = by (closed == 0) e
    where
      by : (b : Bool) → (if b then admitted same one rest stage else None) ≡ Some way → HasRoom stage way
      by true q = admitted-room rest stage way q
      by false q = cc

  -- the stage that admits the system takes it
  pub placed-found : (stages : List (Stage Id)) (closed : ℕ) (rest : List ℕ) (i : ℕ) (way : Way) → i < length stages
      → open_way closed rest (get_or stages i []) ≡ Some way
      → take i stages ++ placed same closed one rest (drop i stages) ≡ set stages i (taken one (get_or stages i []) way)
  placed-found [] closed rest i way h e = absurd (omega arith)
  placed-found (stage ∷ stages) closed rest zero way h e = rw e refl
  placed-found (stage ∷ stages) closed rest (suc i) way h e = ap (λ t. stage ∷ t) (placed-found stages closed rest i way (omega arith) e)

  -- a stage that doesn't is passed over
  pub placed-passed : (stages : List (Stage Id)) (closed : ℕ) (rest : List ℕ) (i : ℕ) → i < length stages
      → open_way closed rest (get_or stages i []) ≡ None
      → take i stages ++ placed same closed one rest (drop i stages)
      ≡ take (suc i) stages ++ placed same (closed - 1) one (rest_after rest (systems_of (get_or stages i []))) (drop (suc i) stages)
  placed-passed [] closed rest i h e = absurd (omega arith)
  placed-passed (stage ∷ stages) closed rest zero h e = rw e refl
  placed-passed (stage ∷ stages) closed rest (suc i) h e = ap (λ t. stage ∷ t) (placed-passed stages closed rest i (omega arith) e)

  -- the same of the stage that a loop reads, where its way is given by a number of stages that are closed
  pub read-found : (stages all : List (Stage Id)) (before : List (Stage Id)) (closed : ℕ) (rest : List ℕ) (i : ℕ) (stage : Stage Id) (found : Option Way) (lent : List ℕ) (way : Way)
      → stages ≡ all → stage ≡ get_or stages i stage → i < length stages
      → before ≡ take i stages ++ placed same closed one rest (drop i stages)
      → lent ≡ rest → found ≡ open_way closed lent stage → found ≡ Some way
      → before ≡ set all i (taken one (get_or all i []) way)
  read-found stages all before closed rest i stage found lent way whole read h invariant lends e is =
      let at : stage ≡ get_or stages i [] = read ∙ get_or_default stages i stage [] h in
      let ways : open_way closed rest (get_or stages i []) ≡ Some way = ap (open_way closed rest) (sym at) ∙ ap (λ list. open_way closed list stage) (sym lends) ∙ sym e ∙ is in
      invariant ∙ placed-found stages closed rest i way h ways ∙ ap (λ list. set list i (taken one (get_or list i []) way)) whole

  pub read-room : (stages all : List (Stage Id)) (closed : ℕ) (rest : List ℕ) (i : ℕ) (stage : Stage Id) (found : Option Way) (lent : List ℕ) (way : Way)
      → stages ≡ all → stage ≡ get_or stages i stage → i < length stages
      → lent ≡ rest → found ≡ open_way closed lent stage → found ≡ Some way
      → (i < length all) × HasRoom (get_or all i []) way
  read-room stages all closed rest i stage found lent way whole read h lends e is =
      let at : stage ≡ get_or stages i [] = read ∙ get_or_default stages i stage [] h in
      let P : List (Stage Id) → Type 0 = λ list. (i < length list) × HasRoom (get_or list i []) way in
      let Q : Stage Id → Type 0 = λ s. HasRoom s way in
      subst P whole (h, subst Q at (open-room closed rest stage way (ap (λ list. open_way closed list stage) (sym lends) ∙ sym e ∙ is)))

  pub read-passed : (stages : List (Stage Id)) (before : List (Stage Id)) (first : ℕ) (rest rest_next : List ℕ) (i : ℕ) (stage : Stage Id) (found : Option Way) (lent : List ℕ)
      → stage ≡ get_or stages i stage → i < length stages
      → before ≡ take i stages ++ placed same (first - i) one rest (drop i stages)
      → lent ≡ rest → found ≡ open_way (first - i) lent stage → found ≡ None
      → rest_next ≡ rest_after rest (systems_of stage)
      → before ≡ take (i + 1) stages ++ placed same (first - (i + 1)) one rest_next (drop (i + 1) stages)
  read-passed stages before first rest rest_next i stage found lent read h invariant lends e is next =
      let at : stage ≡ get_or stages i [] = read ∙ get_or_default stages i stage [] h in
      let ways : open_way (first - i) rest (get_or stages i []) ≡ None = ap (open_way (first - i) rest) (sym at) ∙ ap (λ list. open_way (first - i) list stage) (sym lends) ∙ sym e ∙ is in
      let rests : rest_after rest (systems_of (get_or stages i [])) ≡ rest_next = ap (λ s. rest_after rest (systems_of s)) (sym at) ∙ sym next in
      let fewer : (first - i) - 1 ≡ first - (i + 1) = omega arith in
      let more : suc i ≡ i + 1 = omega arith in
      invariant ∙ placed-passed stages (first - i) rest i h ways
      ∙ ap (λ list. take (suc i) stages ++ placed same ((first - i) - 1) one list (drop (suc i) stages)) rests
      ∙ ap (λ n. take (suc i) stages ++ placed same n one rest_next (drop (suc i) stages)) fewer
      ∙ ap (λ n. take n stages ++ placed same (first - (i + 1)) one rest_next (drop n stages)) more
