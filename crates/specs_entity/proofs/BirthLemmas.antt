-- Each step of births keeps to the rules of `AreBirths`.
use Rattle.std.proofs.Common.{◌≡◌, ◌≢◌, ℕ, zero, suc, ◌+◌, ◌-◌, ◌<◌, ◌≤◌, ◌⊎◌, List, [], ◌∷◌, ◌++◌, Bool, true, false, cond, length, get_or, set, take, refl, sym, ap, ◌∙◌, arith, Option, Some, None, not, eqb, inl, inr, subst, get_or-set_same, get_or-set_other, length-append, ◌||◌, ◌&&◌}
use Rattle.std.specs.FinSet as fin
use Rattle.std.specs.Result.{OnOk, IsOk}
use Rattle.std.specs.Prelude.{Result, Ok, Err}
use Rattle.std.specs.Ordering.{nat_cmp}
use Rattle.std.specs.Cmp.{nat_eq_equiv}
use Rattle.std.specs.List.{IsDistinct, list_any, AllByRecursion}
use Rattle.std.proofs.Math.ListN.{length-set}
use Rattle.std.proofs.Math.Seq.{take-length}
use Rattle.std.proofs.lemmas.Bool.{true≢false, false≢true, cases_eq, eqb-true, eq-eqb, false_from_ne_true, cond-true, cond-false, or_from, or_left, or_cases, cases_Bool, or_right}
use Rattle.std.proofs.lemmas.List.{get_or_past, take_more}
use Rattle.std.proofs.lemmas.List.Folds.{list_any-append}
use Rattle.std.proofs.lemmas.Map.Keys.{IsDistinct-push}
use Rattle.std.proofs.lemmas.Map.Steps.{length-le_from_distinct_below}
use Rattle.std.proofs.lemmas.Option.{same_Some, none-some}
use Rattle.hibitset_sets.proofs.CallerLemmas.{contains-with, contains-without}
use Rattle.specs_entity.specs.Life.{Life}
use Rattle.specs_entity.specs.Births.{Births, none_born, persistent_at, living, count, alive_of, living_of, number_of, next_life, with_life, deleted, buried, settled, next_index, with_next_taken, IndicesAreSpent}
use Rattle.specs_entity.specs.Layout.{AreBirths, IsFree}

-- nothing is in the empty set
pub empty-has : (index : ℕ) → fin.contains (fin.empty {R = nat_cmp}) index ≡ true → ⊥
empty-has index h = true≢false (sym h ∙ fin.contains-empty nat_cmp index)

pub some-none : {A : Type 0} (x : A) → Some x ≡ None → ⊥
some-none x h = cc

pub not-equal : (a b : ℕ) → a ≢ b → eqb a b ≡ false
not-equal a b other = elim (cases_Bool (eqb a b)) [ inl holds ↦ absurd (other (eqb-true a b holds)) | inr lacks ↦ lacks ]

pub AreBirths-none : (indices generations : ℕ) → indices ≤ 16777216 → generations ≤ 2147483647 → AreBirths (none_born indices generations)
unfolding IsDistinct
AreBirths-none indices generations few small =
    record {
      used = omega arith;
      indices = few;
      generations = small;
      numbered = λ index life h. absurd (none-some life h);
      counted = λ index. let none = fin.contains-empty nat_cmp index in rw none (omega arith);
      fresh_used = λ index h. absurd (empty-has index h);
      fresh_dead = λ index h. absurd (empty-has index h);
      deletions = λ index h. absurd (empty-has index h);
      cached_used = λ index h. absurd (true≢false (sym h));
      cached_born = λ index h. absurd (true≢false (sym h));
      cached_dead = λ index h. absurd (true≢false (sym h));
      distinct = tt;
    }

-- who lives at an index with a fresh birth, and at one without
pub living-fresh : (births : Births) (index : ℕ) → fin.contains births.fresh index ≡ true → living births index ≡ Some (next_life (persistent_at births index))
living-fresh births index is = ap (λ b. living_of b (persistent_at births index)) is

pub living-lasting : (births : Births) (index : ℕ) → fin.contains births.fresh index ≡ false → living births index ≡ alive_of (persistent_at births index)
living-lasting births index is = ap (λ b. living_of b (persistent_at births index)) is

pub count-lasting : (births : Births) (index : ℕ) → fin.contains births.fresh index ≡ false → count births index ≡ number_of (persistent_at births index) + 0
count-lasting births index is = ap (λ b. number_of (persistent_at births index) + cond b 1 0) is

pub count-fresh : (births : Births) (index : ℕ) → fin.contains births.fresh index ≡ true → count births index ≡ number_of (persistent_at births index) + 1
count-fresh births index is = ap (λ b. number_of (persistent_at births index) + cond b 1 0) is

-- where nobody lives no birth is fresh
pub dead-lasting : (births : Births) (index : ℕ) → living births index ≡ None → fin.contains births.fresh index ≡ false
dead-lasting births index dead =
    elim (cases_Bool (fin.contains births.fresh index)) [
      | inl holds ↦ absurd (some-none (next_life (persistent_at births index)) (sym (living-fresh births index holds) ∙ dead))
      | inr lacks ↦ lacks
    ]

pub dead-alive_of : (births : Births) (index : ℕ) → living births index ≡ None → alive_of (persistent_at births index) ≡ None
dead-alive_of births index dead = sym (living-lasting births index (dead-lasting births index dead)) ∙ dead

past-nobody : (last : Option Life) → last ≡ None → alive_of last ≡ None
past-nobody last h = ap alive_of h

-- somebody lives at used indices alone
pub used-living : (births : Births) → AreBirths births → (index : ℕ) → living births index ≢ None → index < length births.persistent
used-living births kept index lives =
    elim (cases_Bool (fin.contains births.fresh index)) [
      | inl holds ↦ kept.fresh_used index holds
      | inr lacks ↦
          let within : (length births.persistent ≤ index) → ⊥ = λ past. lives (living-lasting births index lacks ∙ past-nobody (persistent_at births index) (get_or_past births.persistent index None past)) in
          omega arith
    ]

number-alive : (last : Option Life) → alive_of last ≢ None → ((life : Life) → last ≡ Some life → 0 < life.number) → 0 < number_of last
number-alive None lives numbered = absurd (lives refl)
number-alive (Some life) lives numbered = numbered life refl

-- an index where somebody lives had a birth
pub counted-living : (births : Births) → AreBirths births → (index : ℕ) → living births index ≢ None → 0 < count births index
counted-living births kept index lives =
    elim (cases_Bool (fin.contains births.fresh index)) [
      | inl holds ↦ let e = count-fresh births index holds in omega arith
      | inr lacks ↦
          let e = count-lasting births index lacks in
          let some = number-alive (persistent_at births index) (λ dead. lives (living-lasting births index lacks ∙ dead)) (kept.numbered index) in
          omega arith
    ]

module _ (births : Births) (index : ℕ) (life : Life) where
  pub living-with_life : (other : ℕ) → other ≢ index → living (with_life births index life) other ≡ living births other
  living-with_life other ne = ap (living_of (fin.contains births.fresh other)) (get_or-set_other births.persistent index other (Some life) None ne)

  pub count-with_life : (other : ℕ) → other ≢ index → count (with_life births index life) other ≡ count births other
  count-with_life other ne = ap (λ last. number_of last + cond (fin.contains births.fresh other) 1 0) (get_or-set_other births.persistent index other (Some life) None ne)

-- the next life of a free index may begin
pub AreBirths-alive : (births : Births) (index : ℕ) → AreBirths births → IsFree births index → number_of (persistent_at births index) < births.generations → AreBirths (with_life births index (next_life (persistent_at births index)))
AreBirths-alive births index kept free room =
    let life = next_life (persistent_at births index) in
    let after = with_life births index life in
    let same : persistent_at after index ≡ Some life = get_or-set_same births.persistent index (Some life) None free.used in
    let lasting = dead-lasting births index free.dead in
    let long : length after.persistent ≡ length births.persistent = length-set births.persistent index (Some life) in
    record {
      used = let h = kept.used in omega arith;
      indices = kept.indices;
      generations = kept.generations;
      numbered = λ other one is. elim (cases_eq other index) [
        | inl e ↦ let this : life ≡ one = same_Some life one (sym same ∙ ap (persistent_at after) (sym e) ∙ is) in subst (λ (l : Life). 0 < l.number) this (omega arith)
        | inr ne ↦ kept.numbered other one (sym (get_or-set_other births.persistent index other (Some life) None ne) ∙ is)
      ];
      counted = λ other. elim (cases_eq other index) [
        | inl e ↦ let c : count after index ≡ number_of (persistent_at after index) + 0 = count-lasting after index lasting in
            let n : number_of (persistent_at after index) ≡ number_of (persistent_at births index) + 1 = ap number_of same in
            subst (λ q. count after q ≤ births.generations) (sym e) (omega arith)
        | inr ne ↦ let c = count-with_life births index life other ne in let h = kept.counted other in omega arith
      ];
      fresh_used = λ other is. let h = kept.fresh_used other is in omega arith;
      fresh_dead = λ other is. elim (cases_eq other index) [
        | inl e ↦ absurd (true≢false (sym is ∙ ap (fin.contains births.fresh) e ∙ lasting))
        | inr ne ↦ ap alive_of (get_or-set_other births.persistent index other (Some life) None ne) ∙ kept.fresh_dead other is
      ];
      deletions = λ other is. elim (cases_eq other index) [
        | inl e ↦ absurd (kept.deletions other is (ap (living births) e ∙ free.dead))
        | inr ne ↦ λ dead. kept.deletions other is (sym (living-with_life births index life other ne) ∙ dead)
      ];
      cached_used = λ other is. let h = kept.cached_used other is in omega arith;
      cached_born = λ other is. elim (cases_eq other index) [
        | inl e ↦ absurd (true≢false (sym is ∙ ap (λ q. list_any (λ one. eqb q one) births.cache) e ∙ free.uncached))
        | inr ne ↦ let n = ap number_of (get_or-set_other births.persistent index other (Some life) None ne) in let h = kept.cached_born other is in omega arith
      ];
      cached_dead = λ other is. elim (cases_eq other index) [
        | inl e ↦ absurd (true≢false (sym is ∙ ap (λ q. list_any (λ one. eqb q one) births.cache) e ∙ free.uncached))
        | inr ne ↦ living-with_life births index life other ne ∙ kept.cached_dead other is
      ];
      distinct = kept.distinct;
    }

-- with a fresh birth at an index
abbrev pub freshened : Births → ℕ → Births
freshened births index = record births { fresh = fin.insert births.fresh index }

pub fresh-same : (births : Births) (index : ℕ) → fin.contains (fin.insert births.fresh index) index ≡ true
fresh-same births index = contains-with births.fresh index index ∙ ap (λ b. b || fin.contains births.fresh index) (eq-eqb index index refl)

pub fresh-other : (births : Births) (index other : ℕ) → other ≢ index → fin.contains (fin.insert births.fresh index) other ≡ fin.contains births.fresh other
fresh-other births index other ne = contains-with births.fresh index other ∙ ap (λ b. b || fin.contains births.fresh other) (not-equal other index ne)

pub living-freshened : (births : Births) (index other : ℕ) → other ≢ index → living (freshened births index) other ≡ living births other
living-freshened births index other ne = ap (λ b. living_of b (persistent_at births other)) (fresh-other births index other ne)

pub AreBirths-fresh : (births : Births) (index : ℕ) → AreBirths births → IsFree births index → number_of (persistent_at births index) < births.generations → AreBirths (freshened births index)
AreBirths-fresh births index kept free room =
    let after = freshened births index in
    let here = fresh-same births index in
    record {
      used = kept.used;
      indices = kept.indices;
      generations = kept.generations;
      numbered = kept.numbered;
      counted = λ other. elim (cases_eq other index) [
        | inl e ↦ let c : count after index ≡ number_of (persistent_at births index) + 1 = count-fresh after index here in
            subst (λ q. count after q ≤ births.generations) (sym e) (omega arith)
        | inr ne ↦ let c : count after other ≡ count births other = ap (λ b. number_of (persistent_at births other) + cond b 1 0) (fresh-other births index other ne) in let h = kept.counted other in omega arith
      ];
      fresh_used = λ other is. elim (cases_eq other index) [
        | inl e ↦ let u = free.used in omega arith
        | inr ne ↦ kept.fresh_used other (sym (fresh-other births index other ne) ∙ is)
      ];
      fresh_dead = λ other is. elim (cases_eq other index) [
        | inl e ↦ ap (λ q. alive_of (persistent_at births q)) e ∙ dead-alive_of births index free.dead
        | inr ne ↦ kept.fresh_dead other (sym (fresh-other births index other ne) ∙ is)
      ];
      deletions = λ other is. elim (cases_eq other index) [
        | inl e ↦ absurd (kept.deletions other is (ap (living births) e ∙ free.dead))
        | inr ne ↦ λ dead. kept.deletions other is (sym (living-freshened births index other ne) ∙ dead)
      ];
      cached_used = kept.cached_used;
      cached_born = kept.cached_born;
      cached_dead = λ other is. elim (cases_eq other index) [
        | inl e ↦ absurd (true≢false (sym is ∙ ap (λ q. list_any (λ one. eqb q one) births.cache) e ∙ free.uncached))
        | inr ne ↦ living-freshened births index other ne ∙ kept.cached_dead other is
      ];
      distinct = kept.distinct;
    }

pub AreBirths-deleted : (births : Births) (index : ℕ) → AreBirths births → living births index ≢ None → AreBirths (deleted births index)
AreBirths-deleted births index kept lives =
    record {
      used = kept.used;
      indices = kept.indices;
      generations = kept.generations;
      numbered = kept.numbered;
      counted = kept.counted;
      fresh_used = kept.fresh_used;
      fresh_dead = kept.fresh_dead;
      deletions = λ other is. elim (cases_eq other index) [
        | inl e ↦ λ dead. lives (ap (living births) (sym e) ∙ dead)
        | inr ne ↦ kept.deletions other (sym (contains-with births.deletions index other ∙ ap (λ b. b || fin.contains births.deletions other) (not-equal other index ne)) ∙ is)
      ];
      cached_used = kept.cached_used;
      cached_born = kept.cached_born;
      cached_dead = kept.cached_dead;
      distinct = kept.distinct;
    }

remove-same : (s : fin.FinSet nat_cmp) (index : ℕ) → fin.contains (fin.remove s index) index ≡ false
remove-same s index = contains-without s index index ∙ ap (λ b. not b && fin.contains s index) (eq-eqb index index refl)

remove-other : (s : fin.FinSet nat_cmp) (index other : ℕ) → other ≢ index → fin.contains (fin.remove s index) other ≡ fin.contains s other
remove-other s index other ne = contains-without s index other ∙ ap (λ b. not b && fin.contains s other) (not-equal other index ne)

dead-set : (lasts : List (Option Life)) (index : ℕ) (life : Life) → life.lives ≡ false → alive_of (get_or (set lasts index (Some life)) index None) ≡ None
dead-set [] index life dead = refl
dead-set (last ∷ lasts) zero life dead = ap (λ b. cond b (Some life) None) dead
dead-set (last ∷ lasts) (suc index) life dead = dead-set lasts index life dead

-- who lives after a burial: at its index nobody
pub living-buried : (births : Births) (index : ℕ) → living (buried births index) index ≡ None
living-buried births index =
    living-lasting (buried births index) index (remove-same births.fresh index)
    ∙ dead-set births.persistent index (record { number = count births index; lives = false }) refl

-- and at the others whoever lived there
pub living-buried_other : (births : Births) (index other : ℕ) → other ≢ index → living (buried births index) other ≡ living births other
living-buried_other births index other ne =
    ap (λ b. living_of b (persistent_at (buried births index) other)) (remove-other births.fresh index other ne)
    ∙ ap (living_of (fin.contains births.fresh other)) (get_or-set_other births.persistent index other _ None ne)

pub count-buried_other : (births : Births) (index other : ℕ) → other ≢ index → count (buried births index) other ≡ count births other
count-buried_other births index other ne =
    ap (λ b. number_of (persistent_at (buried births index) other) + cond b 1 0) (remove-other births.fresh index other ne)
    ∙ ap (λ last. number_of last + cond (fin.contains births.fresh other) 1 0) (get_or-set_other births.persistent index other _ None ne)

pub count-buried : (births : Births) (index : ℕ) → index < length births.persistent → count (buried births index) index ≡ count births index
count-buried births index within =
    let c = count-lasting (buried births index) index (remove-same births.fresh index) in
    let n : number_of (persistent_at (buried births index) index) ≡ count births index = ap number_of (get_or-set_same births.persistent index (Some (record { number = count births index; lives = false })) None within) in
    omega arith

or-false : (b : Bool) → (b || false) ≡ true → b ≡ true
or-false true is = refl
or-false false is = is

-- what is in the cache after one more index was put into it
pub cached-more : (index other : ℕ) (cache : List ℕ) → list_any (λ one. eqb other one) (cache ++ index ∷ []) ≡ true → (list_any (λ one. eqb other one) cache ≡ true) ⊎ (other ≡ index)
cached-more index other cache is =
    elim (or_cases (list_any (λ one. eqb other one) cache) (eqb other index || false) (sym (list_any-append (λ one. eqb other one) cache (index ∷ [])) ∙ is)) [
      | inl before ↦ inl before
      | inr here ↦ inr (eqb-true other index (or-false (eqb other index) here))
    ]

pub uncached-living : (births : Births) → AreBirths births → (index : ℕ) → living births index ≢ None → list_any (λ other. eqb index other) births.cache ≡ false
uncached-living births kept index lives =
    elim (cases_Bool (list_any (λ other. eqb index other) births.cache)) [
      | inl holds ↦ absurd (lives (kept.cached_dead index holds))
      | inr lacks ↦ lacks
    ]

pub AreBirths-buried : (births : Births) (index : ℕ) → AreBirths births → living births index ≢ None → AreBirths (buried births index)
AreBirths-buried births index kept lives =
    let after = buried births index in
    let ended : Life = record { number = count births index; lives = false } in
    let within = used-living births kept index lives in
    let same : persistent_at after index ≡ Some ended = get_or-set_same births.persistent index (Some ended) None within in
    let some = counted-living births kept index lives in
    let long : length after.persistent ≡ length births.persistent = length-set births.persistent index (Some ended) in
    record {
      used = let h = kept.used in omega arith;
      indices = kept.indices;
      generations = kept.generations;
      numbered = λ other one is. elim (cases_eq other index) [
        | inl e ↦ let this : ended ≡ one = same_Some ended one (sym same ∙ ap (persistent_at after) (sym e) ∙ is) in subst (λ (l : Life). 0 < l.number) this some
        | inr ne ↦ kept.numbered other one (sym (get_or-set_other births.persistent index other (Some ended) None ne) ∙ is)
      ];
      counted = λ other. elim (cases_eq other index) [
        | inl e ↦ let c = count-buried births index within in let h = kept.counted index in subst (λ q. count after q ≤ births.generations) (sym e) (omega arith)
        | inr ne ↦ let c = count-buried_other births index other ne in let h = kept.counted other in omega arith
      ];
      fresh_used = λ other is. elim (cases_eq other index) [
        | inl e ↦ absurd (true≢false (sym is ∙ ap (fin.contains after.fresh) e ∙ remove-same births.fresh index))
        | inr ne ↦ let h = kept.fresh_used other (sym (remove-other births.fresh index other ne) ∙ is) in omega arith
      ];
      fresh_dead = λ other is. elim (cases_eq other index) [
        | inl e ↦ absurd (true≢false (sym is ∙ ap (fin.contains after.fresh) e ∙ remove-same births.fresh index))
        | inr ne ↦ ap alive_of (get_or-set_other births.persistent index other (Some ended) None ne) ∙ kept.fresh_dead other (sym (remove-other births.fresh index other ne) ∙ is)
      ];
      deletions = λ other is. elim (cases_eq other index) [
        | inl e ↦ absurd (true≢false (sym is ∙ ap (fin.contains after.deletions) e ∙ remove-same births.deletions index))
        | inr ne ↦ λ dead. kept.deletions other (sym (remove-other births.deletions index other ne) ∙ is) (sym (living-buried_other births index other ne) ∙ dead)
      ];
      cached_used = λ other is. elim (cached-more index other births.cache is) [
        | inl before ↦ let h = kept.cached_used other before in omega arith
        | inr here ↦ omega arith
      ];
      cached_born = λ other is. elim (cases_eq other index) [
        | inl e ↦ let n : number_of (persistent_at after index) ≡ count births index = ap number_of same in subst (λ q. 0 < number_of (persistent_at after q)) (sym e) (omega arith)
        | inr ne ↦ elim (cached-more index other births.cache is) [
          | inl before ↦ let n = ap number_of (get_or-set_other births.persistent index other (Some ended) None ne) in let h = kept.cached_born other before in omega arith
          | inr here ↦ absurd (ne here)
        ]
      ];
      cached_dead = λ other is. elim (cases_eq other index) [
        | inl e ↦ ap (living after) e ∙ living-buried births index
        | inr ne ↦ elim (cached-more index other births.cache is) [
          | inl before ↦ living-buried_other births index other ne ∙ kept.cached_dead other before
          | inr here ↦ absurd (ne here)
        ]
      ];
      distinct = IsDistinct-push nat_eq_equiv births.cache index kept.distinct (uncached-living births kept index lives);
    }

-- a fresh birth that becomes persistent changes nothing of who lives
pub living-settled : (births : Births) (index : ℕ) → AreBirths births → fin.contains births.fresh index ≡ true → (other : ℕ) → living (settled births index) other ≡ living births other
living-settled births index kept is other =
    elim (cases_eq other index) [
      | inl e ↦
          ap (living (settled births index)) e
          ∙ (living-lasting (settled births index) index (remove-same births.fresh index)
          ∙ (ap alive_of (get_or-set_same births.persistent index (Some (next_life (persistent_at births index))) None (kept.fresh_used index is))
          ∙ (sym (living-fresh births index is)
          ∙ ap (living births) (sym e))))
      | inr ne ↦
          ap (λ b. living_of b (persistent_at (settled births index) other)) (remove-other births.fresh index other ne)
          ∙ ap (living_of (fin.contains births.fresh other)) (get_or-set_other births.persistent index other _ None ne)
    ]

pub count-settled : (births : Births) (index : ℕ) → AreBirths births → fin.contains births.fresh index ≡ true → (other : ℕ) → count (settled births index) other ≡ count births other
count-settled births index kept is other =
    let after = settled births index in
    elim (cases_eq other index) [
      | inl e ↦
          let c : count after index ≡ number_of (persistent_at after index) + 0 = count-lasting after index (remove-same births.fresh index) in
          let n : number_of (persistent_at after index) ≡ number_of (persistent_at births index) + 1 = ap number_of (get_or-set_same births.persistent index (Some (next_life (persistent_at births index))) None (kept.fresh_used index is)) in
          let f = count-fresh births index is in
          let same : count after index ≡ count births index = omega arith in
          ap (count after) e ∙ same ∙ ap (count births) (sym e)
      | inr ne ↦
          ap (λ b. number_of (persistent_at after other) + cond b 1 0) (remove-other births.fresh index other ne)
          ∙ ap (λ last. number_of last + cond (fin.contains births.fresh other) 1 0) (get_or-set_other births.persistent index other _ None ne)
    ]

pub AreBirths-settled : (births : Births) (index : ℕ) → AreBirths births → fin.contains births.fresh index ≡ true → AreBirths (settled births index)
AreBirths-settled births index kept is_fresh =
    let after = settled births index in
    let life = next_life (persistent_at births index) in
    let within = kept.fresh_used index is_fresh in
    let same : persistent_at after index ≡ Some life = get_or-set_same births.persistent index (Some life) None within in
    let long : length after.persistent ≡ length births.persistent = length-set births.persistent index (Some life) in
    record {
      used = let h = kept.used in omega arith;
      indices = kept.indices;
      generations = kept.generations;
      numbered = λ other one is. elim (cases_eq other index) [
        | inl e ↦ let this : life ≡ one = same_Some life one (sym same ∙ ap (persistent_at after) (sym e) ∙ is) in subst (λ (l : Life). 0 < l.number) this (omega arith)
        | inr ne ↦ kept.numbered other one (sym (get_or-set_other births.persistent index other (Some life) None ne) ∙ is)
      ];
      counted = λ other. let c = count-settled births index kept is_fresh other in let h = kept.counted other in omega arith;
      fresh_used = λ other is. elim (cases_eq other index) [
        | inl e ↦ absurd (true≢false (sym is ∙ ap (fin.contains after.fresh) e ∙ remove-same births.fresh index))
        | inr ne ↦ let h = kept.fresh_used other (sym (remove-other births.fresh index other ne) ∙ is) in omega arith
      ];
      fresh_dead = λ other is. elim (cases_eq other index) [
        | inl e ↦ absurd (true≢false (sym is ∙ ap (fin.contains after.fresh) e ∙ remove-same births.fresh index))
        | inr ne ↦ ap alive_of (get_or-set_other births.persistent index other (Some life) None ne) ∙ kept.fresh_dead other (sym (remove-other births.fresh index other ne) ∙ is)
      ];
      deletions = λ other is dead. kept.deletions other is (sym (living-settled births index kept is_fresh other) ∙ dead);
      cached_used = λ other is. let h = kept.cached_used other is in omega arith;
      cached_born = λ other is. elim (cases_eq other index) [
        | inl e ↦ let n : number_of (persistent_at after index) ≡ number_of (persistent_at births index) + 1 = ap number_of same in subst (λ q. 0 < number_of (persistent_at after q)) (sym e) (omega arith)
        | inr ne ↦ let n = ap number_of (get_or-set_other births.persistent index other (Some life) None ne) in let h = kept.cached_born other is in omega arith
      ];
      cached_dead = λ other is. living-settled births index kept is_fresh other ∙ kept.cached_dead other is;
      distinct = kept.distinct;
    }

-- births with the same fields are the same
pub births-same : (one other : Births) → one.persistent ≡ other.persistent → one.fresh ≡ other.fresh → one.deletions ≡ other.deletions → one.cache ≡ other.cache → one.indices ≡ other.indices → one.generations ≡ other.generations → one ≡ other
births-same one other p f d c i g = λ j. record { persistent = p j; fresh = f j; deletions = d j; cache = c j; indices = i j; generations = g j }

-- an index of the cache is taken
pub taken-popped : (births : Births) (rest : List ℕ) → 0 < length births.cache → rest ≡ take (length births.cache - 1) births.cache → record births { cache = rest } ≡ with_next_taken births
taken-popped births rest some is =
    let full : eqb (length births.cache) 0 ≡ false = not-equal (length births.cache) 0 (λ h. absurd (omega arith)) in
    births-same (record births { cache = rest }) (with_next_taken births) (sym (cond-false (eqb (length births.cache) 0) _ _ full)) refl refl is refl refl

-- an index comes into use
pub taken-opened : (births : Births) (lasts : List (Option Life)) (rest : List ℕ) → births.cache ≡ [] → rest ≡ births.cache → lasts ≡ births.persistent ++ None ∷ [] → record births { persistent = lasts; cache = rest } ≡ with_next_taken births
taken-opened births lasts rest empty same is =
    births-same (record births { persistent = lasts; cache = rest }) (with_next_taken births)
    (is ∙ sym (cond-true (eqb (length births.cache) 0) _ _ (eq-eqb (length births.cache) 0 (ap length empty))))
    refl refl
    (same ∙ (empty ∙ sym (ap (λ (xs : List ℕ). take (length xs - 1) xs) empty)))
    refl refl

alive-number : (last : Option Life) (life : Life) → alive_of last ≡ Some life → number_of last ≡ life.number
alive-number None life is = absurd (none-some life is)
alive-number (Some one) life is =
    elim (cases_Bool one.lives) [
      | inl holds ↦ let e : one ≡ life = same_Some one life (sym (ap (λ b. cond b (Some one) None) holds) ∙ is) in ap (λ (l : Life). l.number) e
      | inr lacks ↦ absurd (none-some life (sym (ap (λ b. cond b (Some one) None) lacks) ∙ is))
    ]

alive-lives : (last : Option Life) (life : Life) → alive_of last ≡ Some life → life.lives ≡ true
alive-lives None life is = absurd (none-some life is)
alive-lives (Some one) life is =
    elim (cases_Bool one.lives) [
      | inl holds ↦ let e : one ≡ life = same_Some one life (sym (ap (λ b. cond b (Some one) None) holds) ∙ is) in sym (ap (λ (l : Life). l.lives) e) ∙ holds
      | inr lacks ↦ absurd (none-some life (sym (ap (λ b. cond b (Some one) None) lacks) ∙ is))
    ]

-- the life of who lives at an index is that of a living one
pub living-lives : (births : Births) (index : ℕ) (life : Life) → living births index ≡ Some life → life.lives ≡ true
living-lives births index life is =
    elim (cases_Bool (fin.contains births.fresh index)) [
      | inl holds ↦
          let e : next_life (persistent_at births index) ≡ life = same_Some (next_life (persistent_at births index)) life (sym (living-fresh births index holds) ∙ is) in
          sym (ap (λ (l : Life). l.lives) e)
      | inr lacks ↦ alive-lives (persistent_at births index) life (sym (living-lasting births index lacks) ∙ is)
    ]

-- who lives at an index was born there last
pub living-number : (births : Births) (index : ℕ) (life : Life) → living births index ≡ Some life → life.number ≡ count births index
living-number births index life is =
    elim (cases_Bool (fin.contains births.fresh index)) [
      | inl holds ↦
          let e : next_life (persistent_at births index) ≡ life = same_Some (next_life (persistent_at births index)) life (sym (living-fresh births index holds) ∙ is) in
          sym (ap (λ (l : Life). l.number) e) ∙ sym (count-fresh births index holds)
      | inr lacks ↦
          let n = alive-number (persistent_at births index) life (sym (living-lasting births index lacks) ∙ is) in
          let c = count-lasting births index lacks in
          omega arith
    ]

-- ---- an index is taken

-- what is known of births where an index was taken
pub record IsTaken (births after : Births) (index : ℕ) : Type 0 where
  pub kept : AreBirths after
  pub free : IsFree after index
  pub same : persistent_at after index ≡ persistent_at births index

all-front : (y x : ℕ) (xs : List ℕ) → AllByRecursion (λ z. eqb y z ≡ false) (xs ++ x ∷ []) → AllByRecursion (λ z. eqb y z ≡ false) xs × (eqb y x ≡ false)
all-front y x [] h = (tt, h.0)
all-front y x (z ∷ zs) h = let rest = all-front y x zs h.1 in ((h.0, rest.0), rest.1)

flip-false : (a b : ℕ) → eqb a b ≡ false → eqb b a ≡ false
flip-false a b h = not-equal b a (λ e. true≢false (sym (eq-eqb a b (sym e)) ∙ h))

-- the last of a list without repeats isn't among those before it
pub distinct-front : (xs : List ℕ) (x : ℕ) → IsDistinct eqb (xs ++ x ∷ []) → IsDistinct eqb xs × (list_any (λ other. eqb x other) xs ≡ false)
unfolding IsDistinct
distinct-front [] x h = (tt, refl)
distinct-front (y ∷ ys) x h =
    let here = all-front y x ys h.0 in
    let rest = distinct-front ys x h.1 in
    ((here.0, rest.0), or_from (eqb x y) (list_any (λ other. eqb x other) ys) (flip-false y x here.1) rest.1)

abbrev popped : Births → List ℕ → Births
popped births front = record births { cache = front }

pop-taken : (births : Births) → AreBirths births → (front : List ℕ) (index : ℕ) → births.cache ≡ front ++ index ∷ [] → IsTaken births (popped births front) index
pop-taken births kept front index is =
    let cached : (other : ℕ) → list_any (λ one. eqb other one) (front ++ index ∷ []) ≡ true → list_any (λ one. eqb other one) births.cache ≡ true = λ other h. ap (list_any (λ one. eqb other one)) is ∙ h in
    let in_front : (other : ℕ) → list_any (λ one. eqb other one) front ≡ true → list_any (λ one. eqb other one) births.cache ≡ true = λ other h. cached other (list_any-append (λ one. eqb other one) front (index ∷ []) ∙ or_left _ _ h) in
    let itself : list_any (λ one. eqb index one) births.cache ≡ true = cached index (list_any-append (λ one. eqb index one) front (index ∷ []) ∙ or_right (list_any (λ one. eqb index one) front) _ (or_left _ _ (eq-eqb index index refl))) in
    let apart = distinct-front front index (subst (IsDistinct eqb) is kept.distinct) in
    record {
      kept = record {
        used = kept.used;
        indices = kept.indices;
        generations = kept.generations;
        numbered = kept.numbered;
        counted = kept.counted;
        fresh_used = kept.fresh_used;
        fresh_dead = kept.fresh_dead;
        deletions = kept.deletions;
        cached_used = λ other h. kept.cached_used other (in_front other h);
        cached_born = λ other h. kept.cached_born other (in_front other h);
        cached_dead = λ other h. kept.cached_dead other (in_front other h);
        distinct = apart.0;
      };
      free = record { used = kept.cached_used index itself; dead = kept.cached_dead index itself; uncached = apart.1 };
      same = refl;
    }

-- an index more without a birth changes no look-up
pub more-none : (lasts : List (Option Life)) (index : ℕ) → get_or (lasts ++ None ∷ []) index None ≡ get_or lasts index None
more-none [] zero = refl
more-none [] (suc index) = refl
more-none (last ∷ lasts) zero = refl
more-none (last ∷ lasts) (suc index) = more-none lasts index

abbrev opened : Births → Births
opened births = record births { persistent = births.persistent ++ None ∷ []; cache = [] }

open-taken : (births : Births) → AreBirths births → births.cache ≡ [] → length births.persistent < births.indices → IsTaken births (opened births) (length births.persistent)
unfolding IsDistinct
open-taken births kept empty room =
    let after = opened births in
    let same : (other : ℕ) → persistent_at after other ≡ persistent_at births other = more-none births.persistent in
    let lives : (other : ℕ) → living after other ≡ living births other = λ other. ap (living_of (fin.contains births.fresh other)) (same other) in
    let long : length after.persistent ≡ length births.persistent + 1 = length-append births.persistent (None ∷ []) in
    let unused : living births (length births.persistent) ≡ None =
    living-lasting births (length births.persistent) (false_from_ne_true _ (λ h. let w = kept.fresh_used (length births.persistent) h in absurd (omega arith)))
    ∙ past-nobody (persistent_at births (length births.persistent)) (get_or_past births.persistent (length births.persistent) None (omega arith)) in
    record {
      kept = record {
        used = omega arith;
        indices = kept.indices;
        generations = kept.generations;
        numbered = λ other life is. kept.numbered other life (sym (same other) ∙ is);
        counted = λ other. let c : count after other ≡ count births other = ap (λ last. number_of last + cond (fin.contains births.fresh other) 1 0) (same other) in let h = kept.counted other in omega arith;
        fresh_used = λ other is. let h = kept.fresh_used other is in omega arith;
        fresh_dead = λ other is. ap alive_of (same other) ∙ kept.fresh_dead other is;
        deletions = λ other is dead. kept.deletions other is (sym (lives other) ∙ dead);
        cached_used = λ other is. absurd (false≢true is);
        cached_born = λ other is. absurd (false≢true is);
        cached_dead = λ other is. absurd (false≢true is);
        distinct = tt;
      };
      free = record { used = omega arith; dead = lives (length births.persistent) ∙ unused; uncached = refl };
      same = same (length births.persistent);
    }

-- what `with_next_taken` makes of births with that cache
abbrev taken_as : Births → List ℕ → Births
taken_as births cache =
    record births {
      persistent = cond (eqb (length cache) 0) (births.persistent ++ None ∷ []) births.persistent;
      cache = take (length cache - 1) cache;
    }

pub front-last : (xs : List ℕ) (d : ℕ) → 0 < length xs → xs ≡ take (length xs - 1) xs ++ get_or xs (length xs - 1) d ∷ []
front-last xs d some =
    let n : length xs ≡ length xs - 1 + 1 = omega arith in
    sym (take-length xs) ∙ ap (λ k. take k xs) n ∙ take_more xs (length xs - 1) d (omega arith)

taken-from : (births : Births) → AreBirths births → (IndicesAreSpent births → ⊥) → (cache : List ℕ) → births.cache ≡ cache → IsTaken births (taken_as births cache) (get_or cache (length cache - 1) (length births.persistent))
taken-from births kept room [] e =
    let left : length births.persistent < births.indices = let few : births.indices ≤ length births.persistent → ⊥ = λ h. room (e, h) in omega arith in
    open-taken births kept e left
taken-from births kept room (x ∷ xs) e =
    let cache : List ℕ = x ∷ xs in
    let index : ℕ = get_or cache (length cache - 1) (length births.persistent) in
    let some : eqb (length cache) 0 ≡ false = not-equal (length cache) 0 (λ h. absurd (omega arith)) in
    let popping = pop-taken births kept (take (length cache - 1) cache) index (e ∙ front-last cache (length births.persistent) (omega arith)) in
    subst (λ b. IsTaken births (record births { persistent = cond b (births.persistent ++ None ∷ []) births.persistent; cache = take (length cache - 1) cache }) index) (sym some) popping

-- the next index is taken
pub next-taken : (births : Births) → AreBirths births → (IndicesAreSpent births → ⊥) → IsTaken births (with_next_taken births) (next_index births)
next-taken births kept room = taken-from births kept room births.cache refl

-- the cache has room for one more where each index in use has room
pub cache-shorter : (births : Births) (index : ℕ) → AreBirths births → living births index ≢ None → length births.cache < length births.persistent
cache-shorter births index kept lives =
    let after = AreBirths-buried births index kept lives in
    let long = length-set births.persistent index (Some (record { number = count births index; lives = false })) in
    let few = length-le_from_distinct_below (births.cache ++ index ∷ []) (length births.persistent) after.distinct (λ q is. let h = after.cached_used q is in omega arith) in
    let more = length-append births.cache (index ∷ []) in
    omega arith

-- a fact of an `Ok`, where the result is one
pub on-ok : {T E P : Type 0} (r : Result T E) → OnOk r P → IsOk r → P
on-ok (Ok x) h ok = h
on-ok (Err e) h ok = absurd (false≢true ok)

pub nil-length : {A : Type 0} (xs : List A) → length xs ≡ 0 → xs ≡ []
nil-length [] h = refl
nil-length (x ∷ xs) h = absurd (omega arith)
