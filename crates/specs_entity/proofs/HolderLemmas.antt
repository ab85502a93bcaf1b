-- Pairs that are chained by their targets, and lists that have the indices of a set.
use Rattle.std.proofs.Common.{◌≡◌, ◌≢◌, ◌<◌, ◌≤◌, ◌+◌, ◌-◌, ◌||◌, ◌⊎◌, inl, inr, ℕ, Bool, true, false, cond, eqb, List, [], ◌∷◌, ◌++◌, length, take, get_or, Option, Some, refl, sym, ◌∙◌, ap, subst, arith}
use Rattle.std.specs.List.{list_any, IsDistinct}
use Rattle.std.specs.Option.{unwrap_or}
use Rattle.std.specs.Ordering.{nat_cmp}
use Rattle.std.specs.FinSet as set
use Rattle.std.proofs.lemmas.Bool.{false≢true, eqb-true, eq-eqb, ne_eqb, cases_eq, or_cases}
use Rattle.std.proofs.lemmas.Cmp.{nat_eq_equiv}
use Rattle.std.proofs.lemmas.List.{append-nil, append_assoc, take-append-le, length-append, get_or_append_left}
use Rattle.std.proofs.lemmas.List.Folds.{list_any-append, list_any_more, list_any_at}
use Rattle.std.proofs.lemmas.Map.Keys.{IsDistinct-push}
use Rattle.std.proofs.lemmas.Map.Steps.{length-le_from_distinct_below}
use Rattle.std.proofs.Math.Seq.{get_or-append_seam}
use Rattle.hibitset_sets.proofs.CallerLemmas.{contains-with}
use Rattle.specs_entity.specs.declared.holders.Link.{Link}
use Rattle.specs_entity.specs.Holders.{no_link, link_at, Holds, IsEnd, IsChained, Tells, GoesOn}

-- ---- chains

-- what a table keeps for a target, where it may be another from now on
pub kept-end : (here : Bool) (end is : ℕ) (before : Option ℕ) → end ≡ is → unwrap_or (cond here (Some end) before) 0 ≡ cond here is (unwrap_or before 0)
kept-end true end is before same = same
kept-end false end is before same = refl

-- no link, and nothing kept for any target
pub chained-none : (ends : ℕ → ℕ) → ((target : ℕ) → ends target ≡ 0) → IsChained ends []
chained-none ends zeros = record {
  last = λ target. record {
    within = let zero = zeros target in omega (arith, zero);
    here = λ some. absurd (let zero = zeros target in omega (arith, some, zero));
    none = λ place low below. absurd (omega (arith, below));
  };
  before = λ place below. absurd (omega (arith, below));
}

module _ (links : List Link) (link : Link) where
  abbrev pub more : List Link
  more = links ++ link ∷ []

  long : length more ≡ length links + 1
  long = length-append links (link ∷ [])

  old-link : (place : ℕ) → place < length links → link_at more place ≡ link_at links place
  old-link place below = get_or_append_left links (link ∷ []) no_link place below

  new-link : link_at more (length links) ≡ link
  new-link = get_or-append_seam links link [] no_link

  last-or : (place : ℕ) → place < length more → (place < length links) ⊎ (place ≡ length links)
  last-or place below = elim (cases_eq place (length links)) [
    | inl here ↦ inr here
    | inr apart ↦ inl (let l = long in omega (arith, below, l, apart))
  ]

  end-kept : (target bound end : ℕ) → bound ≤ length links → IsEnd links target bound end → IsEnd more target bound end
  end-kept target bound end short is = record {
    within = is.within;
    here = λ some. ap (λ l. l.target) (old-link (end - 1) (let within = is.within in omega (arith, some, within, short))) ∙ is.here some;
    none = λ place low below same. is.none place low below (sym (ap (λ l. l.target) (old-link place (omega (arith, below, short)))) ∙ same);
  }

  module _ (ends later : ℕ → ℕ) (puts : (target : ℕ) → later target ≡ cond (eqb link.target target) (length links + 1) (ends target)) (before : link.before ≡ ends link.target) (is : IsChained ends links) where
    end-later : (target : ℕ) → (link.target ≡ target) ⊎ (link.target ≢ target) → IsEnd more target (length more) (later target)
    end-later target (inl same) =
        let at : later target ≡ length links + 1 = puts target ∙ ap (λ b. cond b (length links + 1) (ends target)) (eq-eqb link.target target same) in
        record {
          within = let l = long in omega (arith, at, l);
          here = λ some. ap (λ place. (link_at more place).target) (let step : later target - 1 ≡ length links = omega (arith, at) in step) ∙ ap (λ l. l.target) new-link ∙ same;
          none = λ place low below. absurd (let l = long in omega (arith, at, low, below, l));
        }
    end-later target (inr apart) =
        let at : later target ≡ ends target = puts target ∙ ap (λ b. cond b (length links + 1) (ends target)) (ne_eqb link.target target apart) in
        let old = end-kept target (length links) (ends target) (omega arith) (is.last target) in
        record {
          within = let within = old.within in let l = long in omega (arith, at, within, l);
          here = λ some. ap (λ end. (link_at more (end - 1)).target) at ∙ old.here (omega (arith, some, at));
          none = λ place low below same. elim (last-or place below) [
            | inl early ↦ old.none place (omega (arith, low, at)) early same
            | inr last ↦ apart (sym (ap (λ l. l.target) new-link) ∙ (ap (λ p. (link_at more p).target) (sym last) ∙ same))
          ];
        }

    before-later : (place : ℕ) → (place < length links) ⊎ (place ≡ length links) → IsEnd more (link_at more place).target place (link_at more place).before
    before-later place (inl early) =
        subst (λ l. IsEnd more l.target place l.before) (sym (old-link place early)) (end-kept _ place _ (omega (arith, early)) (is.before place early))
    before-later place (inr last) =
        subst (λ p. IsEnd more (link_at more p).target p (link_at more p).before) (sym last)
        (subst (λ l. IsEnd more l.target (length links) l.before) (sym new-link)
        (subst (IsEnd more link.target (length links)) (sym before) (end-kept link.target (length links) (ends link.target) (omega arith) (is.last link.target))))

    -- one link more, behind which its target's end stands from then on
    pub chained-more : IsChained later more
    chained-more = record {
      last = λ target. end-later target (cases_eq link.target target);
      before = λ place below. before-later place (last-or place below);
    }

-- ---- lists that have the indices of a set

or-swap : (a b : Bool) → (a || b) ≡ (b || a)
or-swap true true = refl
or-swap true false = refl
or-swap false true = refl
or-swap false false = refl

or-none : (b : Bool) → (b || false) ≡ b
or-none true = refl
or-none false = refl

-- nothing in either
pub tells-none : Tells [] set.empty
unfolding IsDistinct
tells-none = record { same = λ index. set.contains-empty nat_cmp index; once = tt; below = λ index is. absurd (false≢true is) }

module _ (members : List ℕ) (marked : set.FinSet nat_cmp) (index : ℕ) (tells : Tells members marked) where
  any-more : (other : ℕ) → list_any (eqb other) (members ++ index ∷ []) ≡ (eqb other index || list_any (eqb other) members)
  any-more other =
      list_any-append (eqb other) members (index ∷ []) ∙ ap (λ b. list_any (eqb other) members || b) (or-none (eqb other index))
      ∙ or-swap (list_any (eqb other) members) (eqb other index)

  -- an index that isn't in comes in
  pub tells-more : set.contains marked index ≡ false → index < 16777216 → Tells (members ++ index ∷ []) (set.insert marked index)
  tells-more out range = record {
    same = λ other. contains-with marked index other ∙ ap (λ b. eqb other index || b) (tells.same other) ∙ sym (any-more other);
    once = IsDistinct-push nat_eq_equiv members index tells.once (sym (tells.same index) ∙ out);
    below = λ other is. elim (or_cases (eqb other index) (list_any (eqb other) members) (sym (any-more other) ∙ is)) [
      | inl same ↦ subst (λ n. n < 16777216) (sym (eqb-true other index same)) range
      | inr old ↦ tells.below other old
    ];
  }

  -- where it is in, the set with it is the same
  pub still-in : set.contains marked index ≡ true → (other : ℕ) → set.contains marked other ≡ (eqb other index || set.contains marked other)
  still-in there other = elim (cases_eq other index) [
    | inl same ↦ ap (set.contains marked) same ∙ there ∙ sym (ap (λ b. b || set.contains marked other) (eq-eqb other index same))
    | inr apart ↦ sym (ap (λ b. b || set.contains marked other) (ne_eqb other index apart))
  ]

-- a list goes on itself, and further on
pub goes-on-still : (members : List ℕ) → GoesOn members members
goes-on-still members = ([], sym (append-nil members))

pub goes-further : (one mid last : List ℕ) → GoesOn one mid → GoesOn mid last → GoesOn one last
goes-further one mid last first then = (first.0 ++ then.0, then.1 ∙ ap (λ l. l ++ then.0) first.1 ∙ append_assoc one first.0 then.0)

-- such a list isn't longer than all indices
pub tells-short : (members : List ℕ) (marked : set.FinSet nat_cmp) → Tells members marked → length members ≤ 16777216
tells-short members marked tells = length-le_from_distinct_below members 16777216 tells.once tells.below

pub longer-length : (one other : List ℕ) → GoesOn one other → length one ≤ length other
longer-length one other longer =
    let sum = length-append one longer.0 in
    subst (λ l. length one ≤ length l) (sym longer.1) (omega (arith, sum))

-- whether a test passes among the first so many and one more
pub any-first : (test : ℕ → Bool) (xs : List ℕ) (k : ℕ) → k < length xs → list_any test (take (k + 1) xs) ≡ (test (get_or xs k 0) || list_any test (take k xs))
any-first test xs k inside = list_any_more test xs k 0 inside ∙ or-swap (list_any test (take k xs)) (test (get_or xs k 0))

pub any-further : (test : ℕ → Bool) (one other : List ℕ) (k : ℕ) → k < length one → GoesOn one other → list_any test (take (k + 1) other) ≡ (test (get_or one k 0) || list_any test (take k one))
any-further test one other k inside longer =
    ap (λ l. list_any test (take (k + 1) l)) longer.1
    ∙ ap (list_any test) (take-append-le (k + 1) one longer.0 (omega (arith, inside)))
    ∙ any-first test one k inside

-- what stands at a place is in the list
pub at-place : (xs : List ℕ) (k : ℕ) → k < length xs → list_any (eqb (get_or xs k 0)) xs ≡ true
at-place xs k inside = list_any_at (eqb (get_or xs k 0)) xs k 0 inside (eq-eqb (get_or xs k 0) (get_or xs k 0) refl)
