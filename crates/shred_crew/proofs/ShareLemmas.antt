-- Facts on the groups of each worker, as they are written down one after the other.
use Rattle.std.proofs.Common.{◌≡◌, ℕ, ◌<◌, ◌≤◌, ◌+◌, zero, suc, Bool, cond, List, [], ◌∷◌, ◌++◌, length, map, get_or, replicate, refl, ap, ap₂, sym, ◌∙◌, subst, arith, eqb, ◌⊎◌, inl, inr, length-append, append_assoc, append-nil, zero-add}
use Rattle.std.specs.List.{All, Contains, filter, concat, enumerate_from, range_with_len}
use Rattle.std.specs.List.Sorted.{IsPermutation, IsStrictlyIncreasing}
use Rattle.std.proofs.lemmas.Bool.{eq-eqb, ne_eqb, cases_lt}
use Rattle.std.proofs.lemmas.List.{map-append, get_or-append-add}
use Rattle.std.proofs.Math.ListN.{get_or-append}
use Rattle.std.proofs.Math.Seq.{get_or-append_seam}
use Rattle.std.proofs.lemmas.List.FromFn.{length-range_with_len, get_or-range_with_len}
use Rattle.std.proofs.lemmas.List.Elements.{filter-append, All-set, All-replicate}
use Rattle.std.proofs.lemmas.List.Sorted.{IsPermutation-refl, IsPermutation-trans, IsPermutation-append_left, IsPermutation-append_right, IsPermutation-append_comm, All-permutation, Contains-permutation}
use Rattle.shred_crew.specs.Deals.{put_at}
use Rattle.shred_crew.specs.Cuts.{groups_of, IsShared}

pub enumerate-push : {A : Type 0} (from : ℕ) (xs : List A) (x : A) (to : ℕ) → from + length xs ≡ to → enumerate_from from (xs ++ x ∷ []) ≡ enumerate_from from xs ++ (to, x) ∷ []
enumerate-push from [] x to e = let same : from ≡ to = omega (arith, e) in ap (λ n. (n, x) ∷ []) same
enumerate-push from (y ∷ xs) x to e = ap (λ list. (from, y) ∷ list) (enumerate-push (from + 1) xs x to (omega (arith, e)))

abbrev goes_to : ℕ → ℕ × ℕ → Bool
goes_to worker one = eqb one.1 worker

groups-push : (workers : List ℕ) (worker of : ℕ) → groups_of (workers ++ worker ∷ []) of ≡ groups_of workers of ++ map (λ one. one.0) (filter (goes_to of) ((length workers, worker) ∷ []))
groups-push workers worker of =
    ap (λ list. map (λ one. one.0) (filter (goes_to of) list)) (enumerate-push 0 workers worker (length workers) (omega arith))
    ∙ ap (map (λ one. one.0)) (filter-append (goes_to of) (enumerate_from 0 workers) ((length workers, worker) ∷ []))
    ∙ map-append (λ one. one.0) (filter (goes_to of) (enumerate_from 0 workers)) (filter (goes_to of) ((length workers, worker) ∷ []))

groups-here : (workers : List ℕ) (worker of : ℕ) → worker ≡ of → groups_of (workers ++ worker ∷ []) of ≡ groups_of workers of ++ length workers ∷ []
groups-here workers worker of e =
    groups-push workers worker of ∙ ap (λ b. groups_of workers of ++ map (λ (one : ℕ × ℕ). one.0) (cond b ((length workers, worker) ∷ []) [])) (eq-eqb worker of e)

groups-other : (workers : List ℕ) (worker of : ℕ) → (worker ≡ of → ⊥) → groups_of (workers ++ worker ∷ []) of ≡ groups_of workers of
groups-other workers worker of e =
    groups-push workers worker of ∙ ap (λ b. groups_of workers of ++ map (λ (one : ℕ × ℕ). one.0) (cond b ((length workers, worker) ∷ []) [])) (ne_eqb worker of e) ∙ append-nil (groups_of workers of)

-- the shares of later workers stay
later-stay : (workers : List ℕ) (worker from count : ℕ) → worker < from → map (groups_of workers) (range_with_len from count) ≡ map (groups_of (workers ++ worker ∷ [])) (range_with_len from count)
later-stay workers worker from zero h = refl
later-stay workers worker from (suc count) h =
    ap₂ (λ first others. first ∷ others) (sym (groups-other workers worker from (λ e. absurd (omega (arith, h, e))))) (later-stay workers worker (from + 1) count (omega (arith, h)))

-- one more group goes to a worker
pub share-more : (workers : List ℕ) (worker place from count group : ℕ) → from + place ≡ worker → place < count → length workers ≡ group
    → put_at (map (groups_of workers) (range_with_len from count)) place group ≡ map (groups_of (workers ++ worker ∷ [])) (range_with_len from count)
share-more workers worker place from zero group e h long = absurd (omega (arith, h))
share-more workers worker zero from (suc count) group e h long =
    ap₂ (λ first others. first ∷ others) (ap (λ n. groups_of workers from ++ n ∷ []) (sym long) ∙ sym (groups-here workers worker from (omega (arith, e)))) (later-stay workers worker (from + 1) count (omega (arith, e)))
share-more workers worker (suc place) from (suc count) group e h long =
    ap₂ (λ first others. first ∷ others) (sym (groups-other workers worker from (λ same. absurd (omega (arith, e, same))))) (share-more workers worker place (from + 1) count group (omega (arith, e)) (omega (arith, h)) long)

-- before the first group
pub share-none : (from count : ℕ) → replicate count [] ≡ map (groups_of []) (range_with_len from count)
share-none from zero = refl
share-none from (suc count) = ap (λ others. [] ∷ others) (share-none (from + 1) count)

concat-none : (count : ℕ) → concat (replicate count []) ≡ []
concat-none zero = refl
concat-none (suc count) = concat-none count

pub shared-none : (count : ℕ) → IsShared 0 (replicate count [])
shared-none count = record {
  once = subst (IsPermutation []) (sym (concat-none count)) (IsPermutation-refl []);
  rising = All-replicate IsStrictlyIncreasing count [] (λ k h. absurd (omega (arith, h)));
}

range-more : (from count last : ℕ) → from + count ≡ last → range_with_len from (count + 1) ≡ range_with_len from count ++ last ∷ []
range-more from zero last e = let same : from ≡ last = omega (arith, e) in ap (λ n. n ∷ []) same
range-more from (suc count) last e =
    let more : suc count + 1 ≡ suc (count + 1) = omega arith in
    ap (range_with_len from) more ∙ ap (λ others. from ∷ others) (range-more (from + 1) count last (omega (arith, e)))

range-below : (from count top : ℕ) → from + count ≤ top → All (λ n. n < top) (range_with_len from count)
range-below from zero top h k d below = absurd (omega (arith, below))
range-below from (suc count) top h zero d below = omega (arith, h)
range-below from (suc count) top h (suc k) d below = range-below (from + 1) count top (omega (arith, h)) k d (omega (arith, below))

-- the lists put one after the other, once one of them has one more
concat-more : (shares : List (List ℕ)) (worker group : ℕ) → worker < length shares → IsPermutation (concat shares ++ group ∷ []) (concat (put_at shares worker group))
concat-more [] worker group h = absurd (omega (arith, h))
concat-more (share ∷ shares) zero group h =
    subst (λ list. IsPermutation list ((share ++ group ∷ []) ++ concat shares)) (sym (append_assoc share (concat shares) (group ∷ [])))
    (subst (IsPermutation (share ++ (concat shares ++ group ∷ []))) (sym (append_assoc share (group ∷ []) (concat shares)))
    (IsPermutation-append_right share (concat shares ++ group ∷ []) (group ∷ concat shares) (IsPermutation-append_comm (concat shares) (group ∷ []))))
concat-more (share ∷ shares) (suc worker) group h =
    subst (λ list. IsPermutation list (share ++ concat (put_at shares worker group))) (sym (append_assoc share (concat shares) (group ∷ [])))
    (IsPermutation-append_right share (concat shares ++ group ∷ []) (concat (put_at shares worker group)) (concat-more shares worker group (omega (arith, h))))

-- what holds of each number of the lists holds of each of one
all-in-share : (P : ℕ → Type 0) (shares : List (List ℕ)) (worker : ℕ) → All P (concat shares) → worker < length shares → All P (get_or shares worker [])
all-in-share P [] worker all h = λ k d below. absurd (omega (arith, h))
all-in-share P (share ∷ shares) zero all h = λ k d below. subst P (get_or-append share (concat shares) d k below) (all k d (let e = length-append share (concat shares) in omega (arith, e, below)))
all-in-share P (share ∷ shares) (suc worker) all h = all-in-share P shares worker later (omega (arith, h))
  where
    later : All P (concat shares)
    later k d below =
        let e = length-append share (concat shares) in
        let at : get_or (share ++ concat shares) (length share + k) d ≡ get_or (concat shares) k d = get_or-append-add share (concat shares) k d in
        subst P at (all (length share + k) d (omega (arith, e, below)))

-- a list whose numbers rise, with a greater one at its end
rising-more : (share : List ℕ) (group : ℕ) → IsStrictlyIncreasing share → All (λ n. n < group) share → IsStrictlyIncreasing (share ++ group ∷ [])
rising-more share group rising below k h = by (cases_lt (k + 1) (length share))
  where
    long : length (share ++ group ∷ []) ≡ length share + 1
    long = length-append share (group ∷ [])

    by : ((k + 1) < length share) ⊎ (length share ≤ (k + 1)) → get_or (share ++ group ∷ []) k 0 < get_or (share ++ group ∷ []) (k + 1) 0
    by (inl inside) =
        let one = get_or-append share (group ∷ []) 0 k (omega (arith, inside)) in
        let other = get_or-append share (group ∷ []) 0 (k + 1) inside in
        let less = rising k inside in
        omega (arith, one, other, less)
    by (inr last) =
        let one = get_or-append share (group ∷ []) 0 k (let e = long in omega (arith, e, h)) in
        let at : k + 1 ≡ length share = let e = long in omega (arith, e, h, last) in
        let other : get_or (share ++ group ∷ []) (k + 1) 0 ≡ group = ap (λ n. get_or (share ++ group ∷ []) n 0) at ∙ get_or-append_seam share group [] 0 in
        let less = below k 0 (omega (arith, at)) in
        omega (arith, one, other, less)

pub shared-more : (count worker : ℕ) (shares : List (List ℕ)) → IsShared count shares → worker < length shares → IsShared (count + 1) (put_at shares worker count)
shared-more count worker shares shared h = record {
  once =
      subst (λ list. IsPermutation list (concat (put_at shares worker count))) (sym (range-more 0 count count (omega arith)))
      (IsPermutation-trans (range_with_len 0 count ++ count ∷ []) (concat shares ++ count ∷ []) (concat (put_at shares worker count)) (IsPermutation-append_left (count ∷ []) (range_with_len 0 count) (concat shares) shared.once) (concat-more shares worker count h));
  rising =
      let below : All (λ n. n < count) (concat shares) = All-permutation (λ n. n < count) (range_with_len 0 count) (concat shares) shared.once (range-below 0 count count (omega arith)) in
      All-set IsStrictlyIncreasing shares worker (get_or shares worker [] ++ count ∷ []) (rising-more (get_or shares worker []) count (shared.rising worker [] h) (all-in-share (λ n. n < count) shares worker below h)) shared.rising;
}

-- the lists have each number, and no other
pub share-has : (count : ℕ) (shares : List (List ℕ)) → IsShared count shares → (number : ℕ) → number < count → Contains (concat shares) number
share-has count shares shared number h = Contains-permutation (range_with_len 0 count) (concat shares) number shared.once (number, subst (λ n. number < n) (sym (length-range_with_len 0 count)) h, get_or-range_with_len 0 count number number h ∙ zero-add number)
