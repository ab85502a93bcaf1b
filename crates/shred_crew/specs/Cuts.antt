-- Groups dealt to workers by their times: the longest first, each to the worker that has the least so far.
use Rattle.std.specs.Prelude.{ℕ, suc, ◌+◌, Bool, ◌||◌, ◌&&◌, if◌then◌else◌, nat_lt, nat_eq, List, [], ◌∷◌, length, map, replicate, slice_index, slice_set}
use Rattle.std.specs.List.{All, filter, concat, enumerate_from, range_with_len}
use Rattle.std.specs.List.Sorted.{IsPermutation, IsStrictlyIncreasing}

-- a group, by its number and its time, takes longer than another, or as long and has the lower number
abbrev pub comes_before : (one other : ℕ × ℕ) → Bool
comes_before one other = nat_lt other.1 one.1 || (nat_eq other.1 one.1 && nat_lt one.0 other.0)

-- some groups in that order, and one more among them
abbrev pub with_group : ℕ × ℕ → List (ℕ × ℕ) → List (ℕ × ℕ)
with_group one [] = one ∷ []
with_group one (other ∷ others) = if comes_before one other then one ∷ other ∷ others else other ∷ with_group one others

abbrev pub by_falling_time : List (ℕ × ℕ) → List (ℕ × ℕ)
by_falling_time [] = []
by_falling_time (one ∷ others) = with_group one (by_falling_time others)

-- the place of the least of some numbers, of equal ones the first
abbrev pub place_of_least : List ℕ → ℕ
place_of_least [] = 0
place_of_least (number ∷ []) = 0
place_of_least (number ∷ other ∷ others) = if nat_lt (slice_index (other ∷ others) (place_of_least (other ∷ others))) number then suc (place_of_least (other ∷ others)) else 0

-- each worker's time, once one of them took a group
abbrev pub with_time : List ℕ → (worker time : ℕ) → List ℕ
with_time sums worker time = slice_set sums worker (slice_index sums worker + time)

-- the worker of each group, once some groups went, one after the other, each to the worker that had the least time so far
abbrev pub went_to : (sums : List ℕ) → List (ℕ × ℕ) → (workers : List ℕ) → List ℕ
went_to sums [] workers = workers
went_to sums (one ∷ others) workers = went_to (with_time sums (place_of_least sums) one.1) others (slice_set workers one.0 (place_of_least sums))

-- the worker of each group, by the groups' times
abbrev pub worker_of_each : (times : List ℕ) → (workers : ℕ) → List ℕ
worker_of_each times workers = went_to (replicate workers 0) (by_falling_time (enumerate_from 0 times)) (replicate (length times) 0)

-- the groups that went to a worker, by their numbers, which rise
abbrev pub groups_of : List ℕ → ℕ → List ℕ
groups_of workers worker = map (λ one. one.0) (filter (λ one. nat_eq one.1 worker) (enumerate_from 0 workers))

-- the groups of each worker
abbrev pub cut : (times : List ℕ) → (workers : ℕ) → List (List ℕ)
cut times workers = map (groups_of (worker_of_each times workers)) (range_with_len 0 workers)

-- each of so many groups stands in one list, once, and the numbers of a list rise
pub record IsShared (count : ℕ) (shares : List (List ℕ)) : Type 0 where
  pub once : IsPermutation (range_with_len 0 count) (concat shares)
  pub rising : All IsStrictlyIncreasing shares
