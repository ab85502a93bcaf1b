-- The placement of systems, tried on rows whose plans are given with the rule.
use Rattle.std.proofs.Common.{◌≡◌, ℕ, List, [], ◌∷◌, map, refl}
use Rattle.std.specs.Prelude.{nat_eq}
use Rattle.shred_plan.specs.Plan.{Added, fence, placing, plan}

-- a system of a row: its number, the kinds that it reads and writes, those it comes after, its time
abbrev row_system : ℕ → List ℕ → List ℕ → List ℕ → ℕ → Added ℕ
row_system number reads writes after time = placing (record { number = number; reads = reads; writes = writes; after = after; time = time })

-- the numbers of a plan
abbrev numbers : List (Added ℕ) → List (List (List ℕ))
numbers list = map (λ stage. map (λ group. map (λ system. system.number) group) stage) (plan nat_eq list)

-- a reader of one kind beside a writer and a reader of another
writer_and_reader : numbers (row_system 0 (1 ∷ []) [] [] 3 ∷ row_system 1 [] (2 ∷ []) [] 1 ∷ row_system 2 (2 ∷ []) [] [] 2 ∷ []) ≡ ((0 ∷ []) ∷ (1 ∷ 2 ∷ []) ∷ []) ∷ []
writer_and_reader = refl

-- a chain of systems without resources
chain : numbers (row_system 0 [] [] [] 3 ∷ row_system 1 [] [] (0 ∷ []) 3 ∷ row_system 2 [] [] (1 ∷ []) 3 ∷ []) ≡ ((0 ∷ []) ∷ []) ∷ ((1 ∷ []) ∷ []) ∷ ((2 ∷ []) ∷ []) ∷ []
chain = refl

-- a short system joins the group of the one that it comes after
after_one : numbers (row_system 0 [] [] [] 5 ∷ row_system 1 [] [] [] 1 ∷ row_system 2 [] [] (1 ∷ []) 1 ∷ []) ≡ ((0 ∷ []) ∷ (1 ∷ 2 ∷ []) ∷ []) ∷ []
after_one = refl

-- named twice, it can be taken off once alone
after_one_twice : numbers (row_system 0 [] [] [] 5 ∷ row_system 1 [] [] [] 1 ∷ row_system 2 [] [] (1 ∷ 1 ∷ []) 1 ∷ []) ≡ ((0 ∷ []) ∷ (1 ∷ []) ∷ []) ∷ ((2 ∷ []) ∷ []) ∷ []
after_one_twice = refl

-- a group takes four systems
four_in_a_group : numbers (row_system 0 [] [] [] 5 ∷ row_system 1 [] (2 ∷ []) [] 1 ∷ row_system 2 [] (2 ∷ []) [] 1 ∷ row_system 3 [] (2 ∷ []) [] 1 ∷ row_system 4 [] (2 ∷ []) [] 1 ∷ row_system 5 [] (2 ∷ []) [] 1 ∷ []) ≡ ((0 ∷ []) ∷ (1 ∷ 2 ∷ 3 ∷ 4 ∷ []) ∷ []) ∷ ((5 ∷ []) ∷ []) ∷ []
four_in_a_group = refl

-- a group that is nearly as long as the longest takes no longer one
too_long_to_join : numbers (row_system 0 [] [] [] 2 ∷ row_system 1 [] (2 ∷ []) [] 1 ∷ row_system 2 [] (2 ∷ []) [] 2 ∷ []) ≡ ((0 ∷ []) ∷ (1 ∷ []) ∷ []) ∷ ((2 ∷ []) ∷ []) ∷ []
too_long_to_join = refl

-- writers of one kind, a fence, and a writer of another
fenced : numbers (row_system 0 [] (2 ∷ []) [] 3 ∷ row_system 1 [] (2 ∷ []) [] 3 ∷ fence ∷ row_system 2 [] (1 ∷ []) [] 3 ∷ []) ≡ ((0 ∷ []) ∷ []) ∷ ((1 ∷ []) ∷ []) ∷ ((2 ∷ []) ∷ []) ∷ []
fenced = refl

-- four writers of one kind, the last after the second, a fence, and two more, the second after the first
writers_fenced : numbers (row_system 0 [] (2 ∷ []) [] 3 ∷ row_system 1 [] (2 ∷ []) [] 3 ∷ row_system 2 [] (2 ∷ []) [] 3 ∷ row_system 3 [] (2 ∷ []) (1 ∷ []) 3 ∷ fence ∷ row_system 4 [] (2 ∷ []) [] 3 ∷ row_system 5 [] (2 ∷ []) (4 ∷ []) 3 ∷ []) ≡ ((0 ∷ []) ∷ []) ∷ ((1 ∷ []) ∷ []) ∷ ((2 ∷ []) ∷ []) ∷ ((3 ∷ []) ∷ []) ∷ ((4 ∷ []) ∷ []) ∷ ((5 ∷ []) ∷ []) ∷ []
writers_fenced = refl

-- a system without resources goes into the first stage after the fence
early_stage : numbers (row_system 0 [] (2 ∷ []) [] 3 ∷ fence ∷ row_system 1 [] (2 ∷ []) [] 3 ∷ row_system 2 [] (2 ∷ []) [] 3 ∷ row_system 3 [] [] [] 3 ∷ []) ≡ ((0 ∷ []) ∷ []) ∷ ((1 ∷ []) ∷ (3 ∷ []) ∷ []) ∷ ((2 ∷ []) ∷ []) ∷ []
early_stage = refl
