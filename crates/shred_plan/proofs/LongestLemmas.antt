-- Facts on how long the longest group of a stage runs.
use Rattle.std.proofs.Common.{◌≡◌, ℕ, ◌+◌, ◌<◌, zero, suc, max, [], ◌∷◌, ◌++◌, length, get_or, ap, ◌∙◌, arith}
use Rattle.std.specs.List.{fold}
use Rattle.std.proofs.Math.ListN.{set}
use Rattle.std.proofs.lemmas.List.Sums.{sum_by-append}
use Rattle.shred_plan.specs.Plan.{Placing, Group, Stage, longest, time_of}

module _ {Id : Type 0} where
  above-max : (most : ℕ) (stage : Stage Id) → fold (λ (m : ℕ) (group : Group Id). max m (time_of group)) most stage ≡ max most (longest stage)
  above-max most [] = omega arith
  above-max most (group ∷ stage) =
      let one = above-max (max most (time_of group)) stage in
      let two = above-max (max 0 (time_of group)) stage in
      omega (arith, one, two)

  longest-cons : (group : Group Id) (stage : Stage Id) → longest (group ∷ stage) ≡ max (time_of group) (longest stage)
  longest-cons group stage = omega (arith, above-max (max 0 (time_of group)) stage)

  time-push : (group : Group Id) (one : Placing Id) → time_of (group ++ one ∷ []) ≡ time_of group + one.time
  time-push group one = sum_by-append (λ (system : Placing Id). system.time) group (one ∷ []) ∙ ap (λ n. time_of group + n) (omega arith)

  -- with a group that one more system makes longer
  pub longest-longer : (stage : Stage Id) (i : ℕ) (one : Placing Id) → i < length stage → longest (set stage i (get_or stage i [] ++ one ∷ [])) ≡ max (longest stage) (time_of (get_or stage i [] ++ one ∷ []))
  longest-longer [] i one h = absurd (omega arith)
  longest-longer (group ∷ stage) zero one h = omega (arith, longest-cons (group ++ one ∷ []) stage, longest-cons group stage, time-push group one)
  longest-longer (group ∷ stage) (suc i) one h =
      omega (arith, longest-cons group (set stage i (get_or stage i [] ++ one ∷ [])), longest-cons group stage, longest-longer stage i one (omega arith))
