-- Local systems, each over what it declares, as a group of a plan.
use Rattle.std.proofs.Common.{◌≡◌, ℕ, ◌+◌, suc, List, [], ◌∷◌, ◌++◌, length, length-append, map, Option, Some, None, ap, sym, ◌∙◌, subst, arith, append_assoc}
use Rattle.std.specs.Prelude.{slice_get, slice_set}
use Rattle.std.specs.Option.{MatchOption, option_map}
use Rattle.shred_world.specs.declared.resource_id.ResourceId.{ResourceId}
use Rattle.shred_world.specs.Bundles.{Holding}
use Rattle.shred_plan.specs.Plan.{Placing, Group}
use Rattle.shred_stages.specs.declared.stop.Stop.{Stop}
use Rattle.shred_stages.specs.Runs.{Step, State, Turn, GroupRuns}
use Rattle.shred.specs.Locals.{LocalsRun}
use Rattle.scene_model.specs.Scenes.{PlainSystem}
use Rattle.scene_world.specs.Standing.{Kinds}
use Rattle.scene_dispatch.specs.Lent.{reads_of, writes_of}
use Rattle.scene_dispatch.proofs.PlaceLemmas.{get-seam, set-seam}

-- systems as a group, numbered one after another
abbrev pub group_of : {V : Type 0} → Kinds V → ℕ → List PlainSystem → Group ResourceId
group_of kinds number [] = []
group_of kinds number (system ∷ systems) = record { number = number; reads = reads_of kinds system; writes = writes_of kinds system; after = []; time = 0 } ∷ group_of kinds (suc number) systems

-- the turn of a local system, over what it declares
abbrev pub TakesOwn : {V P L : Type 0} → Kinds V → (P → Holding V → Option Stop → P → Holding V → Type 0) → (P → PlainSystem) → (L → P) → L → Holding V → Option Stop → L → Holding V → Type 0
TakesOwn kinds meets plain placed local w refused left w_after = Step meets (reads_of kinds (plain (placed local))) (writes_of kinds (plain (placed local))) (placed local) w refused (placed left) w_after

-- a refusal by its place, told by the number that is so far behind
abbrev pub numbered : ℕ → Option (ℕ × Stop) → Option (ℕ × Stop)
numbered base refused = option_map (λ why. (base + why.0, why.1)) refused

module _ {V P L : Type 0} (kinds : Kinds V) (meets : P → Holding V → Option Stop → P → Holding V → Type 0)
    (plain : P → PlainSystem) (stays : (system left : P) (seen after : Holding V) (refused : Option Stop) → meets system seen refused left after → plain left ≡ plain system)
    (placed : L → P) (base : ℕ) where
  -- a run of local systems, with earlier ones before them
  pub record RunsGroup (earlier : List P) (number : ℕ) (locals : List L) (w : Holding V) (refused : Option (ℕ × Stop)) (left : List L) (w_after : Holding V) : Type 0 where
    pub runs : GroupRuns meets (group_of kinds number (map plain (map placed locals))) (record { systems = earlier ++ map placed locals; held = w }) (numbered base refused) (record { systems = earlier ++ map placed left; held = w_after })
    pub same : map plain (map placed left) ≡ map plain (map placed locals)

  -- the group runs
  pub locals-group : (locals : List L) (place number : ℕ) (earlier : List P) → number ≡ length earlier → number ≡ base + place → (w : Holding V) (refused : Option (ℕ × Stop)) (left : List L) (w_after : Holding V)
      → LocalsRun (TakesOwn kinds meets plain placed) place locals w refused left w_after → RunsGroup earlier number locals w refused left w_after
  locals-group [] place number earlier counted placed_so w refused left w_after (none, no_more, same) = record {
    runs = (ap (numbered base) none, ap (λ (l : List L). let s : State V P = record { systems = earlier ++ map placed l; held = w_after } in s) no_more ∙ ap (λ (h : Holding V). let s : State V P = record { systems = earlier ++ []; held = h } in s) same);
    same = ap (λ l. map plain (map placed l)) no_more;
  }
  locals-group (local ∷ others) place number earlier counted placed_so w refused left w_after (stop, first, rest, between, own, leaves, are, more) =
      subst (λ l. RunsGroup earlier number (local ∷ others) w refused l w_after) (sym are)
      (by stop own more (locals-group others (suc place) (suc number) (earlier ++ placed first ∷ []) (omega (arith, length-append earlier (placed first ∷ []))) (omega arith) between refused rest w_after))
    where
      one : Placing ResourceId
      one = record { number = number; reads = reads_of kinds (plain (placed local)); writes = writes_of kinds (plain (placed local)); after = []; time = 0 }

      before : State V P
      before = record { systems = earlier ++ placed local ∷ map placed others; held = w }

      middle : State V P
      middle = record { systems = earlier ++ placed first ∷ map placed others; held = between }

      turn : (why : Option Stop) → TakesOwn kinds meets plain placed local w why first between → Turn meets one before why middle
      turn why step = (
        placed first,
        subst (λ o. MatchOption o ⊥ (λ system. Step meets (reads_of kinds (plain (placed local))) (writes_of kinds (plain (placed local))) system w why (placed first) between)) (sym there) step,
        sym (ap (λ n. slice_set (earlier ++ placed local ∷ map placed others) n (placed first)) counted ∙ set-seam earlier (map placed others) (placed local) (placed first)),
      )
        where
          there : slice_get (earlier ++ placed local ∷ map placed others) number ≡ Some (placed local)
          there = ap (slice_get (earlier ++ placed local ∷ map placed others)) counted ∙ get-seam earlier (map placed others) (placed local)

      shift : (l : List P) → (earlier ++ placed first ∷ []) ++ l ≡ earlier ++ placed first ∷ l
      shift l = append_assoc earlier (placed first ∷ []) l

      by : (why : Option Stop) → TakesOwn kinds meets plain placed local w why first between → MatchOption why (LocalsRun (TakesOwn kinds meets plain placed) (suc place) others between refused rest w_after) (λ stop. (refused ≡ Some (place, stop)) × (rest ≡ others) × (w_after ≡ between))
          → (LocalsRun (TakesOwn kinds meets plain placed) (suc place) others between refused rest w_after → RunsGroup (earlier ++ placed first ∷ []) (suc number) others between refused rest w_after)
          → RunsGroup earlier number (local ∷ others) w refused (first ∷ rest) w_after
      by None step more later = let next = later more in record {
        runs = (
          middle,
          None,
          turn None step,
          subst (λ l. GroupRuns meets (group_of kinds (suc number) (map plain (map placed others))) middle (numbered base refused) (record { systems = l; held = w_after })) (shift (map placed rest))
              (subst (λ l. GroupRuns meets (group_of kinds (suc number) (map plain (map placed others))) (record { systems = l; held = between }) (numbered base refused) (record { systems = (earlier ++ placed first ∷ []) ++ map placed rest; held = w_after })) (shift (map placed others)) next.runs),
        );
        same = ap (λ p. p ∷ map plain (map placed rest)) (stays (placed local) (placed first) _ step.after None step.runs) ∙ ap (λ l. plain (placed local) ∷ l) next.same;
      }
      by (Some stop) step (told, kept, held) later = record {
        runs = (
          middle,
          Some stop,
          turn (Some stop) step,
          (
            ap (numbered base) told ∙ ap (λ n. Some (n, stop)) (sym placed_so),
            ap (λ (l : List L). let s : State V P = record { systems = earlier ++ placed first ∷ map placed l; held = w_after } in s) kept ∙ ap (λ (h : Holding V). let s : State V P = record { systems = earlier ++ placed first ∷ map placed others; held = h } in s) held,
          ),
        );
        same = ap (λ p. p ∷ map plain (map placed rest)) (stays (placed local) (placed first) _ step.after (Some stop) step.runs) ∙ ap (λ l. plain (placed local) ∷ map plain (map placed l)) kept;
      }
