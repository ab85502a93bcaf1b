-- Lemmas on what becomes of a system's turn: one outcome, and references that live.
use Rattle.std.proofs.Common.{◌≡◌, ℕ, ℤ, negsuc, List, Option, Some, None, sym, ◌∙◌, subst, All}
use Rattle.std.proofs.lemmas.Option.{same_Some}
use Rattle.std.proofs.lemmas.List.Elements.{All-nil}
use Rattle.scene_model.specs.Parts.{Name, Part}
use Rattle.scene_model.specs.Rulebook.{Access, Fragment, Outcome, leaves, refuses, fills, Command}
use Rattle.scene_model.specs.Scenes.{RefLives}
use Rattle.scene.specs.OneOutcome.{SameOutcome}
use Rattle.scene.specs.References.{RefsLiveUnder}
use Rattle.scene_basics.specs.declared.data.BasicSystem.{BasicSystem}
use Rattle.scene_basics.specs.declared.data.BasicSystem.TheVariants.{Drift, Pull, Decay, Reap, Bud}
use Rattle.scene_basics.specs.Names.{pos_kind, vel_kind, hp_kind, g_name, part_kinds}
use Rattle.scene_basics.specs.Numbers.{counting}
use Rattle.scene_basics.specs.Gains.{Gains, number_at, global_number}
use Rattle.scene_basics.specs.Systems.{Makes}
use Rattle.scene_basics.proofs.GainLemmas.{part-after, Makes-one, Makes-asks, Makes-either, Makes-fits, Makes-refuses}

-- two refusals of a turn have one text, and two queues that it fills hold the same
same-refusal : (found : Option BasicSystem) (old : Fragment) (text other : List ℕ) → Makes found old (refuses text) → Makes found old (refuses other) → text ≡ other
same-refusal None old text other first second = absurd first
same-refusal (Some Drift) old text other first second = first.0 ∙ sym second.0
same-refusal (Some Pull) old text other first second = first.0 ∙ sym second.0
same-refusal (Some Decay) old text other first second = first.0 ∙ sym second.0
same-refusal (Some Reap) old text other first second = absurd first
same-refusal (Some Bud) old text other first second = absurd first

same-filling : (found : Option BasicSystem) (old : Fragment) (commands more : List Command) → Makes found old (fills commands) → Makes found old (fills more) → commands ≡ more
same-filling None old commands more first second = absurd first
same-filling (Some Drift) old commands more first second = absurd first
same-filling (Some Pull) old commands more first second = absurd first
same-filling (Some Decay) old commands more first second = absurd first
same-filling (Some Reap) old commands more first second = first.1 ∙ sym second.1
same-filling (Some Bud) old commands more first second = first.1 ∙ sym second.1

-- two outcomes of a turn are one
pub Makes-same : (access : Access) (found : Option BasicSystem) (old : Fragment) (one other : Outcome) → Makes found old one → Makes found old other → SameOutcome access one other
Makes-same access found old (leaves one commands) (leaves other more) first second = (Makes-one access found old one other commands more first second, Makes-asks found old one other commands more first second)
Makes-same access found old (leaves one commands) (refuses text) first second = Makes-either found old one commands text first second
Makes-same access found old (leaves one commands) (fills more) first second = Makes-fits found old one commands more first second
Makes-same access found old (refuses text) (leaves other more) first second = Makes-either found old other more text second first
Makes-same access found old (refuses text) (refuses other) first second = same-refusal found old text other first second
Makes-same access found old (refuses text) (fills more) first second = Makes-refuses found old text more first second
Makes-same access found old (fills commands) (leaves other more) first second = Makes-fits found old other more commands second first
Makes-same access found old (fills commands) (refuses text) first second = Makes-refuses found old text commands second first
Makes-same access found old (fills commands) (fills more) first second = same-filling found old commands more first second

-- a gain leaves references to ids that live, under the rules' kinds
gain-keeps : (kind : Name) (gain : ℕ → Option ℤ) (old left : Fragment) → Gains kind gain old left → RefsLiveUnder part_kinds old.ids old.part → RefsLiveUnder part_kinds old.ids left.part
gain-keeps kind gain old left gains living id name held known lives =
    part-after kind gain old left id name gains (λ (o : Option Part). o ≡ Some held → All (RefLives old.ids) held.refs) (λ is. living id name held known lives is)
    (λ sum same fits is. subst (λ (part : Part). All (RefLives old.ids) part.refs) (same_Some (counting sum) held is) (All-nil (RefLives old.ids)))

-- so does each system's turn
pub Makes-keeps : (found : Option BasicSystem) (old left : Fragment) (commands : List Command) → Makes found old (leaves left commands) → RefsLiveUnder part_kinds old.ids old.part → RefsLiveUnder part_kinds old.ids left.part
Makes-keeps None old left commands made living = absurd made
Makes-keeps (Some Drift) old left commands made living = gain-keeps pos_kind (λ id. number_at old vel_kind id) old left made.0 living
Makes-keeps (Some Pull) old left commands made living = gain-keeps vel_kind (λ id. global_number old g_name) old left made.0 living
Makes-keeps (Some Decay) old left commands made living = gain-keeps hp_kind (λ id. Some (negsuc 0)) old left made.0 living
Makes-keeps (Some Reap) old left commands made living = subst (λ (f : Fragment). RefsLiveUnder part_kinds old.ids f.part) (sym made.0) living
Makes-keeps (Some Bud) old left commands made living = subst (λ (f : Fragment). RefsLiveUnder part_kinds old.ids f.part) (sym made.0) living
