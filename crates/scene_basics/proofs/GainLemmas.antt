-- Lemmas on what a gain leaves.
use Rattle.std.proofs.Common.{◌≡◌, ◌<◌, ◌≤◌, ℕ, ℤ, pos, negsuc, int_le, cond, is_some, length, ◌∷◌, below_none, arith, Bool, true, false, List, [], Option, Some, None, refl, sym, ◌∙◌, ap, subst, FitsSigned, All}
use Rattle.std.specs.Int.{w64}
use Rattle.std.specs.Str.{bytes_eq}
use Rattle.std.proofs.lemmas.Option.{same_Some, none-some}
use Rattle.std.proofs.lemmas.Slice.Eq.{bytes_eq-Decides}
use Rattle.std.proofs.lemmas.List.Elements.{All-nil, All-cons}
use Rattle.std.proofs.lemmas.List.Kept.{AllPairs-cons}
use Rattle.std.specs.List.{filter_map, cons_option}
use Rattle.scene_model.specs.Parts.{Name, Part, is_among}
use Rattle.scene_model.specs.Rulebook.{Access, Fragment, leaves, refuses, fills, queue_room, Command, kill}
use Rattle.scene_model.specs.Scenes.{lives, RefLives, RefsLive, PartsAdmitted, GlobalsReadable, KeepsValues}
use Rattle.scene_basics.specs.declared.data.BasicSystem.{BasicSystem}
use Rattle.scene_basics.specs.declared.data.BasicSystem.TheVariants.{Drift, Pull, Decay, Reap, Bud}
use Rattle.scene_basics.specs.declared.data.Ask.TheVariants.{Deaths, Births}
use Rattle.scene_basics.specs.Asks.{asked_for, asked_of, death_by, newborn, birth_at, birth_by}
use Rattle.scene_model.specs.Lawful.{IsKnownPart, IsLawful}
use Rattle.scene_basics.specs.Names.{number_kinds, pos_kind, vel_kind, hp_kind, g_name}
use Rattle.scene_basics.specs.Numbers.{counting, admits}
use Rattle.scene_basics.specs.Gains.{Gains, sum_at, number_at, global_number, Overflows}
use Rattle.scene.specs.OneOutcome.{SameLeft}
use Rattle.scene_basics.specs.Systems.{basics, Makes}
use Rattle.scene_basics.specs.RuleLaws.{admits-counting}

-- after a gain, a part is one that was there, or a sum
pub part-after : (kind : Name) (gain : ℕ → Option ℤ) (old new : Fragment) (id : ℕ) (name : Name) → Gains kind gain old new → (P : Option Part → Type 0) → P (old.part id name) → ((sum : ℤ) → name ≡ kind → FitsSigned w64 sum → P (Some (counting sum))) → P (new.part id name)
part-after kind gain old new id name gains P was sum = named (bytes_eq name kind) refl
  where
    under : name ≡ kind → (l : Bool) → lives id old.ids ≡ l → (o : Option ℤ) → sum_at old kind gain id ≡ o → P (new.part id name)
    under same true living (Some value) is = subst P (sym (ap (new.part id) same ∙ gains.sums id value living is)) (sum value same (gains.fit id value living is))
    under same true living None is = subst P (sym (ap (new.part id) same ∙ (gains.stay id living is ∙ ap (old.part id) (sym same)))) was
    under same false dead o is = subst P (sym (ap (new.part id) same ∙ (gains.strangers id dead ∙ ap (old.part id) (sym same)))) was

    named : (b : Bool) → bytes_eq name kind ≡ b → P (new.part id name)
    named true is = under ((bytes_eq-Decides name kind).0 is) (lives id old.ids) refl (sum_at old kind gain id) refl
    named false is = subst P (sym (gains.others id name is)) was

-- a gain of a kind of numbers leaves parts of their kinds
pub Gains-admitted : (kind : Name) (gain : ℕ → Option ℤ) (old new : Fragment) → is_among kind number_kinds ≡ true → Gains kind gain old new → PartsAdmitted basics old.part → PartsAdmitted basics new.part
Gains-admitted kind gain old new among gains admitted id name held =
    part-after kind gain old new id name gains (λ (o : Option Part). o ≡ Some held → admits name held ≡ true) (admitted id name held)
    (λ sum same fits is. subst (λ (part : Part). admits name part ≡ true) (same_Some (counting sum) held is) (sym (admits-counting name sum fits) ∙ (ap (λ (other : Name). is_among other number_kinds) same ∙ among)))

-- a gain leaves references to ids that live
pub Gains-living : (kind : Name) (gain : ℕ → Option ℤ) (old new : Fragment) → Gains kind gain old new → RefsLive old.ids old.part → RefsLive new.ids new.part
Gains-living kind gain old new gains living = subst (λ (ids : List ℕ). RefsLive ids new.part) (sym gains.ids) (λ id name held lives.
    part-after kind gain old new id name gains (λ (o : Option Part). o ≡ Some held → All (RefLives old.ids) held.refs) (λ is. living id name held lives is)
    (λ sum same fits is. subst (λ (part : Part). All (RefLives old.ids) part.refs) (same_Some (counting sum) held is) (All-nil (RefLives old.ids))))

-- a system's turn leaves parts of their kinds, and references to ids that live
pub Makes-admitted : (system : BasicSystem) (old new : Fragment) (commands : List Command) → Makes (Some system) old (leaves new commands) → PartsAdmitted basics old.part → PartsAdmitted basics new.part
Makes-admitted Drift old new commands made admitted = Gains-admitted pos_kind (λ id. number_at old vel_kind id) old new refl made.0 admitted
Makes-admitted Pull old new commands made admitted = Gains-admitted vel_kind (λ id. global_number old g_name) old new refl made.0 admitted
Makes-admitted Decay old new commands made admitted = Gains-admitted hp_kind (λ id. Some (negsuc 0)) old new refl made.0 admitted
Makes-admitted Reap old new commands made admitted = subst (λ left. PartsAdmitted basics left.part) (sym made.0) admitted
Makes-admitted Bud old new commands made admitted = subst (λ left. PartsAdmitted basics left.part) (sym made.0) admitted

pub Makes-living : (system : BasicSystem) (old new : Fragment) (commands : List Command) → Makes (Some system) old (leaves new commands) → RefsLive old.ids old.part → RefsLive new.ids new.part
Makes-living Drift old new commands made living = Gains-living pos_kind (λ id. number_at old vel_kind id) old new made.0 living
Makes-living Pull old new commands made living = Gains-living vel_kind (λ id. global_number old g_name) old new made.0 living
Makes-living Decay old new commands made living = Gains-living hp_kind (λ id. Some (negsuc 0)) old new made.0 living
Makes-living Reap old new commands made living = subst (λ left. RefsLive left.ids left.part) (sym made.0) living
Makes-living Bud old new commands made living = subst (λ left. RefsLive left.ids left.part) (sym made.0) living

pub Makes-valued : (system : BasicSystem) (old new : Fragment) (commands : List Command) → Makes (Some system) old (leaves new commands) → KeepsValues old new
Makes-valued Drift old new commands made name there = ap is_some (made.0.globals name) ∙ there
Makes-valued Pull old new commands made name there = ap is_some (made.0.globals name) ∙ there
Makes-valued Decay old new commands made name there = ap is_some (made.0.globals name) ∙ there
Makes-valued Reap old new commands made name there = ap (λ left. is_some (left.global name)) made.0 ∙ there
Makes-valued Bud old new commands made name there = ap (λ left. is_some (left.global name)) made.0 ∙ there

pub Makes-readable : (system : BasicSystem) (old new : Fragment) (commands : List Command) → Makes (Some system) old (leaves new commands) → GlobalsReadable basics old.global → GlobalsReadable basics new.global
Makes-readable Drift old new commands made readable name value is = readable name value (sym (made.0.globals name) ∙ is)
Makes-readable Pull old new commands made readable name value is = readable name value (sym (made.0.globals name) ∙ is)
Makes-readable Decay old new commands made readable name value is = readable name value (sym (made.0.globals name) ∙ is)
Makes-readable Reap old new commands made readable name value is = subst (λ left. GlobalsReadable basics left.global) (sym made.0) readable name value is
Makes-readable Bud old new commands made readable name value is = subst (λ left. GlobalsReadable basics left.global) (sym made.0) readable name value is

-- what each of a list gives that gives something has a property that all of them have
filter_map-all : {X : Type 0} (P : X → Type 0) (f : ℕ → Option X) → ((id : ℕ) (x : X) → f id ≡ Some x → P x) → (ids : List ℕ) → All P (filter_map f ids)
filter_map-all P f each [] = All-nil P
filter_map-all {X = X} P f each (id ∷ ids) = one (f id) refl (filter_map-all P f each ids)
  where
    one : (o : Option X) → f id ≡ o → All P (filter_map f ids) → All P (cons_option o (filter_map f ids))
    one None is rest = rest
    one (Some x) is rest = All-cons P x (filter_map f ids) (each id x is) rest

-- two entries are of different kinds
abbrev Differ : Name × Part → Name × Part → Type 0
Differ one other = bytes_eq one.0 other.0 ≡ false

-- a death is lawful, and so is a birth at a pos that is one
death-lawful : (id : ℕ) (hp : Option ℤ) (command : Command) → death_by id hp ≡ Some command → IsLawful basics command
death-lawful id None command is = absurd (none-some command is)
death-lawful id (Some hp) command is = here (int_le hp (pos 0)) is
  where
    here : (b : Bool) → cond b (Some (kill id)) None ≡ Some command → IsLawful basics command
    here true e = subst (IsLawful basics) (same_Some (kill id) command e) tt
    here false e = absurd (none-some command e)

newborn-lawful : (place : Part) → admits pos_kind place ≡ true → IsLawful basics (newborn place)
newborn-lawful place is = (All-cons (IsKnownPart basics) (hp_kind, counting (pos 1)) ((pos_kind, place) ∷ []) (refl, refl) (All-cons (IsKnownPart basics) (pos_kind, place) [] (refl, is) (All-nil (IsKnownPart basics))), AllPairs-cons Differ (hp_kind, counting (pos 1)) ((pos_kind, place) ∷ []) (All-cons (Differ (hp_kind, counting (pos 1))) (pos_kind, place) [] refl (All-nil (Differ (hp_kind, counting (pos 1))))) (AllPairs-cons Differ (pos_kind, place) [] (All-nil (Differ (pos_kind, place))) (λ i j d lt within. absurd (below_none (λ k. ⊥) j within))))

birth-lawful : (hp : Option ℤ) (place : Option Part) (command : Command) → ((part : Part) → place ≡ Some part → admits pos_kind part ≡ true) → birth_by hp place ≡ Some command → IsLawful basics command
birth-lawful None place command admitted is = absurd (none-some command is)
birth-lawful (Some hp) place command admitted is = here (int_le (pos 10) hp) place admitted is
  where
    here : (b : Bool) (place : Option Part) → ((part : Part) → place ≡ Some part → admits pos_kind part ≡ true) → cond b (birth_at place) None ≡ Some command → IsLawful basics command
    here false place admitted e = absurd (none-some command e)
    here true None admitted e = absurd (none-some command e)
    here true (Some part) admitted e = subst (IsLawful basics) (same_Some (newborn part) command e) (newborn-lawful part (admitted part refl))

-- the commands of a turn are lawful
pub Makes-lawful : (system : BasicSystem) (old new : Fragment) (commands : List Command) → Makes (Some system) old (leaves new commands) → PartsAdmitted basics old.part → All (IsLawful basics) commands
Makes-lawful Drift old new commands made admitted = subst (All (IsLawful basics)) (sym made.1) (All-nil (IsLawful basics))
Makes-lawful Pull old new commands made admitted = subst (All (IsLawful basics)) (sym made.1) (All-nil (IsLawful basics))
Makes-lawful Decay old new commands made admitted = subst (All (IsLawful basics)) (sym made.1) (All-nil (IsLawful basics))
Makes-lawful Reap old new commands made admitted = subst (All (IsLawful basics)) (sym made.1) (filter_map-all (IsLawful basics) (asked_for Deaths old) (λ id command is. death-lawful id (number_at old hp_kind id) command is) old.ids)
Makes-lawful Bud old new commands made admitted = subst (All (IsLawful basics)) (sym made.1) (filter_map-all (IsLawful basics) (asked_for Births old) (λ id command is. birth-lawful (number_at old hp_kind id) (old.part id pos_kind) command (λ part held. admitted id pos_kind part held) is) old.ids)

-- a gain leaves one fragment
pub Gains-one : (access : Access) (kind : Name) (gain : ℕ → Option ℤ) (old one other : Fragment) → Gains kind gain old one → Gains kind gain old other → SameLeft access one other
Gains-one access kind gain old one other first second = record {
  parts = λ id name written. named id name (bytes_eq name kind) refl;
  globals = λ name written. first.globals name ∙ sym (second.globals name);
}
  where
    under : (id : ℕ) (l : Bool) → lives id old.ids ≡ l → (o : Option ℤ) → sum_at old kind gain id ≡ o → one.part id kind ≡ other.part id kind
    under id true living (Some value) is = first.sums id value living is ∙ sym (second.sums id value living is)
    under id true living None is = first.stay id living is ∙ sym (second.stay id living is)
    under id false dead o is = first.strangers id dead ∙ sym (second.strangers id dead)

    named : (id : ℕ) (name : Name) (b : Bool) → bytes_eq name kind ≡ b → one.part id name ≡ other.part id name
    named id name true is = let same : name ≡ kind = (bytes_eq-Decides name kind).0 is in ap (one.part id) same ∙ (under id (lives id old.ids) refl (sum_at old kind gain id) refl ∙ ap (other.part id) (sym same))
    named id name false is = first.others id name is ∙ sym (second.others id name is)

-- what gains does not overflow
pub Gains-fit : (kind : Name) (gain : ℕ → Option ℤ) (old new : Fragment) → Gains kind gain old new → ¬ (Overflows kind gain old)
Gains-fit kind gain old new gains over = over.4 (gains.fit over.0 over.1 over.2 over.3)

-- two fragments that are one hold the same
same_of : (access : Access) (old one other : Fragment) → one ≡ old → other ≡ old → SameLeft access one other
same_of access old one other first second = let same : one ≡ other = first ∙ sym second in record { parts = λ id kind written. ap (λ f. f.part id kind) same; globals = λ name written. ap (λ f. f.global name) same }

-- a system's turn leaves one fragment and one list of commands, and does not both leave one and refuse or fill its queue
pub Makes-one : (access : Access) (found : Option BasicSystem) (old one other : Fragment) (commands more : List Command) → Makes found old (leaves one commands) → Makes found old (leaves other more) → SameLeft access one other
Makes-one access None old one other commands more first second = absurd first
Makes-one access (Some Drift) old one other commands more first second = Gains-one access pos_kind (λ id. number_at old vel_kind id) old one other first.0 second.0
Makes-one access (Some Pull) old one other commands more first second = Gains-one access vel_kind (λ id. global_number old g_name) old one other first.0 second.0
Makes-one access (Some Decay) old one other commands more first second = Gains-one access hp_kind (λ id. Some (negsuc 0)) old one other first.0 second.0
Makes-one access (Some Reap) old one other commands more first second = same_of access old one other first.0 second.0
Makes-one access (Some Bud) old one other commands more first second = same_of access old one other first.0 second.0

pub Makes-asks : (found : Option BasicSystem) (old one other : Fragment) (commands more : List Command) → Makes found old (leaves one commands) → Makes found old (leaves other more) → commands ≡ more
Makes-asks None old one other commands more first second = absurd first
Makes-asks (Some Drift) old one other commands more first second = first.1 ∙ sym second.1
Makes-asks (Some Pull) old one other commands more first second = first.1 ∙ sym second.1
Makes-asks (Some Decay) old one other commands more first second = first.1 ∙ sym second.1
Makes-asks (Some Reap) old one other commands more first second = first.1 ∙ sym second.1
Makes-asks (Some Bud) old one other commands more first second = first.1 ∙ sym second.1

pub Makes-either : (found : Option BasicSystem) (old new : Fragment) (commands : List Command) (text : List ℕ) → Makes found old (leaves new commands) → ¬ (Makes found old (refuses text))
Makes-either None old new commands text made refused = refused
Makes-either (Some Drift) old new commands text made refused = Gains-fit pos_kind (λ id. number_at old vel_kind id) old new made.0 refused.1
Makes-either (Some Pull) old new commands text made refused = Gains-fit vel_kind (λ id. global_number old g_name) old new made.0 refused.1
Makes-either (Some Decay) old new commands text made refused = Gains-fit hp_kind (λ id. Some (negsuc 0)) old new made.0 refused.1
Makes-either (Some Reap) old new commands text made refused = refused
Makes-either (Some Bud) old new commands text made refused = refused

-- what fits a queue does not fill it
fits-queue : (asked commands more : List Command) → commands ≡ asked → length commands ≤ queue_room → queue_room < length asked → ⊥
fits-queue asked commands more all room over = let same : length commands ≡ length asked = ap (λ some. length some) all in omega (arith, same, room, over)

pub Makes-fits : (found : Option BasicSystem) (old new : Fragment) (commands more : List Command) → Makes found old (leaves new commands) → ¬ (Makes found old (fills more))
Makes-fits None old new commands more made filled = filled
Makes-fits (Some Drift) old new commands more made filled = filled
Makes-fits (Some Pull) old new commands more made filled = filled
Makes-fits (Some Decay) old new commands more made filled = filled
Makes-fits (Some Reap) old new commands more made filled = fits-queue (asked_of Deaths old) commands more made.1 made.2 filled.0
Makes-fits (Some Bud) old new commands more made filled = fits-queue (asked_of Births old) commands more made.1 made.2 filled.0

-- a refusal does not fill the queue
pub Makes-refuses : (found : Option BasicSystem) (old : Fragment) (text : List ℕ) (more : List Command) → Makes found old (refuses text) → ¬ (Makes found old (fills more))
Makes-refuses None old text more refused filled = filled
Makes-refuses (Some Drift) old text more refused filled = filled
Makes-refuses (Some Pull) old text more refused filled = filled
Makes-refuses (Some Decay) old text more refused filled = filled
Makes-refuses (Some Reap) old text more refused filled = refused
Makes-refuses (Some Bud) old text more refused filled = refused
