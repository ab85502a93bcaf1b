-- Commands that are asked for one after the other.
use Rattle.std.proofs.Common.{◌≡◌, ◌++◌, append_assoc, ℕ, List, [], ◌∷◌, length, true, Option, Some, None, Result, Ok, Err, refl, ap, sym, ◌∙◌, subst, All}
use Rattle.std.specs.Prelude.{MatchResult}
use Rattle.std.specs.List.{filter_map, cons_option}
use Rattle.std.proofs.lemmas.Bool.{false≢true}
use Rattle.std.proofs.lemmas.List.{length-map}
use Rattle.std.proofs.lemmas.List.Elements.{All-nil, All-cons}
use Rattle.shred_world.specs.Bundles.{Holding}
use Rattle.shred_stages.specs.Views.{error_of}
use Rattle.shred_stages.specs.declared.stop.Stop.{Stop}
use Rattle.shred_stages.specs.declared.stop.Stop.TheVariants as stop
use Rattle.scene_model.specs.Lawful.{IsLawful}
use Rattle.scene_model.specs.Parts.{Part, is_among}
use Rattle.scene_model.specs.Rulebook.{Command, queue_room, leaves, fills}
use Rattle.scene_model.specs.declared.command.Command.{Command as CodeCommand}
use Rattle.scene_model.specs.declared.command.NotQueued.{NotQueued}
use Rattle.scene_model.specs.declared.command.NotQueued.TheVariants as refusals
use Rattle.scene_model.specs.Queues.{plain_command, plain_commands, IsFull}
use Rattle.scene_world.specs.Stops.{stop_for}
use Rattle.scene_world.specs.Asking.{IsNotAsked, StopsAsking}
use Rattle.scene_world.specs.Standing.{Kinds}
use Rattle.scene_world.specs.Turns.{Meaning, rules_by, sees, IsLentFit, Ends}

-- a command that a queue did not take was not asked for
pub not-asked : {D : Type 0} (part_of : D → Part) (command : CodeCommand D) (old new : List (CodeCommand D)) (refused : NotQueued D) → new ≡ old → (IsFull refused → length old ≡ queue_room)
    → IsNotAsked (Some (plain_command part_of command)) (plain_commands part_of old) (plain_commands part_of new) (stop_for refused)
not-asked part_of command old new (refusals.Full back) same full = (plain_command part_of command, refl, length-map old (plain_command part_of) ∙ full tt, ap (plain_commands part_of) same)
not-asked part_of command old new (refusals.Memory back) same full = tt

-- one that was not asked for stops what asks for it and more
pub stops-asking : (command : Option Command) (rest all before after : List Command) (why : Stop) → ((one : Command) → command ≡ Some one → all ≡ before ++ one ∷ rest)
    → IsNotAsked command before after why → StopsAsking all after why
stops-asking command rest all before after (stop.Refused text) gives told = absurd told
stops-asking command rest all before after stop.Memory gives told = tt
stops-asking command rest all before after stop.Full gives told =
    ((told.0, rest, gives told.0 told.1 ∙ ap (λ some. some ++ told.0 ∷ rest) (sym told.3)), ap length told.3 ∙ told.2)

-- and so it stops, where still more is asked for behind it
pub stops-longer : (all more commands : List Command) (why : Stop) → StopsAsking all commands why → StopsAsking (all ++ more) commands why
stops-longer all more commands (stop.Refused text) stopped = absurd stopped
stops-longer all more commands stop.Memory stopped = tt
stops-longer all more commands stop.Full stopped =
    ((stopped.0.0, stopped.0.1 ++ more, ap (λ some. some ++ more) stopped.0.2 ∙ append_assoc commands (stopped.0.0 ∷ stopped.0.1) more), stopped.1)

module _ {X : Type 0} (f : ℕ → Option X) where
  -- what holds of all that is given holds of all that ids give
  pub all-given : (P : X → Type 0) → ((id : ℕ) (one : X) → f id ≡ Some one → P one) → (ids : List ℕ) → All P (filter_map f ids)
  all-given P gives [] = All-nil P
  all-given P gives (id ∷ ids) = by (f id) refl (all-given P gives ids)
    where
      by : (o : Option X) → f id ≡ o → All P (filter_map f ids) → All P (cons_option o (filter_map f ids))
      by None e later = later
      by (Some one) e later = All-cons P one (filter_map f ids) (gives id one e) later

  -- where each id is given the same, all are
  pub given-same : (g : ℕ → Option X) → ((id : ℕ) → f id ≡ g id) → (ids : List ℕ) → filter_map f ids ≡ filter_map g ids
  given-same g same [] = refl
  given-same g same (id ∷ ids) = ap (λ o. cons_option o (filter_map f ids)) (same id) ∙ ap (cons_option (g id)) (given-same g same ids)

-- a system that asks for all of this and writes nothing ends as it may, where that is what it does and all is lawful
pub asking-ends : {V S T : Type 0} (kinds : Kinds V) (meaning : Meaning S) (system : S) (w : Holding V) → IsLentFit kinds meaning system w → (meaning.plain system).access.writes ≡ []
    → (all : List Command) → All (IsLawful (rules_by (meaning.sense system))) all → meaning.does system (sees kinds meaning system w) (leaves (sees kinds meaning system w) all)
    → ((commands : List Command) → ((first : Command) × (rest : List Command) × (all ≡ commands ++ first ∷ rest)) → meaning.does system (sees kinds meaning system w) (fills commands))
    → (commands : List Command) (result : Result T Stop) → MatchResult result (λ done. commands ≡ all) (StopsAsking all commands) → Ends kinds meaning system w (error_of result) w commands
asking-ends kinds meaning system w lent nothing all lawful_all does fill commands (Ok done) asked = subst (λ some. Ends kinds meaning system w None w some) (sym asked) (record {
  did = does;
  lawful = record {
    ids = refl;
    owned = lent.fit.owned;
    living = lent.fit.living;
    admitted = lent.fit.admitted;
    valued = λ name some. some;
    readable = lent.fit.readable;
    known = lawful_all;
  };
  within = λ kind known is. absurd (false≢true (subst (λ names. is_among kind names ≡ true) nothing is));
  shown = λ kind known is. absurd (false≢true (subst (λ names. is_among kind names ≡ true) nothing is));
})
asking-ends kinds meaning system w lent nothing all lawful_all does fill commands (Err (stop.Refused text)) stopped = absurd stopped
asking-ends kinds meaning system w lent nothing all lawful_all does fill commands (Err stop.Memory) stopped = tt
asking-ends kinds meaning system w lent nothing all lawful_all does fill commands (Err stop.Full) stopped = (fill commands stopped.0, stopped.1)
