-- A system that rests takes its turn.
use Rattle.std.proofs.Common.{◌≡◌, [], None, refl, sym, subst, List}
use Rattle.std.proofs.lemmas.Bool.{false≢true}
use Rattle.std.proofs.lemmas.List.Elements.{All-nil}
use Rattle.serde_json.specs.Data.{null}
use Rattle.shred_world.specs.Bundles.{Holding}
use Rattle.scene_model.specs.Lawful.{IsLawful}
use Rattle.scene_model.specs.Rulebook.{Command}
use Rattle.scene_world.specs.Turns.{sense_of, rules_by, Runs, meaning_of}
use Rattle.scene_cases.specs.Owning.{no_access, owning_book, owning_kinds, Rests}
use Rattle.scene_cases.specs.declared.commands.rules.Idle.{Idle}
use Rattle.scene_cases.specs.declared.commands.values.Value.{Value}

-- what is left as it was is lawful, and nothing of it was written
pub rest-runs : (system : Idle) (seen : Holding Value) (commands : List Command) → commands ≡ []
    → Runs owning_kinds (meaning_of 0 (λ _. []) (λ _. null) (λ _. no_access) (λ _. sense_of owning_book) (λ _. Rests)) system seen None system seen commands
rest-runs system seen commands none =
    subst (λ asked. Runs owning_kinds (meaning_of 0 (λ _. []) (λ _. null) (λ _. no_access) (λ _. sense_of owning_book) (λ _. Rests)) system seen None system seen asked) (sym none) (record {
      stays = tt;
      same = refl;
      same_sense = refl;
      no_more = λ f o did. did;
      ends = λ lent. record {
        did = (refl, refl);
        lawful = record {
          ids = refl;
          owned = lent.fit.owned;
          living = lent.fit.living;
          admitted = lent.fit.admitted;
          valued = λ name some. some;
          readable = lent.fit.readable;
          known = All-nil (IsLawful (rules_by (sense_of owning_book)));
        };
        within = λ kind known writes_it. absurd (false≢true writes_it);
        shown = λ kind known writes_it. absurd (false≢true writes_it);
      };
    })
