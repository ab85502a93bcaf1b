use Rattle.std.proofs.Common.{◌≡◌, ◌++◌, Err, List, arith, ap, ◌∙◌, subst}
use Rattle.std.specs.Prelude.{MatchResult}
use Rattle.std.specs.List.{filter_map}
use Rattle.scene_model.specs.Rulebook.{Command}
use Rattle.scene_model.specs.Queues.{waiting, plain_commands}
use Rattle.scene_world.specs.Asking.{StopsAsking}
use Rattle.scene_world.specs.Columns.{ids_having}
use Rattle.scene_world.specs.Rolls.{ids_in}
use Rattle.scene_world.specs.Standing.{column_of, seen_in}
use Rattle.scene_world.proofs.CallerLemmas.{stops-longer}
use Rattle.duel.specs.declared.data.Ask.TheVariants.{Deaths, Losses}
use Rattle.duel.specs.Names.{hp_kind, target_kind, part_of}
use Rattle.duel.specs.Values.{kinds}
use Rattle.duel.specs.Sights.{roll_seen}
use Rattle.duel.specs.Burying.{asked_seen}
use Rattle.duel.proofs.BuryLemmas.{asking-deaths, asking-losses}
use Rattle.duel.proofs.burying.bury.Goals as goal

pub returns : goal.returns
returns g c =
    let w = g.W.Holder.slots c.args.view.now in
    let first : List Command = plain_commands part_of (waiting c.ask_with.new.queue) in
    let second : List Command = plain_commands part_of (waiting c.ask_with-2.new.queue) in
    let with_hp : List Command = filter_map (asked_seen Deaths w) (ids_having (roll_seen w) (column_of kinds (seen_in w) hp_kind)) in
    let with_target : List Command = filter_map (asked_seen Losses w) (ids_having (roll_seen w) (column_of kinds (seen_in w) target_kind)) in
    let all_deaths : List Command = filter_map (asked_seen Deaths w) (ids_in (roll_seen w)) in
    let deaths : first ≡ all_deaths = c.in_ok-ask_with.ensures ∙ ap (λ front. plain_commands part_of front ++ with_hp) c.requires.empty ∙ asking-deaths w in
    subst (λ (all : List Command). MatchResult c.ask_with-2.result (λ done. second ≡ all) (StopsAsking all second))
    (ap (λ front. front ++ with_target) deaths ∙ ap (λ back. all_deaths ++ back) (asking-losses w)) c.ask_with-2.ensures

pub returns-in_err-ask_with : goal.returns-in_err-ask_with
returns-in_err-ask_with g c =
    let w = g.W.Holder.slots c.args.view.now in
    let commands : List Command = plain_commands part_of (waiting c.ask_with.new.queue) in
    let with_hp : List Command = filter_map (asked_seen Deaths w) (ids_having (roll_seen w) (column_of kinds (seen_in w) hp_kind)) in
    let failed : c.from_residual.result ≡ Err c.in_err-ask_with.field-0.0 = grind arith in
    rw failed (stops-longer (filter_map (asked_seen Deaths w) (ids_in (roll_seen w))) (filter_map (asked_seen Losses w) (ids_in (roll_seen w))) commands c.in_err-ask_with.field-0.0
    (subst (λ (all : List Command). StopsAsking all commands c.in_err-ask_with.field-0.0) (ap (λ front. plain_commands part_of front ++ with_hp) c.requires.empty ∙ asking-deaths w) c.in_err-ask_with.ensures))
