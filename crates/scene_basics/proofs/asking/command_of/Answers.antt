use Rattle.std.proofs.Common.{◌≡◌, ap, sym, ◌∙◌, subst}
use Rattle.std.specs.Prelude.{IfOk, option_map}
use Rattle.scene_model.specs.Queues.{plain_command}
use Rattle.scene_basics.specs.declared.data.Ask.{Ask}
use Rattle.scene_basics.specs.Numbers.{part_of}
use Rattle.scene_basics.specs.Asks.{asked_for}
use Rattle.scene_basics.specs.Asked.{lent_for}
use Rattle.scene_basics.proofs.SightLemmas.{asked-deaths, asked-births}
use Rattle.scene_basics.proofs.asking.command_of.Goals as goal

pub returns-in-Deaths : goal.returns-in-Deaths
returns-in-Deaths g c =
    c.death_of.ensures ∙ asked-deaths (g.W.Holder.slots c.args.view.now) c.args.id
    ∙ ap (λ (ask : Ask). asked_for ask (lent_for ask (g.W.Holder.slots c.args.view.now)) c.args.id) (sym c.in-Deaths.is)

pub returns-in-Births : goal.returns-in-Births
returns-in-Births g c =
    subst (λ (ask : Ask). IfOk c.birth_of.result (λ command. option_map (plain_command part_of) command ≡ asked_for ask (lent_for ask (g.W.Holder.slots c.args.view.now)) c.args.id)) (sym c.in-Births.is)
    (subst (λ asked. IfOk c.birth_of.result (λ command. option_map (plain_command part_of) command ≡ asked)) (asked-births (g.W.Holder.slots c.args.view.now) c.args.id) c.birth_of.ensures)
