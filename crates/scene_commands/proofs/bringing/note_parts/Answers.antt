use Rattle.std.proofs.Common.{◌≡◌, true, map, take, inl, inr, ap, sym, ◌∙◌, subst}
use Rattle.std.proofs.lemmas.Bool.{false≢true}
use Rattle.std.proofs.lemmas.List.{take_all}
use Rattle.std.proofs.lemmas.Slice.Eq.{bytes_eq-Decides}
use Rattle.scene_model.specs.Parts.{under}
use Rattle.scene_model.specs.Deaths.{refers_to}
use Rattle.scene_model.specs.Queues.{plain_entry}
use Rattle.scene_model.proofs.CallerLemmas.{front_at}
use Rattle.scene_commands.proofs.LinkLemmas.{grows-not, grows-further}
use Rattle.scene_commands.proofs.BringLemmas.{under-more}
use Rattle.scene_commands.proofs.bringing.note_parts.Goals as goal

pub loop-part-init : goal.loop-part-init
loop-part-init g c = record { grows = grows-not c.args.holders.now c.requires; noted = λ made kind owns target refers. absurd (false≢true refers) }

pub note_part-requires : goal.note_part-requires
note_part-requires g c = c.loop-part.invariant.grows.chained

pub loop-part-preserved : goal.loop-part-preserved
loop-part-preserved g c =
    let was = c.loop-part.invariant in
    let all = c.in_ok-note_part.ensures in
    record {
      grows = grows-further c.args.holders.now c.loop-part.holders c.note_part.new.holders was.grows all.grows;
      noted = λ made kind owns target refers.
          elim (under-more target kind (map (plain_entry g.R.DocumentRules.part_of) (take c.loop-part.part-index c.args.parts.now)) (plain_entry g.R.DocumentRules.part_of c.part-item.result)
          (subst (λ entries. refers_to target (under kind entries) ≡ true) (front_at (plain_entry g.R.DocumentRules.part_of) c.args.parts.now c.loop-part.part-index c.part-item.result c.loop-part-test.true c.part-item.is) refers)) [
            | inl before ↦ all.grows.kept c.args.id target (was.noted made kind owns target before)
            | inr here ↦ all.noted (was.grows.made ∙ made) (ap g.R.WorldRules.columns.owning (sym ((bytes_eq-Decides kind c.part-item.result.0.now).0 here.0)) ∙ owns) target here.1
          ];
    }

pub returns-clause-grows : goal.returns-clause-grows
returns-clause-grows g c = c.loop-part.invariant.grows

pub returns-clause-noted : goal.returns-clause-noted
returns-clause-noted g c = λ made kind owns target refers. c.loop-part.invariant.noted made kind owns target
    (ap (λ parts. refers_to target (under kind (map (plain_entry g.R.DocumentRules.part_of) parts))) (take_all c.loop-part.part-index c.args.parts.now c.loop-part-test.false) ∙ refers)
