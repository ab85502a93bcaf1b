use Rattle.std.proofs.Common.{sym, ap, ◌∙◌, is_some}
use Rattle.std.proofs.lemmas.Bool.{false≢true}
use Rattle.shred_world.proofs.WorldLemmas.{two-came-back, value-apart, empty-apart}
use Rattle.shred_world.proofs.world.World.change_two.Goals as goal

pub unreachable-requires-in_default-take_raw : goal.unreachable-requires-in_default-take_raw
unreachable-requires-in_default-take_raw g c =
    let same = value-apart c.args.self.now c.take_raw.new.self c.args.other c.args.one c.in-Some.ensures.out (λ e. c.requires.apart (sym e)) in
    absurd (false≢true (ap is_some (sym c.in_default-take_raw.is ∙ c.take_raw-2.ensures.value ∙ same) ∙ sym c.has_value_raw-else-not-has_value_raw.ensures ∙ c.if-not-has_value_raw-2.false))

pub put_back-requires : goal.put_back-requires
put_back-requires g c = record { is_out = empty-apart c.args.self.now c.take_raw.new.self c.take_raw-2.new.self c.args.one c.args.other _ c.in-Some.ensures.out c.in-Some-take_raw.ensures.out c.requires.apart }

pub put_back-requires-2 : goal.put_back-requires-2
put_back-requires-2 g c = record { is_out = empty-apart c.take_raw.new.self c.take_raw-2.new.self c.put_back.new.self c.args.other c.args.one _ c.in-Some-take_raw.ensures.out c.put_back.ensures (λ e. c.requires.apart (sym e)) }

pub returns-clause-changed : goal.returns-clause-changed
returns-clause-changed g c =
    let same = value-apart c.args.self.now c.take_raw.new.self c.args.other c.args.one c.in-Some.ensures.out (λ e. c.requires.apart (sym e)) in (
      _,
      _,
      _,
      _,
      sym c.take_raw.ensures.value ∙ c.in-Some.is,
      sym same ∙ sym c.take_raw-2.ensures.value ∙ c.in-Some-take_raw.is,
      c.change-answer.ensures,
      two-came-back c.args.self.now c.take_raw.new.self c.take_raw-2.new.self c.put_back.new.self c.put_back-2.new.self c.args.one c.args.other _ _
          c.in-Some.ensures.out c.in-Some-take_raw.ensures.out c.put_back.ensures c.put_back-2.ensures,
    )
