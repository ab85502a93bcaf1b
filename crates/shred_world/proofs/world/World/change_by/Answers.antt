use Rattle.std.proofs.Common.{sym, ap, ◌∙◌, is_some}
use Rattle.std.specs.Prelude.{option_copied}
use Rattle.std.proofs.lemmas.Bool.{false≢true}
use Rattle.shred_world.proofs.WorldLemmas.{one-came-back, value-apart, get-insert_here}
use Rattle.std.specs.FinMap as map
use Rattle.shred_world.proofs.world.World.change_by.Goals as goal

pub unreachable-requires-in-None : goal.unreachable-requires-in-None
unreachable-requires-in-None g c =
    let same = value-apart c.args.self.now c.take_raw.new.self c.args.read c.args.written c.in-Some.ensures.out c.requires.apart in
    absurd (false≢true (ap is_some (sym (ap option_copied c.in-None.is) ∙ c.get_raw.ensures ∙ same) ∙ sym c.has_value_raw.ensures ∙ c.if-not-has_value_raw.false))

pub put_back-requires : goal.put_back-requires
put_back-requires g c = record { is_out = ap (λ m. map.get m c.args.written) c.in-Some.ensures.out ∙ get-insert_here c.args.self.now c.args.written _ }

pub returns-clause-changed : goal.returns-clause-changed
returns-clause-changed g c =
    let same = value-apart c.args.self.now c.take_raw.new.self c.args.read c.args.written c.in-Some.ensures.out c.requires.apart in (
      _,
      _,
      _,
      sym same ∙ sym c.get_raw.ensures ∙ ap option_copied c.in-Some-get_raw.is,
      sym c.take_raw.ensures.value ∙ c.in-Some.is,
      c.change-answer.ensures,
      one-came-back c.args.self.now c.take_raw.new.self c.put_back.new.self c.args.written _ c.in-Some.ensures.out c.put_back.ensures,
    )
