use Rattle.std.proofs.Common.{ap, ◌∙◌}
use Rattle.std.specs.Prelude.{string_bytes}
use Rattle.shred.specs.Names.{number_under}
use Rattle.shred.proofs.NameLemmas.{lookup-names}
use Rattle.shred.proofs.names.Names.number.Goals as goal

pub returns : goal.returns
returns c =
    c.copied.ensures ∙ c.get.ensures.value ∙ lookup-names string_bytes c.self.inside.numbers.entries c.args.name.now
    ∙ ap (λ names. number_under names c.args.name.now) c.self.view_is
