use Rattle.std.proofs.Common.{◌≡◌, ◌++◌, ◌∷◌, [], ap, sym, ◌∙◌, None, false}
use Rattle.std.specs.Prelude.{string_bytes}
use Rattle.std.specs.String.{string_eq}
use Rattle.std.specs.Str.{bytes_eq}
use Rattle.indexmap.specs.IndexMap.{get}
use Rattle.indexmap.proofs.CallerLemmas.{insert_entry-new}
use Rattle.shred.specs.Names.{number_under}
use Rattle.shred.proofs.NameLemmas.{lookup-names, names-more, named-more, filled-name}
use Rattle.shred.proofs.names.Names.enter.Goals as goal

pub returns-clause-ok : goal.returns-clause-ok
returns-clause-ok c =
    let key = c.in_ok-key.key in
    let is_name : string_bytes key ≡ c.args.name.now = c.in_ok-key.ensures.ok in
    let none : get string_eq c.self.inside.numbers key ≡ None =
    lookup-names string_bytes c.self.inside.numbers.entries (string_bytes key) ∙ ap (number_under _) is_name ∙ ap (λ names. number_under names c.args.name.now) c.self.view_is ∙ c.requires.is_new in
    let filled : bytes_eq c.args.name.now [] ≡ false = filled-name c.args.name.now (sym c.is_empty.ensures ∙ c.if-is_empty.false) in
    names-more string_bytes c.self.inside.numbers.entries c.insert.new.self.entries key c.args.name.now c.args.number
    (c.in_ok-insert.ensures.entries ∙ insert_entry-new string_eq c.self.inside.numbers key c.args.number none) is_name
    ∙ ap (λ names. names ++ (c.args.name.now, c.args.number) ∷ []) c.self.view_is ∙ named-more c.args.self.now c.args.name.now c.args.number filled
