use Rattle.std.proofs.Common.{◌≡◌, not, ap, sym, ◌∙◌}
use Rattle.std.specs.List.{list_any}
use Rattle.scene_model.specs.Declaring.{texts}
use Rattle.scene_document.specs.Refusals.{stands_for, lacks_one}
use Rattle.scene_document.proofs.RefusalLemmas.{lacks-texts, or_first, or_second}
use Rattle.scene_document.proofs.refusal.lacks_global.Goals as goal

pub returns-then-lacks_one : goal.returns-then-lacks_one
returns-then-lacks_one g c =
    let names = texts c.args.names.now in
    let globals = c.args.globals.now in
    let accessor = c.args.accessor.now in
    let read : c.lacks_one.result ≡ lacks_one names globals (texts accessor.read_globals.items) =
    c.lacks_one.ensures ∙ ap (λ wanted. list_any (λ name. not (list_any (stands_for names name.now) globals)) wanted) c.deref.ensures.value ∙ lacks-texts names globals accessor.read_globals.items in
    read ∙ or_first (lacks_one names globals (texts accessor.read_globals.items)) (lacks_one names globals (texts accessor.written_globals.items)) (sym read ∙ c.if-lacks_one.true)

pub returns-else-lacks_one : goal.returns-else-lacks_one
returns-else-lacks_one g c =
    let names = texts c.args.names.now in
    let globals = c.args.globals.now in
    let accessor = c.args.accessor.now in
    let read : c.lacks_one.result ≡ lacks_one names globals (texts accessor.read_globals.items) =
    c.lacks_one.ensures ∙ ap (λ wanted. list_any (λ name. not (list_any (stands_for names name.now) globals)) wanted) c.deref.ensures.value ∙ lacks-texts names globals accessor.read_globals.items in
    let written : c.lacks_one-else-lacks_one.result ≡ lacks_one names globals (texts accessor.written_globals.items) =
    c.lacks_one-else-lacks_one.ensures ∙ ap (λ wanted. list_any (λ name. not (list_any (stands_for names name.now) globals)) wanted) c.deref-else-lacks_one.ensures.value ∙ lacks-texts names globals accessor.written_globals.items in
    written ∙ or_second (lacks_one names globals (texts accessor.read_globals.items)) (lacks_one names globals (texts accessor.written_globals.items)) (sym read ∙ c.if-lacks_one.false)
