use Rattle.std.proofs.Common.{◌≡◌, codes, ap, ◌∙◌, [], Some, None, Err, Option, map, length, option_map, option_and_then, sym, subst, arith}
use Rattle.std.specs.List.{All}
use Rattle.serde_json.specs.Find.{get, as_str}
use Rattle.serde_json.specs.View.{view}
use Rattle.scene_model.specs.Parts.{Json}
use Rattle.scene_model.specs.Stores.{store_named}
use Rattle.scene_document.specs.Drafts.{read_or, whole, whole_32, globals_from, entries_from, commands_from}
use Rattle.scene_document.specs.DraftViews.{named, plain_draft, plain_list, IsPlaced}
use Rattle.scene_document.specs.ShapeWords.{IsEntry, IsAsked, draft_around, AreRead}
use Rattle.scene_document.proofs.ShapeLemmas.{no_globals, no_entries, no_frames, no_commands, no_workers, no_store, no-name, draft_made}
use Rattle.scene_document.proofs.shape.read_around.Goals as goal

pub returns-in_default : goal.returns-in_default
returns-in_default g c = λ found are.
    let book = g.R.DocumentRules.book c.args.rules.now in
    let json = view c.args.value.now in
    let none : option_and_then whole (get (codes "next") json) ≡ None = ap (λ one. option_and_then whole one) {x = get (codes "next") json} (sym c.get.ensures) ∙ sym c.in_default.ensures in
    λ shape. rw none

pub returns-in_err-globals : goal.returns-in_err-globals
returns-in_err-globals g c = λ found are.
    let book = g.R.DocumentRules.book c.args.rules.now in
    let json = view c.args.value.now in
    let failed : c.from_residual.result ≡ Err c.in_err-globals.field-0.0 = grind arith in
    rw failed (λ shape. no_globals book (get (codes "next") json) found (get (codes "globals") json) (get (codes "systems") json) (get (codes "frames") json) (get (codes "commands") json) (get (codes "workers") json) (get (codes "store") json) (ap (λ one. read_or [] (globals_from book) one) {x = get (codes "globals") json} (sym c.get-2.ensures) ∙ c.in_err-globals.ensures shape))

pub returns-in_err-entries : goal.returns-in_err-entries
returns-in_err-entries g c = λ found are.
    let book = g.R.DocumentRules.book c.args.rules.now in
    let json = view c.args.value.now in
    let failed : c.from_residual-in_err-entries.result ≡ Err c.in_err-entries.field-0.0 = grind arith in
    rw failed (λ shape. no_entries book (get (codes "next") json) found (get (codes "globals") json) (get (codes "systems") json) (get (codes "frames") json) (get (codes "commands") json) (get (codes "workers") json) (get (codes "store") json) (ap (λ one. read_or [] (entries_from book) one) {x = get (codes "systems") json} (sym c.get-3.ensures) ∙ c.in_err-entries.ensures shape))

pub returns-in_err-commands : goal.returns-in_err-commands
returns-in_err-commands g c = λ found are.
    let book = g.R.DocumentRules.book c.args.rules.now in
    let json = view c.args.value.now in
    let failed : c.from_residual-in_err-commands.result ≡ Err c.in_err-commands.field-0.0 = grind arith in
    rw failed (λ shape. no_commands book (get (codes "next") json) found (get (codes "globals") json) (get (codes "systems") json) (get (codes "frames") json) (get (codes "commands") json) (get (codes "workers") json) (get (codes "store") json) (ap (λ one. read_or [] (commands_from book) one) {x = get (codes "commands") json} (sym c.get-5.ensures) ∙ c.in_err-commands.ensures shape))

pub returns-in_default-read_frames : goal.returns-in_default-read_frames
returns-in_default-read_frames g c = λ found are.
    let book = g.R.DocumentRules.book c.args.rules.now in
    let json = view c.args.value.now in
    λ shape. no_frames book (get (codes "next") json) found (get (codes "globals") json) (get (codes "systems") json) (get (codes "frames") json) (get (codes "commands") json) (get (codes "workers") json) (get (codes "store") json) (ap (λ one. read_or 0 whole_32 one) {x = get (codes "frames") json} (sym c.get-4.ensures) ∙ sym c.in_default-read_frames.ensures)

pub returns-in_default-read_whole_or : goal.returns-in_default-read_whole_or
returns-in_default-read_whole_or g c = λ found are.
    let book = g.R.DocumentRules.book c.args.rules.now in
    let json = view c.args.value.now in
    λ shape. no_workers book (get (codes "next") json) found (get (codes "globals") json) (get (codes "systems") json) (get (codes "frames") json) (get (codes "commands") json) (get (codes "workers") json) (get (codes "store") json) (ap (λ one. read_or 1 whole one) {x = get (codes "workers") json} (sym c.get-6.ensures) ∙ sym c.in_default-read_whole_or.ensures)

pub returns-in_default-read_store : goal.returns-in_default-read_store
returns-in_default-read_store g c = λ found are.
    let book = g.R.DocumentRules.book c.args.rules.now in
    let json = view c.args.value.now in
    let no_text : read_or (codes "vec") as_str (get (codes "store") json) ≡ None = no-name (read_or (codes "vec") as_str (get (codes "store") json)) (c.in_default-read_store.ensures ∙ ap (λ one. option_map store_named (read_or (codes "vec") as_str one)) {y = get (codes "store") json} c.get-7.ensures) in
    λ shape. no_store book (get (codes "next") json) found (get (codes "globals") json) (get (codes "systems") json) (get (codes "frames") json) (get (codes "commands") json) (get (codes "workers") json) (get (codes "store") json) no_text

pub returns : goal.returns
returns g c = λ found are.
    let book = g.R.DocumentRules.book c.args.rules.now in
    let json = view c.args.value.now in
    let part_of = g.R.DocumentRules.part_of in
    let is_next : Some c.in-Some.next ≡ option_and_then whole (get (codes "next") json) = c.in-Some.ensures ∙ ap (λ one. option_and_then whole one) {y = get (codes "next") json} c.get.ensures in
    let are_globals = subst (λ (one : Option Json). (read_or [] (globals_from book) one ≡ Some (map (named g.R.DocumentRules.global_of book.global_names) c.in_ok-globals.globals.items)) × All (IsPlaced (length book.global_names)) c.in_ok-globals.globals.items) {y = get (codes "globals") json} c.get-2.ensures c.in_ok-globals.ensures in
    let are_entries = subst (λ (one : Option Json). (read_or [] (entries_from book) one ≡ Some (map plain_draft c.in_ok-entries.entries.items)) × All (IsEntry g.R.DocumentRules.kind_of g.R.DocumentRules.config_of g.R.DocumentRules.declared g.R.DocumentRules.said_time (g.R.DocumentRules.made_by c.args.rules.now) book) c.in_ok-entries.entries.items) {y = get (codes "systems") json} c.get-3.ensures c.in_ok-entries.ensures in
    let are_frames : Some c.in-Some-read_frames.frames ≡ read_or 0 whole_32 (get (codes "frames") json) = c.in-Some-read_frames.ensures ∙ ap (λ one. read_or 0 whole_32 one) {y = get (codes "frames") json} c.get-4.ensures in
    let are_commands = subst (λ (one : Option Json). (read_or [] (commands_from book) one ≡ Some (map (plain_list part_of) c.in_ok-commands.commands.items)) × All (λ list. All (IsAsked part_of book) list.items) c.in_ok-commands.commands.items) {y = get (codes "commands") json} c.get-5.ensures c.in_ok-commands.ensures in
    let are_workers : Some c.in-Some-read_whole_or.workers ≡ read_or 1 whole (get (codes "workers") json) = c.in-Some-read_whole_or.ensures ∙ ap (λ one. read_or 1 whole one) {y = get (codes "workers") json} c.get-6.ensures in
    let is_store : Some c.in-Some-read_store.store ≡ option_map store_named (read_or (codes "vec") as_str (get (codes "store") json)) = c.in-Some-read_store.ensures ∙ ap (λ one. option_map store_named (read_or (codes "vec") as_str one)) {y = get (codes "store") json} c.get-7.ensures in
    draft_made part_of g.R.DocumentRules.global_of g.R.DocumentRules.kind_of g.R.DocumentRules.config_of g.R.DocumentRules.declared g.R.DocumentRules.said_time (g.R.DocumentRules.made_by c.args.rules.now) book (g.met.R.DocumentRules.global_reads_back c.args.rules.now) (get (codes "next") json) found (get (codes "globals") json) (get (codes "systems") json) (get (codes "frames") json) (get (codes "commands") json) (get (codes "workers") json) (get (codes "store") json) (record { next = c.in-Some.next; entities = c.args.entities; globals = c.in_ok-globals.globals; entries = c.in_ok-entries.entries; frames = c.in-Some-read_frames.frames; commands = c.in_ok-commands.commands; workers = c.in-Some-read_whole_or.workers; store = c.in-Some-read_store.store }) is_next (are.read, are.known) are_globals are_entries are_frames are_commands are_workers is_store
