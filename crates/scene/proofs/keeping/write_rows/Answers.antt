use Rattle.std.proofs.Common.{◌≡◌, ◌<◌, ℕ, List, All, true, map, get_or, refl, sym, subst, ◌∙◌, arith}
use Rattle.scene_model.specs.Parts.{Name, is_among}
use Rattle.scene_model.specs.Declaring.{texts}
use Rattle.scene_world.specs.Places.{kinds_of}
use Rattle.scene_commands.specs.Acts.{seen_of}
use Rattle.scene_commands.proofs.DropLemmas.{no_name, named-there}
use Rattle.scene.specs.Taken.{IsAmong, IsRowOf}
use Rattle.scene_commands.proofs.CatchLemmas.{name-there}
use Rattle.scene.proofs.KeepLemmas.{behind-itself, same-indices, part-among, more-rows}
use Rattle.scene.proofs.EntryLemmas.{seconds-behind}
use Rattle.scene.proofs.keeping.write_rows.Goals as goal

pub loop-place-init : goal.loop-place-init
loop-place-init g c = record {
  rows = λ place below index. absurd (omega (arith, below));
  bare = λ other index from. c.requires.bare.rows other index;
  seats = c.requires.bare.seats;
  room = c.requires.room;
  course = record { kinds = refl; next = refl; globals = refl };
  changes = refl;
}

pub write_row-requires-clause-known : goal.write_row-requires-clause-known
write_row-requires-clause-known g c =
    subst (λ names. is_among (get_or c.args.names.now c.loop-place.place no_name).now names ≡ true) (c.requires.known ∙ sym (g.met.R.WorldRules.named_so c.args.rules.now).parts)
    (named-there c.args.names.now c.loop-place.place no_name c.loop-place-test.true)

pub write_row-requires-clause-indices : goal.write_row-requires-clause-indices
write_row-requires-clause-indices g c = subst (All (λ (pair : ℕ × ℕ). pair.0 ≡ pair.1)) (sym (c.deref.ensures.value ∙ c.in_ok-indices.ensures)) (behind-itself c.args.pairs.now)

pub write_row-requires-clause-within : goal.write_row-requires-clause-within
write_row-requires-clause-within g c =
    subst (All (λ (pair : ℕ × ℕ). pair.1 < c.args.count)) (sym (c.deref.ensures.value ∙ c.in_ok-indices.ensures)) (seconds-behind c.args.count c.args.pairs.now c.requires.within)

pub write_row-requires-clause-all : goal.write_row-requires-clause-all
write_row-requires-clause-all g c index some =
    let kinds = kinds_of g.R.Value.SceneValue.places g.R.DocumentRules.part_of g.R.WorldRules.columns in
    let kind = (get_or c.args.names.now c.loop-place.place no_name).now in
    let known : is_among kind kinds.part_names ≡ true = subst (λ names. is_among kind names ≡ true) (c.requires.known ∙ sym (g.met.R.WorldRules.named_so c.args.rules.now).parts)
    (named-there c.args.names.now c.loop-place.place no_name c.loop-place-test.true) in
    subst (λ (list : List (ℕ × ℕ)). IsAmong (map (λ (pair : ℕ × ℕ). pair.1) list) index) (sym (c.deref.ensures.value ∙ c.in_ok-indices.ensures))
    (subst (λ list. IsAmong list index) (sym (same-indices c.args.pairs.now))
    (part-among kinds (g.R.DocumentRules.book c.args.rules.now) (seen_of c.args.world.now) c.requires.stands c.args.pairs.now c.requires.pairs kind known index some))

pub write_row-requires-clause-bare : goal.write_row-requires-clause-bare
write_row-requires-clause-bare g c index = c.loop-place.invariant.bare c.loop-place.place index (omega arith)

pub loop-place-preserved : goal.loop-place-preserved
loop-place-preserved g c =
    let kinds = kinds_of g.R.Value.SceneValue.places g.R.DocumentRules.part_of g.R.WorldRules.columns in
    let w = seen_of c.args.world.now in
    let names : List Name = texts c.args.names.now in
    let so_far = c.loop-place.invariant in
    let wrote = c.in_ok-write_row.ensures in
    record {
      rows = more-rows kinds g.R.DocumentRules.part_of w names c.loop-place.place c.loop-place.kept c.write_row.new.kept so_far.rows
          (λ index.
          subst (λ name. IsRowOf kinds g.R.DocumentRules.part_of w name c.loop-place.place c.write_row.new.kept index) (sym (name-there c.args.names.now c.loop-place.place no_name c.loop-place-test.true))
          (wrote.row index))
          wrote.others;
      bare = λ other index from. wrote.others other index (λ is. omega (arith, from, is)) ∙ so_far.bare other index (omega (arith, from));
      seats = wrote.seats;
      room = wrote.room;
      course = record { kinds = wrote.course.kinds ∙ so_far.course.kinds; next = wrote.course.next ∙ so_far.course.next; globals = wrote.course.globals ∙ so_far.course.globals };
      changes = wrote.changes ∙ so_far.changes;
    }

pub returns-clause-rows : goal.returns-clause-rows
returns-clause-rows g c place below index = c.loop-place.invariant.rows place (omega (arith, below)) index
