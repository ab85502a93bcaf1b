-- Where nobody is killed no reference goes, and so none has to be looked for.
use Rattle.std.proofs.Common.{◌≡◌, ℕ, Bool, true, false, ◌&&◌, cond, eqb, List, [], ◌∷◌, Option, Some, None, refl, sym, subst, All}
use Rattle.std.specs.List.{find, list_all, list_any}
use Rattle.std.specs.Str.{bytes_eq}
use Rattle.std.proofs.lemmas.Bool.{false≢true, or_from}
use Rattle.std.proofs.lemmas.List.Elements.{All-nil, All-cons, All-head, All-tail, All-append}
use Rattle.scene_model.specs.declared.command.Command.{Command as CodeCommand}
use Rattle.scene_model.specs.declared.command.Command.TheVariants as code
use Rattle.scene_model.specs.declared.command.Queue.{Queue}
use Rattle.scene_model.specs.Queues.{plain_command, plain_commands, waiting}
use Rattle.scene_model.specs.Parts.{Name, Part, Ref, living, gone, under}
use Rattle.scene_model.specs.Rulebook.{Book, Command, spawn, kill, put, take}
use Rattle.scene_model.specs.Scenes.{PlainScene, RefLives, IsProper, lives}
use Rattle.scene_model.specs.Commands.{apply, changed, play, played, is_gone, holds_gone, first_gone, ref_lives, refs_live}
use Rattle.scene_model.proofs.CallerLemmas.{play-keeps, spawn-makes, tested-makes}
use Rattle.scene.specs.Sparing.{Spares, AsksNoDeath, NoneGone}
use Rattle.scene.specs.Waiting.{waiting_in}

and-first : (b c : Bool) → (b && c) ≡ true → b ≡ true
and-first true c both = refl
and-first false c both = absurd (false≢true both)

and-second : (b c : Bool) → (b && c) ≡ true → c ≡ true
and-second true c both = both
and-second false c both = absurd (false≢true both)

-- references that are tested to live are not gone, and so are those that live
tested-none : (ids : List ℕ) (refs : List Ref) → list_all (ref_lives ids) refs ≡ true → list_any is_gone refs ≡ false
tested-none ids [] live = refl
tested-none ids (living id ∷ refs) live = tested-none ids refs (and-second (ref_lives ids (living id)) (list_all (ref_lives ids) refs) live)
tested-none ids (gone ∷ refs) live = absurd (false≢true live)

living-none : (ids : List ℕ) (refs : List Ref) → All (RefLives ids) refs → list_any is_gone refs ≡ false
living-none ids [] live = refl
living-none ids (living id ∷ refs) live = living-none ids refs (All-tail (RefLives ids) (living id) refs live)
living-none ids (gone ∷ refs) live = absurd (All-head (RefLives ids) gone refs live)

-- so a part of a spawn holds none that is gone
under-none : (ids : List ℕ) (kind : Name) (parts : List (Name × Part)) → list_all (λ entry. refs_live ids entry.1) parts ≡ true → holds_gone (under kind parts) ≡ false
under-none ids kind [] live = refl
under-none ids kind (entry ∷ parts) live =
    here (bytes_eq kind entry.0) (tested-none ids entry.1.refs (and-first (refs_live ids entry.1) (list_all (λ other. refs_live ids other.1) parts) live))
    (under-none ids kind parts (and-second (refs_live ids entry.1) (list_all (λ other. refs_live ids other.1) parts) live))
  where
    here : (b : Bool) → list_any is_gone entry.1.refs ≡ false → holds_gone (under kind parts) ≡ false → holds_gone (cond b (Some entry.1) (under kind parts)) ≡ false
    here true one rest = one
    here false one rest = rest

-- one of two holds none that is gone where both don't
one-none : (b : Bool) (one other : Option Part) → holds_gone one ≡ false → holds_gone other ≡ false → holds_gone (cond b one other) ≡ false
one-none true one other first second = first
one-none false one other first second = second

-- a command that kills nobody leaves none that is gone
spared : (owning : List Name) (command : Command) (scene after : PlainScene) → Spares command → NoneGone scene → apply owning command scene ≡ changed after → NoneGone after
spared owning (spawn parts) scene after spares none made =
    let makes = spawn-makes owning parts scene after made in
    subst NoneGone makes.1 (λ id kind. one-none (eqb id scene.next) (under kind parts) (scene.part id kind) (under-none scene.ids kind parts makes.0) (none id kind))
spared owning (kill id) scene after spares none made = absurd spares
spared owning (put id kind part) scene after spares none made =
    let makes = tested-makes (lives id scene.ids && refs_live scene.ids part) scene _ after made in
    subst NoneGone makes.1 (λ other name. one-none (eqb other id && bytes_eq name kind) (Some part) (scene.part other name) (tested-none scene.ids part.refs (and-second (lives id scene.ids) (refs_live scene.ids part) makes.0)) (none other name))
spared owning (take id kind) scene after spares none made =
    let makes = tested-makes (lives id scene.ids) scene _ after made in
    subst NoneGone makes.1 (λ other name. one-none (eqb other id && bytes_eq name kind) None (scene.part other name) refl (none other name))

-- so do commands one after another
pub spares-keep : (owning : List Name) (commands : List Command) (scene after : PlainScene) (places : List ℕ) → All Spares commands → NoneGone scene → play owning 1 commands scene ≡ played after places → NoneGone after
spares-keep owning commands scene after places spares none led =
    (play-keeps owning (λ one other. Unit {0}) (λ s. tt) (λ one two three first second. tt) Spares NoneGone (λ command s t kind good made. (tt, spared owning command s t kind good made)) 1 commands scene after places spares none led).1

-- a proper scene holds none
pub proper-none : (book : Book) (scene : PlainScene) → IsProper book scene → NoneGone scene
proper-none book scene proper id kind = by (scene.part id kind) refl
  where
    by : (o : Option Part) → scene.part id kind ≡ o → holds_gone o ≡ false
    by None is = refl
    by (Some held) is = living-none scene.ids held.refs (proper.living id kind held (proper.owned id kind held is) is)

none-under : (scene : PlainScene) → NoneGone scene → (id : ℕ) (names : List Name) → list_any (λ kind. holds_gone (scene.part id kind)) names ≡ false
none-under scene none id [] = refl
none-under scene none id (kind ∷ names) = or_from (holds_gone (scene.part id kind)) (list_any (λ other. holds_gone (scene.part id other)) names) (none id kind) (none-under scene none id names)

-- and where none is held, none is found
pub none-found : (book : Book) (scene : PlainScene) → NoneGone scene → first_gone book scene ≡ None
none-found book scene none = among scene.ids
  where
    skip : (b : Bool) (id : ℕ) (rest : Option ℕ) → b ≡ false → rest ≡ None → cond b (Some id) rest ≡ None
    skip true id rest is later = absurd (false≢true (sym is))
    skip false id rest is later = later

    among : (ids : List ℕ) → find (λ id. list_any (λ kind. holds_gone (scene.part id kind)) book.part_names) ids ≡ None
    among [] = refl
    among (id ∷ ids) = skip (list_any (λ kind. holds_gone (scene.part id kind)) book.part_names) id (find (λ one. list_any (λ kind. holds_gone (scene.part one kind)) book.part_names) ids) (none-under scene none id book.part_names) (among ids)

-- commands of the code that ask for no death kill nobody
pub spare-plain : {D : Type 0} (part_of : D → Part) (commands : List (CodeCommand D)) → All AsksNoDeath commands → All Spares (plain_commands part_of commands)
spare-plain part_of [] none = All-nil Spares
spare-plain {D} part_of (command ∷ commands) none = All-cons Spares (plain_command part_of command) (plain_commands part_of commands) (one command (All-head AsksNoDeath command commands none)) (spare-plain part_of commands (All-tail AsksNoDeath command commands none))
  where
    one : (some : CodeCommand D) → AsksNoDeath some → Spares (plain_command part_of some)
    one (code.Spawn parts) asks = tt
    one (code.Kill id) asks = absurd asks
    one (code.Put id kind datum) asks = tt
    one (code.Take id kind) asks = tt

pub spare-waiting : {D : Type 0} (part_of : D → Part) (queues : List (Queue D)) → All (λ queue. All AsksNoDeath (waiting queue)) queues → All Spares (waiting_in part_of queues)
spare-waiting part_of [] none = All-nil Spares
spare-waiting part_of (queue ∷ queues) none = All-append Spares (plain_commands part_of (waiting queue)) (waiting_in part_of queues)
    (spare-plain part_of (waiting queue) (All-head (λ one. All AsksNoDeath (waiting one)) queue queues none)) (spare-waiting part_of queues (All-tail (λ one. All AsksNoDeath (waiting one)) queue queues none))
