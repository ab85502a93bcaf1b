-- Lemmas on what a system is lent, and on the scene after it was put back.
use Rattle.std.proofs.Common.{◌≡◌, ℕ, Bool, true, false, cond, Option, Some, None}
use Rattle.std.specs.List.{All}
use Rattle.std.proofs.Math.Path.{fun_ext}
use Rattle.scene_model.specs.Parts.{Json, Name, is_among}
use Rattle.scene_model.specs.Rulebook.{Access, declares, declares_global, Fragment, Book}
use Rattle.std.proofs.lemmas.Option.{none-some}
use Rattle.scene_model.specs.Scenes.{PlainScene, fragment, with_left, PartsAdmitted, GlobalsReadable, RefsLive, RefLives}

-- two scenes that hold the same are one
pub same_scene : (one other : PlainScene) → one.next ≡ other.next → one.ids ≡ other.ids → ((id : ℕ) (kind : Name) → one.part id kind ≡ other.part id kind) → ((name : Name) → one.global name ≡ other.global name) → one ≡ other
same_scene one other next ids parts globals =
    let same_parts : one.part ≡ other.part = fun_ext (λ id. fun_ext (λ kind. parts id kind)) in
    let same_globals : one.global ≡ other.global = fun_ext (λ name. globals name) in
    λ i. record { next = next i; ids = ids i; part = same_parts i; global = same_globals i }

-- what is of its kind in a scene is of its kind in what a system is lent
pub admitted-fragment : (book : Book) (access : Access) (scene : PlainScene) → PartsAdmitted book scene.part → PartsAdmitted book (fragment access scene).part
admitted-fragment book access scene admitted id kind held e = here (declares access kind) e
  where
    here : (b : Bool) → cond b (scene.part id kind) None ≡ Some held → book.admits kind held ≡ true
    here true found = admitted id kind held found
    here false found = absurd (none-some held found)

-- references that live in a scene live in what a system is lent
pub living-fragment : (access : Access) (scene : PlainScene) → RefsLive scene.ids scene.part → RefsLive scene.ids (fragment access scene).part
living-fragment access scene living id kind held alive e = here (declares access kind) e
  where
    here : (b : Bool) → cond b (scene.part id kind) None ≡ Some held → All (RefLives scene.ids) held.refs
    here true found = living id kind held alive found
    here false found = absurd (none-some held found)

-- the scene after a system's turn has parts of their kinds
pub admitted-left : (book : Book) (access : Access) (left : Fragment) (scene : PlainScene) → PartsAdmitted book scene.part → PartsAdmitted book left.part → PartsAdmitted book (with_left access left scene).part
admitted-left book access left scene admitted admitted_left id kind held e = here (is_among kind access.writes) e
  where
    here : (b : Bool) → cond b (left.part id kind) (scene.part id kind) ≡ Some held → book.admits kind held ≡ true
    here true found = admitted_left id kind held found
    here false found = admitted id kind held found

-- the scene after a system's turn has references that live
pub living-left : (access : Access) (left : Fragment) (scene : PlainScene) → RefsLive scene.ids scene.part → RefsLive scene.ids left.part → RefsLive scene.ids (with_left access left scene).part
living-left access left scene living living_left id kind held alive e = here (is_among kind access.writes) e
  where
    here : (b : Bool) → cond b (left.part id kind) (scene.part id kind) ≡ Some held → All (RefLives scene.ids) held.refs
    here true found = living_left id kind held alive found
    here false found = living id kind held alive found

-- a global that has one of two values is readable where it is in both
readable-cond : (book : Book) (name : Name) (b : Bool) (one other : Option Json) (json : Json) → ((found : Json) → one ≡ Some found → book.read_global name found ≡ Some found) → ((found : Json) → other ≡ Some found → book.read_global name found ≡ Some found) → cond b one other ≡ Some json → book.read_global name json ≡ Some json
readable-cond book name true one other json first second found = first json found
readable-cond book name false one other json first second found = second json found

-- what is lent of a scene whose globals are readable has readable globals
pub readable-fragment : (book : Book) (access : Access) (scene : PlainScene) → GlobalsReadable book scene.global → GlobalsReadable book (fragment access scene).global
readable-fragment book access scene readable name json = readable-cond book name (declares_global access name) (scene.global name) None json (readable name) (λ found is. absurd (none-some found is))

-- the scene after a system's turn has readable globals
pub readable-left : (book : Book) (access : Access) (left : Fragment) (scene : PlainScene) → GlobalsReadable book scene.global → GlobalsReadable book left.global → GlobalsReadable book (with_left access left scene).global
readable-left book access left scene readable readable_left name json = readable-cond book name (is_among name access.written_globals) (left.global name) (scene.global name) json (readable_left name) (readable name)
