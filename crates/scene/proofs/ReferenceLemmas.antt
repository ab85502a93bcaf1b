-- Lemmas on references, over commands, systems and frames.
use Rattle.std.proofs.Common.{◌≡◌, ℕ, zero, suc, Bool, true, false, not, ◌||◌, ◌&&◌, cond, eqb, List, [], ◌∷◌, ◌++◌, map, Option, Some, None, option_map, refl, sym, ◌∙◌, ap, subst, ⊎_elim, arith}
use Rattle.std.specs.List.{All, list_any, list_all, filter}
use Rattle.std.specs.Str.{bytes_eq}
use Rattle.std.proofs.lemmas.Bool.{false≢true, or_parts, and_parts, cases_Bool}
use Rattle.std.proofs.lemmas.Bool.Decides.{Decides-eqb}
use Rattle.std.proofs.lemmas.Option.{none-some, same_Some}
use Rattle.std.proofs.lemmas.List.Elements.{All-cons}
use Rattle.std.proofs.lemmas.List.Folds.{list_any-append}
use Rattle.scene_model.specs.declared.refusals.Skip.{Skip}
use Rattle.scene_model.specs.Parts.{Name, Ref, living, gone, Part, is_among, under}
use Rattle.scene_model.specs.Rulebook.{Book, owning_kinds, Command, spawn, kill, put, take}
use Rattle.scene_model.specs.Scenes.{PlainScene, PlainSystem, PlainFrame, RefLives, with_left, lives}
use Rattle.scene_model.specs.Deaths.{without_ref, part_without, without, dies_with}
use Rattle.scene_model.specs.Commands.{apply, changed, ref_lives, refs_live, is_gone, holds_gone, first_gone}
use Rattle.scene_model.specs.Frames.{Queues, SystemsRun, all_commands, Accepts, Reaches}
use Rattle.scene.specs.References.{RefsLiveUnder}
use Rattle.scene_model.proofs.CallerLemmas.{spawn-makes, tested-makes, play-keeps, lives-longer, lives-passed, find-none, none-of-ids, none-of-names}
use Rattle.scene.proofs.GivenIdLemmas.{lives-filter, any-command}

-- a reference names a living id, or is gone
abbrev pub LivesOrGone : List ℕ → Ref → Type 0
LivesOrGone ids (living id) = lives id ids ≡ true
LivesOrGone ids gone = Unit {0}

-- each reference of a living id's part under one of these kinds names a living id, or is gone
abbrev pub LiveOrGoneUnder : List Name → List ℕ → (ℕ → Name → Option Part) → Type 0
LiveOrGoneUnder names ids part = (id : ℕ) (kind : Name) (held : Part) → is_among kind names ≡ true → lives id ids ≡ true → part id kind ≡ Some held → All (LivesOrGone ids) held.refs

-- what holds of each holds of each of what follows from it
All-more : {X : Type 0} (P Q : X → Type 0) (xs : List X) → ((x : X) → P x → Q x) → All P xs → All Q xs
All-more P Q [] step all = λ k d within. absurd (omega arith)
All-more P Q (x ∷ xs) step all = All-cons Q x xs (step x (all 0 x (omega arith))) (All-more P Q xs step (λ k d within. all (suc k) d (omega arith)))

-- and of what a function makes of each
All-over : {X Y : Type 0} (P : X → Type 0) (Q : Y → Type 0) (f : X → Y) (xs : List X) → ((x : X) → P x → Q (f x)) → All P xs → All Q (map f xs)
All-over P Q f [] step all = λ k d within. absurd (omega arith)
All-over P Q f (x ∷ xs) step all = All-cons Q (f x) (map f xs) (step x (all 0 x (omega arith))) (All-over P Q f xs step (λ k d within. all (suc k) d (omega arith)))

-- a reference that lives lives or is gone
lives-either : (ids : List ℕ) (ref : Ref) → RefLives ids ref → LivesOrGone ids ref
lives-either ids (living id) alive = alive
lives-either ids gone alive = absurd alive

-- references that are tested to live, live in a longer list
tested-live : (ids more : List ℕ) (refs : List Ref) → ((id : ℕ) → lives id ids ≡ true → lives id more ≡ true) → list_all (ref_lives ids) refs ≡ true → All (LivesOrGone more) refs
tested-live ids more [] longer test = λ k d within. absurd (omega arith)
tested-live ids more (ref ∷ refs) longer test = let parts = and_parts (ref_lives ids ref) (list_all (ref_lives ids) refs) test in All-cons (LivesOrGone more) ref refs (one ref parts.0) (tested-live ids more refs longer parts.1)
  where
    one : (some : Ref) → ref_lives ids some ≡ true → LivesOrGone more some
    one (living id) alive = longer id alive
    one gone alive = absurd (false≢true alive)

-- of parts whose references live, that under a kind has such
under-live : (ids : List ℕ) (parts : List (Name × Part)) (kind : Name) (held : Part) → list_all (λ entry. refs_live ids entry.1) parts ≡ true → under kind parts ≡ Some held → refs_live ids held ≡ true
under-live ids [] kind held test found = absurd (none-some held found)
under-live ids (entry ∷ parts) kind held test found = let tests = and_parts (refs_live ids entry.1) (list_all (λ one. refs_live ids one.1) parts) test in here (under-live ids parts kind held tests.1) tests.0 (bytes_eq kind entry.0) found
  where
    here : (under kind parts ≡ Some held → refs_live ids held ≡ true) → refs_live ids entry.1 ≡ true → (b : Bool) → cond b (Some entry.1) (under kind parts) ≡ Some held → refs_live ids held ≡ true
    here later first true e = subst (λ part. refs_live ids part ≡ true) (same_Some _ _ e) first
    here later first false e = later e

-- what lives in a list with one more, and is not the one, lives in the list
lives-shorter : (ids : List ℕ) (next id : ℕ) → eqb id next ≡ false → lives id (ids ++ next ∷ []) ≡ true → lives id ids ≡ true
lives-shorter ids next id apart alive = here (lives id ids) (eqb next id) refl (sym (list_any-append (λ other. eqb other id) ids (next ∷ [])) ∙ alive)
  where
    here : (l n : Bool) → eqb next id ≡ n → (l || (n || false)) ≡ true → l ≡ true
    here true n same e = refl
    here false true same e = absurd (false≢true (sym apart ∙ (Decides-eqb id next).1 (sym ((Decides-eqb next id).0 same))))
    here false false same e = absurd (false≢true e)

-- and one that lives there lived before
lives-back : (test : ℕ → Bool) (id : ℕ) (ids : List ℕ) → lives id (filter test ids) ≡ true → lives id ids ≡ true
lives-back test id ids alive = ⊎_elim (λ t. t) (λ f. absurd (false≢true (sym (lives-filter test id ids f) ∙ alive))) (cases_Bool (lives id ids))

module _ (owning : List Name) (names : List Name) where
  -- so they do once the dead are taken out
  without-live : (dead : ℕ → Bool) (scene : PlainScene) → LiveOrGoneUnder names scene.ids scene.part → LiveOrGoneUnder names (without dead scene).ids (without dead scene).part
  without-live dead scene good = λ other kind held known alive found. here other kind held known (lives-back (λ one. not (dead one)) other scene.ids alive) (dead other) found
    where
      ref-stays : (ref : Ref) → LivesOrGone scene.ids ref → LivesOrGone (filter (λ other. not (dead other)) scene.ids) (without_ref dead ref)
      ref-stays gone alive = tt
      ref-stays (living x) alive = one (dead x) refl
        where
          one : (b : Bool) → dead x ≡ b → LivesOrGone (filter (λ other. not (dead other)) scene.ids) (cond b gone (living x))
          one true same = tt
          one false same = lives-passed (λ other. not (dead other)) x scene.ids (ap not same) alive

      part-stays : (other : ℕ) (kind : Name) (held : Part) → is_among kind names ≡ true → lives other scene.ids ≡ true → (o : Option Part) → scene.part other kind ≡ o → option_map (part_without dead) o ≡ Some held → All (LivesOrGone (filter (λ other. not (dead other)) scene.ids)) held.refs
      part-stays other kind held known alive None is found = absurd (none-some held found)
      part-stays other kind held known alive (Some old) is found = subst (λ part. All (LivesOrGone (filter (λ other. not (dead other)) scene.ids)) part.refs) (same_Some _ _ found) (All-over (LivesOrGone scene.ids) (LivesOrGone (filter (λ other. not (dead other)) scene.ids)) (without_ref dead) old.refs ref-stays (good other kind old known alive is))

      here : (other : ℕ) (kind : Name) (held : Part) → is_among kind names ≡ true → lives other scene.ids ≡ true → (b : Bool) → cond b None (option_map (part_without dead) (scene.part other kind)) ≡ Some held → All (LivesOrGone (filter (λ other. not (dead other)) scene.ids)) held.refs
      here other kind held known alive true found = absurd (none-some held found)
      here other kind held known alive false found = part-stays other kind held known alive (scene.part other kind) refl found

  -- references live or are gone after a command
  pub apply-live : (command : Command) (scene after : PlainScene) → LiveOrGoneUnder names scene.ids scene.part → apply owning command scene ≡ changed after → LiveOrGoneUnder names after.ids after.part
  apply-live (spawn parts) scene after good e = let made = spawn-makes owning parts scene after e in subst (λ s. LiveOrGoneUnder names s.ids s.part) made.1 (λ id kind held known alive found. here id kind held known alive made.0 (eqb id scene.next) refl found)
    where
      here : (id : ℕ) (kind : Name) (held : Part) → is_among kind names ≡ true → lives id (scene.ids ++ scene.next ∷ []) ≡ true → list_all (λ entry. refs_live scene.ids entry.1) parts ≡ true → (b : Bool) → eqb id scene.next ≡ b → cond b (under kind parts) (scene.part id kind) ≡ Some held → All (LivesOrGone (scene.ids ++ scene.next ∷ [])) held.refs
      here id kind held known alive tested true is found = tested-live scene.ids (scene.ids ++ scene.next ∷ []) held.refs (lives-longer scene.ids scene.next) (under-live scene.ids parts kind held tested found)
      here id kind held known alive tested false is found = All-more (LivesOrGone scene.ids) (LivesOrGone (scene.ids ++ scene.next ∷ [])) held.refs one (good id kind held known (lives-shorter scene.ids scene.next id is alive) found)
        where
          one : (ref : Ref) → LivesOrGone scene.ids ref → LivesOrGone (scene.ids ++ scene.next ∷ []) ref
          one (living other) lives_now = lives-longer scene.ids scene.next other lives_now
          one gone lives_now = tt
  apply-live (kill id) scene after good e = subst (λ s. LiveOrGoneUnder names s.ids s.part) (tested-makes (lives id scene.ids) scene _ after e).1 (without-live (dies_with owning scene id) scene good)
  apply-live (put id kind part) scene after good e = let made = tested-makes (lives id scene.ids && refs_live scene.ids part) scene _ after e in subst (λ s. LiveOrGoneUnder names s.ids s.part) made.1 (λ other name held known alive found. here other name held known alive (and_parts (lives id scene.ids) (refs_live scene.ids part) made.0).1 (eqb other id && bytes_eq name kind) found)
    where
      here : (other : ℕ) (name : Name) (held : Part) → is_among name names ≡ true → lives other scene.ids ≡ true → refs_live scene.ids part ≡ true → (b : Bool) → cond b (Some part) (scene.part other name) ≡ Some held → All (LivesOrGone scene.ids) held.refs
      here other name held known alive tested true found = subst (λ one. All (LivesOrGone scene.ids) one.refs) (same_Some _ _ found) (tested-live scene.ids scene.ids part.refs (λ _ t. t) tested)
      here other name held known alive tested false found = good other name held known alive found
  apply-live (take id kind) scene after good e = subst (λ s. LiveOrGoneUnder names s.ids s.part) (tested-makes (lives id scene.ids) scene _ after e).1 (λ other name held known alive found. here other name held known alive (eqb other id && bytes_eq name kind) found)
    where
      here : (other : ℕ) (name : Name) (held : Part) → is_among name names ≡ true → lives other scene.ids ≡ true → (b : Bool) → cond b None (scene.part other name) ≡ Some held → All (LivesOrGone scene.ids) held.refs
      here other name held known alive true found = absurd (none-some held found)
      here other name held known alive false found = good other name held known alive found

-- references that live or are gone, and of which none is gone, live
none-gone : (ids : List ℕ) (refs : List Ref) → list_any is_gone refs ≡ false → All (LivesOrGone ids) refs → All (RefLives ids) refs
none-gone ids [] none all = λ k d within. absurd (omega arith)
none-gone ids (ref ∷ refs) none all = let parts = or_parts (is_gone ref) (list_any is_gone refs) none in All-cons (RefLives ids) ref refs (one ref parts.0 (all 0 ref (omega arith))) (none-gone ids refs parts.1 (λ k d within. all (suc k) d (omega arith)))
  where
    one : (some : Ref) → is_gone some ≡ false → LivesOrGone ids some → RefLives ids some
    one (living id) there alive = alive
    one gone there alive = absurd (false≢true (sym there))

-- where no reference is gone, those that live or are gone live
all-live : (book : Book) (scene : PlainScene) → first_gone book scene ≡ None → LiveOrGoneUnder book.part_names scene.ids scene.part → RefsLiveUnder book.part_names scene.ids scene.part
all-live book scene none good id kind held known alive found =
    let no_id : list_any (λ one. list_any (λ name. holds_gone (scene.part one name)) book.part_names) scene.ids ≡ false = find-none (λ one. list_any (λ name. holds_gone (scene.part one name)) book.part_names) scene.ids none in
    let no_kind : list_any (λ name. holds_gone (scene.part id name)) book.part_names ≡ false = none-of-ids (λ one. list_any (λ name. holds_gone (scene.part one name)) book.part_names) scene.ids id no_id alive in
    let no_ref : holds_gone (scene.part id kind) ≡ false = none-of-names (λ name. holds_gone (scene.part id name)) book.part_names kind no_kind known in
    none-gone scene.ids held.refs (sym (ap holds_gone found) ∙ no_ref) (good id kind held known alive found)

-- references live after the turns of systems
pub systems-live : (book : Book) (order : List PlainSystem) (scene after : PlainScene) (queues : Queues) → RefsLiveUnder book.part_names scene.ids scene.part → SystemsRun book order scene after queues → RefsLiveUnder book.part_names after.ids after.part
systems-live book [] scene after queues good ran = subst (λ s. RefsLiveUnder book.part_names s.ids s.part) (sym ran.0) good
systems-live book (first ∷ order) scene after queues good ran = systems-live book order ran.0 after ran.2 (subst (λ s. RefsLiveUnder book.part_names s.ids s.part) (sym ran.3.3) turn) ran.4
  where
    turn : RefsLiveUnder book.part_names scene.ids (with_left first.access ran.3.0 scene).part
    turn id kind held known alive found = here (is_among kind first.access.writes) found
      where
        here : (b : Bool) → cond b (ran.3.0.part id kind) (scene.part id kind) ≡ Some held → All (RefLives scene.ids) held.refs
        here true e = subst (λ ids. All (RefLives ids) held.refs) ran.3.2.ids (ran.3.2.living id kind held (ap (lives id) ran.3.2.ids ∙ alive) e)
        here false e = good id kind held known alive e

-- references live after a frame
pub accepts-live : (book : Book) (limit : ℕ) (frame : PlainFrame) (scene after : PlainScene) (places : List ℕ) → RefsLiveUnder book.part_names scene.ids scene.part → Accepts book limit frame scene after places → RefsLiveUnder book.part_names after.ids after.part
accepts-live book limit frame scene after places good accepts =
    let lived : RefsLiveUnder book.part_names accepts.0.ids accepts.0.part = systems-live book frame.order scene accepts.0 accepts.1 good accepts.2 in
    let either : LiveOrGoneUnder book.part_names accepts.0.ids accepts.0.part = λ id kind held known alive found. All-more (RefLives accepts.0.ids) (LivesOrGone accepts.0.ids) held.refs (lives-either accepts.0.ids) (lived id kind held known alive found) in
    all-live book after accepts.3.none_gone (play-keeps (owning_kinds book) (λ one other. Unit {0}) (λ s. tt) (λ one two three first second. tt) (λ command. Unit {0}) (λ s. LiveOrGoneUnder book.part_names s.ids s.part) (λ command s t kind g made. (tt, apply-live (owning_kinds book) book.part_names command s t g made)) 1 (all_commands frame accepts.1) accepts.0 after places (any-command (all_commands frame accepts.1)) either accepts.3.played_on).1

-- references live after frames
pub reaches-live : (book : Book) (limit : ℕ) (frames : ℕ → PlainFrame) (count : ℕ) (scene after : PlainScene) (skips : List Skip) → RefsLiveUnder book.part_names scene.ids scene.part → Reaches book limit frames count scene after skips → RefsLiveUnder book.part_names after.ids after.part
reaches-live book limit frames zero scene after skips good reached = subst (λ s. RefsLiveUnder book.part_names s.ids s.part) (sym reached.0) good
reaches-live book limit frames (suc count) scene after skips good reached = accepts-live book limit (frames (suc count)) reached.0 after reached.2 (reaches-live book limit frames count scene reached.0 reached.1 good reached.3) reached.4
