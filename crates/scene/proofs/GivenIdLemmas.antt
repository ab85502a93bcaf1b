-- Lemmas on ids, over commands, systems and frames.
use Rattle.std.proofs.Common.{◌≡◌, ◌≢◌, ◌<◌, ◌≤◌, ◌+◌, ℕ, zero, suc, Bool, true, false, not, ◌||◌, cond, eqb, List, [], ◌∷◌, ◌++◌, refl, sym, ◌∙◌, ap, subst, ⊎_elim, arith}
use Rattle.std.specs.List.{All, filter}
use Rattle.std.proofs.lemmas.Bool.{false≢true, or_parts, cases_Bool}
use Rattle.std.proofs.lemmas.Bool.Decides.{Decides-eqb}
use Rattle.std.proofs.lemmas.List.Elements.{All-cons, All-filter}
use Rattle.std.proofs.lemmas.List.Kept.{AllPairs-filter}
use Rattle.std.proofs.lemmas.List.Quantifiers.{all_pairs_push}
use Rattle.std.proofs.lemmas.List.Folds.{list_any-append}
use Rattle.scene_model.specs.declared.refusals.Skip.{Skip}
use Rattle.scene_model.specs.Parts.{Name, Part}
use Rattle.scene_model.specs.Rulebook.{Book, owning_kinds, Command, spawn, kill, put, take}
use Rattle.scene_model.specs.Scenes.{PlainScene, PlainSystem, PlainFrame, IdsFit, lives}
use Rattle.scene_model.specs.Deaths.{dies_with}
use Rattle.scene_model.specs.Commands.{changed, apply, Played, played, spent, play}
use Rattle.scene_model.specs.Frames.{Queues, SystemsRun, all_commands, Accepts, Reaches}
use Rattle.scene_model.proofs.CallerLemmas.{spawned, spawn-makes, tested-makes, play-keeps, dying-live}
use Rattle.scene.specs.Ids.{IdsGoOn, Gives, TakesAway}

-- the places that were skipped
abbrev pub skipped_in : Played → List ℕ
skipped_in (played scene places) = places
skipped_in spent = []

-- what is all below the next id and lives is below it
pub lives-below : (ids : List ℕ) (next id : ℕ) → All (λ other. other < next) ids → lives id ids ≡ true → id < next
lives-below [] next id below alive = absurd (false≢true alive)
lives-below (x ∷ ids) next id below alive = here (lives-below ids next id (λ k d within. below (suc k) d (omega arith))) (eqb x id) refl alive
  where
    here : (lives id ids ≡ true → id < next) → (b : Bool) → eqb x id ≡ b → (b || lives id ids) ≡ true → id < next
    here later true same found = subst (λ n. n < next) ((Decides-eqb x id).0 same) (below 0 x (omega arith))
    here later false same found = later found

-- an id that does not live does not live where some were taken out
pub lives-filter : (test : ℕ → Bool) (id : ℕ) (ids : List ℕ) → lives id ids ≡ false → lives id (filter test ids) ≡ false
lives-filter test id [] dead = refl
lives-filter test id (x ∷ ids) dead = let parts = or_parts (eqb x id) (lives id ids) dead in here (lives-filter test id ids parts.1) parts.0 (test x)
  where
    here : lives id (filter test ids) ≡ false → eqb x id ≡ false → (b : Bool) → lives id (cond b (x ∷ filter test ids) (filter test ids)) ≡ false
    here later apart true = ap (λ b. b || lives id (filter test ids)) apart ∙ later
    here later apart false = later

-- two numbers that differ
pub apart-eqb : (x y : ℕ) → x ≢ y → eqb x y ≡ false
apart-eqb x y apart = ⊎_elim (λ t. absurd (apart ((Decides-eqb x y).0 t))) (λ f. f) (cases_Bool (eqb x y))

-- ids go on where they stay
pub stays : (scene after : PlainScene) → IdsFit scene.next scene.ids → after.next ≡ scene.next → after.ids ≡ scene.ids → IdsGoOn scene after
stays scene after fit next ids = record {
  next = omega (arith, next);
  fit = subst (λ n. IdsFit n after.ids) (sym next) (subst (λ all. IdsFit scene.next all) (sym ids) fit);
  no_return = λ id below dead. ap (lives id) ids ∙ dead;
  fresh = λ id alive dead. absurd (false≢true (sym dead ∙ (sym (ap (lives id) ids) ∙ alive)));
}

-- ids go on over two steps
pub go_on-then : (scene mid after : PlainScene) → IdsGoOn scene mid → IdsGoOn mid after → IdsGoOn scene after
go_on-then scene mid after early late = record {
  next = omega (arith, early.next, late.next);
  fit = late.fit;
  no_return = λ id below dead. late.no_return id (omega (arith, below, early.next)) (early.no_return id below dead);
  fresh = λ id alive dead. ⊎_elim (λ t. early.fresh id t dead) (λ f. omega (arith, late.fresh id alive f, early.next)) (cases_Bool (lives id mid.ids));
}

-- one more id behind others
lives-push : (id next : ℕ) (ids : List ℕ) → lives id (ids ++ next ∷ []) ≡ (lives id ids || (eqb next id || false))
lives-push id next ids = list_any-append (λ other. eqb other id) ids (next ∷ [])

-- all ids are below the one after the next, where the next is one of them
below-push : (ids : List ℕ) (next : ℕ) → All (λ id. id < next) ids → All (λ id. id < next + 1) (ids ++ next ∷ [])
below-push [] next below = All-cons (λ id. id < next + 1) next [] (omega arith) (λ k d within. absurd (omega arith))
below-push (x ∷ ids) next below = All-cons (λ id. id < next + 1) x (ids ++ next ∷ []) (let first : x < next = below 0 x (omega arith) in omega (arith, first)) (below-push ids next (λ k d within. below (suc k) d (omega arith)))

pub spawned-goes-on : (parts : List (Name × Part)) (scene : PlainScene) → IdsFit scene.next scene.ids → IdsGoOn scene (spawned parts scene)
spawned-goes-on parts scene fit = record {
  next = omega arith;
  fit = record {
    ascend = all_pairs_push (λ one other. one < other) scene.ids scene.next fit.ascend (λ k d within. fit.below k d within);
    below = below-push scene.ids scene.next fit.below;
  };
  no_return = λ id below dead. lives-push id scene.next scene.ids ∙ (ap (λ b. b || (eqb scene.next id || false)) dead ∙ ap (λ b. b || false) (apart-eqb scene.next id (λ same. omega (arith, same, below))));
  fresh = λ id alive dead. here id (eqb scene.next id) refl (sym (ap (λ b. b || (eqb scene.next id || false)) dead) ∙ (sym (lives-push id scene.next scene.ids) ∙ alive));
}
  where
    here : (id : ℕ) (b : Bool) → eqb scene.next id ≡ b → (eqb scene.next id || false) ≡ true → scene.next ≤ id
    here id true same found = let one : scene.next ≡ id = (Decides-eqb scene.next id).0 same in omega (arith, one)
    here id false same found = absurd (false≢true (sym (ap (λ b. b || false) same) ∙ found))

-- the scene after a kill
killed-goes-on : (dead : ℕ → Bool) (scene after : PlainScene) → IdsFit scene.next scene.ids → after.next ≡ scene.next → after.ids ≡ filter (λ other. not (dead other)) scene.ids → IdsGoOn scene after
killed-goes-on dead_ones scene after fit next ids = record {
  next = omega (arith, next);
  fit = subst (λ n. IdsFit n after.ids) (sym next) (subst (λ all. IdsFit scene.next all) (sym ids) (record {
    ascend = AllPairs-filter (λ one other. one < other) (λ other. not (dead_ones other)) scene.ids fit.ascend;
    below = All-filter (λ other. not (dead_ones other)) (λ one. one < scene.next) scene.ids fit.below;
  }));
  no_return = λ one below dead. ap (lives one) ids ∙ lives-filter (λ other. not (dead_ones other)) one scene.ids dead;
  fresh = λ one alive dead. absurd (false≢true (sym (lives-filter (λ other. not (dead_ones other)) one scene.ids dead) ∙ (sym (ap (lives one) ids) ∙ alive)));
}

-- ids go on over a command
pub apply-goes-on : (owning : List Name) (command : Command) (scene after : PlainScene) → IdsFit scene.next scene.ids → apply owning command scene ≡ changed after → IdsGoOn scene after
apply-goes-on owning (spawn parts) scene after fit e = subst (λ s. IdsGoOn scene s) (spawn-makes owning parts scene after e).1 (spawned-goes-on parts scene fit)
apply-goes-on owning (kill id) scene after fit e = subst (λ s. IdsGoOn scene s) (tested-makes (lives id scene.ids) scene _ after e).1 (killed-goes-on (dies_with owning scene id) scene _ fit refl refl)
apply-goes-on owning (put id kind part) scene after fit e = subst (λ s. IdsGoOn scene s) (tested-makes _ scene _ after e).1 (stays scene _ fit refl refl)
apply-goes-on owning (take id kind) scene after fit e = subst (λ s. IdsGoOn scene s) (tested-makes (lives id scene.ids) scene _ after e).1 (stays scene _ fit refl refl)

-- all commands are commands
pub any-command : (commands : List Command) → All (λ command. Unit {0}) commands
any-command commands = λ k d within. tt

-- systems leave the next id and the ids
pub systems-same : (book : Book) (order : List PlainSystem) (scene after : PlainScene) (queues : Queues) → SystemsRun book order scene after queues → (after.next ≡ scene.next) × (after.ids ≡ scene.ids)
systems-same book [] scene after queues ran = (ap (λ s. s.next) ran.0, ap (λ s. s.ids) ran.0)
systems-same book (first ∷ order) scene after queues ran = let rest = systems-same book order ran.0 after ran.2 ran.4 in (rest.0 ∙ ap (λ s. s.next) ran.3.3, rest.1 ∙ ap (λ s. s.ids) ran.3.3)

-- ids go on over a frame
pub accepts-goes-on : (book : Book) (limit : ℕ) (frame : PlainFrame) (scene after : PlainScene) (places : List ℕ) → IdsFit scene.next scene.ids → Accepts book limit frame scene after places → IdsGoOn scene after
accepts-goes-on book limit frame scene after places fit accepts =
    let same = systems-same book frame.order scene accepts.0 accepts.1 accepts.2 in
    let early : IdsGoOn scene accepts.0 = stays scene accepts.0 fit same.0 same.1 in
    go_on-then scene accepts.0 after early (over accepts.0 (all_commands frame accepts.1) early.fit accepts.3.played_on)
  where
    over : (mid : PlainScene) (commands : List Command) → IdsFit mid.next mid.ids → play (owning_kinds book) 1 commands mid ≡ played after places → IdsGoOn mid after
    over mid commands good e = (play-keeps (owning_kinds book) (λ one other. IdsFit one.next one.ids → IdsGoOn one other)
        (λ s f. stays s s f refl refl)
        (λ one two three first second f. go_on-then one two three (first f) (second (first f).fit))
        (λ command. Unit {0}) (λ s. IdsFit s.next s.ids)
        (λ command s t kind f made_it. ((λ g. apply-goes-on (owning_kinds book) command s t g made_it), (apply-goes-on (owning_kinds book) command s t f made_it).fit))
        1 commands mid after places (any-command commands) good e).0 good

-- ids go on over frames
pub reaches-goes-on : (book : Book) (limit : ℕ) (frames : ℕ → PlainFrame) (count : ℕ) (scene after : PlainScene) (skips : List Skip) → IdsFit scene.next scene.ids → Reaches book limit frames count scene after skips → IdsGoOn scene after
reaches-goes-on book limit frames zero scene after skips fit reached = subst (λ s. IdsGoOn scene s) (sym reached.0) (stays scene scene fit refl refl)
reaches-goes-on book limit frames (suc count) scene after skips fit reached =
    let early : IdsGoOn scene reached.0 = reaches-goes-on book limit frames count scene reached.0 reached.1 fit reached.3 in
    go_on-then scene reached.0 after early (accepts-goes-on book limit (frames (suc count)) reached.0 after reached.2 early.fit reached.4)

-- a spawn gives the next id
pub spawn-gives : (owning : List Name) (parts : List (Name × Part)) (scene after : PlainScene) → IdsFit scene.next scene.ids → apply owning (spawn parts) scene ≡ changed after → Gives scene.next scene after
spawn-gives owning parts scene after fit e = subst (λ s. Gives scene.next scene s) (spawn-makes owning parts scene after e).1 (record {
  is_next = refl;
  unused = ⊎_elim (λ t. absurd (let low : scene.next < scene.next = lives-below scene.ids scene.next scene.next fit.below t in omega (arith, low))) (λ f. f) (cases_Bool (lives scene.next scene.ids));
  lives_now = lives-push scene.next scene.next scene.ids ∙ here (lives scene.next scene.ids) (eqb scene.next scene.next) ((Decides-eqb scene.next scene.next).1 refl);
  next_after = omega arith;
})
  where
    here : (l n : Bool) → n ≡ true → (l || (n || false)) ≡ true
    here true n same = refl
    here false true same = refl
    here false false same = absurd (false≢true same)

-- an id that was taken out does not live
taken-out : (dead : ℕ → Bool) (id : ℕ) → dead id ≡ true → (ids : List ℕ) → lives id (filter (λ other. not (dead other)) ids) ≡ false
taken-out dead id dies [] = refl
taken-out dead id dies (x ∷ ids) = here (taken-out dead id dies ids) (dead x) refl (eqb x id) refl
  where
    here : lives id (filter (λ other. not (dead other)) ids) ≡ false → (b : Bool) → dead x ≡ b → (c : Bool) → eqb x id ≡ c → lives id (cond (not b) (x ∷ filter (λ other. not (dead other)) ids) (filter (λ other. not (dead other)) ids)) ≡ false
    here later true is c same = later
    here later false is true same = absurd (false≢true (sym is ∙ (ap dead ((Decides-eqb x id).0 same) ∙ dies)))
    here later false is false differ = ap (λ b. b || lives id (filter (λ other. not (dead other)) ids)) differ ∙ later

-- a kill takes an id away, and each that dies with it
pub kill-takes : (owning : List Name) (id one : ℕ) (scene after : PlainScene) → IdsFit scene.next scene.ids → apply owning (kill id) scene ≡ changed after → dies_with owning scene id one ≡ true → TakesAway one scene after
kill-takes owning id one scene after fit e dies =
    let made_it = tested-makes (lives id scene.ids) scene _ after e in
    let lived : lives one scene.ids ≡ true = dying-live owning scene id made_it.0 one dies in
    subst (λ s. TakesAway one scene s) made_it.1 (record {
      lived = lived;
      dead_now = taken-out (dies_with owning scene id) one dies scene.ids;
      below = lives-below scene.ids scene.next one fit.below lived;
    })
