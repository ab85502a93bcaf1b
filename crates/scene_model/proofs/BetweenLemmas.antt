-- Parts between commands: each is one that the rules admit, or has lost a reference.
use Rattle.std.proofs.Common.{◌≡◌, ℕ, Bool, true, false, not, ◌&&◌, ◌||◌, cond, eqb, List, [], ◌∷◌, ◌++◌, map, Option, Some, None, option_map, ◌⊎◌, inl, inr, refl, sym, ◌∙◌, ap, subst, All}
use Rattle.std.specs.List.{list_any, filter, find}
use Rattle.std.specs.Str.{bytes_eq}
use Rattle.std.proofs.lemmas.Bool.{false≢true, and_parts, or_parts}
use Rattle.std.proofs.lemmas.Bool.Decides.{Decides-eqb}
use Rattle.std.proofs.lemmas.Option.{none-some, same_Some}
use Rattle.std.proofs.lemmas.Slice.Eq.{bytes_eq-Decides}
use Rattle.std.proofs.lemmas.List.Elements.{All-head, All-tail}
use Rattle.serde_json.specs.Data.{null}
use Rattle.scene_model.specs.Parts.{Name, Ref, living, gone, Part, is_among, under}
use Rattle.scene_model.specs.Rulebook.{Book, Command, spawn, kill, put, take}
use Rattle.scene_model.specs.Lawful.{IsKnownPart, IsLawful}
use Rattle.scene_model.specs.Scenes.{PlainScene, IsProper, PartsStand, PartsOwned, PartsAdmitted, GlobalsReadable, lives}
use Rattle.scene_model.specs.Deaths.{is_to, without_ref, part_without, without, dies_with}
use Rattle.scene_model.specs.Commands.{apply, changed, is_gone, holds_gone, first_gone, refs_live}
use Rattle.scene_model.proofs.MadeLemmas.{spawn-makes, tested-makes, lives-last, lives-longer, lives-passed}

-- what no element passes, none of them passes
pub find-none : {X : Type 0} (test : X → Bool) (xs : List X) → find test xs ≡ None → list_any test xs ≡ false
find-none test [] none = refl
find-none test (x ∷ xs) none = here (find-none test xs) (test x) none
  where
    here : (find test xs ≡ None → list_any test xs ≡ false) → (b : Bool) → cond b (Some x) (find test xs) ≡ None → (b || list_any test xs) ≡ false
    here later true e = absurd (none-some x (sym e))
    here later false e = later e

-- a test that no id passes is not passed by one that lives
pub none-of-ids : (test : ℕ → Bool) (ids : List ℕ) (id : ℕ) → list_any test ids ≡ false → lives id ids ≡ true → test id ≡ false
none-of-ids test [] id none alive = absurd (false≢true alive)
none-of-ids test (x ∷ ids) id none alive = let parts = or_parts (test x) (list_any test ids) none in here (none-of-ids test ids id parts.1) parts.0 (eqb x id) refl alive
  where
    here : (lives id ids ≡ true → test id ≡ false) → test x ≡ false → (b : Bool) → eqb x id ≡ b → (b || lives id ids) ≡ true → test id ≡ false
    here later first true same e = ap test (sym ((Decides-eqb x id).0 same)) ∙ first
    here later first false same e = later e

-- nor one that no name passes by one of the names
pub none-of-names : (test : Name → Bool) (names : List Name) (name : Name) → list_any test names ≡ false → is_among name names ≡ true → test name ≡ false
none-of-names test [] name none known = absurd (false≢true known)
none-of-names test (x ∷ names) name none known = let parts = or_parts (test x) (list_any test names) none in here (none-of-names test names name parts.1) parts.0 (bytes_eq name x) refl known
  where
    here : (is_among name names ≡ true → test name ≡ false) → test x ≡ false → (b : Bool) → bytes_eq name x ≡ b → (b || is_among name names) ≡ true → test name ≡ false
    here later first true same e = ap test ((bytes_eq-Decides name x).0 same) ∙ first
    here later first false same e = later e

-- between commands a part may have lost a reference: it is one that the rules admit, or holds a reference that is gone
pub record IsBetween (book : Book) (scene : PlainScene) : Type 0 where
  pub owned : PartsOwned scene.ids scene.part
  pub stand : PartsStand book.part_names scene.part
  pub either : (id : ℕ) (kind : Name) (held : Part) → scene.part id kind ≡ Some held → (book.admits kind held ≡ true) ⊎ (list_any is_gone held.refs ≡ true)
  pub readable : GlobalsReadable book scene.global

-- a part that is known is one that the rules admit under a kind of theirs
under-known : (book : Book) (parts : List (Name × Part)) (kind : Name) (held : Part) → All (IsKnownPart book) parts → under kind parts ≡ Some held → IsKnownPart book (kind, held)
under-known book [] kind held all found = absurd (none-some held found)
under-known book (entry ∷ parts) kind held all found = here (under-known book parts kind held (All-tail (IsKnownPart book) entry parts all)) (bytes_eq kind entry.0) refl found
  where
    here : (under kind parts ≡ Some held → IsKnownPart book (kind, held)) → (b : Bool) → bytes_eq kind entry.0 ≡ b → cond b (Some entry.1) (under kind parts) ≡ Some held → IsKnownPart book (kind, held)
    here later true same e =
        let equal : kind ≡ entry.0 = (bytes_eq-Decides kind entry.0).0 same in
        let one : entry.1 ≡ held = same_Some entry.1 held e in
        subst (λ (name : Name). IsKnownPart book (name, held)) (sym equal) (subst (λ (part : Part). IsKnownPart book (entry.0, part)) one (All-head (IsKnownPart book) entry parts all))
    here later false same e = later e

-- a reference to one of the dead is gone, one that is gone stays so, and others stay as they are
pub now-gone : (dead : ℕ → Bool) (refs : List Ref) → list_any (is_to dead) refs ≡ true → list_any is_gone (map (without_ref dead) refs) ≡ true
now-gone dead [] e = absurd (false≢true e)
now-gone dead (gone ∷ refs) e = refl
now-gone dead (living other ∷ refs) e = here (dead other) e (now-gone dead refs)
  where
    here : (b : Bool) → (b || list_any (is_to dead) refs) ≡ true → (list_any (is_to dead) refs ≡ true → list_any is_gone (map (without_ref dead) refs) ≡ true) → (is_gone (cond b gone (living other)) || list_any is_gone (map (without_ref dead) refs)) ≡ true
    here true found later = refl
    here false found later = later found

stays-gone : (dead : ℕ → Bool) (refs : List Ref) → list_any is_gone refs ≡ true → list_any is_gone (map (without_ref dead) refs) ≡ true
stays-gone dead [] e = absurd (false≢true e)
stays-gone dead (gone ∷ refs) e = refl
stays-gone dead (living other ∷ refs) e = here (dead other) (stays-gone dead refs e)
  where
    here : (b : Bool) → list_any is_gone (map (without_ref dead) refs) ≡ true → (is_gone (cond b gone (living other)) || list_any is_gone (map (without_ref dead) refs)) ≡ true
    here true later = refl
    here false later = later

pub not-there : (dead : ℕ → Bool) (refs : List Ref) → list_any (is_to dead) refs ≡ false → map (without_ref dead) refs ≡ refs
not-there dead [] e = refl
not-there dead (gone ∷ refs) e = ap (λ rest. gone ∷ rest) (not-there dead refs e)
not-there dead (living other ∷ refs) e = let parts = or_parts (dead other) (list_any (is_to dead) refs) e in ap (λ b. cond b gone (living other) ∷ map (without_ref dead) refs) parts.0 ∙ ap (λ rest. living other ∷ rest) (not-there dead refs parts.1)

-- a part that loses a reference holds one that is gone, and another is as it was
lost-or-same : (dead : ℕ → Bool) (part : Part) → (list_any is_gone (part_without dead part).refs ≡ true) ⊎ (part_without dead part ≡ part)
lost-or-same dead part = here (list_any (is_to dead) part.refs) refl
  where
    here : (b : Bool) → list_any (is_to dead) part.refs ≡ b → (list_any is_gone (map (without_ref dead) part.refs) ≡ true) ⊎ (part_without dead part ≡ part)
    here true is = inl (now-gone dead part.refs is)
    here false is = inr (ap (λ b. record { json = cond b null part.json; refs = map (without_ref dead) part.refs }) is ∙ ap (λ refs. record { json = part.json; refs = refs }) (not-there dead part.refs is))

module _ (book : Book) where
  -- a scene without its dead has them so
  pub without-between : (dead : ℕ → Bool) (scene : PlainScene) → IsBetween book scene → IsBetween book (without dead scene)
  without-between dead scene between = record {
    owned = λ other kind held found. owned other kind held (dead other) refl found;
    stand = λ other kind held found. let old = before other kind held (dead other) found in between.stand other kind old.0 old.1;
    either = λ other kind held found. let old = before other kind held (dead other) found in either kind old.0 held old.2 (between.either other kind old.0 old.1);
    readable = between.readable;
  }
    where
      before : (other : ℕ) (kind : Name) (held : Part) (b : Bool) → cond b None (option_map (part_without dead) (scene.part other kind)) ≡ Some held → (old : Part) × (scene.part other kind ≡ Some old) × (part_without dead old ≡ held)
      before other kind held true found = absurd (none-some held found)
      before other kind held false found = of (scene.part other kind) refl found
        where
          of : (o : Option Part) → scene.part other kind ≡ o → option_map (part_without dead) o ≡ Some held → (old : Part) × (scene.part other kind ≡ Some old) × (part_without dead old ≡ held)
          of None is e = absurd (none-some held e)
          of (Some old) is e = (old, is, same_Some (part_without dead old) held e)

      owned : (other : ℕ) (kind : Name) (held : Part) (b : Bool) → dead other ≡ b → cond b None (option_map (part_without dead) (scene.part other kind)) ≡ Some held → lives other (filter (λ one. not (dead one)) scene.ids) ≡ true
      owned other kind held true is found = absurd (none-some held found)
      owned other kind held false is found = let old = before other kind held false found in lives-passed (λ one. not (dead one)) other scene.ids (ap not is) (between.owned other kind old.0 old.1)

      either : (kind : Name) (old held : Part) → part_without dead old ≡ held → (book.admits kind old ≡ true) ⊎ (list_any is_gone old.refs ≡ true) → (book.admits kind held ≡ true) ⊎ (list_any is_gone held.refs ≡ true)
      either kind old held is (inr was) = inr (subst (λ (part : Part). list_any is_gone part.refs ≡ true) is (stays-gone dead old.refs was))
      either kind old held is (inl admitted) = of (lost-or-same dead old)
        where
          of : (list_any is_gone (part_without dead old).refs ≡ true) ⊎ (part_without dead old ≡ old) → (book.admits kind held ≡ true) ⊎ (list_any is_gone held.refs ≡ true)
          of (inl lost) = inr (subst (λ (part : Part). list_any is_gone part.refs ≡ true) is lost)
          of (inr same) = inl (subst (λ (part : Part). book.admits kind part ≡ true) (sym same ∙ is) admitted)

module _ (owning : List Name) (book : Book) where
  -- a lawful command leaves parts so
  pub apply-between : (command : Command) (scene after : PlainScene) → IsLawful book command → IsBetween book scene → apply owning command scene ≡ changed after → IsBetween book after
  apply-between (spawn parts) scene after lawful between e =
      let made = spawn-makes owning parts scene after e in
      subst (IsBetween book) made.1 (record {
        owned = λ id kind held found. owned id kind held (eqb id scene.next) refl found;
        stand = λ id kind held found. stand id kind held (eqb id scene.next) found;
        either = λ id kind held found. either id kind held (eqb id scene.next) found;
        readable = between.readable;
      })
    where
      newest : lives scene.next (scene.ids ++ scene.next ∷ []) ≡ true
      newest = lives-last scene.ids scene.next

      owned : (id : ℕ) (kind : Name) (held : Part) (b : Bool) → eqb id scene.next ≡ b → cond b (under kind parts) (scene.part id kind) ≡ Some held → lives id (scene.ids ++ scene.next ∷ []) ≡ true
      owned id kind held true is found = subst (λ one. lives one (scene.ids ++ scene.next ∷ []) ≡ true) (sym ((Decides-eqb id scene.next).0 is)) newest
      owned id kind held false is found = lives-longer scene.ids scene.next id (between.owned id kind held found)

      stand : (id : ℕ) (kind : Name) (held : Part) (b : Bool) → cond b (under kind parts) (scene.part id kind) ≡ Some held → is_among kind book.part_names ≡ true
      stand id kind held true found = (under-known book parts kind held lawful.0 found).0
      stand id kind held false found = between.stand id kind held found

      either : (id : ℕ) (kind : Name) (held : Part) (b : Bool) → cond b (under kind parts) (scene.part id kind) ≡ Some held → (book.admits kind held ≡ true) ⊎ (list_any is_gone held.refs ≡ true)
      either id kind held true found = inl (under-known book parts kind held lawful.0 found).1
      either id kind held false found = between.either id kind held found
  apply-between (kill id) scene after lawful between e = subst (IsBetween book) (tested-makes (lives id scene.ids) scene _ after e).1 (without-between book (dies_with owning scene id) scene between)
  apply-between (put id kind part) scene after lawful between e =
      let made = tested-makes (lives id scene.ids && refs_live scene.ids part) scene _ after e in
      subst (IsBetween book) made.1 (record {
        owned = λ other name held found. owned other name held (and_parts (lives id scene.ids) (refs_live scene.ids part) made.0).0 (eqb other id) (bytes_eq name kind) refl found;
        stand = λ other name held found. (known_one other name held (eqb other id) (bytes_eq name kind) refl found).0;
        either = λ other name held found. (known_one other name held (eqb other id) (bytes_eq name kind) refl found).1;
        readable = between.readable;
      })
    where
      owned : (other : ℕ) (name : Name) (held : Part) → lives id scene.ids ≡ true → (b c : Bool) → eqb other id ≡ b → cond (b && c) (Some part) (scene.part other name) ≡ Some held → lives other scene.ids ≡ true
      owned other name held alive true c is found = subst (λ one. lives one scene.ids ≡ true) (sym ((Decides-eqb other id).0 is)) alive
      owned other name held alive false c is found = between.owned other name held found

      known_one : (other : ℕ) (name : Name) (held : Part) (b c : Bool) → bytes_eq name kind ≡ c → cond (b && c) (Some part) (scene.part other name) ≡ Some held → (is_among name book.part_names ≡ true) × ((book.admits name held ≡ true) ⊎ (list_any is_gone held.refs ≡ true))
      known_one other name held true true is found =
          let equal : name ≡ kind = (bytes_eq-Decides name kind).0 is in
          let one : part ≡ held = same_Some part held found in
          (subst (λ (some : Name). is_among some book.part_names ≡ true) (sym equal) lawful.0, inl (subst (λ (some : Name). book.admits some held ≡ true) (sym equal) (subst (λ (some : Part). book.admits kind some ≡ true) one lawful.1)))
      known_one other name held true false is found = (between.stand other name held found, between.either other name held found)
      known_one other name held false c is found = (between.stand other name held found, between.either other name held found)
  apply-between (take id kind) scene after lawful between e = subst (IsBetween book) (tested-makes (lives id scene.ids) scene _ after e).1 (record {
    owned = λ other name held found. between.owned other name held (was other name held (eqb other id && bytes_eq name kind) found);
    stand = λ other name held found. between.stand other name held (was other name held (eqb other id && bytes_eq name kind) found);
    either = λ other name held found. between.either other name held (was other name held (eqb other id && bytes_eq name kind) found);
    readable = between.readable;
  })
    where
      was : (other : ℕ) (name : Name) (held : Part) (b : Bool) → cond b None (scene.part other name) ≡ Some held → scene.part other name ≡ Some held
      was other name held true found = absurd (none-some held found)
      was other name held false found = found

module _ (book : Book) where
  -- where no reference is gone, all parts are ones that the rules admit
  pub admitted-again : (scene : PlainScene) → first_gone book scene ≡ None → IsBetween book scene → PartsAdmitted book scene.part
  admitted-again scene none between id kind held found = of (between.either id kind held found)
    where
      no_id : list_any (λ one. list_any (λ name. holds_gone (scene.part one name)) book.part_names) scene.ids ≡ false
      no_id = find-none (λ one. list_any (λ name. holds_gone (scene.part one name)) book.part_names) scene.ids none

      no_kind : list_any (λ name. holds_gone (scene.part id name)) book.part_names ≡ false
      no_kind = none-of-ids (λ one. list_any (λ name. holds_gone (scene.part one name)) book.part_names) scene.ids id no_id (between.owned id kind held found)

      no_ref : holds_gone (scene.part id kind) ≡ false
      no_ref = none-of-names (λ name. holds_gone (scene.part id name)) book.part_names kind no_kind (between.stand id kind held found)

      of : (book.admits kind held ≡ true) ⊎ (list_any is_gone held.refs ≡ true) → book.admits kind held ≡ true
      of (inl admitted) = admitted
      of (inr lost) = absurd (false≢true (sym no_ref ∙ ap holds_gone found ∙ lost))

  -- a scene whose parts are those of the rules' kinds is so
  pub proper-between : (scene : PlainScene) → PartsStand book.part_names scene.part → IsProper book scene → IsBetween book scene
  proper-between scene stand proper = record { owned = proper.owned; stand = stand; either = λ id kind held found. inl (proper.admitted id kind held found); readable = proper.readable }
