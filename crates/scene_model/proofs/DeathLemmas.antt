-- Lemmas on who dies with an id, and on a scene without its dead.
use Rattle.std.proofs.Common.{◌≡◌, ℕ, Bool, true, false, not, ◌&&◌, ◌||◌, cond, eqb, List, [], ◌∷◌, map, Option, Some, None, option_map, ◌⊎◌, inl, inr, refl, sym, ◌∙◌, ap, subst}
use Rattle.std.specs.List.{list_any, filter}
use Rattle.std.proofs.Math.Path.{fun_ext}
use Rattle.std.proofs.lemmas.Bool.{false≢true, eqb-true, eq-eqb, and_parts, and_from, or_cases, or_left, or_right}
use Rattle.serde_json.specs.Data.{null}
use Rattle.scene_model.specs.Parts.{Name, Ref, living, gone, Part}
use Rattle.scene_model.specs.Rulebook.{kill}
use Rattle.scene_model.specs.Scenes.{PlainScene, lives}
use Rattle.scene_model.specs.Deaths.{IsClosed, IsLeast, hangs_on, is_to, refers_to, holds_on, dies_with, without_ref, part_without, without, without_each}
use Rattle.scene_model.specs.Commands.{apply, changed, skipped}
use Rattle.scene_model.proofs.FragmentLemmas.{same_scene}

-- ---- who hangs on whom

module _ (holds : ℕ → ℕ → Bool) where
  -- one that hangs on another does so where there are more ways
  wider : (way : ℕ) (ways : List ℕ) (one other : ℕ) → hangs_on holds ways one other ≡ true → hangs_on holds (way ∷ ways) one other ≡ true
  wider way ways one other hangs = or_left (hangs_on holds ways one other) (hangs_on holds ways one way && hangs_on holds ways way other) hangs

  -- by way of one that is added
  by-way : (way : ℕ) (ways : List ℕ) (one other : ℕ) → hangs_on holds ways one way ≡ true → hangs_on holds ways way other ≡ true → hangs_on holds (way ∷ ways) one other ≡ true
  by-way way ways one other to from = or_right (hangs_on holds ways one other) (hangs_on holds ways one way && hangs_on holds ways way other) (and_from (hangs_on holds ways one way) (hangs_on holds ways way other) to from)

  -- with a way more, either as before or by that way
  ways-of : (way : ℕ) (ways : List ℕ) (one other : ℕ) → hangs_on holds (way ∷ ways) one other ≡ true → (hangs_on holds ways one other ≡ true) ⊎ ((hangs_on holds ways one way ≡ true) × (hangs_on holds ways way other ≡ true))
  ways-of way ways one other hangs = elim (or_cases (hangs_on holds ways one other) (hangs_on holds ways one way && hangs_on holds ways way other) hangs) [
    | inl before ↦ inl before
    | inr both ↦ inr (and_parts (hangs_on holds ways one way) (hangs_on holds ways way other) both)
  ]

  -- whoever is the other, or holds on to it, hangs on it
  pub hangs-now : (ways : List ℕ) (one other : ℕ) → (eqb one other || holds one other) ≡ true → hangs_on holds ways one other ≡ true
  hangs-now [] one other is = is
  hangs-now (way ∷ ways) one other is = wider way ways one other (hangs-now ways one other is)

  -- the way that is added is of no use to those who go to it or come from it
  to-it : (way : ℕ) (ways : List ℕ) (one : ℕ) → hangs_on holds (way ∷ ways) one way ≡ true → hangs_on holds ways one way ≡ true
  to-it way ways one hangs = elim (ways-of way ways one way hangs) [ inl before ↦ before | inr both ↦ both.0 ]

  from-it : (way : ℕ) (ways : List ℕ) (other : ℕ) → hangs_on holds (way ∷ ways) way other ≡ true → hangs_on holds ways way other ≡ true
  from-it way ways other hangs = elim (ways-of way ways way other hangs) [ inl before ↦ before | inr both ↦ both.1 ]

  -- one that hangs on a way hangs on all on which that hangs
  pub hangs-further : (ways : List ℕ) (one mid other : ℕ) → lives mid ways ≡ true → hangs_on holds ways one mid ≡ true → hangs_on holds ways mid other ≡ true → hangs_on holds ways one other ≡ true
  hangs-further [] one mid other is to from = absurd (false≢true is)
  hangs-further (way ∷ ways) one mid other is to from = by (hangs-further ways) (eqb way mid) refl is
    where
      by : ((a b c : ℕ) → lives b ways ≡ true → hangs_on holds ways a b ≡ true → hangs_on holds ways b c ≡ true → hangs_on holds ways a c ≡ true)
          → (same : Bool) → eqb way mid ≡ same → (same || lives mid ways) ≡ true → hangs_on holds (way ∷ ways) one other ≡ true
      by further true same there =
          let equal : mid ≡ way = sym (eqb-true way mid same) in
          by-way way ways one other
          (to-it way ways one (subst (λ m. hangs_on holds (way ∷ ways) one m ≡ true) equal to))
          (from-it way ways other (subst (λ m. hangs_on holds (way ∷ ways) m other ≡ true) equal from))
      by further false same there = elim (ways-of way ways one mid to) [
        | inl a ↦ elim (ways-of way ways mid other from) [
          | inl b ↦ wider way ways one other (further one mid other there a b)
          | inr b ↦ by-way way ways one other (further one mid way there a b.0) b.1
        ]
        | inr a ↦ elim (ways-of way ways mid other from) [
          | inl b ↦ by-way way ways one other a.0 (further way mid other there a.1 b)
          | inr b ↦ by-way way ways one other a.0 b.1
        ]
      ]

  -- a closed set that has one has whoever hangs on it
  pub closed-has : (id : ℕ) (members : ℕ → Bool) → IsClosed id holds members → (ways : List ℕ) (one other : ℕ) → members other ≡ true → hangs_on holds ways one other ≡ true → members one ≡ true
  closed-has id members closed [] one other is hangs = elim (or_cases (eqb one other) (holds one other) hangs) [
    | inl same ↦ subst (λ x. members x ≡ true) (sym (eqb-true one other same)) is
    | inr direct ↦ closed.holders one other direct is
  ]
  closed-has id members closed (way ∷ ways) one other is hangs = by (closed-has id members closed ways) (ways-of way ways one other hangs)
    where
      by : ((a b : ℕ) → members b ≡ true → hangs_on holds ways a b ≡ true → members a ≡ true) → (hangs_on holds ways one other ≡ true) ⊎ ((hangs_on holds ways one way ≡ true) × (hangs_on holds ways way other ≡ true)) → members one ≡ true
      by has (inl before) = has one other is before
      by has (inr both) = has one way (has way other is both.1) both.0

  -- those that hang on an id are the least set, where the ways are all on whom one can hold
  pub hanging-least : (ways : List ℕ) (id : ℕ) → ((holder target : ℕ) → holds holder target ≡ true → lives target ways ≡ true) → IsLeast id holds (λ one. hangs_on holds ways one id)
  hanging-least ways id all = record {
    closed = record {
      first = hangs-now ways id id (or_left (eqb id id) (holds id id) (eq-eqb id id refl));
      holders = λ holder target holds_it hangs. hangs-further ways holder target id (all holder target holds_it) (hangs-now ways holder target (or_right (eqb holder target) (holds holder target) holds_it)) hangs;
    };
    inside = λ others closed one hangs. closed-has id others closed ways one id closed.first hangs;
  }

-- two tests that pass alike are one
alike : (a b : Bool) → (a ≡ true → b ≡ true) → (b ≡ true → a ≡ true) → a ≡ b
alike true b there back = sym (there refl)
alike false true there back = back refl
alike false false there back = refl

-- there is one least set
pub least-alike : (id : ℕ) (holds : ℕ → ℕ → Bool) (some others : ℕ → Bool) → IsLeast id holds some → IsLeast id holds others → (one : ℕ) → some one ≡ others one
least-alike id holds some others first second one = alike (some one) (others one) (first.inside others second.closed one) (second.inside some first.closed one)

-- ---- one set of dead after another

module _ (first then : ℕ → Bool) where
  ref-then : (ref : Ref) → without_ref then (without_ref first ref) ≡ without_ref (λ id. first id || then id) ref
  ref-then gone = refl
  ref-then (living id) = by (first id)
    where
      by : (b : Bool) → without_ref then (cond b gone (living id)) ≡ cond (b || then id) gone (living id)
      by true = refl
      by false = refl

  refs-then : (refs : List Ref) → map (without_ref then) (map (without_ref first) refs) ≡ map (without_ref (λ id. first id || then id)) refs
  refs-then [] = refl
  refs-then (ref ∷ refs) = ap (λ r. r ∷ map (without_ref then) (map (without_ref first) refs)) (ref-then ref) ∙ ap (λ rest. without_ref (λ id. first id || then id) ref ∷ rest) (refs-then refs)

  to-then : (refs : List Ref) → (list_any (is_to first) refs || list_any (is_to then) (map (without_ref first) refs)) ≡ list_any (is_to (λ id. first id || then id)) refs
  to-then [] = refl
  to-then (gone ∷ refs) = to-then refs
  to-then (living id ∷ refs) = by (first id) (list_any (is_to first) refs) (to-then refs)
    where
      by : (b any : Bool) → (any || list_any (is_to then) (map (without_ref first) refs)) ≡ list_any (is_to (λ id. first id || then id)) refs
          → ((b || any) || (is_to then (cond b gone (living id)) || list_any (is_to then) (map (without_ref first) refs))) ≡ ((b || then id) || list_any (is_to (λ id. first id || then id)) refs)
      by true any e = refl
      by false any e = swap any (then id) (list_any (is_to then) (map (without_ref first) refs)) ∙ ap (λ rest. then id || rest) e
        where
          swap : (a b c : Bool) → (a || (b || c)) ≡ (b || (a || c))
          swap true true c = refl
          swap true false c = refl
          swap false b c = refl

  part-then : (part : Part) → part_without then (part_without first part) ≡ part_without (λ id. first id || then id) part
  part-then part = λ i. record { json = jsons i; refs = refs-then part.refs i }
    where
      by : (b c d : Bool) → (b || c) ≡ d → cond c null (cond b null part.json) ≡ cond d null part.json
      by true true d e = ap (λ d. cond d null part.json) e
      by true false d e = ap (λ d. cond d null part.json) e
      by false c d e = ap (λ d. cond d null part.json) e

      jsons : (part_without then (part_without first part)).json ≡ (part_without (λ id. first id || then id) part).json
      jsons = by (list_any (is_to first) part.refs) (list_any (is_to then) (map (without_ref first) part.refs)) (list_any (is_to (λ id. first id || then id)) part.refs) (to-then part.refs)

  ids-then : (ids : List ℕ) → filter (λ id. not (then id)) (filter (λ id. not (first id)) ids) ≡ filter (λ id. not (first id || then id)) ids
  ids-then [] = refl
  ids-then (id ∷ ids) = by (first id) (ids-then ids)
    where
      by : (b : Bool) → filter (λ one. not (then one)) (filter (λ one. not (first one)) ids) ≡ filter (λ one. not (first one || then one)) ids
          → filter (λ one. not (then one)) (cond (not b) (id ∷ filter (λ one. not (first one)) ids) (filter (λ one. not (first one)) ids)) ≡ cond (not (b || then id)) (id ∷ filter (λ one. not (first one || then one)) ids) (filter (λ one. not (first one || then one)) ids)
      by true rest = rest
      by false rest = ap (λ left. cond (not (then id)) (id ∷ left) left) rest

  -- those who die first and those who die then are taken out as if they died at once
  pub without-then : (scene : PlainScene) → without then (without first scene) ≡ without (λ id. first id || then id) scene
  without-then scene = same_scene _ _ refl (ids-then scene.ids) (λ id kind. parts (first id) (then id) (scene.part id kind)) (λ name. refl)
    where
      parts : (a b : Bool) (held : Option Part) → cond b None (option_map (part_without then) (cond a None (option_map (part_without first) held))) ≡ cond (a || b) None (option_map (part_without (λ id. first id || then id)) held)
      parts true true held = refl
      parts true false held = refl
      parts false b None = refl
      parts false b (Some held) = ap (λ p. cond b None (Some p)) (part-then held)

-- where nobody dies, all is as it was
refs-stay : (refs : List Ref) → map (without_ref (λ id. false)) refs ≡ refs
refs-stay [] = refl
refs-stay (gone ∷ refs) = ap (λ rest. gone ∷ rest) (refs-stay refs)
refs-stay (living id ∷ refs) = ap (λ rest. living id ∷ rest) (refs-stay refs)

to-nobody : (refs : List Ref) → list_any (is_to (λ id. false)) refs ≡ false
to-nobody [] = refl
to-nobody (gone ∷ refs) = to-nobody refs
to-nobody (living id ∷ refs) = to-nobody refs

ids-stay : (ids : List ℕ) → filter (λ id. true) ids ≡ ids
ids-stay [] = refl
ids-stay (id ∷ ids) = ap (λ rest. id ∷ rest) (ids-stay ids)

without-nobody : (scene : PlainScene) → without (λ id. false) scene ≡ scene
without-nobody scene = same_scene _ _ refl (ids-stay scene.ids) (λ id kind. part (scene.part id kind)) (λ name. refl)
  where
    part : (held : Option Part) → option_map (part_without (λ id. false)) held ≡ held
    part None = refl
    part (Some held) =
        let jsons : cond (list_any (is_to (λ id. false)) held.refs) null held.json ≡ held.json = ap (λ b. cond b null held.json) (to-nobody held.refs) in
        ap Some (λ i. record { json = jsons i; refs = refs-stay held.refs i })

-- a test turned about
turned : (a b : ℕ) → eqb a b ≡ eqb b a
turned a b = alike (eqb a b) (eqb b a) (λ is. eq-eqb b a (sym (eqb-true a b is))) (λ is. eq-eqb a b (sym (eqb-true b a is)))

-- those of a list, one after another
pub without-each : (ids : List ℕ) (scene : PlainScene) → without_each ids scene ≡ without (λ id. lives id ids) scene
without-each [] scene = sym (without-nobody scene)
without-each (id ∷ ids) scene =
    without-each ids (without (λ other. eqb other id) scene)
    ∙ without-then (λ other. eqb other id) (λ other. lives other ids) scene
    ∙ ap (λ dead. without dead scene) (fun_ext (λ other. ap (λ b. b || lives other ids) (turned other id)))

-- ---- a kill

module _ (owning : List Name) (scene : PlainScene) (id : ℕ) where
  -- whoever holds on lives, and so does the other
  pub holders-live : (holder target : ℕ) → holds_on owning scene holder target ≡ true → (lives holder scene.ids ≡ true) × (lives target scene.ids ≡ true)
  holders-live holder target holds =
      let both = and_parts (lives holder scene.ids) (lives target scene.ids && list_any (λ kind. refers_to target (scene.part holder kind)) owning) holds in
      (both.0, (and_parts (lives target scene.ids) (list_any (λ kind. refers_to target (scene.part holder kind)) owning) both.1).0)

  -- those that die with an id are the least set
  pub dying-least : IsLeast id (holds_on owning scene) (dies_with owning scene id)
  dying-least = hanging-least (holds_on owning scene) scene.ids id (λ holder target holds. (holders-live holder target holds).1)

  -- they all live before, where it lives
  pub dying-live : lives id scene.ids ≡ true → (one : ℕ) → dies_with owning scene id one ≡ true → lives one scene.ids ≡ true
  dying-live alive one dies = dying-least.inside (λ other. lives other scene.ids) (record { first = alive; holders = λ holder target holds there. (holders-live holder target holds).0 }) one dies

  -- a set that is the least is what a kill takes out
  pub least-killed : (dead : ℕ → Bool) → IsLeast id (holds_on owning scene) dead → lives id scene.ids ≡ true → apply owning (kill id) scene ≡ changed (without dead scene)
  least-killed dead least alive =
      ap (λ b. cond b (changed (without (dies_with owning scene id) scene)) skipped) alive
      ∙ ap (λ some. changed (without some scene)) (fun_ext (least-alike id (holds_on owning scene) (dies_with owning scene id) dead dying-least least))

  -- and so it is where they die one after another
  pub each-killed : (ids : List ℕ) → IsLeast id (holds_on owning scene) (λ one. lives one ids) → lives id scene.ids ≡ true → apply owning (kill id) scene ≡ changed (without_each ids scene)
  each-killed ids least alive = least-killed (λ one. lives one ids) least alive ∙ ap changed (sym (without-each ids scene))

-- where no kind owns its holder, an id dies alone
pub nobody-else : (scene : PlainScene) (id : ℕ) → IsLeast id (holds_on [] scene) (λ one. eqb one id)
nobody-else scene id = record {
  closed = record {
    first = eq-eqb id id refl;
    holders = λ holder target holds there. absurd (false≢true (sym (nobody (lives holder scene.ids) (lives target scene.ids)) ∙ holds));
  };
  inside = λ others closed one same. subst (λ x. others x ≡ true) (sym (eqb-true one id same)) closed.first;
}
  where
    nobody : (a b : Bool) → (a && (b && false)) ≡ false
    nobody true true = refl
    nobody true false = refl
    nobody false b = refl
