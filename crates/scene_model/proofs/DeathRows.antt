-- Small scenes with kills, computed.
use Rattle.std.proofs.Common.{◌≡◌, ℕ, ◌&&◌, cond, eqb, List, [], ◌∷◌, Option, Some, None, option_map, refl}
use Rattle.std.specs.Prelude.{codes}
use Rattle.std.specs.Str.{bytes_eq}
use Rattle.serde_json.specs.Data.{null}
use Rattle.scene_model.specs.Parts.{Name, Ref, living, gone, Part}
use Rattle.scene_model.specs.Rulebook.{Command, kill, put}
use Rattle.scene_model.specs.Scenes.{PlainScene}
use Rattle.scene_model.specs.Commands.{Played, played, spent, play}

-- a part that refers to one id: who has it, under which kind, to whom
abbrev Tie : Type 0
Tie = ℕ × Name × ℕ

abbrev tied : List Tie → ℕ → Name → Option Part
tied [] id kind = None
tied (tie ∷ ties) id kind = cond (eqb tie.0 id && bytes_eq tie.1 kind) (Some (record { json = null; refs = living tie.2 ∷ [] })) (tied ties id kind)

-- scenes whose next id is 3, of ids and ties
abbrev scene_with : List ℕ → List Tie → PlainScene
scene_with ids ties = record { next = 3; ids = ids; part = tied ties; global = λ name. None }

abbrev bond : Name
bond = codes "bond"

abbrev owner : Name
owner = codes "owner"

-- who lives after commands, and the places of those that are skipped
abbrev who : Played → Option (List ℕ × List ℕ)
who (played scene places) = Some (scene.ids, places)
who spent = None

-- and what a part's references are
abbrev refs_at : ℕ → Name → Played → Option (List Ref)
refs_at id kind (played scene places) = option_map (λ part. part.refs) (scene.part id kind)
refs_at id kind spent = None

abbrev after : List Command → PlainScene → Played
after commands scene = play (bond ∷ []) 1 commands scene

-- a chain falls from its end, and a later command on one of it is skipped
chain : who (after (kill 0 ∷ put 2 (codes "hp") (record { json = null; refs = [] }) ∷ []) (scene_with (0 ∷ 1 ∷ 2 ∷ []) ((1, bond, 0) ∷ (2, bond, 1) ∷ []))) ≡ Some ([], 2 ∷ [])
chain = refl

-- two that hold on to each other fall together
ring : who (after (kill 1 ∷ []) (scene_with (0 ∷ 1 ∷ []) ((0, bond, 1) ∷ (1, bond, 0) ∷ []))) ≡ Some ([], [])
ring = refl

-- a plain reference owns nobody: it is gone, and its holder lives
plain_one : who (after (kill 0 ∷ []) (scene_with (0 ∷ 1 ∷ 2 ∷ []) ((1, bond, 0) ∷ (2, owner, 1) ∷ []))) ≡ Some (2 ∷ [], [])
plain_one = refl

plain_gone : refs_at 2 owner (after (kill 0 ∷ []) (scene_with (0 ∷ 1 ∷ 2 ∷ []) ((1, bond, 0) ∷ (2, owner, 1) ∷ []))) ≡ Some (gone ∷ [])
plain_gone = refl

-- one that holds on to itself falls with nobody else
alone : who (after (kill 1 ∷ []) (scene_with (0 ∷ 1 ∷ []) ((0, bond, 0) ∷ []))) ≡ Some (0 ∷ [], [])
alone = refl

-- a member that is killed again is skipped, and a bond that an earlier command puts counts
again : who (after (kill 0 ∷ kill 1 ∷ []) (scene_with (0 ∷ 1 ∷ []) ((1, bond, 0) ∷ []))) ≡ Some ([], 2 ∷ [])
again = refl

put_before : who (after (put 2 bond (record { json = null; refs = living 1 ∷ [] }) ∷ kill 1 ∷ []) (scene_with (0 ∷ 1 ∷ 2 ∷ []) [])) ≡ Some (0 ∷ [], [])
put_before = refl
